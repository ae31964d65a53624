-- A squared distance that is at most a finite limit is of finite coordinates: from a finite place, a coordinate that is infinite or a NaN makes it one too.
use mathlib.Core.Path.{◌≡◌}
use mathlib.Core.Bool.{true, false}
use lib.Dec.{T}
use lib.Ieee.{Float, nan, inf, fin, binary32, add, sub, mul, le}
use lib.Ieee.Scale.{finite}
use Rattle.corners.specs.Corners.{squared_distance}
use Rattle.exact_distance.proofs.Distance.{nan-above, over-left, over-right}

nan_right : (x limit : Float) → le (add binary32 x nan) limit ≡ true → ⊥
unfolding add
nan_right nan limit h = nan-above limit h
nan_right (inf s) limit h = nan-above limit h
nan_right (fin s m e) limit h = nan-above limit h

nan_left : (y limit : Float) → le (add binary32 nan y) limit ≡ true → ⊥
unfolding add
nan_left y limit h = nan-above limit h

-- along x, whatever the other square is, and along y
along-x : (a b z limit : Float) → T (finite a) → T (finite limit) → le (add binary32 (mul binary32 (sub binary32 a b) (sub binary32 a b)) z) limit ≡ true → T (finite b)
unfolding sub mul
along-x nan b z limit t f h = absurd t
along-x (inf s) b z limit t f h = absurd t
along-x (fin s m e) nan z limit t f h = absurd (nan_left z limit h)
along-x (fin s m e) (inf true) z limit t f h = absurd (over-left z limit f h)
along-x (fin s m e) (inf false) z limit t f h = absurd (over-left z limit f h)
along-x (fin s m e) (fin u n d) z limit t f h = tt

along-y : (a b z limit : Float) → T (finite a) → T (finite limit) → le (add binary32 z (mul binary32 (sub binary32 a b) (sub binary32 a b))) limit ≡ true → T (finite b)
unfolding sub mul
along-y nan b z limit t f h = absurd t
along-y (inf s) b z limit t f h = absurd t
along-y (fin s m e) nan z limit t f h = absurd (nan_right z limit h)
along-y (fin s m e) (inf true) z limit t f h = absurd (over-right z limit f h)
along-y (fin s m e) (inf false) z limit t f h = absurd (over-right z limit f h)
along-y (fin s m e) (fin u n d) z limit t f h = tt

pub finite-places : (ax ay bx by limit : Float) → T (finite ax) → T (finite ay) → T (finite limit) → le (squared_distance ax ay bx by) limit ≡ true → T (finite bx) × T (finite by)
unfolding squared_distance
finite-places ax ay bx by limit p q f h =
    let dx = sub binary32 ax bx in
    let dy = sub binary32 ay by in
    (along-x ax bx (mul binary32 dy dy) limit p f h, along-y ay by (mul binary32 dx dx) limit q f h)
