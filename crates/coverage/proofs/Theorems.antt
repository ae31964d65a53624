-- The theorems of specs/Claims.antt: the counts stay the summary of the list through any sequence of calls, and add up to its length.
use mathlib.Core.Path.{◌≡◌, refl, sym, ap, ◌∙◌, subst}
use mathlib.Core.Logic.{⊎_elim}
use mathlib.Core.Bool.{Bool, true, false, cond}
use mathlib.Core.List.{List, [], ◌∷◌}
use Prim.Native.Nat.{ℕ, zero, suc, ◌+◌, ◌-◌, ◌*◌, ◌≤◌, ◌<◌}
use native.Mathlib.Nat.{eq-or-lt_of_le, not-suc-le-zero}
use native.Mathlib.Omega.{arith}
use lib.Dec.{ltb}
use lib.ListN.{length, get_or}
use lib.Ieee.{Float}
use borrow.Author.Tests.{ltb-true, ltb-false, eq-eqb, ne_eqb}
use Rattle.corners.specs.Corners.{most_corners, corner, recorded}
use Rattle.imageview.specs.Image.{is_size}
use Rattle.imageview.specs.Steps.{Sized}
use Rattle.imageview.proofs.ImageLaws.{sized, passed}
use Rattle.refusals.specs.declared.Refusal.{Refusal}
use Rattle.refusals.specs.declared.Refusal.TheVariants.{TooMany, NoSuchCorner}
use Rattle.coverage.specs.Tiles.{tile_of, tile_at}
use Rattle.coverage.specs.Summary.{in_tile, summary}
use Rattle.coverage.specs.Call.{Way, refused, kept, dropped, more, less}
use Rattle.coverage.specs.Claims.{Asked, add, replace, drop, Held, way_of, held, Summed, StaysSummed, sum_of, AddsUp}
use Rattle.coverage.proofs.EntryLaws.{length-recorded, recorded-tile, recorded-other-tile}
use Rattle.coverage.proofs.SummaryLaws.{hit, next-in, none_in, same-summary, summary_next, summary-replaced, summary-dropped, get_d-summary, tile-at-under}
use Rattle.coverage.proofs.MoveLaws.{length-dropped, front-tile, back-tile}
use Rattle.coverage.proofs.WayLaws.{many, few, unlisted, listed}

-- ---- one call
module _ (w h : ℕ) (e : is_size w h ≡ true) (t : Held) (s : Summed w h t) where
  size : Sized w h
  size = sized w h (passed e)

  -- a call that is refused leaves everything
  stays : (way : Way) (r : Refusal) → way ≡ refused r → Summed w h (held t way)
  stays way r d = subst (λ (x : Way). Summed w h (held t x)) (sym d) s

  becomes : (way : Way) (list : List Float) (n : ℕ) (counts : List ℕ) → way ≡ kept list n counts → length list ≡ length t.list → n ≤ most_corners → counts ≡ summary w h list n → Summed w h (held t way)
  becomes way list n counts d l m is = subst (λ (x : Way). Summed w h (held t x)) (sym d) (record { room = l ∙ s.room; few = m; is = is })

  added : (x y v : Float) (b : Bool) → ltb most_corners (t.count + 1) ≡ b → Summed w h (held t (way_of w h (add x y v) t))
  added x y v true d = stays _ TooMany (many w h (t.count + 1) _ e (ltb-true most_corners (t.count + 1) d))
  added x y v false d =
      let l = t.list in
      let n = t.count in
      let c = corner x y v in
      let m : n + 1 ≤ 4096 = ltb-false most_corners (n + 1) d in
      let fits : 3 * n + 2 < length l = omega (arith, s.room) in
      becomes _ (recorded l n c) (n + 1) (more t.counts (tile_of w h x y)) (few w h (n + 1) _ e m) (length-recorded l n c) m
      (ap (λ (k : List ℕ). more k (tile_of w h x y)) (s.is ∙ same-summary w h size l (recorded l n c) n (λ i g. recorded-other-tile l n c w h i (λ q. omega arith)))
      ∙ ap (λ (k : ℕ). more (summary w h (recorded l n c) n) k) (recorded-tile l n c w h fits)
      ∙ summary_next w h size (recorded l n c) n (omega arith))

  replaced : (k : ℕ) (x y v : Float) (b : Bool) → ltb k t.count ≡ b → Summed w h (held t (way_of w h (replace k x y v) t))
  replaced k x y v false d = stays _ NoSuchCorner (few w h t.count _ e s.few ∙ unlisted k t.count _ (ltb-false k t.count d))
  replaced k x y v true d =
      let l = t.list in
      let n = t.count in
      let c = corner x y v in
      let g : k < n = ltb-true k n d in
      let fits : 3 * k + 2 < length l = omega (arith, s.room, s.few) in
      becomes _ (recorded l k c) n (more (less t.counts (tile_at w h l k)) (tile_of w h x y)) (few w h n _ e s.few ∙ listed k n _ g) (length-recorded l k c) s.few
      (ap (λ (q : List ℕ). more (less q (tile_at w h l k)) (tile_of w h x y)) s.is
      ∙ ap (λ (q : ℕ). more (less (summary w h l n) (tile_at w h l k)) q) (recorded-tile l k c w h fits)
      ∙ summary-replaced w h size l (recorded l k c) n k g s.few (λ i m q. recorded-other-tile l k c w h i q))

  left_out : (k : ℕ) (b : Bool) → ltb k t.count ≡ b → Summed w h (held t (way_of w h (drop k) t))
  left_out k false d = stays _ NoSuchCorner (few w h t.count _ e s.few ∙ unlisted k t.count _ (ltb-false k t.count d))
  left_out k true d =
      let l = t.list in
      let n = t.count in
      let g : k < n = ltb-true k n d in
      let fits : 3 * n ≤ length l = omega (arith, s.room, s.few) in
      becomes _ (dropped n k l) (n - 1) (less t.counts (tile_at w h l k)) (few w h n _ e s.few ∙ listed k n _ g) (length-dropped l n k g fits) (omega (arith, s.few))
      (ap (λ (q : List ℕ). less q (tile_at w h l k)) s.is ∙ summary-dropped w h size l (dropped n k l) n k g (front-tile l n k g fits w h) (back-tile l n k g fits w h))

  called : (a : Asked) → Summed w h (held t (way_of w h a t))
  called (add x y v) = added x y v (ltb most_corners (t.count + 1)) refl
  called (replace k x y v) = replaced k x y v (ltb k t.count) refl
  called (drop k) = left_out k (ltb k t.count) refl

-- ---- any sequence of calls
pub stays-summed : StaysSummed
stays-summed w h e [] t s = s
stays-summed w h e (a ∷ calls) t s = stays-summed w h e calls (held t (way_of w h a t)) (called w h e t s a)

-- ---- sums of the first n numbers
sum_same : (n : ℕ) (f g : ℕ → ℕ) → ((i : ℕ) → i < n → f i ≡ g i) → sum_of n f ≡ sum_of n g
sum_same zero f g e = refl
sum_same (suc n) f g e = ap (λ (m : ℕ). m + f n) (sum_same n f g (λ i l. e i (omega arith))) ∙ ap (λ (m : ℕ). sum_of n g + m) (e n (omega arith))

sum-zero : (n : ℕ) → sum_of n (λ i. 0) ≡ 0
sum-zero zero = refl
sum-zero (suc n) = omega (arith, sum-zero n)

sum_more : (n : ℕ) (f g : ℕ → ℕ) → sum_of n (λ i. f i + g i) ≡ sum_of n f + sum_of n g
sum_more zero f g = refl
sum_more (suc n) f g = go (sum_of n (λ i. f i + g i)) (sum_of n f) (sum_of n g) (f n) (g n) (sum_more n f g)
  where
    go : (a p q x y : ℕ) → a ≡ p + q → a + (x + y) ≡ p + x + (q + y)
    go a p q x y e = omega arith

-- one of them is 1
sum-hit : (n a : ℕ) → a < n → sum_of n (hit a) ≡ 1
sum-hit zero a h = absurd (not-suc-le-zero h)
sum-hit (suc n) a h = ⊎_elim here (λ l. before l (sum-hit n a l)) (eq-or-lt_of_le (let l : a ≤ n = omega arith in l))
  where
    here : a ≡ n → sum_of n (hit a) + hit a n ≡ 1
    here e =
        ap (λ (m : ℕ). m + hit a n) (sum_same n (hit a) (λ i. 0) (λ i l. ap (λ (b : Bool). cond b 1 0) (ne_eqb a i (λ q. omega arith))) ∙ sum-zero n)
        ∙ ap (λ (b : Bool). 0 + cond b 1 0) (eq-eqb a n e)

    before : a < n → sum_of n (hit a) ≡ 1 → sum_of n (hit a) + hit a n ≡ 1
    before l so_far = ap (λ (m : ℕ). m + hit a n) so_far ∙ ap (λ (b : Bool). 1 + cond b 1 0) (ne_eqb a n (λ q. omega arith))

-- the tiles of n corners, all of them below a number
sum-tiles : (most : ℕ) (tile : ℕ → ℕ) (n : ℕ) → ((i : ℕ) → tile i < most) → sum_of most (λ t. in_tile tile n t) ≡ n
sum-tiles most tile zero h = sum_same most (λ t. in_tile tile 0 t) (λ i. 0) (λ t l. none_in tile t) ∙ sum-zero most
sum-tiles most tile (suc n) h =
    sum_same most (λ t. in_tile tile (suc n) t) (λ t. in_tile tile n t + hit (tile n) t) (λ t l. next-in tile t n)
    ∙ sum_more most (λ t. in_tile tile n t) (hit (tile n))
    ∙ ap (λ (m : ℕ). m + sum_of most (hit (tile n))) (sum-tiles most tile n h)
    ∙ ap (λ (m : ℕ). n + m) (sum-hit most (tile n) (h n))
    ∙ (let e : n + 1 ≡ suc n = omega arith in e)

pub adds-up : AddsUp
adds-up w h e t s =
    let size = sized w h (passed e) in
    let tile : ℕ → ℕ = λ i. tile_at w h t.list i in
    sum_same 65 (λ i. get_or t.counts i 0) (λ i. in_tile tile t.count i) (λ i l. ap (λ (q : List ℕ). get_or q i 0) s.is ∙ get_d-summary w h size t.list t.count i l)
    ∙ sum-tiles 65 tile t.count (λ i. tile-at-under w h size t.list i)
