-- As many heads as are wanted serve, and fewer do not.
use mathlib.Core.Path.{◌≡◌}
use mathlib.Core.Bool.{Bool, true, false, not, ◌||◌, cond}
use mathlib.Core.List.{List}
use Prim.Native.Nat.{ℕ, ◌*◌, ◌/◌, ◌≤◌, ◌<◌}
use native.Mathlib.Omega.{arith}
use lib.Dec.{eqb, ltb}
use lib.ListN.{length}
use lib.Ieee.{binary32, mul}
use borrow.Author.Tests.{lt-ltb, le-ltb}
use Rattle.corners.specs.Corners.{whole, too_many, corners_of}
use Rattle.corners.specs.declared.Corner.{Corner}
use Rattle.refusals.specs.declared.Refusal.{Refusal}
use Rattle.refusals.specs.declared.Refusal.TheVariants.{BadLength, TooMany, GridTooBig}
use Rattle.std.specs.Prelude.{Result, Ok, Err}
use Rattle.merge.specs.Meets.{box_of, finite_box, grid_of, cells_across, cells_down, plain_meets, grid_meets}
use Rattle.merge.specs.Fold.{merged}
use Rattle.merge.specs.Call.{Way, refused, unmerged, scanned, gridded, idle, most_heads, heads_of, way_of}
use Rattle.merge.specs.Claims.{HeadsServe}

-- the same tests decide the heads and the way, but for the last: the most that there may be, and the heads that there are
module _ (n heads cells : ℕ) (plain grid : List Corner) where
  abbrev wants : Bool → Bool → Bool → Bool → Result ℕ Refusal
  wants w m i f = cond (not w) (Err BadLength) (cond m (Err TooMany) (cond i (Ok 0) (cond (not f) (Ok 0) (cond (ltb most_heads cells) (Err GridTooBig) (Ok cells)))))

  abbrev goes : Bool → Bool → Bool → Bool → Way
  goes w m i f = cond (not w) (refused BadLength) (cond m (refused TooMany) (cond i unmerged (cond (not f) (scanned plain) (cond (ltb heads cells) (refused GridTooBig) (gridded grid)))))

  abbrev Serves : Way → Type 0
  Serves way = (n ≤ heads → (r : Refusal) → way ≡ refused r → ⊥) × (heads < n → way ≡ refused GridTooBig)

  unwanted : {r : Refusal} → Err r ≡ Ok n → ⊥
  unwanted e = let z : ◌≡◌ {A = ℕ} 0 1 = cc in omega arith

  -- a way that asks for no heads
  free : {way : Way} → ((r : Refusal) → way ≡ refused r → ⊥) → ◌≡◌ {A = Result ℕ Refusal} (Ok 0) (Ok n) → Serves way
  free p e = let z : 0 ≡ n = cc in ((λ h r q. p r q), λ h. absurd (let y : ⊥ = omega arith in y))

  counted : (b : Bool) → cond b (Err GridTooBig) (Ok cells) ≡ Ok n → cells ≡ n
  counted true e = absurd (unwanted e)
  counted false e = cc

  serves : (w m i f : Bool) → wants w m i f ≡ Ok n → Serves (goes w m i f)
  serves false m i f e = absurd (unwanted e)
  serves true true i f e = absurd (unwanted e)
  serves true false true f e = free (λ r q. let z : ◌≡◌ {A = ℕ} 0 1 = cc in omega arith) e
  serves true false false false e = free (λ r q. let z : ◌≡◌ {A = ℕ} 0 1 = cc in omega arith) e
  serves true false false true e =
      let k = counted (ltb most_heads cells) e in
      ((λ h r q. let u = le-ltb heads cells (omega arith) in let z : ◌≡◌ {A = ℕ} 0 1 = cc (rw u at q) in omega arith), λ h. rw (lt-ltb heads cells (omega arith)))

pub heads-serve : HeadsServe
unfolding heads_of way_of
heads-serve list radius n heads links e s =
    let l = corners_of list in
    let r2 = mul binary32 radius radius in
    rw (le-ltb links (length list / 3) s)
    (serves n heads (cells_across (grid_of radius l) * cells_down (grid_of radius l)) (merged (plain_meets r2) l) (merged (grid_meets (grid_of radius l) r2) l) (whole (length list)) (too_many (length list)) (eqb (length list) 0 || idle radius) (finite_box (box_of l)) e)
