-- The promises of specs/Promises.antt, proved of every call: each part is a theorem of Theorems.
use mathlib.Core.Path.{◌≡◌, refl, sym, ap, ◌∙◌, subst}
use mathlib.Core.Bool.{Bool, true, false, not, ◌||◌, cond, false≢true}
use mathlib.Core.List.{List}
use Prim.Native.Nat.{ℕ, ◌*◌, ◌/◌, ◌<◌}
use lib.Dec.{eqb, ltb}
use lib.ListN.{length}
use lib.Ieee.{Float}
use Rattle.corners.specs.Corners.{whole, too_many, corners_of}
use Rattle.corners.specs.declared.Corner.{Corner}
use Rattle.std.specs.Prelude.{Ok}
use Rattle.refusals.specs.declared.Refusal.TheVariants.{BadLength, TooMany, BadScratch, GridTooBig}
use Rattle.merge.specs.Meets.{box_of, finite_box, grid_of, cells_across, cells_down}
use Rattle.merge.specs.Fold.{merged}
use Rattle.merge.specs.Call.{Way, refused, unmerged, scanned, gridded, idle, merging_way, way_of, answer_of, packed, list_after}
use Rattle.merge.specs.Claims.{Source, Guarded}
use Rattle.merge_theorems.specs.Promises.{grid_rule, scan_rule, Promised, GriddedPromised, ScannedPromised}
use Rattle.merge_theorems.proofs.Theorems.{separated-stay, merging-is-local, nothing-invented, order-kept, strong-held}

promised : (list : List Float) (way : Way) (meets : Corner → Corner → Bool) (kept : List Corner)
    → answer_of list way ≡ Ok (length kept) → list_after list way ≡ packed list kept → kept ≡ merged meets (corners_of list) → Promised list way meets kept
promised list way meets kept a b e =
    record {
      answers = a;
      leaves = b;
      folded = e;
      stay = λ s. e ∙ separated-stay meets l s;
      local = merging-is-local meets l;
      uninvented = subst (λ (k : List Corner). (p : ℕ) → p < length k → Source meets l k p) (sym e) (nothing-invented meets l);
      ordered = order-kept meets l;
      guarded = subst (λ (k : List Corner). (i : ℕ) → i < length l → Guarded meets l k i) (sym e) (strong-held meets l);
    }
  where
    l : List Corner
    l = corners_of list

-- ---- which way the call went
abbrev merges : Way → Bool
merges (refused r) = false
merges unmerged = false
merges (scanned kept) = true
merges (gridded kept) = true

past-tests : (a b c d : Bool) (w : Way) → merges (cond a (refused BadLength) (cond b (refused TooMany) (cond c (refused BadScratch) (cond d unmerged w)))) ≡ true → cond a (refused BadLength) (cond b (refused TooMany) (cond c (refused BadScratch) (cond d unmerged w))) ≡ w
past-tests true b c d w h = absurd (false≢true h)
past-tests false true c d w h = absurd (false≢true h)
past-tests false false true d w h = absurd (false≢true h)
past-tests false false false true w h = absurd (false≢true h)
past-tests false false false false w h = refl

by-grid : (a b : Bool) (s g kept : List Corner) → cond a (scanned s) (cond b (refused GridTooBig) (gridded g)) ≡ gridded kept → kept ≡ g
by-grid true b s g kept h = cc
by-grid false true s g kept h = cc
by-grid false false s g kept h = cc

by-scan : (a b : Bool) (s g kept : List Corner) → cond a (scanned s) (cond b (refused GridTooBig) (gridded g)) ≡ scanned kept → kept ≡ s
by-scan true b s g kept h = cc
by-scan false true s g kept h = cc
by-scan false false s g kept h = cc

module _ (list : List Float) (radius : Float) (heads links : ℕ) (kept : List Corner) where
  merging : merges (way_of list radius heads links) ≡ true → way_of list radius heads links ≡ merging_way (corners_of list) radius heads
  unfolding way_of
  merging h = past-tests (not (whole (length list))) (too_many (length list)) (ltb links (length list / 3)) (eqb (length list) 0 || idle radius) (merging_way (corners_of list) radius heads) h

  pub gridded-promised : GriddedPromised list radius heads links kept
  unfolding merging_way
  gridded-promised w =
      promised list (way_of list radius heads links) (grid_rule list radius) kept (ap (answer_of list) w) (ap (list_after list) w)
      (by-grid (not (finite_box (box_of (corners_of list)))) (ltb heads (cells_across (grid_of radius (corners_of list)) * cells_down (grid_of radius (corners_of list))))
      (merged (scan_rule radius) (corners_of list)) (merged (grid_rule list radius) (corners_of list)) kept (sym (merging (ap merges w)) ∙ w))

  pub scanned-promised : ScannedPromised list radius heads links kept
  unfolding merging_way
  scanned-promised w =
      promised list (way_of list radius heads links) (scan_rule radius) kept (ap (answer_of list) w) (ap (list_after list) w)
      (by-scan (not (finite_box (box_of (corners_of list)))) (ltb heads (cells_across (grid_of radius (corners_of list)) * cells_down (grid_of radius (corners_of list))))
      (merged (scan_rule radius) (corners_of list)) (merged (grid_rule list radius) (corners_of list)) kept (sym (merging (ap merges w)) ∙ w))
