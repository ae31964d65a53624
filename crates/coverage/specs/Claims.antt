-- What may be claimed of the counts: after any sequence of calls they are the summary of the list, if they were before it; and the 65 of them add up to the length.
use Rattle.std.specs.Prelude.{◌≡◌, true, List, [], ◌∷◌, ℕ, zero, suc, ◌+◌, ◌*◌, ◌≤◌, length, get_or, Float}
use Rattle.corners.specs.Corners.{most_corners}
use Rattle.imageview.specs.Image.{is_size}
use Rattle.coverage.specs.Summary.{summary}
use Rattle.coverage.specs.Call.{Way, refused, kept, add_way, replace_way, drop_way}

-- ---- a call by what is asked of it, and a list with its count and counts
pub data Asked : Type 0 where
  add : Float → Float → Float → Asked
  replace : ℕ → Float → Float → Float → Asked
  drop : ℕ → Asked

pub record Held : Type 0 where
  pub list : List Float
  pub count : ℕ
  pub counts : List ℕ

abbrev pub way_of : ℕ → ℕ → Asked → Held → Way
way_of w h (add x y s) t = add_way w h t.list t.count t.counts x y s
way_of w h (replace k x y s) t = replace_way w h t.list t.count t.counts k x y s
way_of w h (drop k) t = drop_way w h t.list t.count t.counts k

abbrev pub held : Held → Way → Held
held t (refused r) = t
held t (kept list n counts) = record { list = list; count = n; counts = counts }

abbrev pub after : ℕ → ℕ → List Asked → Held → Held
after w h [] t = t
after w h (a ∷ l) t = after w h l (held t (way_of w h a t))

-- ---- the list has room for all corners, and the counts are its summary
pub record Summed (w h : ℕ) (t : Held) : Type 0 where
  pub room : length t.list ≡ 3 * most_corners
  pub few : t.count ≤ most_corners
  pub is : t.counts ≡ summary w h t.list t.count

abbrev pub StaysSummed : Type 0
StaysSummed = (w h : ℕ) → is_size w h ≡ true → (calls : List Asked) (t : Held) → Summed w h t → Summed w h (after w h calls t)

abbrev pub sum_of : ℕ → (ℕ → ℕ) → ℕ
sum_of zero f = zero
sum_of (suc n) f = sum_of n f + f n

abbrev pub AddsUp : Type 0
AddsUp = (w h : ℕ) → is_size w h ≡ true → (t : Held) → Summed w h t → sum_of 65 (λ i. get_or t.counts i 0) ≡ t.count
