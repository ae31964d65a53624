-- Four entries written side by side, a row that is gathered so, and the blocks of four that hold the twenty sums.
use mathlib.Core.Path.{◌≡◌, refl, sym, ap, ◌∙◌, subst}
use mathlib.Core.Bool.{Bool, true, ◌&&◌, cond}
use mathlib.Core.Logic.{◌⊎◌, inl, inr, ⊎_elim}
use mathlib.Core.List.{List}
use Prim.Native.Nat.{ℕ, zero, suc, ◌+◌, ◌-◌, ◌*◌, ◌/◌, ◌%◌, ◌≤◌, ◌<◌, zero-le, suc-le-suc}
use native.Mathlib.Nat.{eq-or-lt_of_le, div-add-mod', mod-lt}
use native.Mathlib.Numerals.{add-one}
use native.Mathlib.Omega.{arith}
use borrow.Author.Tests.{le-leb, lt-leb, le-ltb, lt-ltb}
use lib.Dec.{leb, ltb}
use lib.ListN.{length, get_or, set, length-set}
use lib.Seq.{get_or-set_same, get_or-set_other}
use lib.Ieee.{Float, nan}
use Rattle.shapes.specs.Numbers.{entry}
use Rattle.shapes.proofs.ListLaws.{length-tabulated, get_d-tabulated, tabulated-by, tabulated-cong}
use Rattle.refine_patch.specs.declared.Firsts.{Firsts}
use Rattle.refine_patch.specs.declared.Sums.{Sums}
use Rattle.refine_patch.specs.StepsFrom.{four_written}
use Rattle.refine_patch.specs.StepsFour.{four_of, lane_of, lane_in, sum_in, quad_by, four_set, blocks, Gathered}

-- ---- four entries side by side
module _ {A : Type 0} (d : A) (l : List A) (m : ℕ) (g : ℕ → A) where
  abbrev one : List A
  one = set l (m + 0) (g 0)

  abbrev two : List A
  two = set one (m + 1) (g 1)

  abbrev three : List A
  three = set two (m + 2) (g 2)

  pub length-four : length (four_set l m g) ≡ length l
  length-four = length-set three (m + 3) (g 3) ∙ length-set two (m + 2) (g 2) ∙ length-set one (m + 1) (g 1) ∙ length-set l (m + 0) (g 0)

  pub four-before : (k : ℕ) → k < m → get_or (four_set l m g) k d ≡ get_or l k d
  four-before k h =
      get_or-set_other three (m + 3) k (g 3) d (λ e. omega arith) ∙ get_or-set_other two (m + 2) k (g 2) d (λ e. omega arith)
      ∙ get_or-set_other one (m + 1) k (g 1) d (λ e. omega arith) ∙ get_or-set_other l (m + 0) k (g 0) d (λ e. omega arith)

  pub four-past : (k : ℕ) → m + 4 ≤ k → get_or (four_set l m g) k d ≡ get_or l k d
  four-past k h =
      get_or-set_other three (m + 3) k (g 3) d (λ e. omega arith) ∙ get_or-set_other two (m + 2) k (g 2) d (λ e. omega arith)
      ∙ get_or-set_other one (m + 1) k (g 1) d (λ e. omega arith) ∙ get_or-set_other l (m + 0) k (g 0) d (λ e. omega arith)

  pub four-here : m + 4 ≤ length l → (j : ℕ) → j < 4 → get_or (four_set l m g) (m + j) d ≡ g j
  four-here h zero q =
      get_or-set_other three (m + 3) (m + 0) (g 3) d (λ e. omega arith) ∙ get_or-set_other two (m + 2) (m + 0) (g 2) d (λ e. omega arith)
      ∙ get_or-set_other one (m + 1) (m + 0) (g 1) d (λ e. omega arith) ∙ get_or-set_same l (m + 0) (g 0) d (omega arith)
  four-here h (suc zero) q =
      get_or-set_other three (m + 3) (m + 1) (g 3) d (λ e. omega arith) ∙ get_or-set_other two (m + 2) (m + 1) (g 2) d (λ e. omega arith)
      ∙ get_or-set_same one (m + 1) (g 1) d (omega (arith, length-set l (m + 0) (g 0)))
  four-here h (suc (suc zero)) q =
      get_or-set_other three (m + 3) (m + 2) (g 3) d (λ e. omega arith)
      ∙ get_or-set_same two (m + 2) (g 2) d (omega (arith, length-set one (m + 1) (g 1), length-set l (m + 0) (g 0)))
  four-here h (suc (suc (suc zero))) q =
      get_or-set_same three (m + 3) (g 3) d (omega (arith, length-set two (m + 2) (g 2), length-set one (m + 1) (g 1), length-set l (m + 0) (g 0)))
  four-here h (suc (suc (suc (suc j)))) q = absurd (let z : ⊥ = omega arith in z)

-- ---- a row that is gathered
-- the four that are read are those of the lanes
lanes-read : (list : List ℕ) (at : Firsts) (n l : ℕ) → four_of (get_or list (at.a + n) 0) (get_or list (at.b + n) 0) (get_or list (at.c + n) 0) (get_or list (at.d + n) 0) l ≡ get_or list (lane_of at l + n) 0
lanes-read list at n zero = refl
lanes-read list at n (suc zero) = refl
lanes-read list at n (suc (suc zero)) = refl
lanes-read list at n (suc (suc (suc l))) = refl

pub gathered_none : (list : List ℕ) (at : Firsts) (to : ℕ) (row : List ℕ) → length row ≡ 112 → Gathered list at 0 to row row
gathered_none list at to row h = record { long = h; here = λ i l p q. absurd (let z : ⊥ = omega arith in z); before = λ m p. refl }

pub gathered-more : (list : List ℕ) (at : Firsts) (n to : ℕ) (old row after : List ℕ) → to + 4 * n + 4 ≤ 112 → Gathered list at n to old row → after ≡ four_set row (to + 4 * n) (four_of (get_or list (at.a + n) 0) (get_or list (at.b + n) 0) (get_or list (at.c + n) 0) (get_or list (at.d + n) 0)) → Gathered list at (n + 1) to old after
gathered-more list at n to old row after h g e =
    let v = four_of (get_or list (at.a + n) 0) (get_or list (at.b + n) 0) (get_or list (at.c + n) 0) (get_or list (at.d + n) 0) in
    record {
      long = ap length e ∙ length-four 0 row (to + 4 * n) v ∙ g.long;
      here =
          λ i l p q.
          ap (λ (r : List ℕ). get_or r (to + 4 * i + l) 0) e
          ∙ ⊎_elim
          (λ (same : i ≡ n).
          subst (λ (k : ℕ). get_or (four_set row (to + 4 * n) v) (to + 4 * k + l) 0 ≡ get_or list (lane_of at l + k) 0) (sym same)
          (four-here 0 row (to + 4 * n) v (room (to + 4 * n) (length row) h g.long) l q ∙ lanes-read list at n l))
          (λ (less : i < n). four-before 0 row (to + 4 * n) v (to + 4 * i + l) (omega arith) ∙ g.here i l less q)
          (eq-or-lt_of_le (omega arith));
      before = λ m p. ap (λ (r : List ℕ). get_or r m 0) e ∙ four-before 0 row (to + 4 * n) v m (omega arith) ∙ g.before m p;
    }
  where
    room : (m count : ℕ) → m + 4 ≤ 112 → count ≡ 112 → m + 4 ≤ count
    room m count h e = omega arith

-- ---- blocks of four
module _ (f : ℕ → ℕ → Float) (to : ℕ) (old : List Float) where
  blocks-length : (n : ℕ) → length (blocks n f to old) ≡ length old
  unfolding blocks
  blocks-length zero = refl
  blocks-length (suc n) = length-four nan (blocks n f to old) (to + 4 * n) (f n) ∙ blocks-length n

  blocks-before : (n k : ℕ) → k < to → entry (blocks n f to old) k ≡ entry old k
  unfolding blocks
  blocks-before zero k h = refl
  blocks-before (suc n) k h = four-before nan (blocks n f to old) (to + 4 * n) (f n) k (omega arith) ∙ blocks-before n k h

  blocks-past : (n k : ℕ) → to + 4 * n ≤ k → entry (blocks n f to old) k ≡ entry old k
  unfolding blocks
  blocks-past zero k h = refl
  blocks-past (suc n) k h = four-past nan (blocks n f to old) (to + 4 * n) (f n) k (omega arith) ∙ blocks-past n k (omega arith)

  blocks-here : (n : ℕ) → to + 4 * n ≤ length old → (c j : ℕ) → c < n → j < 4 → entry (blocks n f to old) (to + 4 * c + j) ≡ f c j
  unfolding blocks
  blocks-here zero h c j p q = absurd (let z : ⊥ = omega arith in z)
  blocks-here (suc n) h c j p q =
      ⊎_elim
      (λ (same : c ≡ n). subst (λ (k : ℕ). entry (four_set (blocks n f to old) (to + 4 * n) (f n)) (to + 4 * k + j) ≡ f k j) (sym same) (four-here nan (blocks n f to old) (to + 4 * n) (f n) (omega (arith, blocks-length n)) j q))
      (λ (less : c < n). four-before nan (blocks n f to old) (to + 4 * n) (f n) (to + 4 * c + j) (omega arith) ∙ blocks-here n (omega arith) c j less q)
      (eq-or-lt_of_le (omega arith))

pub lt-or-le : (a b : ℕ) → (a < b) ⊎ (b ≤ a)
lt-or-le a zero = inr zero-le
lt-or-le zero (suc b) = inl (suc-le-suc zero-le)
lt-or-le (suc a) (suc b) = ⊎_elim (λ p. inl (suc-le-suc p)) (λ q. inr (suc-le-suc q)) (lt-or-le a b)

-- an entry among the twenty is that of its block and lane
among : (f : ℕ → ℕ → Float) (to : ℕ) (old : List Float) (k : ℕ) → to + 20 ≤ length old → k < 20 → entry (blocks 5 f to old) (to + k) ≡ f (k / 4) (k % 4)
among f to old k h q =
    ap (λ (n : ℕ). entry (blocks 5 f to old) n) (parts (k / 4) (k % 4) (div-add-mod' k 4))
    ∙ blocks-here f to old 5 h (k / 4) (k % 4) (few (k / 4) (k % 4) (div-add-mod' k 4)) (mod-lt k (omega arith))
  where
    parts : (c j : ℕ) → c * 4 + j ≡ k → to + k ≡ to + 4 * c + j
    parts c j e = omega arith

    few : (c j : ℕ) → c * 4 + j ≡ k → c < 5
    few c j e = omega arith

module _ (f : ℕ → ℕ → Float) (to : ℕ) (old : List Float) (long : length old ≡ 40) (low : to ≤ 20) where
  -- the entry i of what is written
  abbrev written : ℕ → Float
  written i = cond (leb to i && ltb i (to + 20)) (f ((i - to) / 4) ((i - to) % 4)) (entry old i)

  abbrev chosen : ℕ → Bool → Float
  chosen i b = cond b (f ((i - to) / 4) ((i - to) % 4)) (entry old i)

  entry-before : (i : ℕ) → i < to → entry (blocks 5 f to old) i ≡ written i
  entry-before i h = blocks-before f to old 5 i h ∙ ap (λ (b : Bool). chosen i (b && ltb i (to + 20))) (sym (lt-leb to i h))

  entry_past : (i : ℕ) → to + 20 ≤ i → entry (blocks 5 f to old) i ≡ written i
  entry_past i h =
      blocks-past f to old 5 i h
      ∙ ap (λ (b : Bool). chosen i (true && b)) (sym (le-ltb i (to + 20) h))
      ∙ ap (λ (b : Bool). chosen i (b && ltb i (to + 20))) (sym (le-leb to i (omega arith)))

  entry-among : (i : ℕ) → to ≤ i → i < to + 20 → entry (blocks 5 f to old) i ≡ written i
  entry-among i h q =
      ap (λ (n : ℕ). entry (blocks 5 f to old) n) (let e : i ≡ to + (i - to) = omega arith in e)
      ∙ among f to old (i - to) (omega arith) (omega arith)
      ∙ ap (λ (b : Bool). chosen i (true && b)) (sym (lt-ltb i (to + 20) q))
      ∙ ap (λ (b : Bool). chosen i (b && ltb i (to + 20))) (sym (le-leb to i h))

  pub blocks-written : blocks 5 f to old ≡ four_written f to old
  unfolding four_written
  blocks-written =
      sym (tabulated-by 40 nan (blocks 5 f to old) (blocks-length f to old 5 ∙ long))
      ∙ tabulated-cong 40 (λ i. entry (blocks 5 f to old) i) written
      (λ i h. ⊎_elim (λ (p : i < to). entry-before i p) (λ (p : to ≤ i). ⊎_elim (λ (q : i < to + 20). entry-among i p q) (λ (q : to + 20 ≤ i). entry_past i q) (lt-or-le i (to + 20))) (lt-or-le i to))

-- ---- what stands where after four fits are written
module _ (f : ℕ → ℕ → Float) (to : ℕ) (old : List Float) where
  -- the entry i of what is written
  abbrev laid_at : ℕ → Float
  laid_at i = cond (leb to i && ltb i (to + 20)) (f ((i - to) / 4) ((i - to) % 4)) (entry old i)

  pub written-length : length (four_written f to old) ≡ 40
  unfolding four_written
  written-length = length-tabulated 40 laid_at

  pub written-before : to ≤ 20 → (i : ℕ) → i < to → entry (four_written f to old) i ≡ entry old i
  unfolding four_written
  written-before low i h =
      get_d-tabulated 40 laid_at i nan (omega arith) ∙ ap (λ (b : Bool). cond (b && ltb i (to + 20)) (f ((i - to) / 4) ((i - to) % 4)) (entry old i)) (lt-leb to i h)

  pub written-here : to ≤ 20 → (c l : ℕ) → c < 5 → l < 4 → entry (four_written f to old) (to + 4 * c + l) ≡ f c l
  unfolding four_written
  written-here low c l p q =
      get_d-tabulated 40 laid_at (to + 4 * c + l) nan (omega arith)
      ∙ ap (λ (b : Bool). cond (b && ltb (to + 4 * c + l) (to + 20)) (f ((to + 4 * c + l - to) / 4) ((to + 4 * c + l - to) % 4)) (entry old (to + 4 * c + l))) (le-leb to (to + 4 * c + l) (omega arith))
      ∙ ap (λ (b : Bool). cond b (f ((to + 4 * c + l - to) / 4) ((to + 4 * c + l - to) % 4)) (entry old (to + 4 * c + l))) (lt-ltb (to + 4 * c + l) (to + 20) (omega arith))
      ∙ ap (λ (m : ℕ). f m ((to + 4 * c + l - to) % 4)) (let e : (to + 4 * c + l - to) / 4 ≡ c = omega arith in e)
      ∙ ap (λ (m : ℕ). f c m) (let e : (to + 4 * c + l - to) % 4 ≡ l = omega arith in e)

-- one block after the other
pub blocks-none : (f : ℕ → ℕ → Float) (to : ℕ) (old : List Float) → old ≡ blocks 0 f to old
unfolding blocks
blocks-none f to old = refl

pub block_more : (f : ℕ → ℕ → Float) (to n : ℕ) (old l after : List Float) (v : List Float) → l ≡ blocks n f to old → v ≡ quad_by (f n) → after ≡ four_set l (to + 4 * n) (lane_in v) → after ≡ blocks (n + 1) f to old
unfolding blocks
block_more f to n old l after v e q p =
    p
    ∙ ap (λ (k : List Float). four_set k (to + 4 * n) (lane_in v)) e
    ∙ ap (λ (w : List Float). four_set (blocks n f to old) (to + 4 * n) (lane_in w)) q
    ∙ ap (λ (k : ℕ). blocks k f to old) (sym (add-one n))

-- five blocks
pub stored : (s : Sums) (to : ℕ) (old a b c d e : List Float) → a ≡ four_set old (to + 0) (lane_in s.a) → b ≡ four_set a (to + 4) (lane_in s.b) → c ≡ four_set b (to + 8) (lane_in s.c) → d ≡ four_set c (to + 12) (lane_in s.d) → e ≡ four_set d (to + 16) (lane_in s.e) → e ≡ blocks 5 (sum_in s) to old
unfolding blocks
stored s to old a b c d e pa pb pc pd pe =
    pe
    ∙ ap (λ (l : List Float). four_set l (to + 16) (lane_in s.e))
    (pd ∙ ap (λ (l : List Float). four_set l (to + 12) (lane_in s.d)) (pc ∙ ap (λ (l : List Float). four_set l (to + 8) (lane_in s.c)) (pb ∙ ap (λ (l : List Float). four_set l (to + 4) (lane_in s.b)) pa)))
