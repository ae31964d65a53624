-- Pixels that stand out, group by group: a group with nothing above the floor has none.
use mathlib.Core.Path.{◌≡◌, refl, sym, ap, ◌∙◌, subst}
use mathlib.Core.Bool.{Bool, true, false, ◌&&◌, cond}
use mathlib.Core.List.{List, [], ◌∷◌, ◌++◌, append-nil, append_assoc}
use Prim.Native.Nat.{ℕ, zero, suc, ◌+◌, ◌-◌, ◌*◌, ◌/◌, ◌≤◌, ◌<◌}
use native.Mathlib.Numerals.{add-one}
use native.Mathlib.Omega.{arith}
use lib.ListN.{length, get_or, take, length-append}
use lib.Seq.{take-suc}
use lib.Ieee.{Float, nan, lt, le}
use Rattle.peaks.specs.Listed.{between}
use Rattle.peaks.specs.Steps.{run_at, stands_out, any_above, gathered}
use Rattle.shapes.proofs.TestLaws.{some_at}
use Rattle.peaks.proofs.ListLaws.{between_none, between-cut, between-clear, between-most, between-at}

module _ (values : List Float) (floor : Float) (start : ℕ) where
  abbrev out : ℕ → Bool
  out = stands_out values floor

  abbrev any : ℕ → Bool
  any = any_above values floor start

  abbrev group : ℕ → List ℕ
  group g = between (start + 8 * g) 8 out

  gathered-one : (l : List ℕ) (g : ℕ) → gathered values floor start (l ++ (g ∷ [])) ≡ gathered values floor start l ++ group g
  unfolding gathered
  gathered-one [] g = append-nil (group g)
  gathered-one (k ∷ l) g = ap (λ (z : List ℕ). group k ++ z) (gathered-one l g) ∙ sym (append_assoc (group k) (gathered values floor start l) (group g))

  pub gathered_none : (groups : List ℕ) → gathered values floor start (take 0 groups) ≡ []
  unfolding gathered
  gathered_none groups = refl

  pub gathered-more : (groups : List ℕ) (j : ℕ) → j < length groups → gathered values floor start (take (j + 1) groups) ≡ gathered values floor start (take j groups) ++ group (get_or groups j 0)
  gathered-more groups j h = ap (gathered values floor start) (ap (λ (n : ℕ). take n groups) (add-one j) ∙ take-suc groups j 0 h) ∙ gathered-one (take j groups) (get_or groups j 0)

  not-above : (k : ℕ) → lt floor (get_or values k nan) ≡ false → out k ≡ false
  not-above k e = ap (λ (z : Bool). z && lt (get_or values (k - 1) nan) (get_or values k nan) && le (get_or values (k + 1) nan) (get_or values k nan)) e

  quiet : (g : ℕ) → any g ≡ false → group g ≡ []
  quiet g e =
      between-clear out (start + 8 * g) 8
      (λ i h l. not-above i (ap (λ (k : ℕ). lt floor (get_or values k nan)) (let q : i ≡ start + 8 * g + (i - (start + 8 * g)) = omega arith in q)
      ∙ some_at 8 (i - (start + 8 * g)) (λ j. lt floor (run_at values (start + 8 * g) j)) (omega arith) e))

  eight-more : (n : ℕ) → between start (8 * suc n) out ≡ between start (8 * n) out ++ group n
  eight-more n = ap (λ (k : ℕ). between start k out) (let e : 8 * suc n ≡ 8 * n + 8 = omega arith in e) ∙ between-cut out start (8 * n) 8

  group-more : (n : ℕ) (b : Bool) → any n ≡ b → gathered values floor start (between 0 n any) ≡ between start (8 * n) out
      → gathered values floor start (between 0 n any ++ cond b (n ∷ []) []) ≡ between start (8 * suc n) out
  group-more n true e f = gathered-one (between 0 n any) n ∙ ap (λ (z : List ℕ). z ++ group n) f ∙ sym (eight-more n)
  group-more n false e f =
      ap (gathered values floor start) (append-nil (between 0 n any)) ∙ f ∙ sym (append-nil (between start (8 * n) out)) ∙ ap (λ (z : List ℕ). between start (8 * n) out ++ z) (sym (quiet n e))
      ∙ sym (eight-more n)

  gathered-groups : (n : ℕ) → gathered values floor start (between 0 n any) ≡ between start (8 * n) out
  unfolding between gathered
  gathered-groups zero = sym (between_none out start)
  gathered-groups (suc n) =
      ap (λ (k : ℕ). gathered values floor start (between 0 n any ++ cond (any k) (k ∷ []) [])) (let e : 0 + n ≡ n = omega arith in e) ∙ group-more n (any n) refl (gathered-groups n)

  -- and what is left behind them
  pub all-gathered : (n : ℕ) → gathered values floor start (between 0 (n / 8) any) ++ between (start + 8 * (n / 8)) (n - 8 * (n / 8)) out ≡ between start n out
  all-gathered n =
      ap (λ (z : List ℕ). z ++ between (start + 8 * (n / 8)) (n - 8 * (n / 8)) out) (gathered-groups (n / 8))
      ∙ sym (between-cut out start (8 * (n / 8)) (n - 8 * (n / 8))) ∙ ap (λ (k : ℕ). between start k out) (let e : 8 * (n / 8) + (n - 8 * (n / 8)) ≡ n = omega arith in e)

  pub gathered-most : (groups : List ℕ) → length (gathered values floor start groups) ≤ 8 * length groups
  unfolding gathered
  gathered-most [] = omega arith
  gathered-most (g ∷ l) = let h : length (gathered values floor start l) ≤ 8 * length l = gathered-most l in omega (arith, between-most out (start + 8 * g) 8, length-append (group g) (gathered values floor start l))

-- the groups listed: those of n pixels are at most n / 8, and each lies in the n
module _ (has : ℕ → Bool) (n : ℕ) {groups : List ℕ} (e : groups ≡ between 0 (n / 8) has) where
  pub groups-few : 8 * length groups ≤ n
  groups-few = let q = ap length e in omega (arith, between-most has 0 (n / 8))

  pub group-inside : (j : ℕ) → j < length groups → 8 * get_or groups j 0 + 8 ≤ n
  group-inside j h =
      let q = (between-at has 0 (n / 8) j (subst (λ (z : List ℕ). j < length z) e h)).1 in
      let w : get_or groups j 0 < n / 8 = subst (λ (z : List ℕ). get_or z j 0 < n / 8) (sym e) (let l : get_or (between 0 (n / 8) has) j 0 < n / 8 = omega arith in l) in
      omega arith
