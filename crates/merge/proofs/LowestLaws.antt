-- The lowest number that passes a test: what it is, and that it is found whatever parts of the numbers are gone through first.
use mathlib.Core.Path.{◌≡◌, refl, sym, ap, ◌∙◌, subst}
use mathlib.Core.Logic.{◌⊎◌, inl, inr, ⊎_elim}
use mathlib.Core.Bool.{Bool, true, false, ◌&&◌, ◌||◌, cond, false≢true, and-eq-true_iff}
use Prim.Native.Nat.{ℕ, zero, suc, ◌≤◌, ◌<◌}
use native.Mathlib.Nat.{not-suc-le-zero, le_antisymm, le_refl, eq-or-lt_of_le, le_of_suc-le-suc, lt_of_not-le}
use native.Mathlib.Decide.{dec_le}
use native.Mathlib.Omega.{arith}
use lib.Dec.{ltb}
use borrow.Author.Tests.{ltb-true, ltb-false}
use Rattle.shapes.proofs.TestLaws.{either}
use Rattle.merge.specs.Steps.{lowest_below}

pub or_left : (a b : Bool) → a ≡ true → (a || b) ≡ true
or_left a b h = ap (λ (t : Bool). t || b) h

pub or_right : (a b : Bool) → b ≡ true → (a || b) ≡ true
or_right true b h = refl
or_right false b h = h

-- two tests that are true together are the same test
pub same_bool : (a b : Bool) → (a ≡ true → b ≡ true) → (b ≡ true → a ≡ true) → a ≡ b
same_bool true b f g = sym (f refl)
same_bool false true f g = g refl
same_bool false false f g = refl

pub record IsLowest (test : ℕ → Bool) (n best r : ℕ) : Type 0 where
  pub lower : r ≤ best
  pub below : (j : ℕ) → j < n → test j ≡ true → r ≤ j
  pub found : (r ≡ best) ⊎ ((r < n) × (test r ≡ true))

lowest-is : (test : ℕ → Bool) (n best : ℕ) → IsLowest test n best (lowest_below test n best)
unfolding lowest_below
lowest-is test zero best = record { lower = le_refl best; below = λ j h. absurd (not-suc-le-zero h); found = inl refl }
lowest-is test (suc n) best = go (test n && ltb n best) refl (λ b. lowest-is test n (cond b n best))
  where
    at_n : (b : Bool) → (test n && ltb n best) ≡ b → (r : ℕ) → r ≤ cond b n best → test n ≡ true → r ≤ n
    at_n true e r h t = h
    at_n false e r h t = let l : best ≤ n = ltb-false n best (sym (ap (λ (u : Bool). u && ltb n best) t) ∙ e) in omega arith

    go :
        (b : Bool) → (test n && ltb n best) ≡ b → ((b : Bool) → IsLowest test n (cond b n best) (lowest_below test n (cond b n best)))
        → IsLowest test (suc n) best (lowest_below test n (cond b n best))
    go true e ih =
        let i = ih true in
        let l : n < best = ltb-true n best ((and-eq-true_iff (test n) (ltb n best)).0 e).1 in
        let u = i.lower in
        record {
          lower = omega arith;
          below = λ j h t. ⊎_elim (λ q. subst (λ (k : ℕ). lowest_below test n n ≤ k) (sym q) u) (λ k. i.below j k t) (eq-or-lt_of_le (le_of_suc-le-suc h));
          found =
              inr (⊎_elim (λ q. (omega arith, subst (λ (k : ℕ). test k ≡ true) (sym q) ((and-eq-true_iff (test n) (ltb n best)).0 e).0)) (λ w. (omega arith, w.1)) i.found);
        }
    go false e ih =
        let i = ih false in
        let u = i.lower in
        record {
          lower = u;
          below =
              λ j h t. ⊎_elim (λ q. subst (λ (k : ℕ). lowest_below test n best ≤ k) (sym q) (at_n false e (lowest_below test n best) u (subst (λ (k : ℕ). test k ≡ true) q t))) (λ k. i.below j k t) (eq-or-lt_of_le (le_of_suc-le-suc h));
          found = ⊎_elim (λ q. inl q) (λ w. inr (omega arith, w.1)) i.found;
        }

only : (test : ℕ → Bool) (n best r s : ℕ) → IsLowest test n best r → IsLowest test n best s → r ≤ s
only test n best r s a b = ⊎_elim (λ q. subst (λ (k : ℕ). r ≤ k) (sym q) a.lower) (λ w. a.below s w.0 w.1) b.found

pub is-lowest : (test : ℕ → Bool) (n best r : ℕ) → IsLowest test n best r → r ≡ lowest_below test n best
is-lowest test n best r a = le_antisymm (only test n best r (lowest_below test n best) a (lowest-is test n best)) (only test n best (lowest_below test n best) r (lowest-is test n best) a)

-- one part of the numbers after the other
lowest-two : (one two test : ℕ → Bool) (n best : ℕ) → ((j : ℕ) → j < n → (one j || two j) ≡ test j) → lowest_below two n (lowest_below one n best) ≡ lowest_below test n best
lowest-two one two test n best same =
    let a = lowest-is one n best in
    let b = lowest-is two n (lowest_below one n best) in
    let low = a.lower in
    let lower = b.lower in
    is-lowest test n best (lowest_below two n (lowest_below one n best))
    (record {
      lower = omega arith;
      below = λ j h t. ⊎_elim (λ u. let z = a.below j h u in omega arith) (λ u. b.below j h u) (either (one j) (two j) (same j h ∙ t));
      found = ⊎_elim (λ q. ⊎_elim (λ p. inl (q ∙ p)) (λ w. hit (lowest_below one n best) q w.0 (or_left (one (lowest_below one n best)) (two (lowest_below one n best)) w.1)) a.found) (λ w. hit (lowest_below two n (lowest_below one n best)) refl w.0 (or_right (one (lowest_below two n (lowest_below one n best))) (two (lowest_below two n (lowest_below one n best))) w.1)) b.found;
    })
  where
    hit : (k : ℕ) → lowest_below two n (lowest_below one n best) ≡ k → k < n → (one k || two k) ≡ true → (lowest_below two n (lowest_below one n best) ≡ best) ⊎ ((lowest_below two n (lowest_below one n best) < n) × (test (lowest_below two n (lowest_below one n best)) ≡ true))
    hit k q h t = inr (subst (λ (m : ℕ). m < n) (sym q) h, subst (λ (m : ℕ). test m ≡ true) (sym q) (sym (same k h) ∙ t))

pub lowest-three : (one two three test : ℕ → Bool) (n best : ℕ) → ((j : ℕ) → j < n → (one j || two j || three j) ≡ test j) → lowest_below three n (lowest_below two n (lowest_below one n best)) ≡ lowest_below test n best
lowest-three one two three test n best same =
    ap (lowest_below three n) (lowest-two one two (λ j. one j || two j) n best (λ j h. refl))
    ∙ lowest-two (λ j. one j || two j) three test n best same

-- tests that agree find the same
pub lowest-same : (one two : ℕ → Bool) (n best : ℕ) → ((j : ℕ) → j < n → one j ≡ two j) → lowest_below one n best ≡ lowest_below two n best
lowest-same one two n best same =
    is-lowest two n best (lowest_below one n best)
    (record {
      lower = (lowest-is one n best).lower;
      below = λ j h t. (lowest-is one n best).below j h (same j h ∙ t);
      found = ⊎_elim (λ q. inl q) (λ w. inr (w.0, sym (same (lowest_below one n best) w.0) ∙ w.1)) (lowest-is one n best).found;
    })

-- ---- a search from the front
not-before : (test : ℕ → Bool) (j i : ℕ) → ((k : ℕ) → k < j → test k ≡ false) → test i ≡ true → j ≤ i
not-before test j i before u = go (dec_le j i)
  where
    go : Dec (j ≤ i) → j ≤ i
    go (yes y) = y
    go (no y) = absurd (false≢true (sym (before i (lt_of_not-le y)) ∙ u))

pub first_found : (test : ℕ → Bool) (n j : ℕ) → j < n → ((k : ℕ) → k < j → test k ≡ false) → test j ≡ true → j ≡ lowest_below test n n
first_found test n j h before t = is-lowest test n n j (record { lower = omega arith; below = λ i l u. not-before test j i before u; found = inr (h, t) })

pub none_found : (test : ℕ → Bool) (n j : ℕ) → n ≤ j → ((k : ℕ) → k < j → test k ≡ false) → n ≡ lowest_below test n n
none_found test n j h before =
    is-lowest test n n n (record { lower = le_refl n; below = λ i l u. let z : j ≤ i = not-before test j i before u in omega arith; found = inl refl })

-- no number at all
pub lowest-none : (test : ℕ → Bool) (n best : ℕ) → ((k : ℕ) → k < n → test k ≡ false) → best ≡ lowest_below test n best
lowest-none test n best none = is-lowest test n best best (record { lower = le_refl best; below = λ i l u. absurd (false≢true (sym (none i l) ∙ u)); found = inl refl })
