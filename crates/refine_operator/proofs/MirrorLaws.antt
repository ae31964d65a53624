-- The overlap of a shift and that of the opposite one, with the rows exchanged, are the same sums: the same products in the same order.
use Rattle.std.proofs.Common.{◌≡◌, ℕ, zero, suc, ◌+◌, ◌-◌, ◌*◌, ◌/◌, ◌%◌, ◌<◌, ◌≤◌, Bool, true, false, cond, not, ◌&&◌, ◌||◌, eqb, leb, List, length, set, sym, refl, ap, ◌∙◌, subst, add-zero, add-suc, add_comm, arith, eqb-true, leb-true}
use mathlib.Core.Bool.{beq}
use lib.Ieee.{Float, binary32, binary64, add, mul}
use borrow.Author.Tests.{not-true}
use Rattle.floats.specs.Convert.{convert}
use Rattle.shapes.proofs.TestLaws.{every-at, first_of, second-of}
use Rattle.shapes.proofs.ListLaws.{overwritten-more}
use Rattle.shapes.specs.Lists.{overwritten}
use Rattle.shapes.specs.Numbers.{entry, plus_zero}
use Rattle.shapes.specs.Tests.{every}
use Rattle.shapes.specs.Turns.{turns}
use Rattle.refine_operator.specs.Basis.{side, samples}
use Rattle.refine_operator.specs.Rows.{row_entry, stays, shifted, overlap_entry}
use Rattle.refine_operator.specs.Steps.{overlap_term, overlap_at, opposite, Mirrored}
use Rattle.refine_operator.proofs.NormalLaws.{product-comm}
use Rattle.refine_operator.proofs.WrittenLaws.{continued-none, written_entry}

-- ---- turns that begin later and end earlier
module _ (f g : ℕ → Float → Float) (late left : ℕ) (a : Float)
    (begins : (k : ℕ) → k < late → (x : Float) → f k x ≡ x) (same : (j : ℕ) → j < left → (x : Float) → f (late + j) x ≡ g j x)
    (ends : (k : ℕ) → k < late → (x : Float) → g (left + k) x ≡ x) where
  idle : (n : ℕ) → n ≤ late → turns n f a ≡ a
  unfolding turns
  idle zero h = refl
  idle (suc n) h = begins n h (turns n f a) ∙ idle n (omega arith)

  along : (n : ℕ) → n ≤ left → turns (late + n) f a ≡ turns n g a
  unfolding turns
  along zero h = ap (λ (k : ℕ). turns k f a) (add-zero late) ∙ idle late (omega arith)
  along (suc n) h = ap (λ (k : ℕ). turns k f a) (add-suc late n) ∙ same n h (turns (late + n) f a) ∙ ap (λ (x : Float). g n x) (along n (omega arith))

  rest : (n : ℕ) → n ≤ late → turns (left + n) g a ≡ turns left g a
  unfolding turns
  rest zero h = ap (λ (k : ℕ). turns k g a) (add-zero left)
  rest (suc n) h = ap (λ (k : ℕ). turns k g a) (add-suc left n) ∙ ends n h (turns (left + n) g a) ∙ rest n (omega arith)

  turns-shifted : turns (late + left) f a ≡ turns (late + left) g a
  turns-shifted = along left (omega arith) ∙ sym (rest late (omega arith)) ∙ ap (λ (k : ℕ). turns k g a) (add_comm left late)

-- ---- the samples that stay, by a test of every radius, shift and sample
abbrev both : ℕ → ℕ → ℕ → Bool
both radius d k = stays radius (k % side radius) (d % 3) && stays radius (k / side radius) (d / 3)

-- how many samples later the sample is from which the shift d leads to the first
abbrev later : ℕ → ℕ → ℕ
later radius d = cond (eqb radius 0) 1 (cond (eqb d 3) 1 (side radius + 1 - d))

abbrev leads : ℕ → ℕ → ℕ → Bool
leads radius d j =
    beq (both radius d (later radius d + j)) (both radius (8 - d) j)
    && (not (both radius (8 - d) j) || (eqb (shifted radius d (later radius d + j)) j && eqb (shifted radius (8 - d) j) (later radius d + j)))

abbrev opposed : ℕ → ℕ → Bool
opposed radius d =
    leb (later radius d) (samples radius)
    && (every (later radius d) (λ k. not (both radius d k))
    && (every (samples radius - later radius d) (leads radius d) && every (later radius d) (λ k. not (both radius (8 - d) (samples radius - later radius d + k)))))

all-opposed : every 8 (λ radius. every 4 (opposed radius)) ≡ true
unfolding every
all-opposed = refl

module _ (radius : ℕ) (m : List Float) (d r s : ℕ) (hr : radius < 8) (hd : d < 4) where
  abbrev left : ℕ
  left = samples radius - later radius d

  test : opposed radius d ≡ true
  test = every-at (opposed radius) 4 d hd (every-at (λ q. every 4 (opposed q)) 8 radius hr all-opposed)

  parts : (leb (later radius d) (samples radius) ≡ true) × (every (later radius d) (λ k. not (both radius d k)) ≡ true) × (every left (leads radius d) ≡ true) × (every (later radius d) (λ k. not (both radius (8 - d) (left + k))) ≡ true)
  parts =
      let a = second-of (leb (later radius d) (samples radius)) _ test in
      let b = second-of (every (later radius d) (λ k. not (both radius d k))) _ a in
      (first_of (leb (later radius d) (samples radius)) _ test, first_of (every (later radius d) (λ k. not (both radius d k))) _ a, first_of (every left (leads radius d)) _ b, second-of (every left (leads radius d)) _ b)

  -- a sample that does not stay leaves the sum
  leaves : (e p q k : ℕ) → not (both radius e k) ≡ true → (x : Float) → overlap_term radius m e p q k x ≡ x
  leaves e p q k h x = ap (λ (t : Bool). cond t (add binary64 x (mul binary64 (row_entry radius m p k) (row_entry radius m q (shifted radius e k)))) x) (not-true (both radius e k) h)

  meets : (j : ℕ) (t u : Bool) → both radius d (later radius d + j) ≡ t → both radius (8 - d) j ≡ u
      → (beq t u && (not u || (eqb (shifted radius d (later radius d + j)) j && eqb (shifted radius (8 - d) j) (later radius d + j)))) ≡ true → (x : Float)
      → cond t (add binary64 x (mul binary64 (row_entry radius m s (later radius d + j)) (row_entry radius m r (shifted radius d (later radius d + j))))) x
      ≡ cond u (add binary64 x (mul binary64 (row_entry radius m r j) (row_entry radius m s (shifted radius (8 - d) j)))) x
  meets j true true p q h x =
      let a = eqb-true (shifted radius d (later radius d + j)) j (first_of (eqb (shifted radius d (later radius d + j)) j) _ h) in
      let b = eqb-true (shifted radius (8 - d) j) (later radius d + j) (second-of (eqb (shifted radius d (later radius d + j)) j) _ h) in
      ap (λ (k : ℕ). add binary64 x (mul binary64 (row_entry radius m s (later radius d + j)) (row_entry radius m r k))) a
      ∙ ap (λ (z : Float). add binary64 x z) (product-comm binary64 (row_entry radius m s (later radius d + j)) (row_entry radius m r j))
      ∙ ap (λ (k : ℕ). add binary64 x (mul binary64 (row_entry radius m r j) (row_entry radius m s k))) (sym b)
  meets j true false p q h x = absurd (let z : ◌≡◌ {A = ℕ} 0 1 = cc in omega arith)
  meets j false true p q h x = absurd (let z : ◌≡◌ {A = ℕ} 0 1 = cc in omega arith)
  meets j false false p q h x = refl

  pub overlap-opposed : overlap_entry radius m d s r ≡ overlap_entry radius m (8 - d) r s
  unfolding overlap_entry
  overlap-opposed =
      ap (λ (n : ℕ). turns n (overlap_term radius m d s r) plus_zero) whole
      ∙ turns-shifted (overlap_term radius m d s r) (overlap_term radius m (8 - d) r s) (later radius d) left plus_zero
      (λ k h x. leaves d s r k (every-at (λ i. not (both radius d i)) (later radius d) k h parts.1) x)
      (λ j h x. meets j (both radius d (later radius d + j)) (both radius (8 - d) j) refl refl (every-at (leads radius d) left j h parts.2) x)
      (λ k h x. leaves (8 - d) r s (left + k) (every-at (λ i. not (both radius (8 - d) (left + i))) (later radius d) k h parts.3) x)
      ∙ ap (λ (n : ℕ). turns n (overlap_term radius m (8 - d) r s) plus_zero) (sym whole)
    where
      cut : (n e : ℕ) → e ≤ n → n ≡ e + (n - e)
      cut n e h = omega arith

      whole : samples radius ≡ later radius d + left
      whole = cut (samples radius) (later radius d) (leb-true (later radius d) (samples radius) parts.0)

-- ---- the overlaps from the sixth shift on
block_of : (a b c : ℕ) → b < 5 → c < 5 → (25 * a + 5 * b + c) / 25 ≡ a
block_of a b c h l = omega arith

row_of : (a b c : ℕ) → b < 5 → c < 5 → (25 * a + 5 * b + c) % 25 / 5 ≡ b
row_of a b c h l = omega arith

column-of : (a b c : ℕ) → b < 5 → c < 5 → (25 * a + 5 * b + c) % 5 ≡ c
column-of a b c h l = omega arith

pub opposite-is : (radius : ℕ) (m : List Float) → radius ≤ 7 → (i : ℕ) → 125 ≤ i → i < 225 → overlap_at radius m (opposite i) ≡ overlap_at radius m i
opposite-is radius m h i l u =
    let b : i % 5 < 5 = omega arith in
    let c : i % 25 / 5 < 5 = omega arith in
    ap (λ (k : ℕ). convert binary32 (overlap_entry radius m k (opposite i % 25 / 5) (opposite i % 5))) (block_of (8 - i / 25) (i % 5) (i % 25 / 5) b c)
    ∙ ap (λ (k : ℕ). convert binary32 (overlap_entry radius m (8 - i / 25) k (opposite i % 5))) (row_of (8 - i / 25) (i % 5) (i % 25 / 5) b c)
    ∙ ap (λ (k : ℕ). convert binary32 (overlap_entry radius m (8 - i / 25) (i % 5) k)) (column-of (8 - i / 25) (i % 5) (i % 25 / 5) b c)
    ∙ ap (λ (z : Float). convert binary32 z) (overlap-opposed radius m (8 - i / 25) (i % 25 / 5) (i % 5) (omega arith) (omega arith))
    ∙ ap (λ (k : ℕ). convert binary32 (overlap_entry radius m k (i % 25 / 5) (i % 5))) (let p : 8 - (8 - i / 25) ≡ i / 25 = omega arith in p)

-- ---- one more is copied
pub mirror-none : (l : List Float) → Mirrored 125 l l
mirror-none l = record { on = λ g h. continued-none 125 g l }

pub mirror-more : (n : ℕ) (l l' : List Float) (v : Float) → length l ≡ 225 → 125 ≤ n → n < 225 → Mirrored n l l' → v ≡ entry l' (opposite n) → Mirrored (n + 1) l (set l' n v)
mirror-more n l l' v e h u c p = record {
  on = λ g k.
      let d = c.on g k in record {
        on = λ old o q.
            let near : opposite n < n = earlier (n / 25) (n % 5) (n % 25 / 5) n (omega arith) (omega arith) (omega arith) (omega arith) in
            let s : l' ≡ overwritten n g old = d.on old (omega arith) q in
            ap (λ (x : List Float). set x n v) s
            ∙ overwritten-more n g old (omega arith) v (p ∙ ap (λ (x : List Float). entry x (opposite n)) s ∙ written_entry n (opposite n) g old near ∙ k n h u);
      };
}
  where
    earlier : (a b c n : ℕ) → 5 ≤ a → 25 * a ≤ n → b < 5 → c < 5 → 25 * (8 - a) + 5 * b + c < n
    earlier a b c n h l p q = omega arith

pub mirror-all : (n : ℕ) (l l' : List Float) → n ≡ 225 → Mirrored n l l' → Mirrored 225 l l'
mirror-all n l l' e c = subst (λ (k : ℕ). Mirrored k l l') e c
