-- The steps of the work: what each hands to the next.
use Rattle.std.specs.Prelude.{◌≡◌, ℕ, ◌+◌, ◌-◌, ◌*◌, ◌/◌, ◌%◌, ◌<◌, ◌≤◌, cond, ◌&&◌, List, length, Float, Result, Ok, Err}
use Rattle.std.specs.Float.{binary32, binary64}
use Rattle.std.specs.Float.Ieee.{add, mul}
use Rattle.floats.specs.Convert.{convert}
use Rattle.floats.specs.TotalOrder.{total_cmp}
use Rattle.shapes.specs.Lists.{tabulated, overwritten}
use Rattle.shapes.specs.Numbers.{entry, plus_zero, minus_zero}
use Rattle.shapes.specs.Turns.{turns}
use Rattle.refine_operator.specs.declared.NoInverse.{NoInverse}
use Rattle.refine_operator.specs.declared.Phi.{Phi}
use Rattle.refine_operator.specs.declared.Upper.{Upper}
use Rattle.refine_operator.specs.Basis.{side, offset, quadratic_basis, phi}
use Rattle.refine_operator.specs.Rows.{row_entry, stays, shifted, overlap_entry}
use Rattle.refine_operator.specs.Inverse.{Reduced, singular, reduced, better, pivot_of, swapped, scaled, cleared}

-- a list that is written front to back: what was written up to `from` is written on up to `to`
pub record Continued (from to : ℕ) (g : ℕ → Float) (l l' : List Float) : Type 0 where
  pub on : (old : List Float) → to ≤ length old → l ≡ overwritten from g old → l' ≡ overwritten to g old

-- ---- the regressors of a sample
abbrev pub phi_by : (ℕ → Float) → Phi
phi_by g = record { a = g 0; b = g 1; c = g 2; d = g 3; e = g 4; f = g 5 }

abbrev pub phi_at : ℕ → ℕ → ℕ → Phi
phi_at radius x y = phi_by (λ j. quadratic_basis j (offset radius x) (offset radius y))

-- ---- the sums of the normal matrix, on the diagonal and right of it
abbrev pub upper_by : (ℕ → ℕ → Float) → Upper
upper_by g = record { aa = g 0 0; ab = g 0 1; ac = g 0 2; ad = g 0 3; ae = g 0 4; af = g 0 5; bb = g 1 1; bc = g 1 2; bd = g 1 3; be = g 1 4; bf = g 1 5; cc = g 2 2; cd = g 2 3; ce = g 2 4; cf = g 2 5; dd = g 3 3; de = g 3 4; df = g 3 5; ee = g 4 4; ef = g 4 5; ff = g 5 5 }

abbrev pub upper_added : Upper → Phi → Upper
upper_added s p = record {
  aa = add binary64 s.aa (mul binary64 p.a p.a);
  ab = add binary64 s.ab (mul binary64 p.a p.b);
  ac = add binary64 s.ac (mul binary64 p.a p.c);
  ad = add binary64 s.ad (mul binary64 p.a p.d);
  ae = add binary64 s.ae (mul binary64 p.a p.e);
  af = add binary64 s.af (mul binary64 p.a p.f);
  bb = add binary64 s.bb (mul binary64 p.b p.b);
  bc = add binary64 s.bc (mul binary64 p.b p.c);
  bd = add binary64 s.bd (mul binary64 p.b p.d);
  be = add binary64 s.be (mul binary64 p.b p.e);
  bf = add binary64 s.bf (mul binary64 p.b p.f);
  cc = add binary64 s.cc (mul binary64 p.c p.c);
  cd = add binary64 s.cd (mul binary64 p.c p.d);
  ce = add binary64 s.ce (mul binary64 p.c p.e);
  cf = add binary64 s.cf (mul binary64 p.c p.f);
  dd = add binary64 s.dd (mul binary64 p.d p.d);
  de = add binary64 s.de (mul binary64 p.d p.e);
  df = add binary64 s.df (mul binary64 p.d p.f);
  ee = add binary64 s.ee (mul binary64 p.e p.e);
  ef = add binary64 s.ef (mul binary64 p.e p.f);
  ff = add binary64 s.ff (mul binary64 p.f p.f);
}

-- those of the first n samples
abbrev pub upper_at : ℕ → ℕ → Upper
upper_at radius n = upper_by (λ row col. turns n (λ k a. add binary64 a (mul binary64 (phi radius row k) (phi radius col k))) plus_zero)

-- ---- the pivot
-- the better of two rows, which is a row
pub record Better (m : List Float) (col best p r : ℕ) : Type 0 where
  pub is : r ≡ better m col best p (total_cmp (entry m (12 * best + col)) (entry m (12 * p + col)))
  pub row : r < 6

pub record Pivot (m : List Float) (col r : ℕ) : Type 0 where
  pub is : r ≡ pivot_of m col
  pub row : r < 6

-- ---- what reducing says and leaves
abbrev pub reduced_by : Result Unit NoInverse → List Float → Reduced
reduced_by (Ok u) m = reduced m
reduced_by (Err e) m = singular

-- the entry i after a column
abbrev pub reduced_at : ℕ → ℕ → List Float → ℕ → Float
reduced_at col pivot m i = entry (cleared col (scaled col (swapped col pivot m))) i

-- ---- the five entries of a sample
abbrev pub row_sum : List Float → ℕ → Phi → Float
row_sum m c p =
    add binary64 (add binary64 (add binary64 (add binary64 (add binary64 (add binary64 minus_zero
    (mul binary64 (entry m (12 * c + 6)) p.a))
    (mul binary64 (entry m (12 * c + 7)) p.b))
    (mul binary64 (entry m (12 * c + 8)) p.c))
    (mul binary64 (entry m (12 * c + 9)) p.d))
    (mul binary64 (entry m (12 * c + 10)) p.e))
    (mul binary64 (entry m (12 * c + 11)) p.f)

unfoldable pub five_at : ℕ → List Float → ℕ → ℕ → List Float
unfolding tabulated
five_at radius m x y = tabulated 5 (λ c. row_sum m c (phi_at radius x y))

abbrev pub column_at : ℕ → List Float → ℕ → Float
column_at radius m i = convert binary32 (row_entry radius m (i % 5) (i / 5))

-- ---- the 25 sums of a shift: that of row r here and row s there is number 5 * r + s
abbrev pub product_added : List Float → List Float → List Float → ℕ → Float
product_added l here there i = add binary64 (entry l i) (mul binary64 (entry here (i / 5)) (entry there (i % 5)))

unfoldable pub block_added : List Float → List Float → List Float → List Float
unfolding tabulated
block_added l here there = tabulated 25 (product_added l here there)

-- with the first s products of row r, after those of the rows before it
pub record FiveAdded (r s : ℕ) (here there l l' : List Float) : Type 0 where
  pub on : (old : List Float) → length old ≡ 25 → l ≡ overwritten (5 * r) (product_added old here there) old
      → l' ≡ overwritten (5 * r + s) (product_added old here there) old

-- with the sample at x and y, where its shift stays in the square
abbrev pub sample_added : ℕ → List Float → ℕ → ℕ → ℕ → List Float → List Float
sample_added radius m d x y l =
    cond (stays radius x (d % 3) && stays radius y (d / 3))
    (block_added l (five_at radius m x y) (five_at radius m (x + d % 3 - 1) (y + d / 3 - 1))) l

-- a sum's next term
abbrev pub overlap_term : ℕ → List Float → ℕ → ℕ → ℕ → ℕ → Float → Float
overlap_term radius m d r s k a =
    cond (stays radius (k % side radius) (d % 3) && stays radius (k / side radius) (d / 3))
    (add binary64 a (mul binary64 (row_entry radius m r k) (row_entry radius m s (shifted radius d k)))) a

-- after n samples
unfoldable pub sums_at : ℕ → List Float → ℕ → ℕ → List Float
unfolding tabulated
sums_at radius m d n = tabulated 25 (λ i. turns n (overlap_term radius m d (i / 5) (i % 5)) plus_zero)

abbrev pub overlap_at : ℕ → List Float → ℕ → Float
overlap_at radius m i = convert binary32 (overlap_entry radius m (i / 25) (i % 25 / 5) (i % 5))

-- the first n sums narrowed, into the block d
pub record BlockPut (d n : ℕ) (sums l l' : List Float) : Type 0 where
  pub on : (g : ℕ → Float) → ((i : ℕ) → i < 25 → convert binary32 (entry sums i) ≡ g (25 * d + i)) → Continued (25 * d) (25 * d + n) g l l'

-- ---- the opposite shift
-- where the overlap number i stands among the first five shifts, from the sixth on
abbrev pub opposite : ℕ → ℕ
opposite i = 25 * (8 - i / 25) + 5 * (i % 5) + i % 25 / 5

-- copied from there, up to n
pub record Mirrored (n : ℕ) (l l' : List Float) : Type 0 where
  pub on : (g : ℕ → Float) → ((i : ℕ) → 125 ≤ i → i < 225 → g (opposite i) ≡ g i) → Continued 125 n g l l'
