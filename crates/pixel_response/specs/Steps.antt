-- The steps of the work: what one quarter of the ring gives, and what a pass over pixels that lie side by side leaves, element by element.
use Rattle.std.specs.Prelude.{◌≡◌, List, ℕ, ◌+◌, ◌-◌, ◌*◌, ◌≤◌, ◌<◌, length, get_or}
use Rattle.pixel_response.specs.Samples.{apart}

-- a result with an upper bound
pub record Bounded (v b r : ℕ) : Type 0 where
  pub is : r ≡ v
  pub most : r ≤ b

-- four samples, none above the bound
pub record AtMost (most a b c d : ℕ) : Type 0 where
  pub first : a ≤ most
  pub second : b ≤ most
  pub third : c ≤ most
  pub fourth : d ≤ most

-- four levels of at most twelve bits
abbrev pub Levels : ℕ → ℕ → ℕ → ℕ → Type 0
Levels = AtMost 4095

-- a quarter of the ring is the samples k, k + 4, k + 8 and k + 12: its square, its two edges and its sum
unfoldable pub square_of : ℕ → ℕ → ℕ → ℕ → ℕ
unfolding apart
square_of a b c d = apart (a + c) (b + d)

unfoldable pub edges_of : ℕ → ℕ → ℕ → ℕ → ℕ
unfolding apart
edges_of a b c d = apart a c + apart b d

abbrev pub sum_of : ℕ → ℕ → ℕ → ℕ → ℕ
sum_of a b c d = a + b + c + d

abbrev pub cross_of : ℕ → ℕ → ℕ → ℕ → ℕ → ℕ
cross_of a b c d e = a + b + c + d + e

-- the samples that a list holds
abbrev pub listed : List ℕ → ℕ → ℕ
listed l k = get_or l k 0

-- quarter k of the samples s
abbrev pub quarter_of : (ℕ → ℕ → ℕ → ℕ → ℕ) → (ℕ → ℕ) → ℕ → ℕ
quarter_of f s k = f (s k) (s (k + 4)) (s (k + 8)) (s (k + 12))

-- n elements or more, of which the first n are at most b
pub record Room (n b : ℕ) (l : List ℕ) : Type 0 where
  pub long : n ≤ length l
  pub most : (i : ℕ) → i < n → get_or l i 0 ≤ b

-- f i, at most b, was added to each of the first n elements
pub record Added (n b : ℕ) (f : ℕ → ℕ) (before after : List ℕ) : Type 0 where
  pub same : length after ≡ length before
  pub here : (i : ℕ) → i < n → get_or after i 0 ≡ get_or before i 0 + f i
  pub past : (i : ℕ) → n ≤ i → get_or after i 0 ≡ get_or before i 0
  pub most : (i : ℕ) → i < n → f i ≤ b

-- f 0, f 1, .. were written to the n elements from x on; d is what stands past an end
pub record Wrote {A : Type 0} (d : A) (n x : ℕ) (f : ℕ → A) (before after : List A) : Type 0 where
  pub same : length after ≡ length before
  pub ahead : (i : ℕ) → i < x → get_or after i d ≡ get_or before i d
  pub here : (i : ℕ) → i < n → get_or after (x + i) d ≡ f i
  pub past : (i : ℕ) → x + n ≤ i → get_or after i d ≡ get_or before i d

-- ---- one quarter added for each of n pixels that lie side by side, where a i, b i, c i and d i are pixel i's samples, each below P
pub record AddedQuarter (P n : ℕ) (a b c d : ℕ → ℕ) (square edge sum square' edge' sum' : List ℕ) : Type 0 where
  pub squares : Added n (2 * (P - 1)) (λ i. square_of (a i) (b i) (c i) (d i)) square square'
  pub edges : Added n (2 * (P - 1)) (λ i. edges_of (a i) (b i) (c i) (d i)) edge edge'
  pub sums : Added n (4 * (P - 1)) (λ i. sum_of (a i) (b i) (c i) (d i)) sum sum'

-- three quarters' sums or less, so that a fourth fits
pub record Spare (P n : ℕ) (square edge sum : List ℕ) : Type 0 where
  pub squares : Room n (12 * (P - 1)) square
  pub edges : Room n (12 * (P - 1)) edge
  pub sums : Room n (12 * (P - 1)) sum

-- parts of one length, at most 64
pub record Abreast {A : Type 0} (a b c d : List A) : Type 0 where
  pub few : length a ≤ 64
  pub second : length b ≡ length a
  pub third : length c ≡ length a
  pub fourth : length d ≡ length a
