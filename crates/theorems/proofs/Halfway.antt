-- A corner halfway between two pixels: of two that lie in each other's window and are above all others there, exactly one is a peak; of equal values the earlier.
-- Each is a peak exactly where it beats the other, and one of the two is earlier in the other's window: it needs `<=` where the other needs `<`.
use mathlib.Core.Path.{◌≡◌, refl, sym, ap, ◌∙◌, subst}
use mathlib.Core.Logic.{⊎_elim}
use mathlib.Core.Bool.{Bool, true, false, false≢true}
use mathlib.Core.List.{List}
use Prim.Native.Nat.{ℕ, suc, ◌+◌, ◌-◌, ◌*◌, ◌/◌, ◌%◌, ◌≤◌, ◌<◌}
use native.Mathlib.Nat.{suc-mul, mul-le-mul_right, mod-lt, div-lt_iff_lt-mul, div-add-mod', eq-or-lt_of_le}
use native.Mathlib.Omega.{arith}
use lib.Dec.{leb, eqb}
use lib.IntN.{ℤ}
use lib.ListN.{length}
use lib.Ieee.{Float, nan, inf, fin, lt, le}
use borrow.Author.Tests.{eqb-true, eqb-false}
use Rattle.floats.proofs.OrderLaws.{lt_irrefl, lt_not_le}
use Rattle.imageview.specs.Image.{Image}
use Rattle.pixel_response.specs.Near.{Near}
use Rattle.response.specs.Demand.{DemandThree}
use Rattle.peaks.specs.Peak.{Scan, value_at, floor_of, inside, side, cells, middle, neighbour, beats, highest, positives, is_peak}
use Rattle.peaks.proofs.PeakLaws.{lt-or-le, peak-by, not-highest}
use Rattle.peaks.proofs.WindowLaws.{beats-before, beats-after, middle-is}
use Rattle.peaks.proofs.Theorems.{is-highest, is-inside, number, number-value, not_itself, mirrored, itself}
use Rattle.board_theorems.proofs.OrderMore.{not-le-lt}
use Rattle.theorems.specs.Claims.{whole, scan_above, Other, InWindow, AboveOthers, ExactlyOne, first, second, HalfwayIsOne, HalfwayIsFirst}
use Rattle.theorems.proofs.PixelLaws.{stands_at, framed, framed-clear, beats-exceeded, highest-by}

-- a pixel of the window has the number that its place gives it
numbered : (s : Scan) (x y k a b : ℕ) → s.window ≤ x → s.window ≤ y → a ≡ x + k % side s - s.window → b ≡ y + k / side s - s.window → k ≡ number s x y a b
numbered s x y k a b h l e f =
    sym (div-add-mod' k (side s))
    ∙ ap (λ (r : ℕ). r * side s + k % side s) (back y (k / side s) b l f)
    ∙ ap (λ (c : ℕ). (b + s.window - y) * side s + c) (back x (k % side s) a h e)
  where
    back : (x c a : ℕ) → s.window ≤ x → a ≡ x + c - s.window → c ≡ a + s.window - x
    back x c a h e = omega arith

-- ---- a pixel that is above all of its window but itself and another is a peak exactly where it beats that one
module _ {P : ℕ} {img : Image} {ring : List ℤ} {radius : ℕ} {values : List Float} (window refine cluster : ℕ) (threshold : Float) (d : DemandThree P img ring radius (whole img) values) (size : length values ≡ img.height * img.width) (x y a b : ℕ) where
  abbrev s : Scan
  s = scan_above threshold img radius values window refine cluster

  module _ (here : inside s x y ≡ true) (other : Other x y a b) (near : InWindow window x y a b) (most : AboveOthers img ring window x y a b) where
    abbrev decides : Bool
    decides = beats s (number s x y a b) (value_at s x y) (value_at s a b)

    third : (k : ℕ) → k < cells s → (k ≡ middle s → ⊥) → (k ≡ number s x y a b → ⊥) → beats s k (value_at s x y) (neighbour s x y k) ≡ true
    third k h m n =
        let f = framed s x y here in
        let u : window ≤ x = omega (arith, f.left) in
        let v : window ≤ y = omega (arith, f.above) in
        let c = reached x (k % side s) u (mod-lt k (omega arith)) in
        let r = reached y (k / side s) v ((div-lt_iff_lt-mul {k = side s} {x = k} {y = side s} (omega arith)).1 h) in
        beats-exceeded window refine cluster threshold d size x y here k h
        (most (x + k % side s - window) (y + k / side s - window) (c.0, c.1, r.0, r.1)
        (λ e. m (numbered s x y k x y u v e.0 e.1 ∙ own ∙ sym (middle-is s)))
        (λ e. n (numbered s x y k a b u v e.0 e.1)))
      where
        reached : (x c : ℕ) → window ≤ x → c < 2 * window + 1 → (x ≤ x + c - window + window) × (x + c - window ≤ x + window)
        reached x c h l = (omega arith, omega arith)

        own : number s x y x y ≡ window * side s + window
        own = ap (λ (r : ℕ). r * side s + (x + window - x)) (let e : y + window - y ≡ window = omega arith in e) ∙ ap (λ (c : ℕ). window * side s + c) (let e : x + window - x ≡ window = omega arith in e)

    wins : decides ≡ true → (k : ℕ) → k < cells s → (k ≡ middle s → ⊥) → beats s k (value_at s x y) (neighbour s x y k) ≡ true
    wins e k h m = by (eqb k (number s x y a b)) refl
      where
        by : (v : Bool) → eqb k (number s x y a b) ≡ v → beats s k (value_at s x y) (neighbour s x y k) ≡ true
        by true q =
            subst (λ (i : ℕ). beats s i (value_at s x y) (neighbour s x y i) ≡ true) (sym (eqb-true k (number s x y a b) q))
            (ap (λ (w : Float). beats s (number s x y a b) (value_at s x y) w) (number-value s x y a b near.0 near.1 near.2 near.3) ∙ e)
        by false q = third k h m (eqb-false k (number s x y a b) q)

    loses : decides ≡ false → highest s x y ≡ false
    loses e = by (highest s x y) refl
      where
        by : (v : Bool) → highest s x y ≡ v → v ≡ false
        by true q = sym (not_itself s x y a b near.0 near.1 near.2 near.3 (λ m. other (itself s x y a b near.0 near.1 near.2 near.3 m)) q) ∙ e
        by false q = refl

    peak-where : lt (floor_of s) (value_at s x y) ≡ true → leb cluster (positives s x y) ≡ true → is_peak s x y ≡ decides
    unfolding value_at
    peak-where f c = by decides refl
      where
        by : (v : Bool) → decides ≡ v → is_peak s x y ≡ v
        by true e = sym (peak-by s x y here f (highest-by s x y (wins e))) ∙ c
        by false e = sym (not-highest s x y (loses e))

-- ---- of two numbers, v is above w or at most w, and not both
valued : (v : Float) {P plus minus : ℕ} → Near P v plus minus → lt v (inf false) ≡ true
unfolding lt
valued nan n = absurd n.size
valued (inf t) n = absurd n.size
valued (fin t m e) n = refl

one_of : (v w : Float) {p q : Bool} → lt v (inf false) ≡ true → lt w (inf false) ≡ true → p ≡ lt w v → q ≡ le v w → ExactlyOne p q
one_of v w {p} {q} h l e f = by (lt w v) (le v w) refl refl
  where
    by : (c d : Bool) → lt w v ≡ c → le v w ≡ d → ExactlyOne p q
    by true d k m = first (e ∙ k) (f ∙ lt_not_le w v k)
    by false true k m = second (e ∙ k) (f ∙ m)
    by false false k m = absurd (false≢true (sym k ∙ not-le-lt v w h l m))

exchanged : {p q : Bool} → ExactlyOne p q → ExactlyOne q p
exchanged (first e f) = second f e
exchanged (second e f) = first f e

pub halfway-is-one : HalfwayIsOne
halfway-is-one P img ring radius values window refine cluster threshold d size x y a b here there other near most most' above above' many many' =
    ⊎_elim
    (λ l. one_of (value_at s x y) (value_at s a b) v w (mine ∙ beats-before s j (value_at s x y) (value_at s a b) l) (others ∙ beats-after s i (value_at s a b) (value_at s x y) (omega (arith, m))))
    (λ g. ⊎_elim (λ e. absurd (other (itself s x y a b near.0 near.1 near.2 near.3 (sym e))))
    (λ l. exchanged (one_of (value_at s a b) (value_at s x y) w v (others ∙ beats-before s i (value_at s a b) (value_at s x y) (omega (arith, m))) (mine ∙ beats-after s j (value_at s x y) (value_at s a b) l)))
    (eq-or-lt_of_le g))
    (lt-or-le j (middle s))
  where
    s : Scan
    s = scan_above threshold img radius values window refine cluster

    j : ℕ
    j = number s x y a b

    i : ℕ
    i = number s a b x y

    m : j + i ≡ middle s + middle s
    m = mirrored s x y a b near.0 near.1 near.2 near.3

    v : lt (value_at s x y) (inf false) ≡ true
    v = valued (value_at s x y) (stands_at img radius values window refine threshold cluster size (framed-clear (framed s x y here)) d)

    w : lt (value_at s a b) (inf false) ≡ true
    w = valued (value_at s a b) (stands_at img radius values window refine threshold cluster size (framed-clear (framed s a b there)) d)

    mine : is_peak s x y ≡ beats s j (value_at s x y) (value_at s a b)
    mine = peak-where window refine cluster threshold d size x y a b here other near most above many

    others : is_peak s a b ≡ beats s i (value_at s a b) (value_at s x y)
    others = peak-where window refine cluster threshold d size a b x y there (λ e. other (sym e.0, sym e.1)) (near.1, near.0, near.3, near.2) most' above' many'

-- ---- the earlier of two equal values
-- a number past the middle one is a later pixel
module _ (s : Scan) (x y a b : ℕ) (left : a ≤ x + s.window) (right : x ≤ a + s.window) (high : b ≤ y + s.window) (past : middle s < number s a b x y) where
  not-above : y < b → ⊥
  not-above l =
      no ((y + s.window - b) * side s) (s.window * side s) (middle s) (suc-mul (y + s.window - b) (side s))
      (mul-le-mul_right (side s) (let e : suc (y + s.window - b) ≤ s.window = omega arith in e)) (middle-is s) past
    where
      no : (p q m : ℕ) → suc (y + s.window - b) * side s ≡ p + side s → suc (y + s.window - b) * side s ≤ q → m ≡ q + s.window → m < p + (x + s.window - a) → ⊥
      no p q m e h f l = omega arith

  own_row : b ≡ y → a < x
  own_row e =
      on (s.window * side s) (middle s) (number s a b x y) (middle-is s)
      (ap (λ (r : ℕ). r * side s + (x + s.window - a)) (let f : y + s.window - b ≡ s.window = omega arith in f)) past
    where
      on : (q m i : ℕ) → m ≡ q + s.window → i ≡ q + (x + s.window - a) → m < i → a < x
      on q m i e f l = omega arith

  later : a < s.width → b * s.width + a < y * s.width + x
  later h = ⊎_elim (λ l. absurd (not-above l)) (λ l. ⊎_elim level lower (eq-or-lt_of_le l)) (lt-or-le y b)
    where
      level : b ≡ y → b * s.width + a < y * s.width + x
      level e = subst (λ (r : ℕ). b * s.width + a < r * s.width + x) e (let l = own_row e in omega arith)

      after : (p q r : ℕ) → r ≡ p + s.width → r ≤ q → p + a < q + x
      after p q r e l = omega arith

      lower : b < y → b * s.width + a < y * s.width + x
      lower l = after (b * s.width) (y * s.width) (suc b * s.width) (suc-mul b s.width) (mul-le-mul_right s.width l)

pub halfway-is-first : HalfwayIsFirst
halfway-is-first s x y a b peak near other same =
    ⊎_elim (λ l. absurd (false≢true (sym (lt_irrefl (value_at s a b)) ∙ ap (λ (v : Float). lt v (value_at s a b)) (sym same) ∙ sym (beats-before s i (value_at s a b) (value_at s x y) l) ∙ beaten)))
    (λ g. ⊎_elim (λ e. absurd (apart (sym e))) (λ l. later s x y a b near.1 near.0 near.3 l (omega (arith, (framed s a b (is-inside s a b peak)).right))) (eq-or-lt_of_le g))
    (lt-or-le i (middle s))
  where
    i : ℕ
    i = number s a b x y

    apart : i ≡ middle s → ⊥
    apart e = let p = itself s a b x y near.1 near.0 near.3 near.2 e in other (sym p.0, sym p.1)

    beaten : beats s i (value_at s a b) (value_at s x y) ≡ true
    beaten = not_itself s a b x y near.1 near.0 near.3 near.2 apart (is-highest s a b peak)
