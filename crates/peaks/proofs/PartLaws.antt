-- The peaks of some columns of a row, and what of the row they leave.
use mathlib.Core.Path.{◌≡◌, refl, sym, ap, ◌∙◌, subst}
use mathlib.Core.Bool.{Bool, true, false, ◌&&◌, ◌||◌, false≢true}
use lib.Dec.{leb, ltb}
use borrow.Author.Tests.{leb-true, leb-false, ltb-true}
use mathlib.Core.List.{List, ◌++◌, append-nil}
use Prim.Native.Nat.{ℕ, ◌+◌, ◌-◌, ◌*◌, ◌/◌, ◌%◌, ◌≤◌, ◌<◌}
use native.Mathlib.Nat.{mul_comm, div-add-mod', mod-lt, div-lt_iff_lt-mul}
use native.Mathlib.Omega.{arith}
use lib.Arith.{digits_div, digits_mod}
use lib.ListN.{length, get_or, length-append}
use lib.Ieee.{nan, lt, le}
use Rattle.peaks.specs.Peak.{Scan, border, floor_of, is_peak}
use Rattle.peaks.specs.Call.{peak_at}
use Rattle.peaks.specs.Sound.{Sound}
use Rattle.peaks.specs.Listed.{between, picked}
use Rattle.peaks.specs.Steps.{run_at, Bordered, InsideBorder, stands_out, beats_six, may_peak, Part}
use Rattle.shapes.proofs.TestLaws.{every-miss}
use Rattle.peaks.proofs.PeakLaws.{not-highest, not-above, right-out, above-out, below_out, within}
use Rattle.peaks.proofs.WindowLaws.{lost-left, lost-right}
use Rattle.peaks.proofs.FrameLaws.{in_row, size-most}
use Rattle.peaks.proofs.ListLaws.{between-cut, between-clear, between-most, picked-between, picked_both}
use Rattle.peaks.proofs.NarrowLaws.{one_of, rim, rim-below, six-peak}

-- one of three tests fails
three : {P : Type 0} (a b c : Bool) → (a && b && c) ≡ false → (a ≡ false → P) → (b ≡ false → P) → (c ≡ false → P) → P
three false b c e f g h = f refl
three true false c e f g h = g refl
three true true c e f g h = h e

-- one of two tests holds, or the second fails
either : {P : Type 0} (a b : Bool) → (a || b) ≡ true → (a ≡ true → P) → (b ≡ true → P) → P
either true b e f g = f refl
either false b e f g = g e

neither : (a b : Bool) → (a || b) ≡ false → b ≡ false
neither true b e = absurd (false≢true (sym e))
neither false b e = e

module _ (s : Scan) where
  at-pixel : (x y : ℕ) → x < s.width → peak_at s (y * s.width + x) ≡ is_peak s x y
  at-pixel x y h = ap (λ (z : ℕ). is_peak s z ((y * s.width + x) / s.width)) (digits_mod y h) ∙ ap (λ (z : ℕ). is_peak s x z) (digits_div y h)

  -- a pixel of row y by its number
  by_number : (y k : ℕ) → y * s.width ≤ k → k < y * s.width + s.width → peak_at s k ≡ is_peak s (k - y * s.width) y
  by_number y k h l = ap (peak_at s) (let e : k ≡ y * s.width + (k - y * s.width) = omega arith in e) ∙ at-pixel (k - y * s.width) y (omega arith)

  -- what does not stand out is no peak
  out-peak : (x y : ℕ) → 1 ≤ s.window → s.window ≤ x → s.window ≤ y → stands_out s.values (floor_of s) (y * s.width + x) ≡ false → is_peak s x y ≡ false
  out-peak x y one a b f =
      let at = y * s.width + x in
      let v = get_or s.values at nan in
      three (lt (floor_of s) v) (lt (get_or s.values (at - 1) nan) v) (le (get_or s.values (at + 1) nan) v) f
      (λ g. sym (not-above s x y g))
      (λ g. sym (not-highest s x y (sym (lost-left s x y a b (every-miss (λ i. lt (run_at s.values (at - s.window) i) v) s.window (s.window - 1) (omega arith)
      (ap (λ (k : ℕ). lt (get_or s.values k nan) v) (let q : at - s.window + (s.window - 1) ≡ at - 1 = omega arith in q) ∙ g))))))
      (λ g. sym (not-highest s x y (sym (lost-right s x y a b (every-miss (λ i. le (run_at s.values (at + 1) i) v) s.window 0 (omega arith)
      (ap (λ (k : ℕ). le (get_or s.values k nan) v) (let q : at + 1 + 0 ≡ at + 1 = omega arith in q) ∙ g))))))

-- ---- some columns of a row
module _ {s : Scan} {y start n : ℕ} (b : Bordered s y start n) where
  pub columns-fit : (y * s.width + start + n + 1 ≤ length s.values) × (length s.values ≤ 16777216)
  columns-fit =
      let w = b.sound.window-least in
      let h = in_row s start y (n + 1) b.sound (let r = b.right in omega arith) (let r = b.below in omega arith) in
      (omega arith, size-most s b.sound)

  pub columns-first : 1 ≤ y * s.width + start
  columns-first = let l = b.left in let w = b.sound.window-least in omega arith

  -- the last row of their windows
  pub columns-foot : (y + s.window) * s.width + start + n ≤ length s.values
  columns-foot = in_row s start (y + s.window) n b.sound (let r = b.right in omega arith) (let r = b.below in omega arith)

  column-of : (k : ℕ) → y * s.width + start ≤ k → k < y * s.width + start + n → (y * s.width ≤ k) × (k < y * s.width + s.width) × (start ≤ k - y * s.width) × (k - y * s.width < start + n)
  column-of k h l = let r = b.right in (omega arith, omega arith, omega arith, omega arith)

  -- one of them by its number: it is of row y and inside the border, so it has three values above and three below
  pub column-inside : (k : ℕ) → y * s.width + start ≤ k → k < y * s.width + start + n
      → (y * s.width ≤ k) × InsideBorder s (k - y * s.width) y × (peak_at s k ≡ is_peak s (k - y * s.width) y) × (s.width + 1 ≤ k) × (k + s.width + 2 ≤ length s.values)
  column-inside k h l =
      let c = column-of k h l in
      let i = within b (k - y * s.width) c.2 c.3 in
      let above = rim s (k - y * s.width) y i.framed in
      let below = rim-below s (k - y * s.width) y i.framed in
      (c.0, i, by_number s y k c.0 c.1, omega (arith, c.0), omega (arith, c.0))

  no-peak : (k : ℕ) → y * s.width + start ≤ k → k < y * s.width + start + n → may_peak s.values (floor_of s) s.width k ≡ false → peak_at s k ≡ false
  no-peak k h l e =
      let c = column-of k h l in
      let x = k - y * s.width in
      let f = (within b x c.2 c.3).framed in
      let q : y * s.width + x ≡ k = omega (arith, c.0) in
      by_number s y k c.0 c.1
      ∙ one_of (stands_out s.values (floor_of s) k) (beats_six s.values s.width k) e
      (λ g. out-peak s x y b.sound.window-least f.left f.above (ap (stands_out s.values (floor_of s)) q ∙ g))
      (λ g. six-peak s x y (s.window - 1) (omega (arith, b.sound.window-least)) f.left f.above (rim s x y f) (ap (beats_six s.values s.width) q ∙ g))

  -- of those that stand out, those that beat the six; of these the peaks are all peaks
  pub columns-narrowed : picked (between (y * s.width + start) n (stands_out s.values (floor_of s))) (beats_six s.values s.width) ≡ between (y * s.width + start) n (may_peak s.values (floor_of s) s.width)
  columns-narrowed = picked_both (beats_six s.values s.width) (stands_out s.values (floor_of s)) (y * s.width + start) n

  pub columns-peaks : picked (between (y * s.width + start) n (may_peak s.values (floor_of s) s.width)) (peak_at s) ≡ between (y * s.width + start) n (peak_at s)
  columns-peaks = picked-between (peak_at s) (may_peak s.values (floor_of s) s.width) (y * s.width + start) n no-peak

-- ---- a part of the row of pixel k
module _ {s : Scan} (t : Sound s) (k : ℕ) (h : k < length s.values) where
  abbrev y : ℕ
  y = k / s.width

  abbrev x : ℕ
  x = k % s.width

  pub pixel-is : y * s.width + x ≡ k
  pixel-is = div-add-mod' k s.width

  pub column-less : x < s.width
  column-less = mod-lt k {m = s.width} (let w = t.wide in omega arith)

  pub row-less : y < s.height
  row-less = (div-lt_iff_lt-mul {k = s.width} {x = k} {y = s.height} (let w = t.wide in omega arith)).1 (subst (λ (z : ℕ). k < z) (t.size ∙ mul_comm s.width s.height) h)

  pub row-end : (y * s.width + s.width ≤ length s.values) × (length s.values ≤ 16777216)
  row-end = (let l = in_row s 0 y s.width t (omega arith) row-less in omega arith, size-most s t)

  clear : (from bound : ℕ) → bound ≤ s.width → ((j : ℕ) → from ≤ j → j < bound → is_peak s j y ≡ false) → (i : ℕ) → y * s.width + from ≤ i → i < y * s.width + bound → peak_at s i ≡ false
  clear from bound l none i f g = by_number s y i (omega arith) (omega arith) ∙ none (i - y * s.width) (omega arith) (omega arith)

  -- whether the row or the columns from x on are outside the border
  pub row-outside : {b : ℕ} → b ≡ border s → (ltb y b || leb s.height (y + b) || leb s.width (x + b)) ≡ true → (j : ℕ) → x ≤ j → j < s.width → is_peak s j y ≡ false
  row-outside {b} e f j u v =
      either (ltb y b || leb s.height (y + b)) (leb s.width (x + b)) f
      (λ f.
      either (ltb y b) (leb s.height (y + b)) f (λ g. above-out s j y (let l = ltb-true y b g in omega (arith, e, l))) (λ g. below_out s j y (let l = leb-true s.height (y + b) g in omega (arith, e, l))))
      (λ g. right-out s j y (let l = leb-true s.width (x + b) g in omega (arith, e, l)))

  pub row-inside : {b : ℕ} → b ≡ border s → (ltb y b || leb s.height (y + b) || leb s.width (x + b)) ≡ false → x + b < s.width
  row-inside {b} e f = leb-false s.width (x + b) (neither (ltb y b || leb s.height (y + b)) (leb s.width (x + b)) f)

  pub skipped : (list : List ℕ) (bound : ℕ) → x < bound → bound ≤ s.width → ((j : ℕ) → x ≤ j → j < bound → is_peak s j y ≡ false) → Part s list list k (y * s.width + bound)
  skipped list bound f g none =
      let e = pixel-is in
      record {
        on = omega arith;
        most = let r = row-end.0 in omega arith;
        few = omega arith;
        added = sym (ap (λ (z : List ℕ). list ++ z) (between-clear (peak_at s) k (y * s.width + bound - k) (λ i u v. clear x bound g none i (omega (arith, e)) (omega (arith, e)))) ∙ append-nil list);
      }

  part_of : {list list' : List ℕ} (n next : ℕ) → n ≤ 256 → k + n ≤ next → k < next → next ≤ length s.values → ((i : ℕ) → k + n ≤ i → i < next → peak_at s i ≡ false)
      → list' ≡ list ++ between (y * s.width + x) n (peak_at s) → Part s list list' k next
  part_of {list} {list'} n next small l on most none a =
      record {
        on = on;
        most = most;
        few = let e = ap length a in let u = between-most (peak_at s) (y * s.width + x) n in omega (arith, length-append list (between (y * s.width + x) n (peak_at s)));
        added =
            a ∙ ap (λ (z : List ℕ). list ++ z)
            (ap (λ (z : ℕ). between z n (peak_at s)) pixel-is ∙ sym (append-nil (between k n (peak_at s)))
            ∙ ap (λ (z : List ℕ). between k n (peak_at s) ++ z) (sym (between-clear (peak_at s) (k + n) (next - k - n) (λ i u v. none i u (omega arith))))
            ∙ sym (between-cut (peak_at s) k n (next - k - n)) ∙ ap (λ (z : ℕ). between k z (peak_at s)) (let e : n + (next - k - n) ≡ next - k = omega arith in e));
      }

  -- the last columns inside the border
  pub part-last : {list list' : List ℕ} (n : ℕ) → x + n + border s ≡ s.width → n ≤ 256 → list' ≡ list ++ between (y * s.width + x) n (peak_at s) → Part s list list' k (y * s.width + s.width)
  part-last n e small a =
      let p = pixel-is in
      let c = column-less in
      part_of n (y * s.width + s.width) small (omega arith) (omega arith) row-end.0
      (λ i u v. clear (x + n) s.width (let l : s.width ≤ s.width = omega arith in l) (λ j f g. right-out s j y (omega arith)) i (omega (arith, p)) v) a

  -- others
  pub part-inner : {list list' : List ℕ} → x + 256 + border s ≤ s.width → list' ≡ list ++ between (y * s.width + x) 256 (peak_at s) → Part s list list' k (k + 256)
  part-inner l a =
      let p = pixel-is in
      let e = row-end.0 in
      part_of 256 (k + 256) (omega arith) (omega arith) (omega arith) (omega arith) (λ i u v. absurd (let z : ⊥ = omega arith in z)) a
