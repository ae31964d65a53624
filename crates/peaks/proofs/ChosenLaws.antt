-- The peaks up to a pixel, listed and written.
use mathlib.Core.Path.{◌≡◌, refl, sym, ap, ◌∙◌, subst}
use mathlib.Core.List.{List, [], ◌∷◌, ◌++◌, append-nil, append_assoc}
use Prim.Native.Nat.{ℕ, ◌+◌, ◌-◌, ◌*◌, ◌/◌, ◌%◌, ◌≤◌, ◌<◌}
use native.Mathlib.Nat.{add-zero, add_assoc, div-add-mod', mod-lt}
use native.Mathlib.Numerals.{add-one}
use native.Mathlib.Omega.{arith}
use lib.IntN.{pos}
use lib.ListN.{length, get_or, drop, take, length-append, length-drop}
use lib.Seq.{take-suc, length-take-le, take_at, drop-drop, drop-append-add}
use lib.Ieee.{Float, nan, binary32, of_int}
use Rattle.corners.specs.Corners.{corner, recorded}
use Rattle.corners.proofs.CornerLaws.{recorded-parts}
use Rattle.peaks.specs.Peak.{Scan, value_at}
use Rattle.peaks.specs.Call.{chosen, peak_at, peaks_of, records_of}
use Rattle.peaks.specs.Sound.{Sound}
use Rattle.peaks.specs.Listed.{between}
use Rattle.peaks.specs.Steps.{Part, Stands, Noted, Pixels, Follow, Written, all_recorded}
use Rattle.peaks.proofs.ListLaws.{between-at, chosen_none, chosen-most, chosen-below, chosen-up-to}
use Rattle.peaks.proofs.PartLaws.{row-less}

module _ (s : Scan) where
  -- the peaks before a pixel
  abbrev up_to : ℕ → List ℕ
  up_to k = chosen k (peak_at s)

  -- ---- the row and the column of a pixel
  pub column-most : (k : ℕ) → Sound s → k % s.width < 4096
  column-most k t = let h = mod-lt k {m = s.width} (let w = t.wide in omega arith) in let w = t.width-most in omega arith

  pub row-most : (k : ℕ) → Sound s → k < length s.values → k / s.width < 4096
  row-most k t h = let l = row-less t k h in let m = t.height-most in omega arith

  -- ---- where the scan stands
  all-peaks : Sound s → up_to (length s.values) ≡ peaks_of s
  unfolding peaks_of
  all-peaks t = ap up_to t.size

  pub stands-first : Stands s 0 0
  stands-first = (sym (ap length (chosen_none (peak_at s))), omega arith)

  pub stands-most : {n k : ℕ} → Stands s n k → n ≤ length s.values
  stands-most {n} {k} (a, b) = let h = chosen-most (peak_at s) k in omega arith

  at-end : (k : ℕ) → Sound s → k ≤ length s.values → length s.values ≤ k → up_to k ≡ peaks_of s
  at-end k t h l = ap up_to (let e : k ≡ length s.values = omega arith in e) ∙ all-peaks t

  pub stands-last : (n k : ℕ) → Sound s → Stands s n k → length s.values ≤ k → n ≡ length (peaks_of s)
  stands-last n k t (a, b) h = a ∙ ap length (at-end k t b h)

  pub stands-room : (n k : ℕ) → Sound s → Stands s n k → n ≤ length (peaks_of s)
  stands-room n k t (a, b) =
      let e = ap length (sym (chosen-up-to (peak_at s) k (length s.values) b) ∙ all-peaks t) in
      omega (arith, a, length-append (up_to k) (between k (length s.values - k) (peak_at s)))

  module _ {list list' : List ℕ} {k next : ℕ} (part : Part s list list' k next) where
    abbrev new : List ℕ
    new = between k (next - k) (peak_at s)

    part-chosen : up_to next ≡ up_to k ++ new
    part-chosen = chosen-up-to (peak_at s) k next (let h = part.on in omega arith)

    pub stands-next : (n : ℕ) → Stands s n k → (length list ≤ length list') × Stands s (n + (length list' - length list)) next
    stands-next n (a, b) =
        let e = ap length part.added ∙ length-append list new in
        let l = ap length part-chosen ∙ length-append (up_to k) new in
        (omega arith, (omega arith, part.most))

    pub noted-next : Noted s list k → length list ≤ 768 → Noted s list' next
    noted-next n h = record { within = part.most; few = let f = part.few in omega arith; listed = part.added ∙ ap (λ (z : List ℕ). z ++ new) n.listed ∙ sym part-chosen }

    -- what was listed before stays in front
    pub part-front : take (length list) list' ≡ list
    part-front = ap (take (length list)) part.added ∙ take_at list new (length list) refl

  pub stands_on : {list' : List ℕ} {k next : ℕ} → Part s [] list' k next → (n : ℕ) → Stands s n k → Stands s (n + length list') next
  stands_on part n a = let q = (stands-next part n a).1 in (omega (arith, q.0), q.1)

  pub noted-stands : {list : List ℕ} {k : ℕ} → Noted s list k → Stands s (length list) k
  noted-stands n = (ap length n.listed, n.within)

  pub noted-first : {list : List ℕ} → list ≡ [] → Noted s list 0
  noted-first e = record { within = omega arith; few = let f = ap length e in omega arith; listed = e ∙ sym (chosen_none (peak_at s)) }

  -- what is listed are pixels
  pub noted-pixels : {list : List ℕ} {k : ℕ} → Noted s list k → Pixels s list
  noted-pixels {list} {k} l i h =
      let q : get_or list i 0 < k = subst (λ (z : ℕ). z < k) (ap (λ (z : List ℕ). get_or z i 0) (sym l.listed)) (chosen-below (peak_at s) k i (subst (λ (z : List ℕ). i < length z) l.listed h)) in
      let m = l.within in
      omega arith

  pub part-pixels : {list' : List ℕ} {k next : ℕ} → Part s [] list' k next → Pixels s list'
  part-pixels {list'} {k} {next} part i h =
      let q = (between-at (peak_at s) k (next - k) i (subst (λ (z : List ℕ). i < length z) part.added h)).1 in
      let m = part.most in
      let o = part.on in
      let w : get_or list' i 0 < k + (next - k) = subst (λ (z : List ℕ). get_or z i 0 < k + (next - k)) (sym part.added) q in
      omega arith

  -- ---- records
  abbrev three : ℕ → List Float
  three k = of_int binary32 (pos (k % s.width)) ∷ of_int binary32 (pos (k / s.width)) ∷ get_or s.values k nan ∷ []

  records-more : (l : List ℕ) (k : ℕ) → records_of s (l ++ (k ∷ [])) ≡ records_of s l ++ three k
  unfolding records_of value_at
  records-more [] k = ap (λ (i : ℕ). of_int binary32 (pos (k % s.width)) ∷ of_int binary32 (pos (k / s.width)) ∷ get_or s.values i nan ∷ []) (div-add-mod' k s.width)
  records-more (j ∷ l) k = ap (λ (z : List Float). of_int binary32 (pos (j % s.width)) ∷ of_int binary32 (pos (j / s.width)) ∷ value_at s (j % s.width) (j / s.width) ∷ z) (records-more l k)

  records-none : records_of s [] ≡ []
  unfolding records_of
  records-none = refl

  pub records-length : (l : List ℕ) → length (records_of s l) ≡ 3 * length l
  unfolding records_of
  records-length [] = refl
  records-length (k ∷ l) = let h : length (records_of s l) ≡ 3 * length l = records-length l in omega arith

  -- the record of one more peak
  put_record : (out : List Float) (l : List ℕ) (k n : ℕ) → n ≡ length l → 3 * n + 2 < length out
      → recorded (records_of s l ++ drop (3 * n) out) n (corner (of_int binary32 (pos (k % s.width))) (of_int binary32 (pos (k / s.width))) (get_or s.values k nan))
      ≡ records_of s (l ++ (k ∷ [])) ++ drop (3 * (n + 1)) out
  put_record out l k n e h =
      let r = records_of s l in
      let x = of_int binary32 (pos (k % s.width)) in
      let y = of_int binary32 (pos (k / s.width)) in
      let v = get_or s.values k nan in
      recorded-parts (r ++ drop (3 * n) out) n (corner x y v) (omega (arith, length-append r (drop (3 * n) out), length-drop (3 * n) out, same))
      ∙ sym (append_assoc (take (3 * n) (r ++ drop (3 * n) out)) (three k) (drop (3 * n + 3) (r ++ drop (3 * n) out)))
      ∙ ap (λ (a : List Float). a ++ three k ++ drop (3 * n + 3) (r ++ drop (3 * n) out)) (take_at r (drop (3 * n) out) (3 * n) same)
      ∙ ap (λ (a : List Float). r ++ three k ++ a) past
      ∙ ap (λ (a : List Float). a ++ drop (3 * (n + 1)) out) (sym (records-more l k))
    where
      same : length (records_of s l) ≡ 3 * n
      same = records-length l ∙ ap (λ (i : ℕ). 3 * i) (sym e)

      past : drop (3 * n + 3) (records_of s l ++ drop (3 * n) out) ≡ drop (3 * (n + 1)) out
      past =
          ap (λ (i : ℕ). drop (i + 3) (records_of s l ++ drop (3 * n) out)) (sym same) ∙ drop-append-add (records_of s l) (drop (3 * n) out) 3 ∙ drop-drop 3 (3 * n) out
          ∙ ap (λ (i : ℕ). drop i out) (let q : 3 * n + 3 ≡ 3 * (n + 1) = omega arith in q)

  -- ---- records that follow others
  pub follow-none : (list : List ℕ) (n : ℕ) (out : List Float) → Follow s (take 0 list) n out out
  follow-none list n out l o e f g = g ∙ ap (λ (z : List ℕ). records_of s z ++ drop (3 * n) o) (sym (append-nil l)) ∙ ap (λ (i : ℕ). records_of s (l ++ []) ++ drop (3 * i) o) (sym (add-zero n))

  pub follow-more : (list : List ℕ) (n i : ℕ) (out out' out'' : List Float) → i < length list → 3 * (n + i) + 2 < length out → Follow s (take i list) n out out'
      → out'' ≡ recorded out' (n + i) (corner (of_int binary32 (pos (get_or list i 0 % s.width))) (of_int binary32 (pos (get_or list i 0 / s.width))) (get_or s.values (get_or list i 0) nan)) → Follow s (take (i + 1) list) n out out''
  follow-more list n i out out' out'' h room w f l o e g q =
      let k = get_or list i 0 in
      let passed : length (take i list) ≡ i = length-take-le i list (let u : i ≤ length list = omega arith in u) in
      f ∙ ap (λ (z : List Float). recorded z (n + i) (corner (of_int binary32 (pos (k % s.width))) (of_int binary32 (pos (k / s.width))) (get_or s.values k nan)))
      (w l o e g q ∙ ap (λ (j : ℕ). records_of s (l ++ take i list) ++ drop (3 * (n + j)) o) passed)
      ∙ put_record o (l ++ take i list) k (n + i) (omega (arith, e, length-append l (take i list), passed)) (omega arith)
      ∙ ap (λ (z : List ℕ). records_of s z ++ drop (3 * (n + i + 1)) o) (append_assoc l (take i list) (k ∷ []) ∙ ap (λ (z : List ℕ). l ++ z) (sym (ap (λ (j : ℕ). take j list) (add-one i) ∙ take-suc list i 0 h)))
      ∙ ap (λ (j : ℕ). records_of s (l ++ take (i + 1) list) ++ drop (3 * j) o) (add_assoc n i 1 ∙ ap (λ (j : ℕ). n + j) (sym (length-take-le (i + 1) list (let u : i + 1 ≤ length list = omega arith in u))))

  pub follow-more-at : (list : List ℕ) (n i : ℕ) (out out' out'' : List Float) → i < length list → 3 * (n + i) + 2 < length out → {k : ℕ} → k ≡ get_or list i 0 → Follow s (take i list) n out out'
      → out'' ≡ recorded out' (n + i) (corner (of_int binary32 (pos (k % s.width))) (of_int binary32 (pos (k / s.width))) (get_or s.values k nan)) → Follow s (take (i + 1) list) n out out''
  follow-more-at list n i out out' out'' h room {k} e w f =
      follow-more list n i out out' out'' h room w (f ∙ ap (λ (k : ℕ). recorded out' (n + i) (corner (of_int binary32 (pos (k % s.width))) (of_int binary32 (pos (k / s.width))) (get_or s.values k nan))) e)

  -- ---- the output after the peaks up to k
  pub written_next : (o out out' : List Float) {list' : List ℕ} {n k next : ℕ} → Part s [] list' k next → Stands s n k → length o ≡ length out → Written s o n k out → Follow s list' n out out' → Written s o (n + length list') next out'
  written_next o out out' {list'} {n} {k} {next} part (a, b) e w f =
      f (up_to k) o a e w ∙ ap (λ (z : List ℕ). records_of s z ++ drop (3 * (n + length list')) o) (ap (λ (z : List ℕ). up_to k ++ z) part.added ∙ sym (part-chosen part))

  pub written_last : (o out : List Float) (n k : ℕ) → Sound s → Stands s n k → length s.values ≤ k → Written s o n k out → out ≡ all_recorded s o
  written_last o out n k t (a, b) h e =
      e ∙ ap (λ (z : List ℕ). records_of s z ++ drop (3 * n) o) (at-end k t b h) ∙ ap (λ (i : ℕ). records_of s (peaks_of s) ++ drop (3 * i) o) (stands-last n k t (a, b) h)

  pub written_none : (o : List Float) → Written s o 0 0 o
  written_none o = sym (ap (λ (z : List ℕ). records_of s z ++ o) (chosen_none (peak_at s)) ∙ ap (λ (z : List Float). z ++ o) records-none)

  -- what is noted is what stands before k
  pub written-noted : (o out : List Float) {list : List ℕ} {k : ℕ} → Noted s list k → Follow s list 0 o out → Written s o (length list) k out
  written-noted o out {list} {k} l f =
      f [] o refl refl (sym (ap (λ (z : List Float). z ++ o) records-none)) ∙ ap (λ (z : List ℕ). records_of s z ++ drop (3 * (0 + length list)) o) l.listed ∙ ap (λ (i : ℕ). records_of s (up_to k) ++ drop (3 * i) o) (let q : 0 + length list ≡ length list = omega arith in q)
