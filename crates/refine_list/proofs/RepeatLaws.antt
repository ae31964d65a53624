-- Laws of columns that repeat their numbers: one number more, that they are such columns, and that an operator with them is still the one that was built.
use mathlib.Core.Path.{◌≡◌, refl, sym, ap, ◌∙◌, subst}
use mathlib.Core.Bool.{Bool, true, ◌&&◌, cond}
use mathlib.Core.Logic.{⊎_elim}
use mathlib.Core.List.{List, [], ◌∷◌, ◌++◌}
use Prim.Native.Nat.{ℕ, zero, suc, ◌+◌, ◌-◌, ◌*◌, ◌/◌, ◌%◌, ◌≤◌, ◌<◌}
use native.Mathlib.Nat.{eq-or-lt_of_le, div-add-mod', mod-lt}
use native.Mathlib.Omega.{arith}
use borrow.Author.Tests.{le-leb, lt-leb, le-ltb, lt-ltb}
use lib.Dec.{leb, ltb}
use lib.ListN.{length, take, drop, take-append-drop, length-append, length-drop}
use lib.Seq.{take-suc, take_at}
use lib.Ieee.{Float, nan}
use Rattle.shapes.specs.Numbers.{entry}
use Rattle.shapes.proofs.ListLaws.{length-tabulated, get_d-tabulated, tabulated-by, tabulated-cong}
use Rattle.refine_operator.specs.Basis.{samples}
use Rattle.refine_operator.specs.Call.{Way, refused, none, built, way_of, columns_after, overlap_after, ColumnsDone}
use Rattle.std.specs.Prelude.{Result, Ok}
use Rattle.refine_operator.specs.declared.OperatorError.{OperatorError}
use Rattle.refine_operator.proofs.CallLaws.{with-overlap, built-length}
use Rattle.refine_formulas.specs.declared.SaddlePointConfig.{SaddlePointConfig}
use Rattle.refine_patch.specs.StepsFrom.{Repeats}
use Rattle.refine_patch.specs.StepsFour.{four_set}
use Rattle.refine_patch.proofs.FourLaws.{length-four, four-before, four-past, four-here, lt-or-le}
use Rattle.refine_patch.proofs.PatchLaws.{once}
use Rattle.refine_seed.proofs.LentLaws.{lent-is-built}
use Rattle.refine_list.specs.Steps.{Usable, Building, repeated, Repeating}

-- ---- one number more
pub repeats-none : (old : List Float) → length old ≡ 1125 → Repeating old 0 old
repeats-none old long = record { long = long; front = λ i h. refl; here = λ i l p q. absurd (let z : ⊥ = omega arith in z); past = λ i h. refl }

pub repeats-more : (old now after : List Float) (k : ℕ) → k < 125 → Repeating old k now → after ≡ four_set now (624 + 4 * k) (λ l. entry now k) → Repeating old (k + 1) after
repeats-more old now after k h r e =
    let v : ℕ → Float = λ l. entry now k in
    record {
      long = ap length e ∙ length-four nan now (624 + 4 * k) v ∙ r.long;
      front = λ i p. ap (λ (x : List Float). entry x i) e ∙ four-before nan now (624 + 4 * k) v i (omega arith) ∙ r.front i p;
      here =
          λ i l p q.
          ap (λ (x : List Float). entry x (624 + 4 * i + l)) e
          ∙ ⊎_elim
          (λ (same : i ≡ k).
          subst (λ (n : ℕ). entry (four_set now (624 + 4 * k) v) (624 + 4 * n + l) ≡ entry old n) (sym same)
          (four-here nan now (624 + 4 * k) v (room k (length now) h r.long) l q ∙ r.front k (omega arith)))
          (λ (less : i < k). four-before nan now (624 + 4 * k) v (624 + 4 * i + l) (omega arith) ∙ r.here i l less q)
          (eq-or-lt_of_le (omega arith));
      past = λ i p. ap (λ (x : List Float). entry x i) e ∙ four-past nan now (624 + 4 * k) v i (omega arith) ∙ r.past i (omega arith);
    }
  where
    room : (n count : ℕ) → n < 125 → count ≡ 1125 → 624 + 4 * n + 4 ≤ count
    room n count h e = omega arith

module _ (old : List Float) where
  -- the entry i
  abbrev chosen : ℕ → Bool → Float
  chosen i b = cond b (entry old ((i - 624) / 4)) (entry old i)

  abbrev number : ℕ → Float
  number i = chosen i (leb 624 i && ltb i 1124)

  number-front : (i : ℕ) → i < 624 → number i ≡ entry old i
  number-front i h = ap (λ (b : Bool). chosen i (b && ltb i 1124)) (lt-leb 624 i h)

  number_past : (i : ℕ) → 1124 ≤ i → number i ≡ entry old i
  number_past i h = ap (λ (b : Bool). chosen i (b && ltb i 1124)) (le-leb 624 i (omega arith)) ∙ ap (λ (b : Bool). chosen i b) (le-ltb i 1124 h)

  number-among : (i : ℕ) → 624 ≤ i → i < 1124 → number i ≡ entry old ((i - 624) / 4)
  number-among i h q = ap (λ (b : Bool). chosen i (b && ltb i 1124)) (le-leb 624 i h) ∙ ap (λ (b : Bool). chosen i b) (lt-ltb i 1124 q)

  -- the place of a number and a lane
  among : (now : List Float) → Repeating old 125 now → (k : ℕ) → k < 500 → entry now (624 + k) ≡ entry old (k / 4)
  among now r k h =
      ap (λ (n : ℕ). entry now n) (parts (k / 4) (k % 4) (div-add-mod' k 4))
      ∙ r.here (k / 4) (k % 4) (few (k / 4) (k % 4) (div-add-mod' k 4)) (mod-lt k (omega arith))
    where
      parts : (c j : ℕ) → c * 4 + j ≡ k → 624 + k ≡ 624 + 4 * c + j
      parts c j e = omega arith

      few : (c j : ℕ) → c * 4 + j ≡ k → c < 125
      few c j e = omega arith

  entry-is : (now : List Float) → Repeating old 125 now → (i : ℕ) → entry now i ≡ number i
  entry-is now r i =
      ⊎_elim
      (λ (p : i < 624). r.front i p ∙ sym (number-front i p))
      (λ (p : 624 ≤ i).
      ⊎_elim
      (λ (q : i < 1124). ap (λ (n : ℕ). entry now n) (let e : i ≡ 624 + (i - 624) = omega arith in e) ∙ among now r (i - 624) (omega arith) ∙ sym (number-among i p q))
      (λ (q : 1124 ≤ i). r.past i q ∙ sym (number_past i q))
      (lt-or-le i 1124))
      (lt-or-le i 624)

  pub repeats-all : (now : List Float) → Repeating old 125 now → now ≡ repeated old
  unfolding repeated
  repeats-all now r = sym (tabulated-by 1125 nan now r.long) ∙ tabulated-cong 1125 (λ i. entry now i) number (λ i h. entry-is now r i)

  repeated-length : length (repeated old) ≡ 1125
  unfolding repeated
  repeated-length = length-tabulated 1125 number

  repeated-front : (i : ℕ) → i < 624 → entry (repeated old) i ≡ entry old i
  unfolding repeated
  repeated-front i h = get_d-tabulated 1125 number i nan (omega arith) ∙ number-front i h

  repeated-here : (i l : ℕ) → i < 125 → l < 4 → entry (repeated old) (624 + 4 * i + l) ≡ entry old i
  unfolding repeated
  repeated-here i l p q =
      get_d-tabulated 1125 number (624 + 4 * i + l) nan (omega arith)
      ∙ number-among (624 + 4 * i + l) (omega arith) (omega arith)
      ∙ ap (λ (n : ℕ). entry old n) (let e : (624 + 4 * i + l - 624) / 4 ≡ i = omega arith in e)

  repeats : (radius : ℕ) → radius ≤ 2 → Repeats true radius (repeated old)
  repeats radius h = record { few = λ e. h; each = λ e i l p q. repeated-here i l p q ∙ sym (repeated-front i (omega arith)) }

-- ---- the operator with them
front_same : (n : ℕ) (l m : List Float) → n ≤ length l → n ≤ length m → ((i : ℕ) → i < n → entry l i ≡ entry m i) → take n l ≡ take n m
front_same zero l m h k e = refl
front_same (suc n) l m h k e =
    take-suc l n nan h
    ∙ ap (λ (t : List Float). t ++ (entry l n ∷ [])) (front_same n l m (omega arith) (omega arith) (λ i p. e i (omega arith)))
    ∙ ap (λ (v : Float). take n m ++ (v ∷ [])) (e n (omega arith))
    ∙ sym (take-suc m n nan k)

-- the numbers of an operator of radius 2 lie before those that are repeated
numbers-few : (radius : ℕ) → radius ≤ 2 → 5 * samples radius ≤ 125
numbers-few zero h = omega arith
numbers-few (suc zero) h = omega arith
numbers-few (suc (suc zero)) h = omega arith
numbers-few (suc (suc (suc r))) h = absurd (let z : ⊥ = omega arith in z)

-- a list is as long with its columns as before
pub long_after : (radius : ℕ) (old columns : List Float) (r : Result Unit OperatorError) → radius < 3 → length old ≡ 1125 → ColumnsDone radius old r columns → length columns ≡ 1125
long_after radius old columns r h long done = by (way_of radius) refl done.leaves
  where
    whole : (n front behind count : ℕ) → n ≤ 125 → front ≡ n → behind ≡ count - n → count ≡ 1125 → front + behind ≡ 1125
    whole n front behind count h p q e = omega arith

    by : (w : Way) → way_of radius ≡ w → columns ≡ columns_after radius old w → length columns ≡ 1125
    by (refused f) e q = ap length q ∙ long
    by none e q = ap length q ∙ long
    by (built c o) e q =
        ap length q
        ∙ length-append c (drop (5 * samples radius) old)
        ∙ whole (5 * samples radius) (length c) (length (drop (5 * samples radius) old)) (length old) (numbers-few radius (omega arith)) (built-length radius c o e) (length-drop (5 * samples radius) old) long

module _ (radius : ℕ) (old columns : List Float) (h : radius ≤ 2) (long : length columns ≡ 1125) where
  still_after : (w : Way) → way_of radius ≡ w → columns ≡ columns_after radius old w → repeated columns ≡ columns_after radius (repeated columns) w
  still_after (refused r) e q = refl
  still_after none e q = refl
  still_after (built c o) e q =
      sym (take-append-drop (5 * samples radius) (repeated columns))
      ∙ ap (λ (l : List Float). l ++ drop (5 * samples radius) (repeated columns))
      (front_same (5 * samples radius) (repeated columns) columns (fits (5 * samples radius) (length (repeated columns)) (numbers-few radius h) (repeated-length columns)) (fits (5 * samples radius) (length columns) (numbers-few radius h) long) (λ i p. repeated-front columns i (before i (5 * samples radius) (numbers-few radius h) p))
      ∙ ap (take (5 * samples radius)) q
      ∙ take_at c (drop (5 * samples radius) old) (5 * samples radius) (built-length radius c o e))
    where
      fits : (n count : ℕ) → n ≤ 125 → count ≡ 1125 → n ≤ count
      fits n count h e = omega arith

      before : (i n : ℕ) → n ≤ 125 → i < n → i < 624
      before i n h p = omega arith

  -- what is behind the operator's numbers may have been there before
  still-done : (r : Result Unit OperatorError) → ColumnsDone radius old r columns → ColumnsDone radius (repeated columns) r (repeated columns)
  still-done r done = record { answers = done.answers; leaves = still_after (way_of radius) refl done.leaves }

-- ---- as they are built
pub usable : (cfg : SaddlePointConfig) (columns : List Float) (r : Result Unit OperatorError) → Building cfg.radius r columns → r ≡ Ok tt → Usable cfg columns
usable cfg columns r b e =
    record {
      overlap = overlap_after [] (way_of cfg.radius);
      same = λ img x y wanted. lent-is-built img cfg x y wanted b.before [] columns (overlap_after [] (way_of cfg.radius)) r (with-overlap cfg.radius b.before [] columns r b.done) e;
    }

pub built-once : (radius : ℕ) (old columns : List Float) (r : Result Unit OperatorError) → ColumnsDone radius old r columns → 3 ≤ radius → Building radius r columns
built-once radius old columns r done h = record { before = old; done = done; repeats = subst (λ (b : Bool). Repeats b radius columns) (sym (le-ltb radius 3 h)) (once radius columns) }

pub built-repeated : (radius : ℕ) (old columns now : List Float) (r : Result Unit OperatorError) → length old ≡ 1125 → ColumnsDone radius old r columns → radius < 3 → now ≡ repeated columns → Building radius r now
built-repeated radius old columns now r long done h q =
    subst (Building radius r) (sym q)
    (record {
      before = repeated columns;
      done = still-done radius old columns (omega arith) (long_after radius old columns r h long done) r done;
      repeats = subst (λ (b : Bool). Repeats b radius (repeated columns)) (sym (lt-ltb radius 3 h)) (repeats columns radius (omega arith));
    })
