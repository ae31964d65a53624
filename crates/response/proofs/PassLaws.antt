-- What a pass leaves, step by step: one more element, another name for the same function, and a part of a longer list.
use mathlib.Core.Path.{◌≡◌, refl, sym, ap, ◌∙◌, subst}
use mathlib.Core.Logic.{◌⊎◌, inl, inr, ⊎_elim}
use mathlib.Core.List.{List, ◌++◌}
use Prim.Native.Nat.{ℕ, zero, suc, ◌+◌, ◌-◌, ◌*◌, ◌≤◌, ◌<◌, zero-le, suc-le-suc}
use native.Mathlib.Nat.{eq-or-lt_of_le, zero-add}
use native.Mathlib.Omega.{arith}
use lib.ListN.{length, get_or, set, take, drop, length-set, length-append, length-drop, get_or-append}
use lib.Seq.{get_or-set_same, get_or-set_other, get_or-take, get_or-drop, get_or-append-add, length-take-le}
use Rattle.pixel_response.specs.Steps.{Bounded, Added, AddedQuarter, Wrote, square_of, edges_of, sum_of}

pub lt-or-le : (a b : ℕ) → (a < b) ⊎ (b ≤ a)
lt-or-le a zero = inr zero-le
lt-or-le zero (suc b) = inl (suc-le-suc zero-le)
lt-or-le (suc a) (suc b) = ⊎_elim (λ p. inl (suc-le-suc p)) (λ q. inr (suc-le-suc q)) (lt-or-le a b)

-- the last of n + 1, or an earlier one
pub last_or : (P : ℕ → Type 0) (n : ℕ) → P n → ((i : ℕ) → i < n → P i) → (i : ℕ) → i < n + 1 → P i
last_or P n here all i h = ⊎_elim (λ e. subst P (sym e) here) (λ l. all i l) (eq-or-lt_of_le (omega arith))

added_none : (b : ℕ) (f : ℕ → ℕ) (l : List ℕ) → Added 0 b f l l
added_none b f l = record { same = refl; here = λ i h. omega arith; past = λ i h. refl; most = λ i h. omega arith }

added_more : (n b : ℕ) (f : ℕ → ℕ) (before after : List ℕ) (v : ℕ) → n < length before → Added n b f before after → Bounded (f n) b v → Added (n + 1) b f before (set after n (get_or after n 0 + v))
added_more n b f before after v l a q =
    record {
      same = length-set after n (get_or after n 0 + v) ∙ a.same;
      here =
          last_or (λ i. get_or (set after n (get_or after n 0 + v)) i 0 ≡ get_or before i 0 + f i) n
          (get_or-set_same after n (get_or after n 0 + v) 0 (subst (λ (k : ℕ). n < k) (sym a.same) l)
          ∙ ap (λ (z : ℕ). z + v) (a.past n (omega arith)) ∙ ap (λ (z : ℕ). get_or before n 0 + z) q.is)
          (λ i h. get_or-set_other after n i (get_or after n 0 + v) 0 (λ e. omega arith) ∙ a.here i h);
      past = λ i h. get_or-set_other after n i (get_or after n 0 + v) 0 (λ e. omega arith) ∙ a.past i (omega arith);
      most = last_or (λ i. f i ≤ b) n (subst (λ (z : ℕ). z ≤ b) q.is q.most) a.most;
    }

pub quarter-none : (P : ℕ) (a b c d : ℕ → ℕ) (square edge sum : List ℕ) → AddedQuarter P 0 a b c d square edge sum square edge sum
quarter-none P a b c d square edge sum =
    record {
      squares = added_none (2 * (P - 1)) (λ i. square_of (a i) (b i) (c i) (d i)) square;
      edges = added_none (2 * (P - 1)) (λ i. edges_of (a i) (b i) (c i) (d i)) edge;
      sums = added_none (4 * (P - 1)) (λ i. sum_of (a i) (b i) (c i) (d i)) sum;
    }

-- one more pixel has its quarter
pub quarter-more : (P n : ℕ) (a b c d : ℕ → ℕ) (square edge sum square' edge' sum' : List ℕ) (x y z : ℕ) → n < length square → n < length edge → n < length sum
    → AddedQuarter P n a b c d square edge sum square' edge' sum'
    → Bounded (square_of (a n) (b n) (c n) (d n)) (2 * (P - 1)) x → Bounded (edges_of (a n) (b n) (c n) (d n)) (2 * (P - 1)) y → Bounded (sum_of (a n) (b n) (c n) (d n)) (4 * (P - 1)) z
    → AddedQuarter P (n + 1) a b c d square edge sum (set square' n (get_or square' n 0 + x)) (set edge' n (get_or edge' n 0 + y)) (set sum' n (get_or sum' n 0 + z))
quarter-more P n a b c d square edge sum square' edge' sum' x y z h k l q u v w =
    record {
      squares = added_more n (2 * (P - 1)) (λ i. square_of (a i) (b i) (c i) (d i)) square square' x h q.squares u;
      edges = added_more n (2 * (P - 1)) (λ i. edges_of (a i) (b i) (c i) (d i)) edge edge' y k q.edges v;
      sums = added_more n (4 * (P - 1)) (λ i. sum_of (a i) (b i) (c i) (d i)) sum sum' z l q.sums w;
    }

module _ {A : Type 0} (d : A) where
  pub wrote_none : (x : ℕ) (f : ℕ → A) (l : List A) → Wrote d 0 x f l l
  wrote_none x f l = record { same = refl; ahead = λ i h. refl; here = λ i h. absurd (let z : ⊥ = omega arith in z); past = λ i h. refl }

  pub wrote-more : (n : ℕ) (f : ℕ → A) (before after : List A) (v : A) → n < length before → Wrote d n 0 f before after → v ≡ f n → Wrote d (n + 1) 0 f before (set after n v)
  wrote-more n f before after v l a q =
      record {
        same = length-set after n v ∙ a.same;
        ahead = λ i h. absurd (let z : ⊥ = omega arith in z);
        here =
            last_or (λ i. get_or (set after n v) (0 + i) d ≡ f i) n
            (ap (λ (k : ℕ). get_or (set after n v) k d) (zero-add n) ∙ get_or-set_same after n v d (subst (λ (k : ℕ). n < k) (sym a.same) l) ∙ q)
            (λ i h. get_or-set_other after n (0 + i) v d (λ e. omega arith) ∙ a.here i h);
        past = λ i h. get_or-set_other after n i v d (λ e. omega arith) ∙ a.past i (omega arith);
      }

  pub wrote-cong : (n x : ℕ) (f g : ℕ → A) (before after : List A) → ((i : ℕ) → i < n → f i ≡ g i) → Wrote d n x f before after → Wrote d n x g before after
  wrote-cong n x f g before after e a = record { same = a.same; ahead = a.ahead; here = λ i h. a.here i h ∙ e i h; past = a.past }

  -- ---- a part of a longer list
  whole_length : (n a l : ℕ) → a + n ≤ l → a + (n + (l - a - n)) ≡ l
  whole_length n a l h = omega arith

  part_length : (n a : ℕ) (xs : List A) → a + n ≤ length xs → length (take n (drop a xs)) ≡ n
  part_length n a xs h = length-take-le n (drop a xs) (simp length-drop (omega arith))

  -- what is written to a part is written to the whole
  pub wrote-part : (n a : ℕ) (f : ℕ → A) (xs ys : List A) → a + n ≤ length xs → Wrote d n 0 f (take n (drop a xs)) ys → Wrote d n a f xs (take a xs ++ (ys ++ drop n (drop a xs)))
  wrote-part n a f xs ys h w =
      let count : length ys ≡ n = w.same ∙ part_length n a xs h in
      let front : length (take a xs) ≡ a = length-take-le a xs (omega arith) in
      record {
        same =
            length-append (take a xs) (ys ++ drop n (drop a xs)) ∙ ap (λ (z : ℕ). z + length (ys ++ drop n (drop a xs))) front
            ∙ ap (λ (z : ℕ). a + z) (length-append ys (drop n (drop a xs)) ∙ ap (λ (z : ℕ). z + length (drop n (drop a xs))) count ∙ ap (λ (z : ℕ). n + z) (length-drop n (drop a xs) ∙ ap (λ (z : ℕ). z - n) (length-drop a xs)))
            ∙ whole_length n a (length xs) h;
        ahead = λ i l. get_or-append (take a xs) (ys ++ drop n (drop a xs)) d i (subst (λ (k : ℕ). i < k) (sym front) l) ∙ get_or-take a xs i d l;
        here = λ i l.
            ap (λ (k : ℕ). get_or (take a xs ++ (ys ++ drop n (drop a xs))) (k + i) d) (sym front)
            ∙ get_or-append-add (take a xs) (ys ++ drop n (drop a xs)) i d
            ∙ get_or-append ys (drop n (drop a xs)) d i (subst (λ (k : ℕ). i < k) (sym count) l)
            ∙ ap (λ (k : ℕ). get_or ys k d) (sym (zero-add i)) ∙ w.here i l;
        past = λ i l.
            let there : i ≡ length (take a xs) + (length ys + (i - a - n)) = omega arith in
            ap (λ (k : ℕ). get_or (take a xs ++ (ys ++ drop n (drop a xs))) k d) there
            ∙ get_or-append-add (take a xs) (ys ++ drop n (drop a xs)) (length ys + (i - a - n)) d
            ∙ get_or-append-add ys (drop n (drop a xs)) (i - a - n) d
            ∙ get_or-drop n (drop a xs) (i - a - n) d ∙ get_or-drop a xs (n + (i - a - n)) d
            ∙ ap (λ (k : ℕ). get_or xs k d) (let e : a + (n + (i - a - n)) ≡ i = omega arith in e);
      }

  -- one run after another
  pub wrote-join : (n m : ℕ) (f : ℕ → A) (xs ys zs : List A) → Wrote d n 0 f xs ys → Wrote d m n (λ i. f (n + i)) ys zs → Wrote d (n + m) 0 f xs zs
  wrote-join n m f xs ys zs v w =
      record {
        same = w.same ∙ v.same;
        ahead = λ i h. absurd (let z : ⊥ = omega arith in z);
        here = λ i h.
            ⊎_elim
            (λ l. ap (λ (k : ℕ). get_or zs k d) (zero-add i) ∙ w.ahead i l ∙ ap (λ (k : ℕ). get_or ys k d) (sym (zero-add i)) ∙ v.here i l)
            (λ l.
            let e : n + (i - n) ≡ i = omega arith in
            ap (λ (k : ℕ). get_or zs k d) (zero-add i ∙ sym e) ∙ w.here (i - n) (omega arith) ∙ ap f e)
            (lt-or-le i n);
        past = λ i h. w.past i (omega arith) ∙ v.past i (omega arith);
      }

  -- the next run is written to a part
  pub part_count : (a e : ℕ) (xs : List A) → a ≤ e → e ≤ length xs → length (take (e - a) (drop a xs)) ≡ e - a
  part_count a e xs p q = part_length (e - a) a xs (omega arith)

  pub wrote-part-of : (a e : ℕ) (f : ℕ → A) (xs ys : List A) → a ≤ e → e ≤ length xs → Wrote d (length (take (e - a) (drop a xs))) 0 f (take (e - a) (drop a xs)) ys
      → Wrote d (e - a) a f xs (take a xs ++ (ys ++ drop (e - a) (drop a xs)))
  wrote-part-of a e f xs ys p q w =
      wrote-part (e - a) a f xs ys (omega arith) (subst (λ (n : ℕ). Wrote d n 0 f (take (e - a) (drop a xs)) ys) (part_count a e xs p q) w)

  pub wrote-next : (a e : ℕ) (f : ℕ → A) (xs ys zs : List A) → a ≤ e → e ≤ length ys → Wrote d a 0 f xs ys
      → Wrote d (length (take (e - a) (drop a ys))) 0 (λ i. f (a + i)) (take (e - a) (drop a ys)) zs → Wrote d e 0 f xs (take a ys ++ (zs ++ drop (e - a) (drop a ys)))
  wrote-next a e f xs ys zs p q v w =
      let sum : a + (e - a) ≡ e = omega arith in
      subst (λ (n : ℕ). Wrote d n 0 f xs (take a ys ++ (zs ++ drop (e - a) (drop a ys)))) sum
      (wrote-join a (e - a) f xs ys (take a ys ++ (zs ++ drop (e - a) (drop a ys))) v (wrote-part-of a e (λ i. f (a + i)) ys zs p q w))
