-- Chains: what `top` is, how it changes with one corner's cell, and that unlinking and linking a corner keep the chains right.
use mathlib.Core.Path.{◌≡◌, refl, sym, ap, ◌∙◌, subst}
use mathlib.Core.Logic.{⊎_elim}
use mathlib.Core.Bool.{Bool, true, false, ◌&&◌, cond}
use mathlib.Core.List.{List, [], ◌∷◌, ◌++◌}
use Prim.Native.Nat.{ℕ, zero, suc, ◌≤◌, ◌<◌}
use native.Mathlib.Nat.{not-suc-le-zero, le_refl, eq-or-lt_of_le, le_of_suc-le-suc, suc_inj}
use native.Mathlib.Decide.{dec_le, ℕ_discrete}
use native.Mathlib.Numerals.{add-one}
use native.Mathlib.Omega.{arith}
use lib.Dec.{eqb, ltb}
use lib.ListN.{length, get_or, set, length-set, length-append, get_or-append}
use lib.Seq.{get_or-set_same, get_or-set_other, get_or-append_seam}
use borrow.Author.Tests.{eq-eqb, ne_eqb}
use Rattle.merge.specs.declared.Chains as Lent
use Rattle.merge.specs.Steps.{StillLent, lowest_below, top, Nexts, Chains, Falling, in_cell}

module _ (cs : List ℕ) (c : ℕ) where
  pub top-is : (k : ℕ) → get_or cs k 0 ≡ c → top cs c (suc k) ≡ suc k
  unfolding top
  top-is k e = ap (λ (b : Bool). cond b (suc k) (top cs c k)) (eq-eqb (get_or cs k 0) c e)

  pub top-miss : (k : ℕ) → (get_or cs k 0 ≡ c → ⊥) → top cs c (suc k) ≡ top cs c k
  unfolding top
  top-miss k e = ap (λ (b : Bool). cond b (suc k) (top cs c k)) (ne_eqb (get_or cs k 0) c e)

  pub top-le : (n : ℕ) → top cs c n ≤ n
  unfolding top
  top-le zero = le_refl 0
  top-le (suc n) = go (eqb (get_or cs n 0) c) (top-le n)
    where
      go : (b : Bool) → top cs c n ≤ n → cond b (suc n) (top cs c n) ≤ suc n
      go true h = le_refl (suc n)
      go false h = omega arith

  -- no corner from the top on lies in the cell
  pub top-none : (n i : ℕ) → top cs c n ≤ i → i < n → get_or cs i 0 ≡ c → ⊥
  top-none zero i h l e = not-suc-le-zero l
  top-none (suc n) i h l e = go (ℕ_discrete (get_or cs n 0) c) (top-none n i)
    where
      go : Dec (get_or cs n 0 ≡ c) → (top cs c n ≤ i → i < n → get_or cs i 0 ≡ c → ⊥) → ⊥
      go (yes y) ih = let z = top-is n y in omega arith
      go (no y) ih =
          ⊎_elim (λ q. y (subst (λ (k : ℕ). get_or cs k 0 ≡ c) q e)) (λ k. ih (subst (λ (t : ℕ). t ≤ i) (top-miss n y) h) k e) (eq-or-lt_of_le (le_of_suc-le-suc l))

  -- the corner just below the top does
  pub top-hit : (n k : ℕ) → top cs c n ≡ suc k → get_or cs k 0 ≡ c
  unfolding top
  top-hit zero k e = absurd (let z : ⊥ = omega arith in z)
  top-hit (suc n) k e = go (ℕ_discrete (get_or cs n 0) c) (top-hit n k)
    where
      go : Dec (get_or cs n 0 ≡ c) → (top cs c n ≡ suc k → get_or cs k 0 ≡ c) → get_or cs k 0 ≡ c
      go (yes y) ih = subst (λ (m : ℕ). get_or cs m 0 ≡ c) (suc_inj (sym (top-is n y) ∙ e)) y
      go (no y) ih = ih (sym (top-miss n y) ∙ e)

  pub top-skip : (n m : ℕ) → m ≤ n → ((i : ℕ) → m ≤ i → i < n → get_or cs i 0 ≡ c → ⊥) → top cs c n ≡ top cs c m
  top-skip zero m h free = ap (top cs c) (let z : 0 ≡ m = omega arith in z)
  top-skip (suc n) m h free =
      ⊎_elim (λ q. ap (top cs c) (sym q)) (λ l. top-miss n (free n (le_of_suc-le-suc l) (le_refl (suc n))) ∙ top-skip n m (le_of_suc-le-suc l) (λ i a b. free i a (let z : i < suc n = omega arith in z))) (eq-or-lt_of_le h)

  -- a corner in the cell lies below the top
  pub top_above : (n i : ℕ) → i < n → get_or cs i 0 ≡ c → i < top cs c n
  top_above n i l e = go (dec_le (top cs c n) i)
    where
      go : Dec (top cs c n ≤ i) → i < top cs c n
      go (yes y) = absurd (top-none n i y l e)
      go (no y) = native.Mathlib.Nat.lt_of_not-le y

  pub top-top : (n : ℕ) → top cs c n ≡ top cs c (top cs c n)
  top-top n = top-skip n (top cs c n) (top-le n) (top-none n)

pub top_frame : (cs ds : List ℕ) (c n : ℕ) → ((i : ℕ) → i < n → eqb (get_or cs i 0) c ≡ eqb (get_or ds i 0) c) → top cs c n ≡ top ds c n
unfolding top
top_frame cs ds c zero same = refl
top_frame cs ds c (suc n) same =
    ap (λ (b : Bool). cond b (suc n) (top cs c n)) (same n (le_refl (suc n)))
    ∙ ap (λ (t : ℕ). cond (eqb (get_or ds n 0) c) (suc n) t) (top_frame cs ds c n (λ i h. same i (let z : i < suc n = omega arith in z)))

-- ---- one corner's cell is changed to v
module _ (cs : List ℕ) (j v : ℕ) (within : j < length cs) where
  here : get_or (set cs j v) j 0 ≡ v
  here = get_or-set_same cs j v 0 within

  there : (i : ℕ) → (i ≡ j → ⊥) → get_or (set cs j v) i 0 ≡ get_or cs i 0
  there i h = get_or-set_other cs j i v 0 h

  top-set-past : (c n : ℕ) → n ≤ j → top (set cs j v) c n ≡ top cs c n
  top-set-past c n h = top_frame (set cs j v) cs c n (λ i l. ap (λ (k : ℕ). eqb k c) (there i (λ q. let z : ⊥ = omega arith in z)))

  top-set-other : (c n : ℕ) → (get_or cs j 0 ≡ c → ⊥) → (v ≡ c → ⊥) → top (set cs j v) c n ≡ top cs c n
  top-set-other c n old new = top_frame (set cs j v) cs c n (λ i l. go i (ℕ_discrete i j))
    where
      go : (i : ℕ) → Dec (i ≡ j) → eqb (get_or (set cs j v) i 0) c ≡ eqb (get_or cs i 0) c
      go i (yes q) =
          ne_eqb (get_or (set cs j v) i 0) c (λ e. new (sym here ∙ ap (λ (k : ℕ). get_or (set cs j v) k 0) (sym q) ∙ e))
          ∙ sym (ne_eqb (get_or cs i 0) c (λ e. old (ap (λ (k : ℕ). get_or cs k 0) (sym q) ∙ e)))
      go i (no q) = ap (λ (k : ℕ). eqb k c) (there i q)

  -- a top above the corner stays
  top-set-above : (c n : ℕ) → suc j < top cs c n → top (set cs j v) c n ≡ top cs c n
  top-set-above c n h = go (top cs c n) refl h
    where
      go : (t : ℕ) → top cs c n ≡ t → suc j < t → top (set cs j v) c n ≡ top cs c n
      go zero e l = absurd (not-suc-le-zero l)
      go (suc k) e l =
          let le : top cs c n ≤ n = top-le cs c n in
          top-skip (set cs j v) c n (suc k) (omega arith) (λ i a b q. top-none cs c n i (let z : top cs c n ≤ i =
          omega arith in z) b (sym (there i (λ r. let z : ⊥ = omega arith in z))
          ∙ q))
          ∙ top-is (set cs j v) c k (there k (λ r. let z : ⊥ = omega arith in z) ∙ top-hit cs c n k e)
          ∙ sym e

  -- nothing above the corner: below it the top is the old one
  top-set-drop : (c n : ℕ) → (v ≡ c → ⊥) → top cs c n ≤ suc j → j < n → top (set cs j v) c n ≡ top cs c j
  top-set-drop c n new h l =
      top-skip (set cs j v) c n (suc j) l (λ i a b q. top-none cs c n i (let z : top cs c n ≤ i =
      omega arith in z) b (sym (there i (λ r. let z : ⊥ = omega arith in z))
      ∙ q))
      ∙ top-miss (set cs j v) c j (λ e. new (sym here ∙ e))
      ∙ top-set-past c j (le_refl j)

  -- nothing from the corner on: it is the new top of its new cell
  top-set-add : (n : ℕ) → top cs v n ≤ j → j < n → top (set cs j v) v n ≡ suc j
  top-set-add n h l =
      top-skip (set cs j v) v n (suc j) l (λ i a b q. top-none cs v n i (let z : top cs v n ≤ i =
      omega arith in z) b (sym (there i (λ r. let z : ⊥ = omega arith in z))
      ∙ q))
      ∙ top-is (set cs j v) v j here

-- ---- chains by a corner's number and its cell
nexts-by : (most : ℕ) (cs links : List ℕ) → ((i d : ℕ) → i < length cs → get_or cs i 0 ≡ d → d < most → get_or links i 0 ≡ top cs d i) → Nexts most cs links
nexts-by most cs links f i l h = f i (get_or cs i 0) l refl h

next_of : (most : ℕ) (cs links : List ℕ) → Nexts most cs links → (i d : ℕ) → i < length cs → get_or cs i 0 ≡ d → d < most → get_or links i 0 ≡ top cs d i
next_of most cs links nexts i d l e h = nexts i l (subst (λ (k : ℕ). k < most) (sym e) h) ∙ ap (λ (k : ℕ). top cs k i) e

-- what changing the cell of corner j to v asks of new heads and links
module _ (most : ℕ) (cs heads links : List ℕ) (j v : ℕ) (within : j < length cs) where
  changed :
      (heads' links' : List ℕ)
      → ((c : ℕ) → c < most → get_or heads' c 0 ≡ top (set cs j v) c (length cs))
      → ((d : ℕ) → v ≡ d → d < most → get_or links' j 0 ≡ top cs d j)
      → ((i d : ℕ) → i < length cs → (i ≡ j → ⊥) → get_or cs i 0 ≡ d → d < most → get_or links' i 0 ≡ top (set cs j v) d i)
      → Chains most (set cs j v) heads' links'
  changed heads' links' tops own rest =
      record {
        tops = λ c h. tops c h ∙ ap (top (set cs j v) c) (sym (length-set cs j v));
        nexts = nexts-by most (set cs j v) links' (λ i d l e h. go i d (subst (λ (n : ℕ). i < n) (length-set cs j v) l) e h (ℕ_discrete i j));
      }
    where
      go : (i d : ℕ) → i < length cs → get_or (set cs j v) i 0 ≡ d → d < most → Dec (i ≡ j) → get_or links' i 0 ≡ top (set cs j v) d i
      go i d l e h (yes q) =
          ap (λ (k : ℕ). get_or links' k 0) q
          ∙ own d (sym (here cs j v within) ∙ ap (λ (k : ℕ). get_or (set cs j v) k 0) (sym q) ∙ e) h
          ∙ sym (top-set-past cs j v within d j (le_refl j))
          ∙ ap (top (set cs j v) d) (sym q)
      go i d l e h (no q) = rest i d l q (sym (there cs j v within i q) ∙ e) h

-- ---- corner j leaves the chain of its cell c
module _ (most : ℕ) (cs heads links : List ℕ) (c j : ℕ) (chains : Chains most cs heads links) (inside : c < most) (within : j < length cs) (lies : get_or cs j 0 ≡ c) where
  out : (d : ℕ) → d < most → most ≡ d → ⊥
  out d h e = let z : ⊥ = omega arith in z

  elsewhere : (d n : ℕ) → (d ≡ c → ⊥) → d < most → top (set cs j most) d n ≡ top cs d n
  elsewhere d n other h = top-set-other cs j most within d n (λ e. other (sym e ∙ lies)) (out d h)

  pub unlink-head : c < length heads → get_or heads c 0 ≡ suc j → Chains most (set cs j most) (set heads c (get_or links j 0)) links
  unlink-head room head =
      changed most cs heads links j most within (set heads c (get_or links j 0)) links (λ d h. tops d h (ℕ_discrete d c)) (λ d e h. absurd (out d h e)) (λ i d l q e h. rest i d l q e h (ℕ_discrete d c))
    where
      highest : top cs c (length cs) ≡ suc j
      highest = sym (chains.tops c inside) ∙ head

      tops : (d : ℕ) → d < most → Dec (d ≡ c) → get_or (set heads c (get_or links j 0)) d 0 ≡ top (set cs j most) d (length cs)
      tops d h (yes q) =
          ap (λ (k : ℕ). get_or (set heads c (get_or links j 0)) k 0) q
          ∙ get_or-set_same heads c (get_or links j 0) 0 room
          ∙ next_of most cs links chains.nexts j c within lies inside
          ∙ sym (top-set-drop cs j most within c (length cs) (out c inside) (omega (arith, highest)) within)
          ∙ ap (λ (k : ℕ). top (set cs j most) k (length cs)) (sym q)
      tops d h (no q) = get_or-set_other heads c d (get_or links j 0) 0 q ∙ chains.tops d h ∙ sym (elsewhere d (length cs) q h)

      rest : (i d : ℕ) → i < length cs → (i ≡ j → ⊥) → get_or cs i 0 ≡ d → d < most → Dec (d ≡ c) → get_or links i 0 ≡ top (set cs j most) d i
      rest i d l q e h (no r) = next_of most cs links chains.nexts i d l e h ∙ sym (elsewhere d i r h)
      rest i d l q e h (yes r) =
          next_of most cs links chains.nexts i d l e h
          ∙ sym (top-set-past cs j most within d i (omega (arith, highest, top_above cs c (length cs) i l (e ∙ r))))

  pub unlink-below :
      (q : ℕ) → suc j < get_or heads c 0 → j < q → q < length cs → q < length links → get_or cs q 0 ≡ c → get_or links q 0 ≤ suc j
      → Chains most (set cs j most) heads (set links q (get_or links j 0))
  unlink-below q high above q-in q_room on low =
      changed most cs heads links j most within heads (set links q (get_or links j 0)) (λ d h. tops d h (ℕ_discrete d c)) (λ d e h. absurd (out d h e)) (λ i d l r e h. rest i d l r e h (ℕ_discrete d c) (ℕ_discrete i q))
    where
      next : top cs c q ≤ suc j
      next = subst (λ (k : ℕ). k ≤ suc j) (next_of most cs links chains.nexts q c q-in on inside) low

      tops : (d : ℕ) → d < most → Dec (d ≡ c) → get_or heads d 0 ≡ top (set cs j most) d (length cs)
      tops d h (yes r) =
          chains.tops d h
          ∙ sym (top-set-above cs j most within d (length cs) (subst (λ (k : ℕ). suc j < k) (ap (λ (k : ℕ). get_or heads k 0) (sym r) ∙ chains.tops d h) high))
      tops d h (no r) = chains.tops d h ∙ sym (elsewhere d (length cs) r h)

      rest :
          (i d : ℕ) → i < length cs → (i ≡ j → ⊥) → get_or cs i 0 ≡ d → d < most → Dec (d ≡ c) → Dec (i ≡ q)
          → get_or (set links q (get_or links j 0)) i 0 ≡ top (set cs j most) d i
      rest i d l r e h (no s) (yes t) = absurd (s (sym e ∙ ap (λ (k : ℕ). get_or cs k 0) t ∙ on))
      rest i d l r e h (no s) (no t) = get_or-set_other links q i (get_or links j 0) 0 t ∙ next_of most cs links chains.nexts i d l e h ∙ sym (elsewhere d i s h)
      rest i d l r e h (yes s) (yes t) =
          ap (λ (k : ℕ). get_or (set links q (get_or links j 0)) k 0) t
          ∙ get_or-set_same links q (get_or links j 0) 0 q_room
          ∙ next_of most cs links chains.nexts j c within lies inside
          ∙ sym (top-set-drop cs j most within c q (out c inside) next above)
          ∙ ap (λ (k : ℕ). top (set cs j most) c k) (sym t)
          ∙ ap (λ (k : ℕ). top (set cs j most) k i) (sym s)
      rest i d l r e h (yes s) (no t) = get_or-set_other links q i (get_or links j 0) 0 t ∙ next_of most cs links chains.nexts i d l e h ∙ sym (kept (dec_le i j))
        where
          kept : Dec (i ≤ j) → top (set cs j most) d i ≡ top cs d i
          kept (yes u) = top-set-past cs j most within d i u
          kept (no u) = top-set-above cs j most within d i (subst (λ (k : ℕ). suc j < top cs k i) (sym s) (past (dec_le i q)))
            where
              past : Dec (i ≤ q) → suc j < top cs c i
              past (yes w) = absurd (top-none cs c q i (let z : top cs c q ≤ i = omega (arith, next) in z) (let z : i < q = omega arith in z) (e ∙ s))
              past (no w) = let z : q < top cs c i = top_above cs c i q (omega arith) on in omega arith

-- ---- corner j, in no chain yet, joins the chain of cell c
module _ (most : ℕ) (cs heads links : List ℕ) (c j : ℕ) (chains : Chains most cs heads links) (inside : c < most) (within : j < length cs) (free : get_or cs j 0 ≡ most) where
  apart : (d : ℕ) → d < most → get_or cs j 0 ≡ d → ⊥
  apart d h e = let z : ⊥ = omega arith in z

  elsewhere' : (d n : ℕ) → (d ≡ c → ⊥) → d < most → top (set cs j c) d n ≡ top cs d n
  elsewhere' d n other h = top-set-other cs j c within d n (apart d h) (λ e. other (sym e))

  pub link-head : c < length heads → j < length links → get_or heads c 0 ≤ j → Chains most (set cs j c) (set heads c (suc j)) (set links j (get_or heads c 0))
  link-head room Own-room low =
      changed most cs heads links j c within (set heads c (suc j)) (set links j (get_or heads c 0)) (λ d h. tops d h (ℕ_discrete d c)) own (λ i d l q e h. rest i d l q e h (ℕ_discrete d c))
    where
      highest : top cs c (length cs) ≤ j
      highest = subst (λ (k : ℕ). k ≤ j) (chains.tops c inside) low

      tops : (d : ℕ) → d < most → Dec (d ≡ c) → get_or (set heads c (suc j)) d 0 ≡ top (set cs j c) d (length cs)
      tops d h (yes q) =
          ap (λ (k : ℕ). get_or (set heads c (suc j)) k 0) q
          ∙ get_or-set_same heads c (suc j) 0 room
          ∙ sym (top-set-add cs j c within (length cs) highest within)
          ∙ ap (λ (k : ℕ). top (set cs j c) k (length cs)) (sym q)
      tops d h (no q) = get_or-set_other heads c d (suc j) 0 q ∙ chains.tops d h ∙ sym (elsewhere' d (length cs) q h)

      own : (d : ℕ) → c ≡ d → d < most → get_or (set links j (get_or heads c 0)) j 0 ≡ top cs d j
      own d e h =
          get_or-set_same links j (get_or heads c 0) 0 Own-room
          ∙ chains.tops c inside
          ∙ top-skip cs c (length cs) j (omega arith) (λ i a b. top-none cs c (length cs) i (let z : top cs c (length cs) ≤ i = omega (arith, highest) in z) b)
          ∙ ap (λ (k : ℕ). top cs k j) e

      rest : (i d : ℕ) → i < length cs → (i ≡ j → ⊥) → get_or cs i 0 ≡ d → d < most → Dec (d ≡ c) → get_or (set links j (get_or heads c 0)) i 0 ≡ top (set cs j c) d i
      rest i d l q e h (no r) = get_or-set_other links j i (get_or heads c 0) 0 q ∙ next_of most cs links chains.nexts i d l e h ∙ sym (elsewhere' d i r h)
      rest i d l q e h (yes r) =
          get_or-set_other links j i (get_or heads c 0) 0 q
          ∙ next_of most cs links chains.nexts i d l e h
          ∙ sym (top-set-past cs j c within d i (omega (arith, highest, top_above cs c (length cs) i l (e ∙ r))))

  pub link-below :
      (q : ℕ) → suc j < get_or heads c 0 → j < q → q < length cs → j < length links → q < length links → get_or cs q 0 ≡ c
      → get_or links q 0 ≤ suc j → Chains most (set cs j c) heads (set (set links j (get_or links q 0)) q (suc j))
  link-below q high above q-in Own-room q_room on low =
      changed most cs heads links j c within heads (set (set links j (get_or links q 0)) q (suc j)) (λ d h. tops d h (ℕ_discrete d c)) own (λ i d l r e h. rest i d l r e h (ℕ_discrete d c) (ℕ_discrete i q))
    where
      next : get_or links q 0 ≡ top cs c q
      next = next_of most cs links chains.nexts q c q-in on inside

      -- corner j itself is in no chain
      under : top cs c q ≤ j
      under = ⊎_elim (λ r. absurd (apart c inside (top-hit cs c q j r))) le_of_suc-le-suc (eq-or-lt_of_le (subst (λ (k : ℕ). k ≤ suc j) next low))

      old : (i : ℕ) → (i ≡ j → ⊥) → (i ≡ q → ⊥) → get_or (set (set links j (get_or links q 0)) q (suc j)) i 0 ≡ get_or links i 0
      old i r t = get_or-set_other (set links j (get_or links q 0)) q i (suc j) 0 t ∙ get_or-set_other links j i (get_or links q 0) 0 r

      tops : (d : ℕ) → d < most → Dec (d ≡ c) → get_or heads d 0 ≡ top (set cs j c) d (length cs)
      tops d h (yes r) =
          chains.tops d h
          ∙ sym (top-set-above cs j c within d (length cs) (subst (λ (k : ℕ). suc j < k) (ap (λ (k : ℕ). get_or heads k 0) (sym r) ∙ chains.tops d h) high))
      tops d h (no r) = chains.tops d h ∙ sym (elsewhere' d (length cs) r h)

      own : (d : ℕ) → c ≡ d → d < most → get_or (set (set links j (get_or links q 0)) q (suc j)) j 0 ≡ top cs d j
      own d e h =
          get_or-set_other (set links j (get_or links q 0)) q j (suc j) 0 (λ r. let z : ⊥ = omega arith in z)
          ∙ get_or-set_same links j (get_or links q 0) 0 Own-room
          ∙ next
          ∙ top-skip cs c q j (omega arith) (λ i a b. top-none cs c q i (let z : top cs c q ≤ i = omega (arith, under) in z) b)
          ∙ ap (λ (k : ℕ). top cs k j) e

      rest :
          (i d : ℕ) → i < length cs → (i ≡ j → ⊥) → get_or cs i 0 ≡ d → d < most → Dec (d ≡ c) → Dec (i ≡ q)
          → get_or (set (set links j (get_or links q 0)) q (suc j)) i 0 ≡ top (set cs j c) d i
      rest i d l r e h (no s) (yes t) = absurd (s (sym e ∙ ap (λ (k : ℕ). get_or cs k 0) t ∙ on))
      rest i d l r e h (no s) (no t) = old i r t ∙ next_of most cs links chains.nexts i d l e h ∙ sym (elsewhere' d i s h)
      rest i d l r e h (yes s) (yes t) =
          ap (λ (k : ℕ). get_or (set (set links j (get_or links q 0)) q (suc j)) k 0) t
          ∙ get_or-set_same (set links j (get_or links q 0)) q (suc j) 0 (subst (λ (n : ℕ). q < n) (sym (length-set links j (get_or links q 0))) q_room)
          ∙ sym (top-set-add cs j c within q under above)
          ∙ ap (λ (k : ℕ). top (set cs j c) c k) (sym t)
          ∙ ap (λ (k : ℕ). top (set cs j c) k i) (sym s)
      rest i d l r e h (yes s) (no t) = old i r t ∙ next_of most cs links chains.nexts i d l e h ∙ sym (kept (dec_le i j))
        where
          kept : Dec (i ≤ j) → top (set cs j c) d i ≡ top cs d i
          kept (yes u) = top-set-past cs j c within d i u
          kept (no u) = top-set-above cs j c within d i (subst (λ (k : ℕ). suc j < top cs k i) (sym s) (past (dec_le i q)))
            where
              past : Dec (i ≤ q) → suc j < top cs c i
              past (yes w) = absurd (top-none cs c q i (let z : top cs c q ≤ i = omega (arith, under) in z) (let z : i < q = omega arith in z) (e ∙ s))
              past (no w) = let z : q < top cs c i = top_above cs c i q (omega arith) on in omega arith

-- ---- walking a chain
module _ (cs : List ℕ) (c : ℕ) (test : ℕ → Bool) where
  -- only the cell's own corners count
  lowest-top : (n m best : ℕ) → m ≤ n → ((i : ℕ) → m ≤ i → i < n → get_or cs i 0 ≡ c → ⊥) → lowest_below (in_cell cs c test) n best ≡ lowest_below (in_cell cs c test) m best
  unfolding lowest_below
  lowest-top zero m best h free = ap (λ (k : ℕ). lowest_below (in_cell cs c test) k best) (let z : 0 ≡ m = omega arith in z)
  lowest-top (suc n) m best h free =
      ⊎_elim
      (λ q. ap (λ (k : ℕ). lowest_below (in_cell cs c test) k best) (sym q))
      (λ l. ap (λ (b : Bool). lowest_below (in_cell cs c test) n (cond (b && test n && ltb n best) n best)) (ne_eqb (get_or cs n 0) c (free n (le_of_suc-le-suc l) (le_refl (suc n)))) ∙ lowest-top n m best (le_of_suc-le-suc l) (λ i a b. free i a (let z : i < suc n = omega arith in z)))
      (eq-or-lt_of_le h)

  pub lowest-chain : (n best : ℕ) → lowest_below (in_cell cs c test) n best ≡ lowest_below (in_cell cs c test) (top cs c n) best
  lowest-chain n best = lowest-top n (top cs c n) best (top-le cs c n) (top-none cs c n)

  -- one step down the chain from corner j
  pub lowest-next : (j best : ℕ) → get_or cs j 0 ≡ c → lowest_below (in_cell cs c test) (suc j) best ≡ lowest_below (in_cell cs c test) (top cs c j) (cond (test j && ltb j best) j best)
  unfolding lowest_below
  lowest-next j best e =
      ap (λ (b : Bool). lowest_below (in_cell cs c test) j (cond (b && test j && ltb j best) j best)) (eq-eqb (get_or cs j 0) c e)
      ∙ lowest-chain j (cond (test j && ltb j best) j best)

-- a walk begins at the top of the chain
pub walk_start :
    (cs : List ℕ) (c : ℕ) (test : ℕ → Bool) (n start best : ℕ) → start ≡ top cs c n
    → (start ≡ top cs c start) × (lowest_below (in_cell cs c test) start best ≡ lowest_below (in_cell cs c test) n best)
walk_start cs c test n start best e =
    (e ∙ top-top cs c n ∙ ap (top cs c) (sym e), ap (λ (k : ℕ). lowest_below (in_cell cs c test) k best) e ∙ sym (lowest-chain cs c test n best))

-- and goes on with the link of the corner that it stands at
pub walk_turn :
    (most c : ℕ) (cs links : List ℕ) (test : ℕ → Bool) (j p best : ℕ)
    → Nexts most cs links → c < most → p ≡ suc j → p ≡ top cs c p → p ≤ length cs
    → (get_or links j 0 ≡ top cs c (get_or links j 0)) × (lowest_below (in_cell cs c test) (get_or links j 0) (cond (test j && ltb j best) j best) ≡ lowest_below (in_cell cs c test) p best)
walk_turn most c cs links test j p best nexts inside e t l =
    let here : get_or cs j 0 ≡ c = top-hit cs c p j (sym t ∙ e) in
    let low : get_or links j 0 ≡ top cs c j = next_of most cs links nexts j c (omega arith) here inside in
    (low ∙ top-top cs c j ∙ ap (top cs c) (sym low), ap (λ (k : ℕ). lowest_below (in_cell cs c test) k (cond (test j && ltb j best) j best)) low ∙ sym (lowest-next cs c test j best here) ∙ ap (λ (k : ℕ). lowest_below (in_cell cs c test) k best) (sym e))

pub walk_end : (test : ℕ → Bool) (p found : ℕ) → p ≤ 0 → found ≡ lowest_below test p found
unfolding lowest_below
walk_end test p found h = ap (λ (k : ℕ). lowest_below test k found) (let e : 0 ≡ p = omega arith in e)

-- a link leads to a corner of the same cell
pub link_on : (most c : ℕ) (cs links : List ℕ) (q k : ℕ) → Nexts most cs links → c < most → q < length cs → get_or cs q 0 ≡ c → get_or links q 0 ≡ suc k → get_or cs k 0 ≡ c
link_on most c cs links q k nexts inside l e s = top-hit cs c q k (sym (next_of most cs links nexts q c l e inside) ∙ s)

-- ---- a chain ends, where every corner from `low` on stands in one
pub chain-falling :
    (most : ℕ) (cs heads links : List ℕ) (low c : ℕ) → Chains most cs heads links → length cs ≤ length links → c < most
    → ((i : ℕ) → low ≤ i → i < length cs → get_or cs i 0 < most) → Falling links low (get_or heads c 0)
chain-falling most cs heads links low c chains room inside all =
    let head : get_or heads c 0 ≤ length cs = subst (λ (k : ℕ). k ≤ length cs) (sym (chains.tops c inside)) (top-le cs c (length cs)) in
    record {
      room = omega arith;
      falls = λ j a b. subst (λ (k : ℕ). k ≤ j) (sym (chains.nexts j (omega arith) (all j a (omega arith)))) (top-le cs (get_or cs j 0) j);
    }

-- ---- one more corner, in no chain yet
pub chains-more : (most : ℕ) (cs heads links : List ℕ) → Chains most cs heads links → Chains most (cs ++ most ∷ []) heads links
chains-more most cs heads links chains =
    record {
      tops =
          λ c h. chains.tops c h
          ∙ sym (old c (length cs) (le_refl (length cs)))
          ∙ sym (top-miss (cs ++ most ∷ []) c (length cs) (λ e. last c h e))
          ∙ ap (top (cs ++ most ∷ []) c) (sym long);
      nexts = nexts-by most (cs ++ most ∷ []) links (λ i d l e h. go i d (subst (λ (n : ℕ). i < n) long l) e h);
    }
  where
    long : length (cs ++ most ∷ []) ≡ suc (length cs)
    long = length-append cs (most ∷ []) ∙ add-one (length cs)

    old : (c n : ℕ) → n ≤ length cs → top (cs ++ most ∷ []) c n ≡ top cs c n
    old c n h = top_frame (cs ++ most ∷ []) cs c n (λ i l. ap (λ (k : ℕ). eqb k c) (get_or-append cs (most ∷ []) 0 i (omega arith)))

    last : (c : ℕ) → c < most → get_or (cs ++ most ∷ []) (length cs) 0 ≡ c → ⊥
    last c h e = let z : most ≡ c = sym (get_or-append_seam cs most [] 0) ∙ e in omega arith

    go : (i d : ℕ) → i < suc (length cs) → get_or (cs ++ most ∷ []) i 0 ≡ d → d < most → get_or links i 0 ≡ top (cs ++ most ∷ []) d i
    go i d l e h =
        ⊎_elim (λ q. absurd (last d h (ap (λ (k : ℕ). get_or (cs ++ most ∷ []) k 0) (sym q) ∙ e))) (λ k. next_of most cs links chains.nexts i d k (sym (get_or-append cs (most ∷ []) 0 i k) ∙ e) h ∙ sym (old d i (omega arith))) (eq-or-lt_of_le (le_of_suc-le-suc l))

-- what is still lent after one step more
pub still_lent : {a b c : Lent.Chains} → StillLent b c → StillLent a b → StillLent a c
still_lent s t = record {
  same_heads = s.same_heads ∙ t.same_heads;
  same_links = s.same_links ∙ t.same_links;
  as_many_heads = s.as_many_heads ∙ t.as_many_heads;
  as_many_links = s.as_many_links ∙ t.as_many_links;
}
