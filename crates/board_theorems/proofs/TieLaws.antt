-- Place by place: which corner serves a place, corners found for one place more, and how the places of a board end.
use mathlib.Core.Path.{◌≡◌, refl, sym, ap, ◌∙◌, subst}
use mathlib.Core.Bool.{Bool, true, false, not, cond}
use mathlib.Core.List.{List, [], ◌∷◌, ◌++◌}
use Prim.Native.Nat.{ℕ, zero, suc, ◌+◌, ◌*◌, ◌<◌}
use native.Mathlib.Nat.{add-zero}
use native.Mathlib.Numerals.{add-one}
use native.Mathlib.Omega.{arith}
use lib.Dec.{eqb}
use lib.ListN.{length, get_or, length-append, get_or-append}
use lib.Seq.{get_or-append_seam}
use lib.Ieee.{Float, le}
use lib.Ieee.Scale.{finite}
use borrow.Author.Tests.{eqb-true, eqb-false}
use Rattle.shapes.specs.Numbers.{entry}
use Rattle.shapes.proofs.TestLaws.{some_at, some_is}
use Rattle.board.specs.Call.{Way, refused, unmet, shared, tied, nearest_at, is_among, tie_from}
use Rattle.board_theorems.specs.Claims.{corners, apart, Serves, Lacks, Assigned}
use Rattle.board_theorems.proofs.NearestLaws.{with-next, Leads, Found, one-leads, near-enough, within, beyond, nearest-found}

-- one entry more
length_more : (known : List ℕ) (j : ℕ) → length (known ++ (j ∷ [])) ≡ suc (length known)
length_more known j = length-append known (j ∷ []) ∙ add-one (length known)

module _ (places : List Float) (limit : Float) (list : List Float) where
  -- ---- how a board of `inner` places ends; it is not refused any more
  abbrev pub Outcome : ℕ → Way → Type 0
  Outcome inner (refused r) = ⊥
  Outcome inner (unmet k) = (k < inner) × Lacks places limit list k × ((found : List ℕ) × Assigned places limit list k found)
  Outcome inner (shared k) =
      (k < inner) × ((found : List ℕ) × Assigned places limit list k found × ((m : ℕ) × (m < k) × Serves places limit list k (get_or found m 0)))
  Outcome inner (tied found) = Assigned places limit list inner found

  -- ---- a corner more
  module _ (known : List ℕ) (j : ℕ) (a : Assigned places limit list (length known) known) (s : Serves places limit list (length known) j)
      (fresh : is_among j known ≡ false) where
    abbrev longer : List ℕ
    longer = known ++ (j ∷ [])

    old : (k : ℕ) → k < length known → get_or longer k 0 ≡ get_or known k 0
    old k h = get_or-append known (j ∷ []) 0 k h

    new : get_or longer (length known) 0 ≡ j
    new = get_or-append_seam known j [] 0

    apart-new : (k : ℕ) → k < length known → get_or longer k 0 ≡ get_or longer (length known) 0 → ⊥
    apart-new k h e = eqb-false (get_or known k 0) j (some_at (length known) k (λ i. eqb (get_or known i 0) j) h fresh) (sym (old k h) ∙ e ∙ new)

    -- the corner of an older place, and the new one, are no other's
    own_old : (k : ℕ) → k < length known → (m : ℕ) → m < suc (length known) → get_or longer k 0 ≡ get_or longer m 0 → k ≡ m
    own_old k h =
        with-next (λ m. get_or longer k 0 ≡ get_or longer m 0 → k ≡ m) (λ m l e. a.own k m h l (sym (old k h) ∙ e ∙ old m l)) (λ e. absurd (apart-new k h e))

    own_new : (m : ℕ) → m < suc (length known) → get_or longer (length known) 0 ≡ get_or longer m 0 → length known ≡ m
    own_new = with-next (λ m. get_or longer (length known) 0 ≡ get_or longer m 0 → length known ≡ m) (λ m l e. absurd (apart-new m l (sym e))) (λ e. refl)

    assigned-more : Assigned places limit list (length longer) longer
    assigned-more =
        subst (λ (n : ℕ). Assigned places limit list n longer) (sym (length_more known j))
        (record {
          each = length_more known j;
          serves =
              with-next (λ k. Serves places limit list k (get_or longer k 0)) (λ k h. subst (Serves places limit list k) (sym (old k h)) (a.serves k h))
              (subst (Serves places limit list (length known)) (sym new) s);
          own = λ k m h l. with-next (λ k. get_or longer k 0 ≡ get_or longer m 0 → k ≡ m) (λ k h. own_old k h m l) (own_new m l) k h;
        })

  module _ (bounded : finite limit ≡ true) where
    -- ---- the nearest corner of place k
    found_at : (k : ℕ) → Found (apart places list k) (corners list) (nearest_at places list k).corner (nearest_at places list k).distance
    unfolding nearest_at
    found_at k = nearest-found list (entry places (2 * k)) (entry places (2 * k + 1)) (corners list)

    nearest-serves : (k : ℕ) → le (nearest_at places list k).distance limit ≡ true → Serves places limit list k (nearest_at places list k).corner
    nearest-serves k e =
        let w = within (apart places list k) limit bounded (found_at k) e in
        record { listed = w.0.listed; within = ap (λ (d : Float). le d limit) (sym w.1) ∙ e; least = w.0.least; lowest = w.0.lowest }

    serving-leads : {k j : ℕ} → Serves places limit list k j → Leads (apart places list k) (corners list) j
    serving-leads {k} {j} s =
        record { listed = s.listed; near = near-enough (apart places list k) limit bounded (apart places list k j) s.within; least = s.least; lowest = s.lowest }

    pub one-serves : {k i j : ℕ} → Serves places limit list k i → Serves places limit list k j → i ≡ j
    one-serves {k} s t = one-leads (apart places list k) (serving-leads s) (serving-leads t)

    -- ---- place by place, `known` being the corners of the places before
    pub outcome :
        (inner left : ℕ) (known : List ℕ) → length known + left ≡ inner → Assigned places limit list (length known) known
        → Outcome inner (tie_from places limit list left known)
    unfolding tie_from
    outcome inner zero known e a = subst (λ (n : ℕ). Assigned places limit list n known) (sym (add-zero (length known)) ∙ e) a
    outcome inner (suc left) known e a = go (le (nearest_at places list k).distance limit) refl (is_among j known) refl (outcome inner left longer)
      where
        k : ℕ
        k = length known

        j : ℕ
        j = (nearest_at places list k).corner

        longer : List ℕ
        longer = known ++ (j ∷ [])

        go :
            (b : Bool) → le (nearest_at places list k).distance limit ≡ b → (c : Bool) → is_among j known ≡ c
            → (length longer + left ≡ inner → Assigned places limit list (length longer) longer → Outcome inner (tie_from places limit list left longer))
            → Outcome inner (cond (not b) (unmet k) (cond c (shared k) (tie_from places limit list left longer)))
        go false n c q rest = (omega arith, beyond (apart places list k) limit bounded (found_at k) n, (known, a))
        go true n true q rest =
            let r = some_is k (λ i. eqb (get_or known i 0) j) q in
            (omega arith, (known, a, (r.0, r.1, subst (Serves places limit list k) (sym (eqb-true (get_or known r.0 0) j r.2)) (nearest-serves k n))))
        go true n false q rest = rest (omega (arith, length_more known j)) (assigned-more known j a (nearest-serves k n) q)
