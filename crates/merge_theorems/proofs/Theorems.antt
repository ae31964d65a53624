-- What holds of merging, whoever meets whom: the claims of specs/Claims.antt, proved for every rule and every list.
-- So each holds of the grid and of the plain scan alike. Beyond them: when two rules merge alike, and what merging a second time does.
use mathlib.Core.Path.{◌≡◌, refl, sym, ap, ◌∙◌, subst, subst₂}
use mathlib.Core.Logic.{◌⊎◌, inl, inr}
use mathlib.Core.Bool.{Bool, true, false, ◌&&◌, cond}
use mathlib.Core.List.{List, [], ◌∷◌}
use Prim.Native.Nat.{ℕ, ◌≤◌, ◌<◌}
use native.Mathlib.Nat.{lt_of_lt_of_le, le_of_suc-le-suc, not-suc-le-zero}
use native.Mathlib.Nat as N
use native.Mathlib.Omega.{arith}
use lib.ListN.{length}
use lib.Ieee.{Float, lt}
use Rattle.floats.proofs.OrderLaws.{lt_irrefl}
use Rattle.corners.specs.Corners.{corner_at}
use Rattle.corners.specs.declared.Corner.{Corner}
use Rattle.merge.specs.Meets.{Grid, near, neighbours, plain_meets, grid_meets}
use Rattle.merge.specs.Fold.{stronger, after_corner, merged}
use Rattle.merge.specs.Claims.{place_at, Joined, here, next, Stays, Local, Source, Uninvented, Earlier, Ordered, Guarded, StrongHeld, Alike}
use Rattle.merge_theorems.proofs.GrowLaws.{snoc, grow, at_old, at_new, length-snoc, Which, old, new, which, How, met, behind, Stands, own, still, after-behind, after-alike, merged-snoc, merged-step, place-old, either, not-below-new, not-below-old}

-- ---- numbers of a list that grows by one
within-old : (l : List Corner) (c : Corner) (i : ℕ) → i < length l → i < length (snoc l c)
within-old l c i h = omega (arith, length-snoc l c)

within_new : (l : List Corner) (c : Corner) → length l < length (snoc l c)
within_new l c = omega (arith, length-snoc l c)

which-of : (l : List Corner) (c : Corner) (i : ℕ) → i < length (snoc l c) → Which (length l) i
which-of l c i h = which (length l) i (subst (λ (n : ℕ). i < n) (length-snoc l c) h)

module _ (meets : Corner → Corner → Bool) where
  -- ---- separated corners stay
  pub separated-stay : (l : List Corner) → Stays meets l
  unfolding merged
  separated-stay = grow (Stays meets) (λ s. refl) more
    where
      more : (l : List Corner) (c : Corner) → Stays meets l → Stays meets (snoc l c)
      more l c ih s =
          merged-snoc meets l c
          ∙ ap (after_corner meets c) (ih (λ i j h k. subst₂ (λ (a b : Corner). meets a b ≡ false) (at_old l c j k) (at_old l c i (N.lt_trans h k)) (s i j h (within-old l c j k))))
          ∙ after-behind meets c l (λ i h. subst₂ (λ (a b : Corner). meets a b ≡ false) (at_new l c) (at_old l c i h) (s i (length l) h (within_new l c)))

  -- ---- nothing is invented
  pub nothing-invented : (l : List Corner) → Uninvented meets l
  unfolding merged
  nothing-invented = grow (Uninvented meets) (λ p h. absurd (not-suc-le-zero h)) more
    where
      more : (l : List Corner) (c : Corner) → Uninvented meets l → Uninvented meets (snoc l c)
      more l c ih p h = each p ((merged-step meets l c).each p h)
        where
          its : ℕ
          its = place_at meets (snoc l c) (length l)

          newest : corner_at (merged meets (snoc l c)) its ≡ c → Source meets (snoc l c) (merged meets (snoc l c)) its
          newest e = record { from = length l; within = within_new l c; same = e ∙ sym (at_new l c); went = refl }

          older : (q : ℕ) → corner_at (merged meets (snoc l c)) q ≡ corner_at (merged meets l) q → Source meets l (merged meets l) q → Source meets (snoc l c) (merged meets (snoc l c)) q
          older q e k = record { from = k.from; within = within-old l c k.from k.within; same = e ∙ k.same ∙ sym (at_old l c k.from k.within); went = place-old meets l c k.from k.within ∙ k.went }

          came : How meets c (merged meets l) (merged meets (snoc l c)) its → Source meets (snoc l c) (merged meets (snoc l c)) its
          came (met a m e) = elim (either c (corner_at (merged meets l) its)) [ inl x ↦ newest (e ∙ x) | inr y ↦ older its (e ∙ y) (ih its a) ]
          came (behind a e) = newest e

          each : (q : ℕ) → Stands meets c (merged meets l) (merged meets (snoc l c)) its q → Source meets (snoc l c) (merged meets (snoc l c)) q
          each q (own e) = subst (Source meets (snoc l c) (merged meets (snoc l c))) (sym e) (came (merged-step meets l c).how)
          each q (still a e) = older q e (ih q a)

  -- ---- what is kept at a corner's place is not weaker
  pub strong-held : (l : List Corner) → StrongHeld meets l
  strong-held = grow (StrongHeld meets) (λ i h. absurd (not-suc-le-zero h)) more
    where
      more : (l : List Corner) (c : Corner) → StrongHeld meets l → StrongHeld meets (snoc l c)
      more l c ih i h = by (which-of l c i h)
        where
          its : ℕ
          its = place_at meets (snoc l c) (length l)

          after : List Corner
          after = merged meets (snoc l c)

          coming : How meets c (merged meets l) after its → lt (corner_at after its).strength c.strength ≡ false
          coming (met a m e) = ap (λ (k : Corner). lt k.strength c.strength) e ∙ not-below-new c (corner_at (merged meets l) its)
          coming (behind a e) = ap (λ (k : Corner). lt k.strength c.strength) e ∙ lt_irrefl c.strength

          shared : (x : Float) → its < length (merged meets l) → lt (corner_at (merged meets l) its).strength x ≡ false → How meets c (merged meets l) after its → lt (corner_at after its).strength x ≡ false
          shared x b w (met a m e) = ap (λ (k : Corner). lt k.strength x) e ∙ not-below-old c (corner_at (merged meets l) its) x w
          shared x b w (behind a e) = absurd (omega arith)

          kept : (x : Float) (q : ℕ) → q < length (merged meets l) → lt (corner_at (merged meets l) q).strength x ≡ false → Stands meets c (merged meets l) after its q → lt (corner_at after q).strength x ≡ false
          kept x q b w (own e) =
              subst (λ (p : ℕ). lt (corner_at after p).strength x ≡ false) (sym e)
              (shared x (subst (λ (p : ℕ). p < length (merged meets l)) e b) (subst (λ (p : ℕ). lt (corner_at (merged meets l) p).strength x ≡ false) e w) (merged-step meets l c).how)
          kept x q b w (still a e) = ap (λ (k : Corner). lt k.strength x) e ∙ w

          held : (q : ℕ) → q ≡ place_at meets (snoc l c) i → q < length after → lt (corner_at after q).strength (corner_at (snoc l c) i).strength ≡ false → Guarded meets (snoc l c) (merged meets (snoc l c)) i
          held q e b w = record { there = subst (λ (p : ℕ). p < length after) e b; strong = subst (λ (p : ℕ). lt (corner_at after p).strength (corner_at (snoc l c) i).strength ≡ false) e w }

          by : Which (length l) i → Guarded meets (snoc l c) (merged meets (snoc l c)) i
          by (old k) =
              let q = place_at meets l i in
              let b = lt_of_lt_of_le (ih i k).there (merged-step meets l c).longer in
              held q (sym (place-old meets l c i k)) b
              (ap (λ (x : Corner). lt (corner_at after q).strength x.strength) (at_old l c i k) ∙ kept (corner_at l i).strength q (ih i k).there (ih i k).strong ((merged-step meets l c).each q b))
          by (new e) =
              held its (ap (place_at meets (snoc l c)) (sym e)) (merged-step meets l c).there
              (ap (λ (j : ℕ). lt (corner_at after its).strength (corner_at (snoc l c) j).strength) e
              ∙ ap (λ (x : Corner). lt (corner_at after its).strength x.strength) (at_new l c)
              ∙ coming (merged-step meets l c).how)

  -- ---- places keep the order of their first corner
  pub order-kept : (l : List Corner) → Ordered meets l
  order-kept = grow (Ordered meets) (λ i p h. absurd (not-suc-le-zero h)) more
    where
      more : (l : List Corner) (c : Corner) → Ordered meets l → Ordered meets (snoc l c)
      more l c ih i p h b = by (which-of l c i h)
        where
          low : How meets c (merged meets l) (merged meets (snoc l c)) (place_at meets (snoc l c) (length l)) → p < place_at meets (snoc l c) (length l) → p < length (merged meets l)
          low (met a m e) k = N.lt_trans k a
          low (behind a e) k = subst (λ (n : ℕ). p < n) a k

          lifted : i < length l → Earlier meets l i p → Earlier meets (snoc l c) i p
          lifted k w = record { who = w.who; before = w.before; went = place-old meets l c w.who (N.lt_trans w.before k) ∙ w.went }

          found : i ≡ length l → Source meets l (merged meets l) p → Earlier meets (snoc l c) i p
          found e k = record { who = k.from; before = subst (λ (n : ℕ). k.from < n) (sym e) k.within; went = place-old meets l c k.from k.within ∙ k.went }

          by : Which (length l) i → Earlier meets (snoc l c) i p
          by (old k) = lifted k (ih i p k (subst (λ (n : ℕ). p < n) (place-old meets l c i k) b))
          by (new e) = found e (nothing-invented l p (low (merged-step meets l c).how (subst (λ (n : ℕ). p < place_at meets (snoc l c) n) e b)))

  -- ---- merging is local
  joined-trans : (l : List Corner) {i j k : ℕ} → Joined meets l i j → Joined meets l j k → Joined meets l i k
  joined-trans l here b = b
  joined-trans l (next n h m a) b = next n h m (joined-trans l a b)

  Meet : Corner → Corner → Type 0
  Meet a b = (meets a b ≡ true) ⊎ (meets b a ≡ true)

  joined-old : (l : List Corner) (c : Corner) {i k : ℕ} → i < length l → Joined meets l i k → Joined meets (snoc l c) i k
  unfolding Meet
  joined-old l c h here = here
  joined-old l c {i} h (next n a m r) = next n (within-old l c n a) (subst₂ Meet (sym (at_old l c i h)) (sym (at_old l c n a)) m) (joined-old l c a r)

  pub merging-is-local : (l : List Corner) → Local meets l
  merging-is-local = grow (Local meets) (λ i j h. absurd (not-suc-le-zero h)) more
    where
      more : (l : List Corner) (c : Corner) → Local meets l → Local meets (snoc l c)
      more l c ih i j a b e = by (which-of l c i a) (which-of l c j b)
        where
          its : ℕ
          its = place_at meets (snoc l c) (length l)

          Both : ℕ → Type 0
          Both i = Joined meets (snoc l c) i (length l) × Joined meets (snoc l c) (length l) i

          -- an old corner in the new one's place is joined to the corner that stood there, which the new one met
          through : (i : ℕ) → i < length l → place_at meets l i ≡ its → meets c (corner_at (merged meets l) its) ≡ true → Source meets l (merged meets l) its → Both i
          through i h p m k =
              let m' : meets (corner_at (snoc l c) (length l)) (corner_at (snoc l c) k.from) ≡ true = subst₂ (λ (x y : Corner). meets x y ≡ true) (sym (at_new l c)) (k.same ∙ sym (at_old l c k.from k.within)) m in (
                joined-trans (snoc l c) (joined-old l c h (ih i k.from h k.within (p ∙ sym k.went))) (next (length l) (within_new l c) (inr m') here),
                next k.from (within-old l c k.from k.within) (inl m') (joined-old l c k.within (ih k.from i k.within h (k.went ∙ sym p))),
              )

          with-new : (i : ℕ) → i < length l → place_at meets (snoc l c) i ≡ its → How meets c (merged meets l) (merged meets (snoc l c)) its → Both i
          with-new i h p (met x m y) = through i h (sym (place-old meets l c i h) ∙ p) m (nothing-invented l its x)
          with-new i h p (behind x y) = absurd (omega (arith, (strong-held l i h).there, place-old meets l c i h))

          by : Which (length l) i → Which (length l) j → Joined meets (snoc l c) i j
          by (old h) (old k) = joined-old l c h (ih i j h k (sym (place-old meets l c i h) ∙ e ∙ place-old meets l c j k))
          by (old h) (new f) = subst (Joined meets (snoc l c) i) (sym f) (with-new i h (e ∙ ap (place_at meets (snoc l c)) f) (merged-step meets l c).how).0
          by (new f) (old k) = subst (λ (n : ℕ). Joined meets (snoc l c) n j) (sym f) (with-new j k (sym e ∙ ap (place_at meets (snoc l c)) f) (merged-step meets l c).how).1
          by (new f) (new g) = subst (Joined meets (snoc l c) i) (f ∙ sym g) here

-- ---- rules that say the same of every two corners of a list merge it alike
pub alike-merges : (meets meets' : Corner → Corner → Bool) (l : List Corner) → Alike meets meets' l → merged meets l ≡ merged meets' l
unfolding merged
alike-merges meets meets' = grow (λ (l : List Corner). Alike meets meets' l → merged meets l ≡ merged meets' l) (λ s. refl) more
  where
    more : (l : List Corner) (c : Corner) → (Alike meets meets' l → merged meets l ≡ merged meets' l) → Alike meets meets' (snoc l c) → merged meets (snoc l c) ≡ merged meets' (snoc l c)
    more l c ih s =
        merged-snoc meets l c
        ∙ after-alike meets meets' c (merged meets l) (λ p h. same (nothing-invented meets l p h))
        ∙ ap (after_corner meets' c) (ih (λ i j h k. subst₂ (λ (a b : Corner). meets a b ≡ meets' a b) (at_old l c i h) (at_old l c j k) (s i j (within-old l c i h) (within-old l c j k))))
        ∙ sym (merged-snoc meets' l c)
      where
        same : {p : ℕ} → Source meets l (merged meets l) p → meets c (corner_at (merged meets l) p) ≡ meets' c (corner_at (merged meets l) p)
        same k = subst₂ (λ (a b : Corner). meets a b ≡ meets' a b) (at_new l c) (at_old l c k.from k.within ∙ sym k.same) (s (length l) k.from (within_new l c) (within-old l c k.from k.within))

-- The grid merges as the plain scan does where every two corners of the list that are near lie in cells that touch. This condition suffices.
-- It can fail, at ordinary radii too: Cases has lists on which the two part.
pub grid-as-scan : (g : Grid) (r2 : Float) (l : List Corner)
    → ((i j : ℕ) → i < length l → j < length l → near r2 (corner_at l i) (corner_at l j) ≡ true → neighbours g (corner_at l i) (corner_at l j) ≡ true)
    → merged (grid_meets g r2) l ≡ merged (plain_meets r2) l
grid-as-scan g r2 l touching = alike-merges (grid_meets g r2) (plain_meets r2) l (λ i j h k. both (neighbours g (corner_at l i) (corner_at l j)) (near r2 (corner_at l i) (corner_at l j)) (touching i j h k))
  where
    both : (a b : Bool) → (b ≡ true → a ≡ true) → (a && b) ≡ b
    both true b h = refl
    both false true h = h refl
    both false false h = refl

-- ---- merging a second time: two corners or fewer are merged twice as once. Three are not: Cases has a list.
-- the rule may turn on the list, as the grid's does: a second call lays its cells anew
pub twice-as-once-anew : (rule : List Corner → Corner → Corner → Bool) (l : List Corner) → length l ≤ 2
    → merged (rule (merged (rule l) l)) (merged (rule l) l) ≡ merged (rule l) l
unfolding merged
twice-as-once-anew rule [] h = refl
twice-as-once-anew rule (a ∷ []) h = refl
twice-as-once-anew rule (a ∷ b ∷ []) h = go (rule (a ∷ b ∷ []) b a) refl
  where
    kept : Bool → List Corner
    kept m = cond m (stronger b a ∷ []) (a ∷ b ∷ [])

    go : (m : Bool) → rule (a ∷ b ∷ []) b a ≡ m → merged (rule (kept m)) (kept m) ≡ kept m
    go true e = refl
    go false e = ap kept e
twice-as-once-anew rule (a ∷ b ∷ c ∷ l) h = absurd (not-suc-le-zero (le_of_suc-le-suc (le_of_suc-le-suc h)))

pub twice-as-once : (meets : Corner → Corner → Bool) (l : List Corner) → length l ≤ 2 → merged meets (merged meets l) ≡ merged meets l
twice-as-once meets l h = twice-as-once-anew (λ (k : List Corner). meets) l h
