-- Laws of the nine kept fits: a slot that is written holds what was put there and the others hold what they held.
use mathlib.Core.Path.{◌≡◌, refl, sym, ap, ◌∙◌, subst}
use mathlib.Core.Logic.{◌⊎◌, ⊎_elim}
use mathlib.Core.List.{List, [], ◌∷◌}
use Prim.Native.Nat.{ℕ, ◌+◌, ◌*◌, ◌/◌, ◌%◌, ◌≤◌, ◌<◌}
use native.Mathlib.Nat.{add_assoc, eq-or-lt_of_le, add-zero}
use native.Mathlib.Omega.{arith}
use mathlib.Core.Bool.{Bool, true, false, ◌&&◌, cond}
use lib.Dec.{T, leb, ltb, eqb, leb→le}
use lib.Ieee.Fits.{and_l, and_r}
use lib.IntN.{pos}
use borrow.Author.Tests.{eqb-true, eqb-false, leb-false, ltb-true, ltb-false, le-leb, lt-ltb, le-ltb}
use Rattle.shapes.specs.Numbers.{entry}
use Rattle.shapes.specs.Lists.{tabulated}
use Rattle.refine_fits.specs.Windows.{lacking, four, fits4, corners_at}
use Rattle.refine_fits.specs.Fit.{Fit, no_fit, fitted, fit_at, coefficients}
use lib.ListN.{length, get_or, set, length-set}
use lib.Seq.{get_or-set_same, get_or-set_other}
use lib.Ieee.{Float, nan}
use Rattle.imageview.specs.Image.{Image}
use Rattle.refine_fits.specs.declared.IntegerFits.{IntegerFits}
use Rattle.imageview.specs.Patch.{inside, supports_patch}
use Rattle.imageview.proofs.PatchLaws.{before}
use Rattle.refine_fits.specs.StepsAdding.{Sound, PatchWithin, FourWithin, has_room}
use Rattle.refine_formulas.proofs.Choice.{and_both}
use Rattle.refine_fits.specs.StepsCache.{fit_in, centre_x, centre_y, named, slotted, Shaped, Kept, Slot, Counted}

-- ---- five stores in a row
pub five : {a b c d e a' b' c' d' e' : Float} → a ≡ a' → b ≡ b' → c ≡ c' → d ≡ d' → e ≡ e' → a ∷ b ∷ c ∷ d ∷ e ∷ [] ≡ a' ∷ b' ∷ c' ∷ d' ∷ e' ∷ []
five {a} {b} {c} {d} {e} {a'} {b'} {c'} {d'} {e'} p q r s t =
    ap (λ (v : Float). v ∷ b ∷ c ∷ d ∷ e ∷ []) p
    ∙ ap (λ (v : Float). a' ∷ v ∷ c ∷ d ∷ e ∷ []) q
    ∙ ap (λ (v : Float). a' ∷ b' ∷ v ∷ d ∷ e ∷ []) r
    ∙ ap (λ (v : Float). a' ∷ b' ∷ c' ∷ v ∷ e ∷ []) s
    ∙ ap (λ (v : Float). a' ∷ b' ∷ c' ∷ d' ∷ v ∷ []) t

abbrev five_at : List Float → ℕ → List Float
five_at l p = entry l p ∷ entry l (p + 1) ∷ entry l (p + 2) ∷ entry l (p + 3) ∷ entry l (p + 4) ∷ []

abbrev put : List Float → ℕ → Float → Float → Float → Float → Float → List Float
put l p a b c d e = set (set (set (set (set l p a) (p + 1) b) (p + 2) c) (p + 3) d) (p + 4) e

put-else : (l : List Float) (s m : ℕ) (a b c d e : Float) → (m / 5 ≡ s → ⊥) → entry (put l (5 * s) a b c d e) m ≡ entry l m
put-else l s m a b c d e h =
    get_or-set_other (set (set (set (set l (5 * s) a) (5 * s + 1) b) (5 * s + 2) c) (5 * s + 3) d) (5 * s + 4) m e nan (λ (q : m ≡ 5 * s + 4). h (omega arith))
    ∙ get_or-set_other (set (set (set l (5 * s) a) (5 * s + 1) b) (5 * s + 2) c) (5 * s + 3) m d nan (λ (q : m ≡ 5 * s + 3). h (omega arith))
    ∙ get_or-set_other (set (set l (5 * s) a) (5 * s + 1) b) (5 * s + 2) m c nan (λ (q : m ≡ 5 * s + 2). h (omega arith))
    ∙ get_or-set_other (set l (5 * s) a) (5 * s + 1) m b nan (λ (q : m ≡ 5 * s + 1). h (omega arith))
    ∙ get_or-set_other l (5 * s) m a nan (λ (q : m ≡ 5 * s). h (omega arith))

-- what is put in place k
put-at : (l : List Float) (p : ℕ) (a b c d e : Float) → p + 4 < length l → five_at (put l p a b c d e) p ≡ a ∷ b ∷ c ∷ d ∷ e ∷ []
put-at l p a b c d e h =
    let l1 = set l p a in
    let l2 = set l1 (p + 1) b in
    let l3 = set l2 (p + 2) c in
    let l4 = set l3 (p + 3) d in
    let n1 : length l1 ≡ length l = length-set l p a in
    let n2 : length l2 ≡ length l = length-set l1 (p + 1) b ∙ n1 in
    let n3 : length l3 ≡ length l = length-set l2 (p + 2) c ∙ n2 in
    let n4 : length l4 ≡ length l = length-set l3 (p + 3) d ∙ n3 in
    five
    (get_or-set_other l4 (p + 4) p e nan (λ (q : p ≡ p + 4). omega arith) ∙ get_or-set_other l3 (p + 3) p d nan (λ (q : p ≡ p + 3). omega arith) ∙ get_or-set_other l2 (p + 2) p c nan (λ (q : p ≡ p + 2). omega arith) ∙ get_or-set_other l1 (p + 1) p b nan (λ (q : p ≡ p + 1). omega arith) ∙ get_or-set_same l p a nan (below p 4 (length l) h))
    (get_or-set_other l4 (p + 4) (p + 1) e nan (λ (q : p + 1 ≡ p + 4). omega arith) ∙ get_or-set_other l3 (p + 3) (p + 1) d nan (λ (q : p + 1 ≡ p + 3). omega arith) ∙ get_or-set_other l2 (p + 2) (p + 1) c nan (λ (q : p + 1 ≡ p + 2). omega arith) ∙ get_or-set_same l1 (p + 1) b nan (subst (λ (n : ℕ). p + 1 < n) (sym n1) (omega arith)))
    (get_or-set_other l4 (p + 4) (p + 2) e nan (λ (q : p + 2 ≡ p + 4). omega arith) ∙ get_or-set_other l3 (p + 3) (p + 2) d nan (λ (q : p + 2 ≡ p + 3). omega arith) ∙ get_or-set_same l2 (p + 2) c nan (subst (λ (n : ℕ). p + 2 < n) (sym n2) (omega arith)))
    (get_or-set_other l4 (p + 4) (p + 3) e nan (λ (q : p + 3 ≡ p + 4). omega arith) ∙ get_or-set_same l3 (p + 3) d nan (subst (λ (n : ℕ). p + 3 < n) (sym n3) (omega arith)))
    (get_or-set_same l4 (p + 4) e nan (subst (λ (n : ℕ). p + 4 < n) (sym n4) h))
  where
    below : (p k n : ℕ) → p + k < n → p < n
    below p k n h = omega arith

fit-else : (l : List Float) (s slot : ℕ) (a b c d e : Float) → (slot ≡ s → ⊥) → fit_in (put l (5 * s) a b c d e) slot ≡ fit_in l slot
fit-else l s slot a b c d e h =
    five
    (put-else l s (5 * slot) a b c d e (λ (q : 5 * slot / 5 ≡ s). h (omega arith)))
    (put-else l s (5 * slot + 1) a b c d e (λ (q : (5 * slot + 1) / 5 ≡ s). h (omega arith)))
    (put-else l s (5 * slot + 2) a b c d e (λ (q : (5 * slot + 2) / 5 ≡ s). h (omega arith)))
    (put-else l s (5 * slot + 3) a b c d e (λ (q : (5 * slot + 3) / 5 ≡ s). h (omega arith)))
    (put-else l s (5 * slot + 4) a b c d e (λ (q : (5 * slot + 4) / 5 ≡ s). h (omega arith)))

-- ---- two stores of a centre
abbrev pair : List ℕ → ℕ → ℕ → ℕ → List ℕ
pair l p x y = set (set l p x) (p + 1) y

pair-else : (l : List ℕ) (s m x y : ℕ) → (m / 2 ≡ s → ⊥) → get_or (pair l (2 * s) x y) m 0 ≡ get_or l m 0
pair-else l s m x y h =
    get_or-set_other (set l (2 * s) x) (2 * s + 1) m y 0 (λ (q : m ≡ 2 * s + 1). h (omega arith))
    ∙ get_or-set_other l (2 * s) m x 0 (λ (q : m ≡ 2 * s). h (omega arith))

pair-x : (l : List ℕ) (p x y : ℕ) → p < length l → get_or (pair l p x y) p 0 ≡ x
pair-x l p x y h = get_or-set_other (set l p x) (p + 1) p y 0 (λ (q : p ≡ p + 1). omega arith) ∙ get_or-set_same l p x 0 h

pair-y : (l : List ℕ) (p x y : ℕ) → p + 1 < length l → get_or (pair l p x y) (p + 1) 0 ≡ y
pair-y l p x y h = get_or-set_same (set l p x) (p + 1) y 0 (subst (λ (n : ℕ). p + 1 < n) (sym (length-set l p x)) h)

-- ---- storing a fit
abbrev pub five_of : List Float → List Float
five_of l = entry l 0 ∷ entry l 1 ∷ entry l 2 ∷ entry l 3 ∷ entry l 4 ∷ []

pub record Stored (fits : IntegerFits) (x y : ℕ) (coefs : List Float) (r : IntegerFits) : Type 0 where
  pub sized : Shaped r
  pub used : (slot : ℕ) → slot < 9 → slot < r.len → (slot < fits.len) ⊎ (slot ≡ fits.len % 9)
  pub fit : fit_in r.coefs (fits.len % 9) ≡ five_of coefs
  pub at_x : centre_x r.centres (fits.len % 9) ≡ x
  pub at_y : centre_y r.centres (fits.len % 9) ≡ y
  pub fit-else : (slot : ℕ) → (slot ≡ fits.len % 9 → ⊥) → fit_in r.coefs slot ≡ fit_in fits.coefs slot
  pub x-else : (slot : ℕ) → (slot ≡ fits.len % 9 → ⊥) → centre_x r.centres slot ≡ centre_x fits.centres slot
  pub y-else : (slot : ℕ) → (slot ≡ fits.len % 9 → ⊥) → centre_y r.centres slot ≡ centre_y fits.centres slot

abbrev holding : List ℕ → List Float → ℕ → IntegerFits
holding centres coefs len = record { centres = centres; coefs = coefs; len = len }

put_in : (fits : IntegerFits) (x y len : ℕ) (coefs : List Float) → Shaped fits → Counted fits.len len → Stored fits x y coefs (holding (named fits.centres (fits.len % 9) x y) (slotted fits.coefs (fits.len % 9) coefs) len)
put_in fits x y len coefs z n =
    let s = fits.len % 9 in
    let l = fits.coefs in
    let c = fits.centres in
    record {
      sized = record {
        centres = length-set (set c (2 * s) x) (2 * s + 1) y ∙ length-set c (2 * s) x ∙ z.centres;
        coefs = put-length l (5 * s) (entry coefs 0) (entry coefs 1) (entry coefs 2) (entry coefs 3) (entry coefs 4) ∙ z.coefs;
        count = n.small;
      };
      used = n.used;
      fit = put-at l (5 * s) (entry coefs 0) (entry coefs 1) (entry coefs 2) (entry coefs 3) (entry coefs 4) (subst (λ (k : ℕ). 5 * s + 4 < k) (sym z.coefs) (in-coefs fits.len));
      at_x = pair-x c (2 * s) x y (subst (λ (k : ℕ). 2 * s < k) (sym z.centres) (in-centres fits.len));
      at_y = pair-y c (2 * s) x y (subst (λ (k : ℕ). 2 * s + 1 < k) (sym z.centres) (in-centres-2 fits.len));
      fit-else = λ slot h. fit-else l s slot (entry coefs 0) (entry coefs 1) (entry coefs 2) (entry coefs 3) (entry coefs 4) h;
      x-else = λ slot h. pair-else c s (2 * slot) x y (λ (q : 2 * slot / 2 ≡ s). h (half slot s q));
      y-else = λ slot h. pair-else c s (2 * slot + 1) x y (λ (q : (2 * slot + 1) / 2 ≡ s). h (half-2 slot s q));
    }
  where
    put-length : (l : List Float) (p : ℕ) (a b c d e : Float) → length (put l p a b c d e) ≡ length l
    put-length l p a b c d e = simp length-set

    in-coefs : (len : ℕ) → 5 * (len % 9) + 4 < 45
    in-coefs len = omega arith

    in-centres : (len : ℕ) → 2 * (len % 9) < 18
    in-centres len = omega arith

    in-centres-2 : (len : ℕ) → 2 * (len % 9) + 1 < 18
    in-centres-2 len = omega arith

    half : (slot s : ℕ) → 2 * slot / 2 ≡ s → slot ≡ s
    half slot s q = omega arith

    half-2 : (slot s : ℕ) → (2 * slot + 1) / 2 ≡ s → slot ≡ s
    half-2 slot s q = omega arith

pub stored : (fits : IntegerFits) (x y len : ℕ) (coefs : List Float) (centres' : List ℕ) (coefs' : List Float) → Shaped fits → Counted fits.len len → centres' ≡ named fits.centres (fits.len % 9) x y → coefs' ≡ slotted fits.coefs (fits.len % 9) coefs → Stored fits x y coefs (holding centres' coefs' len)
stored fits x y len coefs centres' coefs' z n p q =
    subst (λ (v : List ℕ). Stored fits x y coefs (holding v coefs' len)) (sym p)
    (subst (λ (w : List Float). Stored fits x y coefs (holding (named fits.centres (fits.len % 9) x y) w len)) (sym q) (put_in fits x y len coefs z n))

-- ---- a look-up
pub hit : (img : Image) (columns : List Float) (radius x y slot : ℕ) (fits : IntegerFits) → Kept img columns radius fits → Slot fits.centres fits.len x y slot → fit_in fits.coefs slot ≡ coefficients img columns radius x y
hit img columns radius x y slot fits k h =
    k.fresh slot h.small h.used
    ∙ ap (λ (u : ℕ). coefficients img columns radius u (centre_y fits.centres slot)) h.at_x
    ∙ ap (λ (v : ℕ). coefficients img columns radius x v) h.at_y

-- five entries of a fit are the fit
pub all-five : (img : Image) (columns : List Float) (radius x y : ℕ) → five_of (coefficients img columns radius x y) ≡ coefficients img columns radius x y
unfolding coefficients tabulated
all-five img columns radius x y = refl

pub kept-stored : (img : Image) (columns : List Float) (radius x y : ℕ) (coefs : List Float) (fits r : IntegerFits) → Kept img columns radius fits → coefs ≡ coefficients img columns radius x y → Stored fits x y coefs r → Kept img columns radius r
kept-stored img columns radius x y coefs fits r k e s =
    record { sized = s.sized; fresh = λ slot a b. by slot a b (eqb slot (fits.len % 9)) refl }
  where
    fresh_at : (slot : ℕ) → Type 0
    fresh_at slot = fit_in r.coefs slot ≡ coefficients img columns radius (centre_x r.centres slot) (centre_y r.centres slot)

    new : fresh_at (fits.len % 9)
    new = s.fit ∙ ap five_of e ∙ all-five img columns radius x y ∙ ap (λ (u : ℕ). coefficients img columns radius u y) (sym s.at_x) ∙ ap (λ (v : ℕ). coefficients img columns radius (centre_x r.centres (fits.len % 9)) v) (sym s.at_y)

    old : (slot : ℕ) → slot < 9 → slot < fits.len → (slot ≡ fits.len % 9 → ⊥) → fresh_at slot
    old slot a b h = s.fit-else slot h ∙ k.fresh slot a b ∙ ap (λ (u : ℕ). coefficients img columns radius u (centre_y fits.centres slot)) (sym (s.x-else slot h)) ∙ ap (λ (v : ℕ). coefficients img columns radius (centre_x r.centres slot) v) (sym (s.y-else slot h))

    by : (slot : ℕ) → slot < 9 → slot < r.len → (b : Bool) → eqb slot (fits.len % 9) ≡ b → fresh_at slot
    by slot a b true q = subst fresh_at (sym (eqb-true slot (fits.len % 9) q)) new
    by slot a b false q = ⊎_elim (λ l. old slot a l (eqb-false slot (fits.len % 9) q)) (λ t. absurd (eqb-false slot (fits.len % 9) q t)) (s.used slot a b)

-- ---- the four fits about a base
pub there : (img : Image) (columns : List Float) (radius x y : ℕ) → PatchWithin img radius x y → fit_at img columns radius (pos x) (pos y) ≡ fitted (coefficients img columns radius x y)
unfolding fit_at supports_patch
there img columns radius x y w =
    let f = fitted (coefficients img columns radius x y) in
    sym (and_both (leb radius x && ltb (x + radius) img.width) (leb radius y && ltb (y + radius) img.height) f no_fit
    (both (leb radius x) (ltb (x + radius) img.width) (le-leb radius x w.left) (lt-ltb (x + radius) img.width w.right))
    (both (leb radius y) (ltb (y + radius) img.height) (le-leb radius y w.above) (lt-ltb (y + radius) img.height w.below)))
  where
    both : (a b : Bool) → a ≡ true → b ≡ true → (a && b) ≡ true
    both a b p q = ap (λ (z : Bool). a && z) q ∙ ap (λ (z : Bool). z && true) p

away-x : (img : Image) (columns : List Float) (radius x y : ℕ) → inside radius img.width (pos x) ≡ false → fit_at img columns radius (pos x) (pos y) ≡ no_fit
unfolding fit_at supports_patch
away-x img columns radius x y h = ap (λ (b : Bool). cond (b && inside radius img.height (pos y)) (fitted (coefficients img columns radius x y)) no_fit) h

away-y : (img : Image) (columns : List Float) (radius x y : ℕ) → inside radius img.height (pos y) ≡ false → fit_at img columns radius (pos x) (pos y) ≡ no_fit
unfolding fit_at supports_patch
away-y img columns radius x y h = ap (λ (b : Bool). cond (inside radius img.width (pos x) && b) f no_fit) h ∙ never (inside radius img.width (pos x))
  where
    f : Fit
    f = fitted (coefficients img columns radius x y)

    never : (b : Bool) → cond (b && false) f no_fit ≡ no_fit
    never true = refl
    never false = refl

pub none_first : (a b c d : Fit) → a ≡ no_fit → fits4 a b c d ≡ lacking
none_first a b c d h = ap (λ (f : Fit). fits4 f b c d) h

none-second : (a b c d : Fit) → b ≡ no_fit → fits4 a b c d ≡ lacking
none-second no_fit b c d h = refl
none-second (fitted a) b c d h = ap (λ (f : Fit). fits4 (fitted a) f c d) h

none-third : (a b c d : Fit) → c ≡ no_fit → fits4 a b c d ≡ lacking
none-third no_fit b c d h = refl
none-third (fitted a) no_fit c d h = refl
none-third (fitted a) (fitted b) c d h = ap (λ (f : Fit). fits4 (fitted a) (fitted b) f d) h

pub behind : (radius n c : ℕ) → n ≤ c + radius → inside radius n (pos c) ≡ false
behind radius n c h = ap (λ (b : Bool). leb radius c && b) (le-ltb (c + radius) n h) ∙ never (leb radius c)
  where
    never : (b : Bool) → (b && false) ≡ false
    never true = refl
    never false = refl

pub room00 : {img : Image} {radius x y : ℕ} → FourWithin img radius x y → PatchWithin img radius x y
room00 w = record { sound = w.sound; left = w.left; right = omega (arith, w.right); above = w.above; below = omega (arith, w.below) }

pub room10 : {img : Image} {radius x y : ℕ} → FourWithin img radius x y → PatchWithin img radius (x + 1) y
room10 w = record { sound = w.sound; left = omega (arith, w.left); right = w.right; above = w.above; below = omega (arith, w.below) }

pub room01 : {img : Image} {radius x y : ℕ} → FourWithin img radius x y → PatchWithin img radius x (y + 1)
room01 w = record { sound = w.sound; left = w.left; right = omega (arith, w.right); above = omega (arith, w.above); below = w.below }

pub room11 : {img : Image} {radius x y : ℕ} → FourWithin img radius x y → PatchWithin img radius (x + 1) (y + 1)
room11 w = record { sound = w.sound; left = omega (arith, w.left); right = w.right; above = omega (arith, w.above); below = w.below }

-- the four, by one of them
module _ (img : Image) (columns : List Float) (radius x y : ℕ) where
  pub lacks-left : x < radius → corners_at img columns radius (pos x) (pos y) ≡ lacking
  unfolding corners_at
  lacks-left h = none_first (fit_at img columns radius (pos x) (pos y)) (fit_at img columns radius (pos (x + 1)) (pos y)) (fit_at img columns radius (pos x) (pos (y + 1))) (fit_at img columns radius (pos (x + 1)) (pos (y + 1))) (away-x img columns radius x y (sym (before radius img.width x h)))

  pub lacks-right : img.width ≤ x + 1 + radius → corners_at img columns radius (pos x) (pos y) ≡ lacking
  unfolding corners_at
  lacks-right h = none-second (fit_at img columns radius (pos x) (pos y)) (fit_at img columns radius (pos (x + 1)) (pos y)) (fit_at img columns radius (pos x) (pos (y + 1))) (fit_at img columns radius (pos (x + 1)) (pos (y + 1))) (away-x img columns radius (x + 1) y (behind radius img.width (x + 1) h))

  pub lacks-above : y < radius → corners_at img columns radius (pos x) (pos y) ≡ lacking
  unfolding corners_at
  lacks-above h = none_first (fit_at img columns radius (pos x) (pos y)) (fit_at img columns radius (pos (x + 1)) (pos y)) (fit_at img columns radius (pos x) (pos (y + 1))) (fit_at img columns radius (pos (x + 1)) (pos (y + 1))) (away-y img columns radius x y (sym (before radius img.height y h)))

  pub lacks-below : img.height ≤ y + 1 + radius → corners_at img columns radius (pos x) (pos y) ≡ lacking
  unfolding corners_at
  lacks-below h = none-third (fit_at img columns radius (pos x) (pos y)) (fit_at img columns radius (pos (x + 1)) (pos y)) (fit_at img columns radius (pos x) (pos (y + 1))) (fit_at img columns radius (pos (x + 1)) (pos (y + 1))) (away-y img columns radius x (y + 1) (behind radius img.height (y + 1) h))

  pub lacks : has_room radius x y img.width img.height ≡ false → corners_at img columns radius (pos x) (pos y) ≡ lacking
  lacks e = by (leb radius x) (ltb (x + 1 + radius) img.width) (leb radius y) (ltb (y + 1 + radius) img.height) refl refl refl refl e
    where
      by : (a b c d : Bool) → leb radius x ≡ a → ltb (x + 1 + radius) img.width ≡ b → leb radius y ≡ c → ltb (y + 1 + radius) img.height ≡ d → (a && b && c && d) ≡ false → corners_at img columns radius (pos x) (pos y) ≡ lacking
      by false b c d p q r s h = lacks-left (leb-false radius x p)
      by true false c d p q r s h = lacks-right (ltb-false (x + 1 + radius) img.width q)
      by true true false d p q r s h = lacks-above (leb-false radius y r)
      by true true true false p q r s h = lacks-below (ltb-false (y + 1 + radius) img.height s)
      by true true true true p q r s h = absurd (subst never (sym h) tt)
        where
          never : Bool → Type 0
          never true = ⊥
          never false = Unit

  pub roomy : Sound img radius → has_room radius x y img.width img.height ≡ true → FourWithin img radius x y
  roomy s e =
      let a = leb radius x in
      let b = ltb (x + 1 + radius) img.width in
      let c = leb radius y in
      let d = ltb (y + 1 + radius) img.height in
      let all : T (a && b && c && d) = subst T (sym e) tt in
      let abc : T (a && b && c) = and_l (a && b && c) d all in
      let ab : T (a && b) = and_l (a && b) c abc in
      record {
        sound = s;
        left = leb→le radius x (and_l a b ab);
        right = ltb-true (x + 1 + radius) img.width (is_true b (and_r a b ab));
        above = leb→le radius y (and_r (a && b) c abc);
        below = ltb-true (y + 1 + radius) img.height (is_true d (and_r (a && b && c) d all));
      }
    where
      is_true : (b : Bool) → T b → b ≡ true
      is_true true t = refl
      is_true false t = absurd t

  pub has-four : FourWithin img radius x y → corners_at img columns radius (pos x) (pos y) ≡ four (record { c00 = coefficients img columns radius x y; c10 = coefficients img columns radius (x + 1) y; c01 = coefficients img columns radius x (y + 1); c11 = coefficients img columns radius (x + 1) (y + 1) })
  unfolding corners_at
  has-four w =
      ap (λ (f : Fit). fits4 f (fit_at img columns radius (pos (x + 1)) (pos y)) (fit_at img columns radius (pos x) (pos (y + 1))) (fit_at img columns radius (pos (x + 1)) (pos (y + 1)))) (there img columns radius x y (room00 w))
      ∙ ap (λ (f : Fit). fits4 (fitted (coefficients img columns radius x y)) f (fit_at img columns radius (pos x) (pos (y + 1))) (fit_at img columns radius (pos (x + 1)) (pos (y + 1)))) (there img columns radius (x + 1) y (room10 w))
      ∙ ap (λ (f : Fit). fits4 (fitted (coefficients img columns radius x y)) (fitted (coefficients img columns radius (x + 1) y)) f (fit_at img columns radius (pos (x + 1)) (pos (y + 1)))) (there img columns radius x (y + 1) (room01 w))
      ∙ ap (λ (f : Fit). fits4 (fitted (coefficients img columns radius x y)) (fitted (coefficients img columns radius (x + 1) y)) (fitted (coefficients img columns radius x (y + 1))) f) (there img columns radius (x + 1) (y + 1) (room11 w))

  -- the fit of the four that is looked up in turn k
  abbrev pub about : ℕ → List Float
  about k = coefficients img columns radius (x + k % 2) (y + k / 2)

  -- four fits that were looked up
  pub looked : (c00 c10 c01 c11 : List Float) → FourWithin img radius x y → c00 ≡ about 0 → c10 ≡ about 1 → c01 ≡ about 2 → c11 ≡ about 3 → corners_at img columns radius (pos x) (pos y) ≡ four (record { c00 = c00; c10 = c10; c01 = c01; c11 = c11 })
  looked c00 c10 c01 c11 w a b c d =
      has-four w
      ∙ ap (λ (l : List Float). four (record { c00 = l; c10 = coefficients img columns radius (x + 1) y; c01 = coefficients img columns radius x (y + 1); c11 = coefficients img columns radius (x + 1) (y + 1) })) (sym (a ∙ ap (λ (u : ℕ). coefficients img columns radius u (y + 0)) (add-zero x) ∙ ap (λ (v : ℕ). coefficients img columns radius x v) (add-zero y)))
      ∙ ap (λ (l : List Float). four (record { c00 = c00; c10 = l; c01 = coefficients img columns radius x (y + 1); c11 = coefficients img columns radius (x + 1) (y + 1) })) (sym (b ∙ ap (λ (v : ℕ). coefficients img columns radius (x + 1) v) (add-zero y)))
      ∙ ap (λ (l : List Float). four (record { c00 = c00; c10 = c10; c01 = l; c11 = coefficients img columns radius (x + 1) (y + 1) })) (sym (c ∙ ap (λ (u : ℕ). coefficients img columns radius u (y + 1)) (add-zero x)))
      ∙ ap (λ (l : List Float). four (record { c00 = c00; c10 = c10; c01 = c01; c11 = l })) (sym d)

-- one fit more of those that are looked up
pub looked_more : (f : ℕ → List Float) (k : ℕ) (fits : List (List Float)) (fit : List Float) → k < length fits → fit ≡ f k → ((j : ℕ) → j < k → get_or fits j [] ≡ f j) → (j : ℕ) → j < k + 1 → get_or (set fits k fit) j [] ≡ f j
looked_more f k fits fit h e all j g =
    ⊎_elim (λ q. subst (λ (n : ℕ). get_or (set fits k fit) n [] ≡ f n) (sym q) (get_or-set_same fits k fit [] h ∙ e)) (λ l. get_or-set_other fits k j fit [] (λ q. omega arith) ∙ all j l) (eq-or-lt_of_le (omega arith))

-- where the four look-ups stand after k of them: the fits that were found, in turn, and the cache that the last one left
module _ (img : Image) (columns : List Float) (radius x y : ℕ) where
  pub record Looking (fits : IntegerFits) (found : List (List Float)) (k : ℕ) : Type 0 where
    pub long : length found ≡ 4
    pub kept : Kept img columns radius fits
    pub are : (j : ℕ) → j < k → get_or found j [] ≡ about img columns radius x y j

  pub look-next : (fits : IntegerFits) (found : List (List Float)) (k : ℕ) (c : List Float) (next : IntegerFits) → Looking fits found k → k < 4 → c ≡ about img columns radius x y k → Kept img columns radius next → Looking next (set found k c) (k + 1)
  look-next fits found k c next l h e n = record { long = length-set found k c ∙ l.long; kept = n; are = looked_more (about img columns radius x y) k found c (omega (arith, l.long)) e l.are }

  -- two in a row
  pub look-row : (fits : IntegerFits) (found : List (List Float)) (k : ℕ) (a : List Float) (between : IntegerFits) (b : List Float) (next : IntegerFits) → Looking fits found k → k % 2 ≡ 0 → k < 4
      → a ≡ coefficients img columns radius x (y + k / 2) → Kept img columns radius between → b ≡ coefficients img columns radius (x + 1) (y + k / 2) → Kept img columns radius next → Looking next (set (set found k a) (k + 1) b) (k + 2)
  look-row fits found k a between b next l e h p m q n =
      subst (Looking next (set (set found k a) (k + 1) b)) (add_assoc k 1 1)
      (look-next between (set found k a) (k + 1) b next (look-next fits found k a between l h (p ∙ ap (λ (u : ℕ). coefficients img columns radius u (y + k / 2)) (left k e)) m) (low k e h) (q ∙ ap (λ (u : ℕ). coefficients img columns radius u (y + k / 2)) (right k e) ∙ ap (λ (v : ℕ). coefficients img columns radius (x + (k + 1) % 2) v) (row k e)) n)
    where
      left : (k : ℕ) → k % 2 ≡ 0 → x ≡ x + k % 2
      left k e = omega arith

      right : (k : ℕ) → k % 2 ≡ 0 → x + 1 ≡ x + (k + 1) % 2
      right k e = omega arith

      row : (k : ℕ) → k % 2 ≡ 0 → y + k / 2 ≡ y + (k + 1) / 2
      row k e = omega arith

      low : (k : ℕ) → k % 2 ≡ 0 → k < 4 → k + 1 < 4
      low k e h = omega arith
