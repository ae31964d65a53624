-- Which way a choice goes, once its tests are known.
use mathlib.Core.Path.{◌≡◌, sym, ap, ◌∙◌}
use mathlib.Core.Bool.{Bool, true, false, ◌&&◌, cond}

module _ {X : Type 0} (p : Bool) (x y : X) where
  pub where-true : p ≡ true → x ≡ cond p x y
  where-true h = ap (λ (z : Bool). cond z x y) (sym h)

  pub where-false : p ≡ false → y ≡ cond p x y
  where-false h = ap (λ (z : Bool). cond z x y) (sym h)

module _ {X : Type 0} (p q : Bool) (x y : X) where
  pub and_both : p ≡ true → q ≡ true → x ≡ cond (p && q) x y
  and_both h g = ap (λ (z : Bool). cond z x y) (sym g) ∙ ap (λ (z : Bool). cond (z && q) x y) (sym h)

  pub and_first : p ≡ false → y ≡ cond (p && q) x y
  and_first h = ap (λ (z : Bool). cond (z && q) x y) (sym h)

  pub and_second : p ≡ true → q ≡ false → y ≡ cond (p && q) x y
  and_second h g = ap (λ (z : Bool). cond z x y) (sym g) ∙ ap (λ (z : Bool). cond (z && q) x y) (sym h)
