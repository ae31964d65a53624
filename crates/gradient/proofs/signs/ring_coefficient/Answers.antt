-- `gradient::signs::ring_coefficient` meets its contract: the two signs, each or minus it, less that of the means.
use mathlib.Core.Path.{ap, ◌∙◌}
use lib.Dec.{ltb, eqb}
use Prim.Native.Nat.{◌/◌, ◌%◌}
use mir.Syntax.{w32}
use mir.ValLaws.{to_z-of_z}
use Rattle.pixel_response.specs.Steps.{listed}
use Rattle.gradient.specs.Coefficients.{minus_where}
use Rattle.gradient.proofs.SignLaws.{coefficient_less, sum-back}
use Rattle.gradient.proofs.signs.ring_coefficient.Goals as goal

pub returns-clause-coefficient : goal.returns-clause-coefficient
returns-clause-coefficient c =
    let a = c.args in
    let p = c.square_sign in
    let q = c.edge_sign in
    let x = c.minus_where-square in
    let y = c.minus_where-edge in
    sum-back x.result y.result a.mean x.ensures.from_minus_one x.ensures.to_one y.ensures.from_minus_one y.ensures.to_one c.requires.from_minus_one c.requires.to_one
    ∙ coefficient_less (listed a.samples.now) a.k a.mean p.result q.result x.result y.result p.ensures.sign
    (x.ensures.turned ∙ ap (minus_where (eqb (a.k / 4 % 2) 1)) (to_z-of_z w32 p.result (record { sfits = p.type_inv })))
    q.ensures.sign (y.ensures.turned ∙ ap (minus_where (ltb a.k 8)) (to_z-of_z w32 q.result (record { sfits = q.type_inv })))
