-- `refine_operator::basis::phi_of` meets its contract: the products of the two offsets.
use lib.Ieee.{of_bits}
use Rattle.refine_operator.proofs.BasisLaws.{phi-is}
use Rattle.refine_operator.proofs.basis.phi_of.Goals as goal

pub returns : goal.returns
unfolding of_bits
returns c =
    let a = c.args in
    phi-is a.radius a.x a.y _ _ _ _ _ _ _ c.offset_of-u.ensures c.offset_of-v.ensures c.f32_to_f64_with_nan.ensures c.f32_to_f64_with_nan-2.ensures c.f32_to_f64_with_nan-3.ensures c.f32_to_f64_with_nan-4.ensures c.f32_to_f64_with_nan-5.ensures
