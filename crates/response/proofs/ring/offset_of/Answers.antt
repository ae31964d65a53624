-- `response::ring::offset_of` meets its contract: neither the sum nor the cast wraps.
use mathlib.Core.Path.{sym, ap, subst}
use native.Mathlib.Omega.{arith}
use lib.Dec.{T}
use lib.IntN.{ℤ, nat_abs}
use lib.Signed.{non_neg}
use mir.Syntax.{w8}
use mir.Val.{Fits}
use Rattle.response.proofs.RingLaws.{raise}
use Rattle.response.proofs.ring.offset_of.Goals as goal

pub overflow_add-result : goal.overflow_add-result
overflow_add-result c = (raise c.args.z c.ranges.z c.requires).fits

pub overflow_cast-result : goal.overflow_cast-result
overflow_cast-result c =
    let r = raise c.args.z c.ranges.z c.requires in
    subst (λ (v : ℤ). T (non_neg v) × Fits w8 (nat_abs v)) (sym r.is) (tt, record { fits = omega (arith, r.small) })

pub returns : goal.returns
returns c = ap nat_abs (raise c.args.z c.ranges.z c.requires).is
