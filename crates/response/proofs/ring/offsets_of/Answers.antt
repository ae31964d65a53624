-- Every component is within ten.
use Rattle.std.proofs.Common.{◌≡◌, ◌≤◌, ℤ, pos, get_or, nat_abs, sym, subst, rules}
use mir.Syntax.{w32}
use mir.Val.{to_z, of_z}
use Rattle.response.proofs.RingLaws.{all-within}
use Rattle.response.proofs.ring.offsets_of.Goals as goal

pub offset_of-requires : goal.offset_of-requires
offset_of-requires c =
    let z = get_or c.args.ring.now c.loop-k.k (pos 0) in
    let read : to_z w32 (of_z w32 z) ≡ z = search rules in
    subst (λ (v : ℤ). nat_abs v ≤ 10) (sym read) (all-within 10 c.args.ring.now c.requires c.loop-k.k)
