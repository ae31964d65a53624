-- `replay::flip` meets its contract: past the case nothing is set.
use mathlib.Core.Path.{sym, ap}
use native.Mathlib.Omega.{arith}
use Prim.Native.Nat.{ℕ}
use lib.Bits.{bit_xor}
use lib.ListN.{set, get_or}
use lib.Seq.{set_out}
use Rattle.replay.specs.Spoil.{byte_of, flipped}
use Rattle.replay.proofs.spoiling.flip.Goals as goal

pub returns-then-case-bit : goal.returns-then-case-bit
unfolding flipped
returns-then-case-bit c = sym (set_out _ _ _ (omega arith))

pub returns-then-case-bit-2 : goal.returns-then-case-bit-2
unfolding flipped
returns-then-case-bit-2 c = sym (set_out _ _ _ (omega arith))

pub returns : goal.returns
unfolding flipped
returns c = ap (λ (m : ℕ). set c.args.case.now (byte_of c.args.place c.args.bit) (bit_xor (get_or c.args.case.now (byte_of c.args.place c.args.bit) 0) m)) c.mask.ensures
