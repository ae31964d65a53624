-- `salvage::writing::copy_record` meets its contract: the part is the record.
use Rattle.salvage.proofs.WritingLaws.{copied}
use Rattle.salvage.proofs.writing.copy_record.Goals as goal

pub returns : goal.returns
returns c = let a = c.args in copied a.at a.out.now a.bytes.now c.copy_from_slice.new.self c.copy_from_slice.ensures.after c.requires.record c.requires.room
