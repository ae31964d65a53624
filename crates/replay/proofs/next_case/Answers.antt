-- A read of the case's bytes that fails has taken its number of words and what it read.
use Rattle.std.proofs.Common.{◌++◌, take, Result, Ok, Err, OnErr}
use Rattle.std.proofs.KnownBytes.{Consumes-trans}
use Rattle.replay.proofs.next_case.Goals as goal

on_err : {T E P : Type 0} (r : Result T E) → P → OnErr r P
on_err (Ok x) p = tt
on_err (Err e) p = p

pub returns-in_err-read_input-clause-failed : goal.returns-in_err-read_input-clause-failed
returns-in_err-read_input-clause-failed g c =
    let failed = c.in_err-read_input.ensures.failed in
    on_err
    c.from_residual-in_err-read_input.result
    (take c.in_ok-got.got c.read_input.new.file ++ take failed.0 c.read_input-2.new.file, Consumes-trans _ _ _ _ _ c.in_ok-got.ensures.bytes failed.1.1)
