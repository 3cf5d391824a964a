use Rattle.std.proofs.Common.{inl, ◌∙◌}
use Rattle.std.proofs.lemmas.Result.{err_from_is_err_and}
use Rattle.journal.proofs.Torn.{second_written}
use Rattle.journal.proofs.writes.write_record.Goals as goal

pub returns-in_err-write_through-clause-written : goal.returns-in_err-write_through-clause-written
returns-in_err-write_through-clause-written g c = λ told honest.
    let p = err_from_is_err_and c.from_residual.result c.from_residual.ensures.1 in
    rw p.1 (inl (c.in_err-write_through.ensures.written told honest))

pub returns-clause-written : goal.returns-clause-written
returns-clause-written g c = λ told honest.
    second_written c.args.gate c.args.bytes.now _ _ _ c.write_through-2.result (c.in_ok-write_through.ensures.written told honest)
    (c.write_through-2.ensures.written told (c.write_through.ensures.disk.honesty ∙ honest))
