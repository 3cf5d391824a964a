use Rattle.std.proofs.Common.{sym}
use Rattle.policy_lex.proofs.Drops.{dropped_whole}
use Rattle.policy_lex.proofs.LineSteps.{line_ended, line_left_open}
use Rattle.policy_lex.proofs.lines.line_at.Goals as goal

pub returns-in-Some-clause-line : goal.returns-in-Some-clause-line
returns-in-Some-clause-line c =
    line_ended c.args.document.now c.args.place c.in-Some.end c.without_carriage_return.result.now
    (rw dropped_whole at c.in-Some.ensures.within) (sym (rw dropped_whole at c.in-Some.ensures.place)) (rw dropped_whole at c.without_carriage_return.ensures)

pub returns-in-None-clause-line : goal.returns-in-None-clause-line
returns-in-None-clause-line c =
    rw dropped_whole (line_left_open c.args.document.now c.args.place c.requires (sym (rw dropped_whole at c.in-None.ensures.place)))
