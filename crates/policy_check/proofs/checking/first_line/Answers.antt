use Rattle.policy_check.proofs.Verdicts.{fault_at, well_policy}
use Rattle.policy_check.proofs.checking.first_line.Goals as goal

pub returns-in-Some : goal.returns-in-Some
returns-in-Some c =
    rw c.items.ensures.value
    (fault_at c.args.policy.now c.in_ok-judge.judge c.in-Some.number c.index-items-number.result c.in_ok-judge.ensures (rw c.in-Some.is at c.in_ok-number.ensures))

pub returns : goal.returns
returns c = well_policy c.args.policy.now c.in_ok-judge.judge c.in_ok-judge.ensures (rw c.in-None.is at c.in_ok-number.ensures)
