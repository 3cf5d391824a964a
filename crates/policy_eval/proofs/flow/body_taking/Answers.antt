use Rattle.std.proofs.Common.{sym}
use Rattle.policy_eval.proofs.ActionRoomFacts.{arm_within}
use Rattle.policy_eval.proofs.Flows.{arm_among}
use Rattle.policy_eval.proofs.flow.body_taking.Goals as goal

pub returns-in-Some-clause-among : goal.returns-in-Some-clause-among
returns-in-Some-clause-among c = arm_among c.args.known.now c.args.value.now c.args.arms.now c.in-Some.body.now (sym c.in-Some.ensures)

pub returns-in-Some-clause-within : goal.returns-in-Some-clause-within
returns-in-Some-clause-within c = arm_within c.args.known.now c.args.value.now c.args.arms.now c.in-Some.body.now (sym c.in-Some.ensures)
