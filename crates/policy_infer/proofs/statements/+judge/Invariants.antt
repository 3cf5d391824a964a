use Rattle.policy_infer.proofs.StatementLoops.{ArmsSoFar, Through}
use Rattle.policy_infer.proofs.statements.+judge.Given as goal

abbrev pub invariant-judge_all-loop-i : goal.invariant-judge_all-loop-i
invariant-judge_all-loop-i l = Through l.heads l.context l.body l.fn.scope l.scope l.i

abbrev pub invariant-judge_else-loop-i : goal.invariant-judge_else-loop-i
invariant-judge_else-loop-i l = Through l.heads l.context l.body l.fn.scope l.scope l.i

abbrev pub invariant-judge_arms-loop-arm : goal.invariant-judge_arms-loop-arm
invariant-judge_arms-loop-arm l = ArmsSoFar l.heads l.context l.arms l.fn.scope l.scope l.arm-index

abbrev pub invariant-judge_arms-loop-i : goal.invariant-judge_arms-loop-i
invariant-judge_arms-loop-i l = Through l.heads l.context l.body l.initial.scope l.scope l.i
