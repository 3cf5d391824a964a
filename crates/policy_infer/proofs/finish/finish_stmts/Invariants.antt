use Rattle.std.proofs.Common.{◌≡◌, drop}
use Rattle.policy_infer.specs.working.Behind.{finish_are}
use Rattle.policy_infer.proofs.finish.finish_stmts.Given as goal

abbrev pub invariant-loop-s : goal.invariant-loop-s
invariant-loop-s l = (l.scope ≡ l.fn.scope) × (finish_are l.heads l.context (drop l.s-index l.statements) l.fn.scope ≡ finish_are l.heads l.context l.statements l.fn.scope)
