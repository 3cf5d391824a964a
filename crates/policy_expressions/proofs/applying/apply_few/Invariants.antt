use Rattle.policy_expressions.specs.working.FewWrites.{FewSoFar}
use Rattle.policy_expressions.proofs.applying.apply_few.Given as goal

abbrev pub invariant-loop-change : goal.invariant-loop-change
invariant-loop-change g l = FewSoFar l.fn.changes l.change-iterator.rest.items (g.F.FactBase.rows l.initial.facts) (g.F.FactBase.rows l.facts) l.effects
