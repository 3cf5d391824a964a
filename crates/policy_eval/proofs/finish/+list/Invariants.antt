use Rattle.std.specs.Prelude.{◌+◌}
use Rattle.policy_eval.specs.working.ListingSteps.{ListSoFar}
use Rattle.policy_eval.proofs.finish.+list.Given as goal

abbrev pub decreases-list_one : goal.decreases-list_one
decreases-list_one g l = l.depth + l.depth + l.depth + 1

abbrev pub decreases-list_all : goal.decreases-list_all
decreases-list_all g l = l.depth + l.depth + l.depth + 2

abbrev pub decreases-list_call : goal.decreases-list_call
decreases-list_call g l = l.depth + l.depth + l.depth

abbrev pub invariant-list_all-loop-s : goal.invariant-list_all-loop-s
invariant-list_all-loop-s g l = ListSoFar l.known (g.F.FactBase.rows l.facts) l.setting l.depth l.statements l.s-index l.fn.changes l.changes l.fn.env l.env l.fn.turns l.turns
