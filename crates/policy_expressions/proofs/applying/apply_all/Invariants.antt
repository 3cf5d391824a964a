use Rattle.std.proofs.Common.{◌≡◌}
use Rattle.policy_expressions.specs.Applying.{with_effects}
use Rattle.policy_meaning.specs.Applying.{applied}
use Rattle.policy_expressions.proofs.applying.apply_all.Given as goal

abbrev pub invariant-loop-change : goal.invariant-loop-change
invariant-loop-change g l =
    with_effects l.effects (applied l.change-iterator.rest.items (g.F.FactBase.rows l.facts)) ≡ applied l.fn.changes (g.F.FactBase.rows l.initial.facts)
