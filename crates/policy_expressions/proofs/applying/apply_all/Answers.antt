use Rattle.std.proofs.Common.{arith, ◌≡◌, ◌∙◌, [], ap, sym}
use Rattle.std.proofs.lemmas.List.{nil_from_length}
use Rattle.policy_expressions.proofs.ChangeFacts.{passes_stay}
use Rattle.policy_expressions.specs.Applying.{with_effects}
use Rattle.policy_meaning.specs.Applying.{applied}
use Rattle.policy_expressions.proofs.applying.apply_all.Goals as goal

pub returns : goal.returns
returns g c =
    let none : c.loop-change.change-iterator.rest.items ≡ [] = nil_from_length c.loop-change.change-iterator.rest.items (omega (arith, c.in-None.ensures.steps.0, c.loop-change.change-iterator.rest.ok)) in
    sym c.loop-change.invariant
    ∙ ap (λ changes. with_effects c.loop-change.effects (applied changes (g.F.FactBase.rows c.loop-change.facts))) none
    ∙ passes_stay c.loop-change.effects (g.F.FactBase.rows c.loop-change.facts)
