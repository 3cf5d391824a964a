use Rattle.std.proofs.Common.{ap, ◌∙◌}
use Rattle.accept.specs.Admission.{not_passed}
use Rattle.braid_run.proofs.PlacedFacts.{has_place_facts}
use Rattle.policy_meaning.specs.Blocks.{policy_block}
use Rattle.accept.proofs.reasons.not_allowed.Goals as goal

pub returns-clause-why : goal.returns-clause-why
returns-clause-why g c = λ rows there.
    c.not_passed.ensures (g.F.FactBase.rows c.run_command.new.facts)
    ∙ ap not_passed c.in_ok-verdict.ensures.runs.ends
    ∙ ap (λ r. not_passed (policy_block (g.R.Runner.rules c.args.runner.now) c.args.call.now r))
    ((has_place_facts (g.G.Graph.commands c.args.graph.now) (g.met.G.Graph.closed c.args.graph.now) c.args.command.now (g.R.Runner.rules c.args.runner.now)).one
    (g.F.FactBase.rows c.in_ok-facts.facts) rows c.in_ok-facts.ensures.facts there)
