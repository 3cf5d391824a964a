use Rattle.std.proofs.Common.{subst}
use Rattle.policy_meaning.specs.Blocks.{Runs, policy_block}
use Rattle.braid_run.proofs.AboveFacts.{one_rows}
use Rattle.braid_run.proofs.facts.judged_under.Goals as goal

pub returns-clause-runs : goal.returns-clause-runs
returns-clause-runs g c = λ all kept rows under.
    let policy = g.R.Runner.rules c.args.runner.now in
    let cs = g.G.Graph.commands c.args.graph.now in
    let own = c.in_ok-facts.ensures.rows all kept in
    subst (λ r. Runs (policy_block policy c.args.call.now r) c.in_ok-verdict.verdict r (g.F.FactBase.rows c.run_command.new.facts))
    (one_rows policy cs (g.met.G.Graph.closed c.args.graph.now) c.args.tips.now (g.F.FactBase.rows c.in_ok-facts.field-0.facts) rows own under)
    c.in_ok-verdict.ensures.runs
