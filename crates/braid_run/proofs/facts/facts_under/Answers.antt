use Rattle.braid_run.proofs.AboveFacts.{all_rows}
use Rattle.braid_run.proofs.facts.facts_under.Goals as goal

pub returns-then-branch-clause-rows : goal.returns-then-branch-clause-rows
returns-then-branch-clause-rows g c = λ all kept.
    all_rows (g.R.Runner.rules c.args.runner.now) (g.G.Graph.commands c.args.graph.now) c.args.tips.now (g.F.FactBase.rows c.args.present.now) (g.F.FactBase.rows c.in_ok-facts.facts)
    (c.in_ok-covers.ensures.0 c.if-branch.true) all c.in_ok-facts.ensures.rows
