use Rattle.std.proofs.Common.{subst, sym}
use Rattle.braid_run.specs.RunAbove.{IsKeptBase}
use Rattle.braid_run.proofs.AboveFacts.{kept_rows}
use Rattle.braid_run.proofs.facts.run_kept.Goals as goal

pub returns-clause-rows : goal.returns-clause-rows
returns-clause-rows g c = λ kept.
    let policy = g.R.Runner.rules c.args.runner.now in
    let cs = g.G.Graph.commands c.args.graph.now in
    kept_rows policy cs (g.met.G.Graph.closed c.args.graph.now) c.args.tips.now c.args.kept.now.place (g.F.FactBase.rows c.in_ok-facts.facts) (g.F.FactBase.rows c.in_ok-ran.ran.facts) c.in_ok-ran.ran.entries.all
    c.args.steps.now c.run_above.new.steps (subst (λ rows. IsKeptBase policy cs c.args.tips.now c.args.kept.now.place rows) (sym c.in_ok-facts.ensures.rows) kept) c.in_ok-ran.ensures.runs
