use Rattle.std.proofs.Common.{rules}
use Rattle.accept.proofs.PlaceRuns.{facts_are, ticks_are, ticks_within}
use Rattle.accept.proofs.places.facts_at_place.Goals as goal

pub returns-clause-facts : goal.returns-clause-facts
returns-clause-facts g c =
    facts_are (g.R.Runner.rules c.args.runner.now) (g.G.Graph.commands c.args.graph.now) (g.met.G.Graph.closed c.args.graph.now) c.args.command.now c.as_slice.result.now (search rules)
    (g.F.FactBase.rows c.in_ok-facts.field-0.facts) c.in_ok-facts.field-0.entries.all c.args.steps.now c.run_all.new.steps (search rules)

pub returns-clause-ticks : goal.returns-clause-ticks
returns-clause-ticks g c =
    ticks_are (g.R.Runner.rules c.args.runner.now) (g.G.Graph.commands c.args.graph.now) (g.met.G.Graph.closed c.args.graph.now) c.args.command.now c.as_slice.result.now (search rules)
    (g.F.FactBase.rows c.in_ok-facts.field-0.facts) c.in_ok-facts.field-0.entries.all c.args.steps.now c.run_all.new.steps (search rules)

pub returns-clause-at_most : goal.returns-clause-at_most
returns-clause-at_most g c =
    ticks_within (g.R.Runner.rules c.args.runner.now) (g.G.Graph.commands c.args.graph.now) (g.met.G.Graph.closed c.args.graph.now) c.args.command.now c.as_slice.result.now (search rules)
    c.args.steps.now c.run_all.new.steps c.run_all.ensures.at_most

pub returns-in_err-facts-clause-at_most : goal.returns-in_err-facts-clause-at_most
returns-in_err-facts-clause-at_most g c =
    ticks_within (g.R.Runner.rules c.args.runner.now) (g.G.Graph.commands c.args.graph.now) (g.met.G.Graph.closed c.args.graph.now) c.args.command.now c.as_slice.result.now (search rules)
    c.args.steps.now c.run_all.new.steps c.run_all.ensures.at_most
