use Rattle.std.proofs.Common.{[], subst, sym}
use Rattle.base_bytes.specs.Reaching.{NoneReachesItself}
use Rattle.policy_rules.specs.WellTyped.{IsWellTyped}
use Rattle.braid_run.proofs.AboveFacts.{most_whole, run_whole}
use Rattle.braid_run.proofs.running.run_all.Goals as goal

pub run_places-requires-clause-finite : goal.run_places-requires-clause-finite
run_places-requires-clause-finite g c =
    subst NoneReachesItself (sym c.in_ok-shapes.ensures)
    (c.structs_are_finite.ensures c.policy-policy.result.now (subst IsWellTyped (sym c.policy-policy.ensures.policy) c.policy-policy.ensures.well_typed))

pub returns-clause-runs : goal.returns-clause-runs
returns-clause-runs g c =
    run_whole (g.R.Runner.rules c.args.runner.now) (g.G.Graph.commands c.args.graph.now) c.args.tips.now c.in_ok-places.places c.as_slice.result.now c.as_slice.ensures (g.F.FactBase.rows c.no_facts-facts.result) (g.F.FactBase.rows c.in_ok-ran.ran.facts) c.in_ok-ran.ran.entries.all c.args.steps.now c.run_places.new.steps
    c.no_facts-facts.ensures.rows c.in_ok-places.ensures.braid c.in_ok-ran.ensures.runs

pub returns-clause-at_most : goal.returns-clause-at_most
returns-clause-at_most g c =
    most_whole (g.R.Runner.rules c.args.runner.now) (g.G.Graph.commands c.args.graph.now) c.args.tips.now c.in_ok-places.places c.as_slice.result.now c.as_slice.ensures (g.F.FactBase.rows c.no_facts-facts.result) (g.F.FactBase.rows c.in_ok-ran.ran.facts) c.in_ok-ran.ran.entries.all c.args.steps.now c.run_places.new.steps
    c.no_facts-facts.ensures.rows (g.met.G.Graph.closed c.args.graph.now) c.in_ok-places.ensures.braid c.run_places.ensures.at_most

pub returns-in_err-ran-clause-at_most : goal.returns-in_err-ran-clause-at_most
returns-in_err-ran-clause-at_most g c =
    most_whole (g.R.Runner.rules c.args.runner.now) (g.G.Graph.commands c.args.graph.now) c.args.tips.now c.in_ok-places.places c.as_slice.result.now c.as_slice.ensures (g.F.FactBase.rows c.no_facts-facts.result) [] [] c.args.steps.now c.run_places.new.steps
    c.no_facts-facts.ensures.rows (g.met.G.Graph.closed c.args.graph.now) c.in_ok-places.ensures.braid c.run_places.ensures.at_most
