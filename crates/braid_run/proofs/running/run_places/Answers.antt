use Rattle.std.proofs.Common.{refl, subst, sym, arith, rules}
use Rattle.std.specs.List.{All}
use Rattle.policy_meaning.specs.Typed.{AreEffectsOf}
use Rattle.braid_run.proofs.RunFacts.{all_more, one_more_run, ran_whole, stays_within}
use Rattle.braid_run.proofs.running.run_places.Goals as goal

pub loop-place-init : goal.loop-place-init
loop-place-init g c = record {
  continues = rw c.new-entries.ensures refl;
  typed = c.requires.typed;
  effects = subst (λ entries. All (λ entry. AreEffectsOf (g.R.Runner.rules c.args.runner.now) entry.effects) entries) (sym c.new-entries.ensures) (λ k d within. absurd (omega (arith, within)));
  later = omega arith;
}

pub loop-place-preserved : goal.loop-place-preserved
loop-place-preserved g c = record {
  continues =
      one_more_run (g.R.Runner.rules c.args.runner.now) (g.G.Graph.commands c.args.graph.now) c.args.places.now _ c.loop-place.place-index _ c.command_at-command.result.now c.id_at-id.result
      (record { rows = g.F.FactBase.rows c.loop-place.facts; entries = c.loop-place.entries.all; ticks = c.loop-place.steps }) (g.F.FactBase.rows c.run_command.new.facts) c.push.new.self.all
      c.in_ok-entry.entry c.run_command.new.steps (search rules) refl c.command_at-command.ensures.at c.id_at-id.ensures (search rules) (search rules) (search rules) (search rules)
      c.loop-place.invariant.continues;
  typed = search rules;
  effects = all_more (λ entry. AreEffectsOf (g.R.Runner.rules c.args.runner.now) entry.effects) c.loop-place.entries.all c.push.new.self.all c.in_ok-entry.entry (search rules) c.loop-place.invariant.effects (search rules);
  later = let rises = c.run_command.ensures.later in let so_far = c.loop-place.invariant.later in omega (arith, rises, so_far);
}

pub returns-clause-runs : goal.returns-clause-runs
returns-clause-runs g c =
    ran_whole (g.R.Runner.rules c.args.runner.now) (g.F.FactBase.rows c.args.facts) (g.G.Graph.commands c.args.graph.now) c.args.places.now c.loop-place.place-index (g.F.FactBase.rows c.loop-place.facts) c.loop-place.entries.all
    c.args.steps.now c.loop-place.steps (search rules) c.loop-place.invariant.continues

pub returns-in_err-entry-clause-at_most : goal.returns-in_err-entry-clause-at_most
returns-in_err-entry-clause-at_most g c =
    stays_within (g.R.Runner.rules c.args.runner.now) (g.F.FactBase.rows c.args.facts) (g.G.Graph.commands c.args.graph.now) c.args.places.now c.loop-place.place-index _ c.command_at-command.result.now
    (record { rows = g.F.FactBase.rows c.loop-place.facts; entries = c.loop-place.entries.all; ticks = c.loop-place.steps }) c.args.steps.now c.run_command.new.steps (search rules) refl
    c.command_at-command.ensures.at c.run_command.ensures.at_most c.loop-place.invariant.continues

pub returns-in_err-push-clause-at_most : goal.returns-in_err-push-clause-at_most
returns-in_err-push-clause-at_most g c =
    stays_within (g.R.Runner.rules c.args.runner.now) (g.F.FactBase.rows c.args.facts) (g.G.Graph.commands c.args.graph.now) c.args.places.now c.loop-place.place-index _ c.command_at-command.result.now
    (record { rows = g.F.FactBase.rows c.loop-place.facts; entries = c.loop-place.entries.all; ticks = c.loop-place.steps }) c.args.steps.now c.run_command.new.steps (search rules) refl
    c.command_at-command.ensures.at c.run_command.ensures.at_most c.loop-place.invariant.continues

pub returns-clause-at_most : goal.returns-clause-at_most
returns-clause-at_most g c =
    let ran =
    ran_whole (g.R.Runner.rules c.args.runner.now) (g.F.FactBase.rows c.args.facts) (g.G.Graph.commands c.args.graph.now) c.args.places.now c.loop-place.place-index (g.F.FactBase.rows c.loop-place.facts)
    c.loop-place.entries.all c.args.steps.now c.loop-place.steps (search rules) c.loop-place.invariant.continues in
    let counted = ran.counted in omega (arith, counted)
