use Rattle.std.specs.Prelude.{◌≡◌, ◌≤◌, [], drop}
use Rattle.std.specs.List.{All}
use Rattle.braid.specs.Braids.{picked}
use Rattle.braid_run.specs.Runs.{run_on}
use Rattle.policy_meaning.specs.Typed.{AreEffectsOf, AreTyped}
use Rattle.braid_run.proofs.running.run_places.Given as goal

-- Running what is left from here comes to what running all from the start does.
abbrev pub invariant-loop-place : goal.invariant-loop-place
invariant-loop-place g l = record {
  continues :
      run_on (g.R.Runner.rules l.runner) (record { rows = g.F.FactBase.rows l.facts; entries = l.entries.all; ticks = l.steps }) (picked (g.G.Graph.commands l.graph) (drop l.place-index l.places))
      ≡ run_on (g.R.Runner.rules l.runner) (record { rows = g.F.FactBase.rows l.fn.facts; entries = []; ticks = l.fn.steps }) (picked (g.G.Graph.commands l.graph) l.places);
  typed : AreTyped (g.R.Runner.rules l.runner) (g.F.FactBase.rows l.facts);
  effects : All (λ entry. AreEffectsOf (g.R.Runner.rules l.runner) entry.effects) l.entries.all;
  later : l.fn.steps ≤ l.steps;
}
