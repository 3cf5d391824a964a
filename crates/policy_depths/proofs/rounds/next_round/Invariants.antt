use Rattle.std.proofs.Common.{◌≡◌, ◌++◌, drop, map}
use Rattle.std.specs.List.{list_all}
use Rattle.policy_depths.specs.working.Rounds.{passes_in}
use Rattle.policy_depths.proofs.rounds.next_round.Given as goal

abbrev pub invariant-loop-places : goal.invariant-loop-places
invariant-loop-places l = l.next ++ map (λ places. list_all (passes_in l.table) places) (drop l.places-index l.steps) ≡ map (λ places. list_all (passes_in l.table) places) l.steps
