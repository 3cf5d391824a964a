use Rattle.std.proofs.Common.{◌≡◌, ◌++◌, drop, map, false}
use Rattle.policy_depths.proofs.rounds.first_round.Given as goal

abbrev pub invariant-loop-places : goal.invariant-loop-places
invariant-loop-places l = l.table ++ map (λ places. false) (drop l._places-index l.steps) ≡ map (λ places. false) l.steps
