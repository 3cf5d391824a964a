use Rattle.std.proofs.Common.{◌≡◌}
use Rattle.policy_depths.specs.working.Rounds.{round}
use Rattle.policy_depths.proofs.rounds.round.Given as goal

abbrev pub invariant-loop-turn : goal.invariant-loop-turn
invariant-loop-turn l = l.table ≡ round l.steps l._turn
