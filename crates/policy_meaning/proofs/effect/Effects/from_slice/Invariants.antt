use Rattle.std.proofs.Common.{◌≡◌, take}
use Rattle.policy_meaning.proofs.effect.Effects.from_slice.Given as goal

abbrev pub invariant-loop-effect : goal.invariant-loop-effect
invariant-loop-effect l = l.all ≡ take l.effect-index l.effects
