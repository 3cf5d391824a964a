use Rattle.std.proofs.Common.{◌≡◌, ◌++◌, drop, map}
use Rattle.policy_infer.proofs.coverage.push_all.Given as goal

abbrev pub invariant-loop-literal : goal.invariant-loop-literal
invariant-loop-literal l = map (λ p. p.now) l.all.items ++ drop l.literal-index l.literals ≡ map (λ p. p.now) l.initial.all.items ++ l.literals
