use Rattle.std.proofs.Common.{◌≡◌, ◌++◌, drop}
use Rattle.policy_rules.specs.WellTyped.{items_of}
use Rattle.policy_heads.proofs.heads.heads_of.Given as goal

abbrev pub invariant-loop-placed : goal.invariant-loop-placed
invariant-loop-placed l = l.heads.items ++ items_of (drop l.placed-index l.items) ≡ items_of l.items
