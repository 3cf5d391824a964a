use Rattle.std.proofs.Common.{◌≡◌, ℕ, List, take}
use Rattle.policy_rules.specs.Names.{number_named}
use Rattle.policy_rules.specs.WellTyped.{items_of}
use Rattle.policy_heads.specs.working.Kept.{kept_number}
use Rattle.policy_heads.proofs.heads.numbers_of.Given as goal

abbrev pub invariant-loop-number : goal.invariant-loop-number
invariant-loop-number l = (q : List ℕ) → kept_number l.numbers q ≡ number_named (items_of (take l.number l.items)) q
