use Rattle.std.proofs.Common.{◌≡◌, ℕ, List, take}
use Rattle.policy_rules.specs.Names.{is_among}
use Rattle.policy_heads.proofs.names.NameSet.from_slice.Given as goal

abbrev pub invariant-loop-name : goal.invariant-loop-name
invariant-loop-name l = (q : List ℕ) → is_among q l.set ≡ is_among q (take l.name-index l.names)
