use Rattle.std.proofs.Common.{◌≡◌, ℕ, List, take, true}
use Rattle.policy_rules.specs.FieldLists.{are_distinct}
use Rattle.policy_rules.specs.Names.{is_among}
use Rattle.policy_items.proofs.names.are_distinct.Given as goal

abbrev pub invariant-loop-name : goal.invariant-loop-name
invariant-loop-name l = ((q : List ℕ) → is_among q l.set ≡ is_among q (take l.name-index l.names)) × (are_distinct (take l.name-index l.names) ≡ true)
