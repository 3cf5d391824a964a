use Rattle.std.proofs.Common.{◌≡◌, ℕ, List, take}
use Rattle.policy_rules.specs.Names.{is_among}
use Rattle.policy_rules.specs.Scopes.{let_names}
use Rattle.policy_rules.specs.WellTyped.{items_of}
use Rattle.policy_heads.proofs.heads.lets_of.Given as goal

abbrev pub invariant-loop-placed : goal.invariant-loop-placed
invariant-loop-placed l = (q : List ℕ) → is_among q l.lets ≡ is_among q (let_names (items_of (take l.placed-index l.items)))
