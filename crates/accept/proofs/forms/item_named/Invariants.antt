use Rattle.std.proofs.Common.{◌≡◌, drop}
use Rattle.policy_rules.specs.Names.{item_named}
use Rattle.policy_rules.specs.WellTyped.{items_of}
use Rattle.accept.proofs.forms.item_named.Given as goal

abbrev pub invariant-loop-placed : goal.invariant-loop-placed
invariant-loop-placed l = item_named (items_of (drop l.placed-index l.items)) l.name ≡ item_named (items_of l.items) l.name
