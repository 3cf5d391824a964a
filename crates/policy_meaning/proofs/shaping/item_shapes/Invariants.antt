use Rattle.std.proofs.Common.{◌≡◌, ◌++◌, drop, map}
use Rattle.policy_rules.specs.Shapes.{shape_of}
use Rattle.policy_rules.specs.WellTyped.{items_of}
use Rattle.policy_meaning.proofs.shaping.item_shapes.Given as goal

abbrev pub invariant-loop-placed : goal.invariant-loop-placed
invariant-loop-placed l =
    l.shapes ++ map (shape_of l.heads) (items_of (drop l.placed-index l.items)) ≡ map (shape_of l.heads) (items_of l.items)
