use Rattle.std.proofs.Common.{◌≡◌, length, take}
use Rattle.base_bytes.proofs.value.+sameness.Given as goal

abbrev pub invariant-are_same_values-loop-i : goal.invariant-are_same_values-loop-i
invariant-are_same_values-loop-i l = (length l.values ≡ length l.others) × (take l.i l.values ≡ take l.i l.others)
