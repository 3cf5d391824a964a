use Rattle.std.proofs.Common.{◌+◌, ◌*◌}
use Rattle.policy_parse.proofs.types.+types.Given as goal

abbrev pub decreases-field_type : goal.decreases-field_type
decreases-field_type l = 2 * l.depth + 1

abbrev pub decreases-type_over : goal.decreases-type_over
decreases-type_over l = 2 * l.depth
