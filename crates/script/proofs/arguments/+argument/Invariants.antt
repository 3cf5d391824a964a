use Rattle.std.proofs.Common.{◌≡◌, ◌+◌, ◌*◌, ◌-◌, [], length, codes}
use Rattle.script.specs.working.ReadingArguments.{argument_within, field_at}
use Rattle.script.specs.working.Readers.{members}
use Rattle.script.proofs.arguments.+argument.Given as goal

abbrev pub decreases-argument : goal.decreases-argument
decreases-argument l = 32 * l.depth + 10

abbrev pub decreases-worded : goal.decreases-worded
decreases-worded l = 32 * l.depth + 28

abbrev pub decreases-behind_word : goal.decreases-behind_word
decreases-behind_word l = 32 * l.depth + 26

abbrev pub decreases-some : goal.decreases-some
decreases-some l = 32 * l.depth + 24

abbrev pub decreases-fields : goal.decreases-fields
decreases-fields l = 32 * l.depth + 24

abbrev pub decreases-some_fields : goal.decreases-some_fields
decreases-some_fields l = 32 * l.depth + 22

abbrev pub decreases-field : goal.decreases-field
decreases-field l = 32 * l.depth + 20

abbrev pub invariant-some_fields-loop : goal.invariant-some_fields-loop
invariant-some_fields-loop l = members (codes "}") (field_at (argument_within l.depth)) (length l.bytes - l.counter) l.found l.rest ≡ members (codes "}") (field_at (argument_within l.depth)) (length l.bytes) [] l.bytes
