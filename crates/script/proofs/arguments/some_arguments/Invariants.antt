use Rattle.std.proofs.Common.{◌≡◌, ◌-◌, [], length, codes}
use Rattle.script.specs.working.ReadingArguments.{argument_at}
use Rattle.script.specs.working.Readers.{members}
use Rattle.script.proofs.arguments.some_arguments.Given as goal

abbrev pub invariant-loop : goal.invariant-loop
invariant-loop l = members (codes ")") argument_at (length l.bytes - l.counter) l.found l.rest ≡ members (codes ")") argument_at (length l.bytes) [] l.bytes
