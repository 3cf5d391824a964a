use Rattle.std.proofs.Common.{◌≡◌, ◌-◌, replicate}
use Rattle.base_bytes.specs.Reading.{in_order}
use Rattle.base_bytes.proofs.InOrder.{with_front}
use Rattle.command.specs.Reading.{counted_command_at}
use Rattle.sync_codec.proofs.response.repeat_command.Given as goal

abbrev pub invariant-loop : goal.invariant-loop
invariant-loop l = with_front l.commands (in_order (replicate (l.count - l.counter) counted_command_at) l.reader) ≡ in_order (replicate l.count counted_command_at) l.initial.reader
