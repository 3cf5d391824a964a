use Rattle.std.proofs.Common.{◌≡◌, ◌-◌, replicate}
use Rattle.base_bytes.specs.Reading.{bytes_at, in_order}
use Rattle.base_bytes.proofs.InOrder.{with_front}
use Rattle.sync_codec.proofs.front.repeat_id.Given as goal

abbrev pub invariant-loop : goal.invariant-loop
invariant-loop l = with_front l.ids (in_order (replicate (l.count - l.counter) (bytes_at 32)) l.reader) ≡ in_order (replicate l.count (bytes_at 32)) l.initial.reader
