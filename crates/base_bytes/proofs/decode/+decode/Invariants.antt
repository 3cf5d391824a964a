use Rattle.std.proofs.Common.{◌≡◌, ◌+◌, drop}
use Rattle.base_bytes.specs.Decoding.{values_at}
use Rattle.base_bytes.proofs.Rooms.{greatest, room, struct_room}
use Rattle.base_bytes.proofs.InOrder.{with_front}
use Rattle.base_bytes.proofs.decode.+decode.Given as goal

abbrev pub decreases-read_value : goal.decreases-read_value
decreases-read_value l = room l.shapes.now l.depth l.ty.now

abbrev pub decreases-read_optional : goal.decreases-read_optional
decreases-read_optional l = room l.shapes.now l.depth l.inner.now + 1

abbrev pub decreases-read_struct : goal.decreases-read_struct
decreases-read_struct l = struct_room l.shapes.now l.depth l.item

abbrev pub decreases-read_values : goal.decreases-read_values
decreases-read_values l = greatest (room l.shapes.now l.depth) l.types.now + 1

-- what was read so far, and what is read of the rest, are the whole
abbrev pub invariant-read_values-loop-ty : goal.invariant-read_values-loop-ty
invariant-read_values-loop-ty l = with_front l.values (values_at l.shapes l.depth (drop l.ty-index l.types) l.reader) ≡ values_at l.shapes l.depth l.types l.initial.reader
