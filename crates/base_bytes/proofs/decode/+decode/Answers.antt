use Rattle.base_bytes.specs.Decoding.{value_at, values_at}
use Rattle.base_bytes.proofs.InOrder.{next_read}
use Rattle.base_bytes.proofs.decode.+decode.Goals as goal

pub read_values-loop-ty-preserved : goal.read_values-loop-ty-preserved
read_values-loop-ty-preserved t c =
    let shapes = c.args.shapes.now in
    let types = c.args.types.now in
    let whole = values_at shapes c.args.depth types c.args.reader.now in
    rw c.in_ok-push.ensures.ok (next_read (value_at shapes c.args.depth) types c.loop-ty.ty-index c.ty-item.result c.loop-ty.values c.in_ok-read_value.field-0 c.loop-ty.reader c.read_value.new.reader whole c.loop-ty-test.true c.ty-item.is c.in_ok-read_value.ensures c.loop-ty.invariant)
