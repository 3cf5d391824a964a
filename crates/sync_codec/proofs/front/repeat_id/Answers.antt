use Rattle.std.proofs.Common.{replicate}
use Rattle.std.proofs.lemmas.Result.{err_from_is_err_and}
use Rattle.base_bytes.specs.Reading.{bytes_at, in_order}
use Rattle.base_bytes.proofs.InOrder.{next_repeated, refused_repeated}
use Rattle.sync_codec.proofs.front.repeat_id.Goals as goal

pub returns-in_err-id : goal.returns-in_err-id
returns-in_err-id c =
    let p = err_from_is_err_and c.from_residual.result c.from_residual.ensures.1 in
    let whole = in_order (replicate c.args.count (bytes_at 32)) c.args.reader.now in
    rw (p.1, p.2) (refused_repeated (bytes_at 32) c.args.count c.loop.counter c.loop.ids c.loop.reader whole c.loop.invariant (λ id. id) (λ ids. ids) c.in_err-id.field-0.0 c.id.new.self c.id.new.self c.loop-test.true c.in_err-id.ensures.value)

pub loop-preserved : goal.loop-preserved
loop-preserved c =
    let whole = in_order (replicate c.args.count (bytes_at 32)) c.args.reader.now in
    rw c.in_ok-push.ensures.ok (next_repeated (bytes_at 32) c.args.count c.loop.counter c.loop.ids c.loop.reader whole c.loop.invariant c.in_ok-id.field-0 c.id.new.self c.loop-test.true c.in_ok-id.ensures.value)
