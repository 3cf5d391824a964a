use Rattle.std.proofs.Common.{replicate}
use Rattle.std.proofs.lemmas.Result.{err_from_is_err_and}
use Rattle.base_bytes.specs.Reading.{in_order}
use Rattle.base_bytes.proofs.InOrder.{next_repeated, refused_repeated}
use Rattle.command.specs.Reading.{counted_command_at}
use Rattle.sync_codec.proofs.response.repeat_command.Goals as goal

pub returns-in_err-read_counted : goal.returns-in_err-read_counted
returns-in_err-read_counted c =
    let p = err_from_is_err_and c.from_residual.result c.from_residual.ensures.1 in
    let whole = in_order (replicate c.args.count counted_command_at) c.args.reader.now in
    rw (p.1, p.2) (refused_repeated counted_command_at c.args.count c.loop.counter c.loop.commands c.loop.reader whole c.loop.invariant (λ command. command) (λ commands. commands) c.in_err-read_counted.field-0.0 c.read_counted.new.reader c.read_counted.new.reader c.loop-test.true c.in_err-read_counted.ensures.read)

pub loop-preserved : goal.loop-preserved
loop-preserved c =
    let whole = in_order (replicate c.args.count counted_command_at) c.args.reader.now in
    rw c.in_ok-push.ensures.ok (next_repeated counted_command_at c.args.count c.loop.counter c.loop.commands c.loop.reader whole c.loop.invariant c.in_ok-read_counted.field-0 c.read_counted.new.reader c.loop-test.true c.in_ok-read_counted.ensures.read)
