use Rattle.std.proofs.Common.{◌++◌, map, arith}
use Rattle.std.specs.List.{concat}
use Rattle.command.specs.Wire.{IsWire, wire}
use Rattle.sync_codec.specs.Messages.{counted_command}
use Rattle.sync_codec.proofs.Lists.{holds_more, written_more}
use Rattle.sync_codec.proofs.response.write_commands.Goals as goal

pub loop-command-preserved : goal.loop-command-preserved
loop-command-preserved c =
    let commands = c.args.commands.now in
    let i = c.loop-command.command-index in
    let command = c.command-item.result in
    record {
      told = rw c.in_ok-write_command.ensures.told (written_more counted_command commands i command c.loop-command.into (c.args.into.now ++ concat (map counted_command commands)) c.loop-command-test.true c.command-item.is c.loop-command.invariant.told);
      forms = holds_more (λ it. IsWire it (wire it)) commands i command c.loop-command-test.true c.command-item.is c.in_ok-write_command.ensures.form c.loop-command.invariant.forms;
    }

pub returns-clause-forms : goal.returns-clause-forms
returns-clause-forms c = λ k d lt. c.loop-command.invariant.forms d k (omega (arith, lt, c.loop-command-test.false))
