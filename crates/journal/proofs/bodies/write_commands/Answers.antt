use Rattle.std.proofs.Common.{◌++◌, map}
use Rattle.std.specs.List.{concat}
use Rattle.command.specs.Wire.{IsFormed}
use Rattle.journal.specs.Commits.{counted_command}
use Rattle.journal.proofs.Written.{holds_more, written_more}
use Rattle.journal.proofs.bodies.write_commands.Goals as goal

pub loop-command-preserved : goal.loop-command-preserved
loop-command-preserved c =
    let commands = c.args.commands.now in
    let i = c.loop-command.command-index in
    let command = c.command-item.result in
    record {
      told = rw c.in_ok-write_command.ensures.told (written_more counted_command commands i command c.loop-command.into (c.args.into.now ++ concat (map counted_command commands)) c.loop-command-test.true c.command-item.is c.loop-command.invariant.told);
      forms = holds_more IsFormed commands i command c.loop-command-test.true c.command-item.is c.in_ok-write_command.ensures.form c.loop-command.invariant.forms;
    }
