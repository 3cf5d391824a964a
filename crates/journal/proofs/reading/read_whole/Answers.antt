use Rattle.std.proofs.Common.{arith}
use Rattle.command.proofs.WireLaws.{is_wire, read_whole}
use Rattle.journal.proofs.reading.read_whole.Goals as goal

pub returns-in-Some-clause-read : goal.returns-in-Some-clause-read
returns-in-Some-clause-read c = read_whole c.args.bytes.now c.in-Some.command (rw c.in-Some.is at c.in_ok-command.ensures.found)

pub returns-in-None-clause-read : goal.returns-in-None-clause-read
returns-in-None-clause-read c = λ command is.
    (rw c.in-None.is at c.in_ok-command.ensures.none) command (is_wire c.args.bytes.now (λ i. omega (arith, c.type_inv.bytes i)) command is)
