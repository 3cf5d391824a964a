use Rattle.std.proofs.Common.{arith}
use Rattle.base_bytes.proofs.Codes.{found_in_form, none_in_form}
use Rattle.command.specs.Reading.{command_at}
use Rattle.command.specs.Wire.{IsWire}
use Rattle.command.proofs.WireLaws.{is_wire, read_whole}
use Rattle.command.proofs.reading.from_bytes.Goals as goal

pub returns-clause-found : goal.returns-clause-found
returns-clause-found c =
    let bytes = c.args.bytes.now in
    rw c.or_none.ensures (found_in_form c.read_whole.result (command_at bytes) c.read_whole.ensures.read (λ command. IsWire command bytes) (is_wire bytes (λ i. omega (arith, c.type_inv.bytes i))))

pub returns-clause-none : goal.returns-clause-none
returns-clause-none c =
    let bytes = c.args.bytes.now in
    rw c.or_none.ensures (none_in_form c.read_whole.result (command_at bytes) c.read_whole.ensures.read (λ command. IsWire command bytes) (read_whole bytes))
