use Rattle.std.proofs.Common.{arith, rules}
use Rattle.command.proofs.WireLaws.{is_wire}
use Rattle.command.proofs.reading.read_whole.Goals as goal

pub returns-clause-form : goal.returns-clause-form
returns-clause-form c = is_wire c.args.bytes.now (λ i. omega (arith, c.type_inv.bytes i)) c.in_ok-command.command (search rules)
