use Rattle.std.proofs.Common.{ap, ◌∙◌, arith}
use Rattle.std.specs.Int.{w32, to_be_bytes}
use Rattle.base_bytes.proofs.Formats.{wide_32}
use Rattle.base_bytes.proofs.reader.number_of.Goals as goal

pub returns-clause-back : goal.returns-clause-back
returns-clause-back c = ap (to_be_bytes w32) c.from_be_bytes.ensures ∙ wide_32.back c.args.bytes.now c.requires (λ i. omega (arith, c.type_inv.bytes i))
