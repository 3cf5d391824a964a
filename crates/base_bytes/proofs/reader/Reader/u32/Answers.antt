use Rattle.std.specs.Int.{w32}
use Rattle.base_bytes.proofs.Formats.{number_front}
use Rattle.base_bytes.proofs.reader.Reader.u32.Goals as goal

pub returns-clause-form : goal.returns-clause-form
returns-clause-form c = number_front w32 c.args.self.now c.in_ok-bytes.bytes.now c.take.new.self 4 c.number_of.result c.number_of.ensures.back c.in_ok-bytes.ensures.value
