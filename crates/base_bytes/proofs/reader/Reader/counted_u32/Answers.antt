use Rattle.std.specs.Int.{w32}
use Rattle.base_bytes.proofs.Formats.{counted_front}
use Rattle.base_bytes.proofs.reader.Reader.counted_u32.Goals as goal

pub returns-clause-form : goal.returns-clause-form
returns-clause-form c = counted_front w32 (λ bytes. bytes.now) c.take.result c.args.self.now c.u32.new.self c.take.new.self c.in_ok-count.count c.in_ok-count.ensures.form c.take.ensures.value
