use Rattle.std.specs.Int.{w32}
use Rattle.base_bytes.specs.Reading.{counted_at}
use Rattle.base_bytes.proofs.Codes.{none_at_front, reads_inside}
use Rattle.command.specs.Reading.{command_at, counted_command_at}
use Rattle.command.specs.Wire.{IsCountedFront}
use Rattle.command.proofs.WireLaws.{is_counted_front, read_counted_front}
use Rattle.command.proofs.reading.read_counted.Goals as goal

pub returns-clause-read : goal.returns-clause-read
returns-clause-read c = reads_inside c.read_whole.result (counted_at w32) command_at c.args.reader.now c.in_ok-bytes.bytes.now c.counted_u32.new.self c.in_ok-bytes.ensures.value c.read_whole.ensures.read

pub returns-clause-found : goal.returns-clause-found
returns-clause-found c = is_counted_front c.read_whole.result c.args.reader.now c.in_ok-bytes.bytes.now c.counted_u32.new.self c.in_ok-bytes.ensures.form c.read_whole.ensures.form

pub returns-clause-none : goal.returns-clause-none
returns-clause-none c =
    let bytes = c.args.reader.now in
    let reads = reads_inside c.read_whole.result (counted_at w32) command_at bytes c.in_ok-bytes.bytes.now c.counted_u32.new.self c.in_ok-bytes.ensures.value c.read_whole.ensures.read in
    none_at_front c.read_whole.result c.counted_u32.new.self (counted_command_at bytes) reads (λ command rest. IsCountedFront command rest bytes) (read_counted_front bytes)
