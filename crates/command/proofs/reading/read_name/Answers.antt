use Rattle.std.proofs.Common.{rules}
use Rattle.std.proofs.lemmas.Bool.{false≢true}
use Rattle.base_bytes.proofs.WordTexts.{word_is_text}
use Rattle.command.proofs.reading.read_name.Goals as goal

pub unreachable-requires : goal.unreachable-requires
unreachable-requires c =
    let told = rw c.in-None.is at c.in_ok-name.ensures in
    false≢true (told.found.1 (word_is_text c.in_ok-bytes.bytes.now (search rules)))
