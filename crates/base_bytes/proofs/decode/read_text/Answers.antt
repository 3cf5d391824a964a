use Rattle.std.proofs.Common.{refl}
use Rattle.std.proofs.lemmas.Bool.{false≢true}
use Rattle.base_bytes.proofs.Texts.{text_found, text_refused}
use Rattle.base_bytes.proofs.decode.read_text.Goals as goal

pub returns-in-Some : goal.returns-in-Some
returns-in-Some c =
    let told = rw c.in-Some.is at c.in_ok-text.ensures in
    text_found c.args.reader.now c.counted_u32.new.self c.in_ok-bytes.bytes.now c.in-Some.text c.in_ok-bytes.ensures.value (told.found.0 refl) told.value

pub returns-in-None : goal.returns-in-None
returns-in-None c =
    let told = rw c.in-None.is at c.in_ok-text.ensures in
    text_refused c.args.reader.now c.counted_u32.new.self c.in_ok-bytes.bytes.now c.in_ok-bytes.ensures.value (λ utf8. false≢true (told.found.1 utf8))
