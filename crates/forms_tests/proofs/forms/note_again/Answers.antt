use Rattle.base_bytes.proofs.ShortValues.{short_from_type}
use Rattle.forms_tests.proofs.forms.note_again.Goals as goal

pub encode_value-requires : goal.encode_value-requires
encode_value-requires c =
    let told = rw c.in-Some.is at c.in_ok-value.ensures in
    short_from_type c.in_ok-shapes.shapes c.in-Some.value _ told.found.typed
