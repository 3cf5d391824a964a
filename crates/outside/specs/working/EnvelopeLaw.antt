-- The proof of the law that each envelope owes: a plain tag is good. It stands here since the envelopes cite it.
use Rattle.std.proofs.Common.{List, ℕ, IsTrue, refl}
use Rattle.std.proofs.lemmas.Slice.Eq.{bytes_eq-Decides}
use Rattle.outside.specs.Envelope.{plain_tag, is_plain_tag}

-- the tag that a seal makes opens
pub is_plain_tag-plain_tag : (author body : List ℕ) → IsTrue (is_plain_tag author body (plain_tag author body))
is_plain_tag-plain_tag author body = (bytes_eq-Decides (plain_tag author body) (plain_tag author body)).1 refl
