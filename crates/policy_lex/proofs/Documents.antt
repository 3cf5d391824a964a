-- Documents that are UTF-8, and others.
use Rattle.std.proofs.Common.{◌≡◌, ℕ, Bool, true, false, List, refl, Err}
use Rattle.std.specs.Str.{IsUtf8, is_utf8}
use Rattle.std.specs.Str.Lossy.{utf8_valid_len}
use Rattle.std.proofs.lemmas.Str.{IsUtf8-from_is_utf8, is_utf8-from_IsUtf8}
use Rattle.policy_ast.specs.DocumentFault.{NotUtf8}
use Rattle.policy_ast.specs.DocumentTokens.{document_tokens, tokens_behind}
use Rattle.policy_ast.specs.FrontMatter.{front_matter}
use Rattle.policy_ast.specs.Lines.{document_lines, line_number}

not_utf8 : (b : Bool) (text : List ℕ) → is_utf8 text ≡ b → ¬ IsUtf8 text → b ≡ false
not_utf8 true text is not = absurd (not (IsUtf8-from_is_utf8 text is))
not_utf8 false text is not = refl

pub text_document : (document : List ℕ) → IsUtf8 document → document_tokens document ≡ tokens_behind document (front_matter (document_lines document))
unfolding document_tokens
text_document document utf8 = rw (is_utf8-from_IsUtf8 document utf8) refl

pub other_document : (document : List ℕ) → ¬ IsUtf8 document → document_tokens document ≡ Err (NotUtf8 (line_number document (utf8_valid_len document)))
unfolding document_tokens
other_document document not = rw (not_utf8 (is_utf8 document) document refl not) refl
