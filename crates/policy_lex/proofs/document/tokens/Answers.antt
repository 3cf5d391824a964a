use Rattle.std.proofs.Common.{◌∙◌, refl}
use Rattle.policy_lex.proofs.Documents.{text_document, other_document}
use Rattle.policy_lex.proofs.document.tokens.Goals as goal

pub returns-in-Ok-clause-answer : goal.returns-in-Ok-clause-answer
returns-in-Ok-clause-answer c = rw (text_document c.args.document.now c.in-Ok.ensures.cases.1) c.text_tokens.ensures.answer

pub returns-in-Err-clause-answer : goal.returns-in-Err-clause-answer
returns-in-Err-clause-answer c =
    other_document c.args.document.now c.in-Err.ensures.cases.0
    ∙ rw (c.line_number-line.ensures, c.valid_up_to.ensures, c.in-Err.ensures.valid_len) refl
