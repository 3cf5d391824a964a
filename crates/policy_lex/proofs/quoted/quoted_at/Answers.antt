use Rattle.std.proofs.Common.{◌≡◌, sym, ◌∙◌, subst, true≢false}
use Rattle.std.specs.Str.{IsUtf8}
use Rattle.policy_lex.proofs.Texts.{text_quoted, text_held}
use Rattle.policy_lex.proofs.quoted.quoted_at.Goals as goal

pub returns-clause-text : goal.returns-clause-text
returns-clause-text c =
    let same : c.in-Some-3.text ≡ c.in-Some-2.text = rw c.in-Some-3.is at c.in_ok-text-2.ensures.value ∙ c.as_slice.ensures in
    rw same (text_quoted c.args.bytes.now c.in-Some.rest.now c.in-Some-2.text c.in-Some-2.size c.in-Some.ensures.rest (sym c.in-Some-2.is ∙ c.in_ok-text.ensures.text))

pub unreachable-requires : goal.unreachable-requires
unreachable-requires c =
    let utf8 = text_held c.args.bytes.now c.in-Some.rest.now c.in-Some-2.text c.in-Some-2.size c.in-Some.ensures.rest (sym c.in-Some-2.is ∙ c.in_ok-text.ensures.text) c.requires in
    absurd (true≢false (sym ((rw c.in-None.is at c.in_ok-text-2.ensures.found).1 (subst IsUtf8 (sym c.as_slice.ensures) utf8))))
