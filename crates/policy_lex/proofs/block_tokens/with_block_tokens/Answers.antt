use Rattle.std.proofs.Common.{◌<◌, ◌≤◌, ◌+◌, ◌-◌, length, take, drop, sym, ◌∙◌, arith, ap, Err, ℕ, length-take, length-drop}
use Rattle.std.proofs.lemmas.List.Elements.{All-push}
use Rattle.policy_ast.specs.DocumentFault.{BadToken}
use Rattle.policy_ast.specs.DocumentTokens.{IsTokenOf, with_tokens}
use Rattle.policy_lex.proofs.LineNumbers.{number_behind}
use Rattle.policy_lex.proofs.TextUtf8.{text_in_utf8}
use Rattle.policy_lex.proofs.TokenSteps.{few_more, token_placed, one_token_more, no_token_more, tokens_bad, tokens_passed, tokens_past}
use Rattle.policy_lex.proofs.block_tokens.with_block_tokens.Goals as goal
use Rattle.policy_lex.proofs.block_tokens.with_block_tokens.Goals.{in-Some-token+in_ok-push_token, in_default-token}

pub returns-in_default-clause-answer : goal.returns-in_default-clause-answer
returns-in_default-clause-answer c =
    sym c.loop-place.invariant.rest
    ∙ ap (with_tokens c.loop-place.tokens.items)
    (tokens_bad c.args.version c.args.document.now c.loop-place.place c.args.block.to (omega (arith, length-take {A = ℕ}, length-drop {A = ℕ}, c.requires.block.within)) (sym c.in_default.is ∙ c.in_ok-token.ensures.piece)
    ∙ ap (λ n. Err (BadToken n)) (sym c.loop-place.invariant.line))

pub loop-place-preserved : goal.loop-place-preserved
loop-place-preserved c =
    let document = c.args.document.now in
    let place = c.loop-place.place in
    let piece = c.in-Some.field-0 in
    let to = c.args.block.to in
    let some : 0 < piece.size = rw c.in-Some.is at c.in_ok-token.ensures.some in
    let within : piece.size ≤ length (take (to - place) (drop place document)) = rw c.in-Some.is at c.in_ok-token.ensures.within in
    let before : place + piece.size ≤ to = omega (arith, within, length-take {A = ℕ}, length-drop {A = ℕ}) in
    let step = tokens_passed c.args.version document place to piece (omega (arith, length-take {A = ℕ}, length-drop {A = ℕ}, c.requires.block.within)) some before (sym c.in-Some.is ∙ c.in_ok-token.ensures.piece) in
    let line = number_behind document place to piece.size _ _ before c.loop-place.invariant.line c.line_feeds-line.ensures.count in
    elim c.match-token.branch [
      | in-Some-token+in_ok-push_token w ↦ record {
        rest = rw (w.tokens-is, w.in_ok-push_token.ensures, c.loop-place.invariant.line)
            (one_token_more c.loop-place.tokens.items _ _
            ∙ ap (with_tokens c.loop-place.tokens.items) (sym (rw w.in-Some-token.is at step))
            ∙ c.loop-place.invariant.rest);
        line = line;
        few = rw (w.tokens-is, w.in_ok-push_token.ensures) (few_more c.loop-place.tokens.items _ place piece.size c.loop-place.invariant.few some);
        slices = rw (w.tokens-is, w.in_ok-push_token.ensures)
            (All-push (IsTokenOf c.args.version document) c.loop-place.tokens.items _ c.loop-place.invariant.slices
            (token_placed c.args.version document place to piece w.in-Some-token.kind c.loop-place.line some before c.requires.block.within (sym c.in-Some.is ∙ c.in_ok-token.ensures.piece) w.in-Some-token.is c.loop-place.invariant.line));
        within = before;
      }
      | in_default-token w ↦ record {
        rest = rw w.tokens-is (ap (with_tokens c.loop-place.tokens.items) (sym (rw w.in_default-token.is at step)) ∙ c.loop-place.invariant.rest);
        line = line;
        few = rw w.tokens-is (omega (arith, some, c.loop-place.invariant.few));
        slices = rw w.tokens-is c.loop-place.invariant.slices;
        within = before;
      }
    ]

pub returns-clause-answer : goal.returns-clause-answer
returns-clause-answer c =
    sym c.loop-place.invariant.rest
    ∙ ap (with_tokens c.loop-place.tokens.items) (tokens_past c.args.version c.args.document.now c.loop-place.place c.args.block.to (omega arith))
    ∙ no_token_more c.loop-place.tokens.items

pub piece_at-requires-clause-text : goal.piece_at-requires-clause-text
piece_at-requires-clause-text c = text_in_utf8 c.args.document.now c.loop-place.place c.args.block.to c.requires.utf8 (omega (arith, c.requires.block.within))
