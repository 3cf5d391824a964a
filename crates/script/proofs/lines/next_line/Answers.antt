use Rattle.std.proofs.Common.{◌+◌, ◌∷◌, drop, refl, sym, ap, ◌∙◌}
use Rattle.std.specs.Str.Lines.{lines}
use Rattle.script.proofs.NextLines.{drop_taken, lines_first}
use Rattle.script.proofs.lines.next_line.Goals as goal

pub returns-in-Some-clause-lines : goal.returns-in-Some-clause-lines
returns-in-Some-clause-lines c =
    lines_first c.args.bytes.now c.in-Some.end (sym c.line_end.ensures.place ∙ c.in-Some.is)
    ∙ ap (λ line. line ∷ lines (drop (c.in-Some.end + 1) c.args.bytes.now)) (sym c.without_carriage_return.ensures)
    ∙ ap (λ rest. c.without_carriage_return.result.now ∷ lines rest) (sym (drop_taken _ (c.in-Some.end + 1) c.args.bytes.now refl))
