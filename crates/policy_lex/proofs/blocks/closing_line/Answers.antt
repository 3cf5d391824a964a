use Rattle.std.proofs.Common.{sym, ◌∙◌, arith}
use Rattle.policy_lex.specs.working.LineViews.{seen}
use Rattle.policy_lex.proofs.BlockSteps.{closing_found, closing_passed, closing_past}
use Rattle.policy_lex.proofs.blocks.closing_line.Goals as goal

pub returns-then-is_closing-clause-line : goal.returns-then-is_closing-clause-line
returns-then-is_closing-clause-line c =
    sym c.loop-place.invariant.rest
    ∙ closing_found c.args.count c.args.document.now c.loop-place.place c.line_at-line.result.next (seen c.line_at-line.result) c.line_at-line.ensures.line (sym c.if-is_closing.ensures)

pub loop-place-preserved : goal.loop-place-preserved
loop-place-preserved c = record {
  rest = closing_passed c.args.count c.args.document.now c.loop-place.place c.line_at-line.result.next (seen c.line_at-line.result) c.line_at-line.ensures.line (sym c.if-is_closing.ensures)
      ∙ c.loop-place.invariant.rest;
  after = omega arith;
  within = c.line_at-line.ensures.within;
}

pub returns-clause-line : goal.returns-clause-line
returns-clause-line c = sym c.loop-place.invariant.rest ∙ closing_past c.args.count c.args.document.now c.loop-place.place (omega arith)
