use Rattle.std.proofs.Common.{◌<◌, sym, ◌∙◌, arith, length}
use Rattle.policy_lex.specs.working.LineViews.{seen}
use Rattle.policy_lex.proofs.FrontSteps.{key_within, nothing_refused, read_first, read_ended, read_inside, read_past}
use Rattle.policy_lex.proofs.front_matter.front_matter.Goals as goal

pub returns-then-is_empty-clause-front : goal.returns-then-is_empty-clause-front
returns-then-is_empty-clause-front c = sym (nothing_refused c.args.document.now (grind (arith, c.is_empty.ensures, c.if-is_empty.true)))

pub loop-place-init : goal.loop-place-init
loop-place-init c = record {
  read = read_first c.args.document.now c.line_at-first.result.next (seen c.line_at-first.result) c.line_at-first.ensures.line (sym c.if-not-is_rule.ensures);
  within = c.line_at-first.ensures.within;
  key = tt;
}

pub returns-then-is_rule-clause-front : goal.returns-then-is_rule-clause-front
returns-then-is_rule-clause-front c =
    rw c.closed_by.ensures
    (read_ended c.args.document.now c.loop-place.key c.loop-place.place c.line_at-line.result.next (seen c.line_at-line.result) c.line_at-line.ensures.line (sym c.if-is_rule.ensures)
    ∙ c.loop-place.invariant.read)

pub loop-place-preserved : goal.loop-place-preserved
loop-place-preserved c = record {
  read = rw (c.or-key.ensures, c.key_of.ensures)
      (read_inside c.args.document.now c.loop-place.key c.loop-place.place c.line_at-line.result.next (seen c.line_at-line.result) c.line_at-line.ensures.line (sym c.if-is_rule.ensures)
      ∙ c.loop-place.invariant.read);
  within = c.line_at-line.ensures.within;
  key = rw (c.or-key.ensures, c.key_of.ensures)
      (key_within (length c.args.document.now) c.loop-place.key (seen c.line_at-line.result) c.loop-place.invariant.key
      (let here : c.line_at-line.result.start < length c.args.document.now = omega arith in here));
}

pub returns-clause-front : goal.returns-clause-front
returns-clause-front c = sym (sym c.loop-place.invariant.read ∙ read_past c.args.document.now c.loop-place.key c.loop-place.place (omega arith))
