use Rattle.std.proofs.Common.{◌+◌, ◌++◌, flat_map, length, ap, sym, ◌∙◌}
use Rattle.std.proofs.lemmas.Grind.{flat_map-append}
use Rattle.std.proofs.lemmas.List.{length-append}
use Rattle.policy_rules.specs.WellTyped.{items_of}
use Rattle.state_texts.proofs.RowFacts.{below_next}
use Rattle.state_texts.specs.States.{row_line}
use Rattle.state_texts.specs.working.Below.{rows_below, rows_of}
use Rattle.state_texts.proofs.facts.facts_text.Goals as goal

pub loop-number-preserved : goal.loop-number-preserved
loop-number-preserved g c =
    let rows = g.F.FactBase.rows c.args.facts.now in
    let n = c.loop-number.number in
    let line = row_line (items_of c.items-items.result.now) in
    let next = below_next n rows (g.met.F.FactBase.base c.args.facts.now) in
    record {
      few = c.in_ok-push_fact.ensures.few;
      counted = c.in_ok-push_fact.ensures.counted ∙ ap (λ k. k + length (rows_of n rows)) c.loop-number.invariant.counted
          ∙ sym (length-append (rows_below n rows) (rows_of n rows)) ∙ ap length (sym next);
      text = c.in_ok-push_fact.ensures.text ∙ ap (λ t. t ++ flat_map line (rows_of n rows)) c.loop-number.invariant.text
          ∙ sym (flat_map-append line (rows_below n rows) (rows_of n rows)) ∙ ap (flat_map line) (sym next);
    }
