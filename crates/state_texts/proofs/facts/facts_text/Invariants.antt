use Rattle.std.proofs.Common.{◌≡◌, ◌≤◌, flat_map, length}
use Rattle.policy_rules.specs.WellTyped.{items_of}
use Rattle.state_texts.specs.States.{row_line}
use Rattle.state_texts.specs.working.Below.{rows_below}
use Rattle.state_texts.proofs.facts.facts_text.Given as goal

abbrev pub invariant-loop-number : goal.invariant-loop-number
invariant-loop-number g l = record {
  few : l.lines.count ≤ length l.lines.text;
  counted : l.lines.count ≡ length (rows_below l.number (g.F.FactBase.rows l.facts));
  text : l.lines.text ≡ flat_map (row_line (items_of l.items)) (rows_below l.number (g.F.FactBase.rows l.facts));
}
