use Rattle.std.proofs.Common.{◌≡◌, ◌≤◌, ◌+◌, ◌++◌, flat_map, length, take}
use Rattle.policy_rules.specs.WellTyped.{items_of}
use Rattle.state_texts.specs.Naming.{names_in}
use Rattle.state_texts.specs.working.Below.{row_line_of}
use Rattle.state_texts.proofs.facts.push_rows.Given as goal

abbrev pub invariant-loop-row : goal.invariant-loop-row
invariant-loop-row l = record {
  few : l.into.count ≤ length l.into.text;
  counted : l.into.count ≡ l.initial.into.count + l.row-index;
  text : l.into.text ≡ l.initial.into.text ++ flat_map (row_line_of (items_of l.items) (names_in l.keys) (names_in l.values)) (take l.row-index l.rows);
}
