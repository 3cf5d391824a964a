use Rattle.std.proofs.Common.{◌≡◌, ◌≤◌, flat_map, length, take}
use Rattle.policy_rules.specs.WellTyped.{items_of}
use Rattle.state_texts.specs.States.{all_effects, entry_lines}
use Rattle.state_texts.proofs.effects.effects_text.Given as goal

abbrev pub invariant-loop-entry : goal.invariant-loop-entry
invariant-loop-entry l = record {
  few : l.lines.count ≤ length l.lines.text;
  counted : l.lines.count ≡ length (all_effects (take l.entry-index l.entries));
  text : l.lines.text ≡ flat_map (entry_lines (items_of l.items)) (take l.entry-index l.entries);
}
