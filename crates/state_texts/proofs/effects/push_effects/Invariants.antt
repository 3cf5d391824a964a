use Rattle.std.proofs.Common.{◌≡◌, ◌≤◌, ◌+◌, ◌++◌, flat_map, length, take}
use Rattle.policy_rules.specs.WellTyped.{items_of}
use Rattle.state_texts.specs.States.{effect_line}
use Rattle.state_texts.proofs.effects.push_effects.Given as goal

abbrev pub invariant-loop-effect : goal.invariant-loop-effect
invariant-loop-effect l = record {
  few : l.into.count ≤ length l.into.text;
  counted : l.into.count ≡ l.initial.into.count + l.effect-index;
  text : l.into.text ≡ l.initial.into.text ++ flat_map (effect_line (items_of l.items) l.outcome) (take l.effect-index l.effects);
}
