use Rattle.std.proofs.Common.{◌≡◌, if◌then◌else◌, not, drop}
use Rattle.std.specs.List.{list_all}
use Rattle.std.specs.Option.{is_some}
use Rattle.policy_rules.specs.FieldLists.{gaps_are_last}
use Rattle.policy_infer.proofs.field_lists.gaps_are_last.Given as goal

abbrev pub invariant-loop-gap : goal.invariant-loop-gap
invariant-loop-gap l = (if l.is_behind then list_all (λ gap. not (is_some gap)) (drop l.gap-index l.gaps) else gaps_are_last (drop l.gap-index l.gaps)) ≡ gaps_are_last l.gaps
