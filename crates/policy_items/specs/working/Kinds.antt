-- The kinds of sections that the code counts, and the tests of the rules that they stand for.
use Rattle.std.specs.Prelude.{Bool}
use Rattle.policy_ast.specs.declared.item.Section.{Section}
use Rattle.policy_rules.specs.Commands.{is_attributes, is_fields, is_open, is_policy, is_recall, is_seal}
use Rattle.policy_items.specs.declared.sections.SectionKind.{SectionKind}
use Rattle.policy_items.specs.declared.sections.SectionKind.TheVariants as kind

-- The section is of this kind.
abbrev pub is_of_kind : SectionKind → Section → Bool
is_of_kind kind.Attributes = is_attributes
is_of_kind kind.Fields = is_fields
is_of_kind kind.Seal = is_seal
is_of_kind kind.Open = is_open
is_of_kind kind.Policy = is_policy
is_of_kind kind.Recall = is_recall
