-- Whether items are well typed, found from their parts.
use Rattle.std.specs.Prelude.{Bool, true, ◌&&◌, List, [], ◌∷◌}
use Rattle.std.specs.Option.{is_some}
use Rattle.policy_ast.specs.declared.item.Item.{Item}
use Rattle.policy_ast.specs.declared.item.Item.TheVariants as item
use Rattle.policy_ast.specs.declared.item.Section.{Section}
use Rattle.policy_ast.specs.declared.item.Section.TheVariants as section
use Rattle.policy_rules.specs.Calls.{may_chain}
use Rattle.policy_rules.specs.Commands.{are_attributes, attributes_of, has_its_sections}
use Rattle.policy_rules.specs.Heads.{literal_type, type_exists}
use Rattle.policy_rules.specs.Items.{are_fact_fields, are_fields, are_parameters, are_variants, effect_fields, in_action, in_command, in_finish_function, in_function, is_free_name}
use Rattle.policy_rules.specs.Names.{Name, name_of}
use Rattle.policy_rules.specs.Nesting.{may_nest}
use Rattle.policy_rules.specs.Statements.{ends_in_return}
use Rattle.policy_rules.specs.Types.{declared, written_type}
use Rattle.policy_rules.specs.Judging.{body_is, finish_stmts_are}

module _ (items : List Item) where
  abbrev pub section_is : Name → Section → Bool
  section_is name (section.Attributes attributes) = true
  section_is name (section.Fields fields) = are_fields items fields
  section_is name section.Seal = true
  section_is name section.Open = true
  section_is name (section.Policy body) = body_is items (in_command name) body []
  section_is name (section.Recall body) = body_is items (in_command name) body []

  abbrev pub sections_are : Name → List Section → Bool
  sections_are name [] = true
  sections_are name (s ∷ more) = section_is name s && sections_are name more

  abbrev pub is_of_kind : Item → Bool
  is_of_kind (item.Use name) = true
  is_of_kind (item.Let name value) = is_some (literal_type items value)
  is_of_kind (item.Enum name variants) = are_variants variants
  is_of_kind (item.Struct name fields) = are_fields items fields
  is_of_kind (item.Effect name fields) = are_fields items (effect_fields fields)
  is_of_kind (item.Fact is_immutable name keys values) = are_fact_fields items keys values
  is_of_kind (item.Command name sections) = has_its_sections sections && (are_attributes (attributes_of sections) && sections_are name sections)
  is_of_kind (item.Function name parameters result body) =
      are_parameters items parameters && (type_exists items result && (body_is items (in_function (written_type result)) body (declared parameters) && ends_in_return body))
  is_of_kind (item.FinishFunction name parameters body) = are_parameters items parameters && finish_stmts_are items in_finish_function body (declared parameters)
  is_of_kind (item.Action name parameters body) = are_parameters items parameters && body_is items in_action body (declared parameters)

  -- The item is well typed behind items of these names.
  abbrev pub item_is : List Name → Item → Bool
  item_is earlier i = is_free_name earlier (name_of i) && (is_of_kind i && (may_nest items i && may_chain items i))
