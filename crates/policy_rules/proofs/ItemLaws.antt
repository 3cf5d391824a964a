-- Items: what the rules say of them is what is found.
use Rattle.std.proofs.Common.{◌≡◌, Bool, true, ◌&&◌, List, [], ◌∷◌, refl}
use Rattle.base_bytes.proofs.Bools.{and_then}
use Rattle.policy_ast.specs.declared.item.Item.{Item}
use Rattle.policy_ast.specs.declared.item.Item.TheVariants as item
use Rattle.policy_ast.specs.declared.item.Section.{Section}
use Rattle.policy_ast.specs.declared.item.Section.TheVariants as section
use Rattle.policy_rules.proofs.FinishLaws.{finish_found, finish_judged, some_then}
use Rattle.policy_rules.proofs.StatementLaws.{body_found, judges_block}
use Rattle.policy_rules.specs.Calls.{may_chain}
use Rattle.policy_rules.specs.Commands.{are_attributes, attributes_of, has_its_sections}
use Rattle.policy_rules.specs.Heads.{literal_type, type_exists}
use Rattle.policy_rules.specs.Items as rules
use Rattle.policy_rules.specs.Items.{AreSections, IsItem, IsOfKind, IsSection, are_parameters, in_action, in_command, in_finish_function, in_function, is_free_name}
use Rattle.policy_rules.specs.Names.{Name, name_of}
use Rattle.policy_rules.specs.Nesting.{may_nest}
use Rattle.policy_rules.specs.Statements.{ends_in_return}
use Rattle.policy_rules.specs.Types.{declared, written_type}
use Rattle.policy_rules.specs.ItemJudging.{is_of_kind, item_is, section_is, sections_are}
use Rattle.policy_rules.specs.Judging.{body_is, finish_stmts_are}

module _ (items : List Item) where
  -- ---- from the rules

  section_judged : (name : Name) {s : Section} → IsSection items name s → section_is items name s ≡ true
  section_judged name rules.attributes_section = refl
  section_judged name (rules.fields_section are) = are
  section_judged name rules.seal_section = refl
  section_judged name rules.open_section = refl
  section_judged name (rules.policy_section body) = judges_block items (in_command name) body
  section_judged name (rules.recall_section body) = judges_block items (in_command name) body

  sections_judged : (name : Name) {sections : List Section} → AreSections items name sections → sections_are items name sections ≡ true
  sections_judged name rules.no_sections = refl
  sections_judged name (rules.more_sections s more) = rw (section_judged name s, sections_judged name more) refl

  kind_judged : {i : Item} → IsOfKind items i → is_of_kind items i ≡ true
  kind_judged rules.uses = refl
  kind_judged (rules.defines t is) = rw is refl
  kind_judged (rules.enum are) = are
  kind_judged (rules.struct are) = are
  kind_judged (rules.effect are) = are
  kind_judged (rules.fact are) = are
  kind_judged (rules.command {name = name} has are sections) = rw (has, are, sections_judged name sections) refl
  kind_judged (rules.function {result = result} are exists body returns) = rw (are, exists, judges_block items (in_function (written_type result)) body, returns) refl
  kind_judged (rules.finish_function {parameters = parameters} are body) = rw (are, finish_judged items in_finish_function (declared parameters) body) refl
  kind_judged (rules.action are body) = rw (are, judges_block items in_action body) refl

  pub item_judged : (earlier : List Name) (i : Item) → IsItem items earlier i → item_is items earlier i ≡ true
  item_judged earlier i is = rw (is.free, kind_judged is.of_kind, is.nests, is.chains) refl

  -- ---- and back

  section_found : (name : Name) (s : Section) → section_is items name s ≡ true → IsSection items name s
  section_found name (section.Attributes attributes) is = rules.attributes_section
  section_found name (section.Fields fields) is = rules.fields_section is
  section_found name section.Seal is = rules.seal_section
  section_found name section.Open is = rules.open_section
  section_found name (section.Policy body) is = rules.policy_section (body_found items (in_command name) body [] is)
  section_found name (section.Recall body) is = rules.recall_section (body_found items (in_command name) body [] is)

  sections_found : (name : Name) (sections : List Section) → sections_are items name sections ≡ true → AreSections items name sections
  sections_found name [] is = rules.no_sections
  sections_found name (s ∷ more) is = and_then (section_is items name s) (sections_are items name more) is (λ one rest.
      rules.more_sections (section_found name s one) (sections_found name more rest))

  kind_found : (i : Item) → is_of_kind items i ≡ true → IsOfKind items i
  kind_found (item.Use name) is = rules.uses
  kind_found (item.Let name value) is = some_then (literal_type items value) is (λ t has. rules.defines t has)
  kind_found (item.Enum name variants) is = rules.enum is
  kind_found (item.Struct name fields) is = rules.struct is
  kind_found (item.Effect name fields) is = rules.effect is
  kind_found (item.Fact is_immutable name keys values) is = rules.fact is
  kind_found (item.Command name sections) is =
      and_then (has_its_sections sections) (are_attributes (attributes_of sections) && sections_are items name sections) is (λ has rest.
      and_then (are_attributes (attributes_of sections)) (sections_are items name sections) rest (λ are last. rules.command has are (sections_found name sections last)))
  kind_found (item.Function name parameters result body) is =
      let inner : Bool = body_is items (in_function (written_type result)) body (declared parameters) in
      and_then (are_parameters items parameters) (type_exists items result && (inner && ends_in_return body)) is (λ are rest.
      and_then (type_exists items result) (inner && ends_in_return body) rest (λ exists more. and_then inner (ends_in_return body) more (λ block returns.
      rules.function are exists (body_found items (in_function (written_type result)) body (declared parameters) block) returns)))
  kind_found (item.FinishFunction name parameters body) is =
      and_then (are_parameters items parameters) (finish_stmts_are items in_finish_function body (declared parameters)) is (λ are rest.
      rules.finish_function are (finish_found items in_finish_function (declared parameters) body rest))
  kind_found (item.Action name parameters body) is =
      and_then (are_parameters items parameters) (body_is items in_action body (declared parameters)) is (λ are rest.
      rules.action are (body_found items in_action body (declared parameters) rest))

  pub item_found : (earlier : List Name) (i : Item) → item_is items earlier i ≡ true → IsItem items earlier i
  item_found earlier i is =
      and_then (is_free_name earlier (name_of i)) (is_of_kind items i && (may_nest items i && may_chain items i)) is (λ free rest.
      and_then (is_of_kind items i) (may_nest items i && may_chain items i) rest (λ kind more. and_then (may_nest items i) (may_chain items i) more (λ nests chains.
      record { free = free; of_kind = kind_found i kind; nests = nests; chains = chains })))
