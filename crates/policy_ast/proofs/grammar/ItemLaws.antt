-- The laws of the readings of items and sections.
use Rattle.std.proofs.Common.{◌≡◌, ℕ, ◌<◌, ◌≤◌, Bool, true, false, length, Some, refl, subst}
use Rattle.policy_ast.specs.declared.item.Item.{Item}
use Rattle.policy_ast.specs.declared.item.Item.TheVariants as item
use Rattle.policy_ast.specs.declared.item.Section.{Section}
use Rattle.policy_ast.specs.declared.item.Section.TheVariants as section
use Rattle.policy_ast.specs.declared.part.Part.{Part}
use Rattle.policy_ast.specs.grammar.Fields.{IsEffectField, IsField, IsLiteral, IsName, IsType}
use Rattle.policy_ast.specs.grammar.Fixed.{arrow, close_brace, close_bracket, close_paren, colon, equals, open_brace, open_bracket, open_paren, path, word}
use Rattle.policy_ast.specs.grammar.Forms as forms
use Rattle.policy_ast.specs.grammar.Forms.{◌▸◌, ◌⊗◌, Empty, Listed, Made, Many, Node}
use Rattle.policy_ast.specs.grammar.Items as rows
use Rattle.policy_ast.specs.grammar.Items.{IsAttribute, IsFact, IsItemTree, IsParameters, IsSection}
use Rattle.policy_ast.specs.grammar.Parts.{Nonterminal, Kinds}
use Rattle.policy_ast.specs.grammar.Policies as policies
use Rattle.policy_ast.specs.grammar.Policies.{IsItem, max_height}
use Rattle.policy_ast.specs.grammar.Statements.{IsBlock, IsFinishBlock, IsStmt}
use Rattle.policy_ast.proofs.grammar.Facts.{AreParts, IsPart, LeavesTail, parts_tail, behind_parts, behind_tail, empty_tail, forward, listed_tail, made_parts, many_tail, node_tail, pair_parts, pair_tail, unclosed}
use Rattle.policy_ast.proofs.grammar.FieldLaws.{effect_field_is_read, effect_field_parts, field_is_read, field_parts, literal_is_read, literal_parts, name_is_read, name_parts, type_is_read, type_tail}
use Rattle.policy_ast.proofs.grammar.Laws.{Always, Finds, IsRead, behind_is_read, bind_then, empty_is_read, made_is_read, node_is_read, nothing_finds, on_finds, pair_is_read, same_some}
use Rattle.policy_ast.proofs.grammar.Loops.{listed_is_read, many_is_read}
use Rattle.policy_ast.proofs.grammar.Reading.{listed, many, noded}
use Rattle.policy_ast.proofs.grammar.ReadingFields.{read_effect_field, read_field, read_name}
use Rattle.policy_ast.proofs.grammar.ReadingItems.{read_action, read_attribute, read_command, read_effect, read_enum, read_fact, read_finish_function, read_function, read_item, read_item_tree, read_let_item, read_opening, read_parameters, read_sealing, read_section, read_struct}
use Rattle.policy_ast.proofs.grammar.StatementFacts.{block_tail, finish_block_tail, is_stmt_parts}
use Rattle.policy_ast.proofs.grammar.StatementLaws.{block_is_read, finish_block_is_read}

-- sections
attribute_parts : AreParts IsAttribute
attribute_parts = made_parts (pair_parts name_parts (behind_tail (parts_tail literal_parts) colon)) _

is_block_tail : LeavesTail IsBlock
is_block_tail = block_tail IsStmt is_stmt_parts

fields_tail : LeavesTail (open_brace ▸ Listed IsField close_brace)
fields_tail = behind_tail (listed_tail (parts_tail field_parts) close_brace) open_brace

abbrev Sealing : Nonterminal Unit
Sealing = open_brace ▸ word "return" ▸ word "envelope" ▸ path ▸ word "do_seal" ▸ open_paren ▸ word "serialize" ▸ open_paren ▸ word "this" ▸ close_paren ▸ close_paren ▸ close_brace ▸ Empty

abbrev Opening : Nonterminal Unit
Opening = open_brace ▸ word "return" ▸ word "deserialize" ▸ open_paren ▸ word "envelope" ▸ path ▸ word "do_open" ▸ open_paren ▸ word "envelope" ▸ close_paren ▸ close_paren ▸ close_brace ▸ Empty

sealing_tail : LeavesTail Sealing
sealing_tail = behind_tail (behind_tail (behind_tail (behind_tail (behind_tail (behind_tail (behind_tail (behind_tail (behind_tail (behind_tail (behind_tail (behind_tail empty_tail
    close_brace) close_paren) close_paren) (word "this")) open_paren) (word "serialize")) open_paren) (word "do_seal")) path) (word "envelope")) (word "return")) open_brace

opening_tail : LeavesTail Opening
opening_tail = behind_tail (behind_tail (behind_tail (behind_tail (behind_tail (behind_tail (behind_tail (behind_tail (behind_tail (behind_tail (behind_tail (behind_tail empty_tail
    close_brace) close_paren) close_paren) (word "envelope")) open_paren) (word "do_open")) path) (word "envelope")) open_paren) (word "deserialize")) (word "return")) open_brace

section_parts : AreParts IsSection
section_parts ts rest a (rows.attributes x) = behind_parts (node_tail (behind_tail (listed_tail (parts_tail attribute_parts) close_brace) open_brace) _) (word "attributes") refl ts rest a x
section_parts ts rest a (rows.fields x) = behind_parts (node_tail fields_tail _) (word "fields") refl ts rest a x
section_parts ts rest a (rows.seal x) = behind_parts (node_tail sealing_tail _) (word "seal") refl ts rest a x
section_parts ts rest a (rows.open x) = behind_parts (node_tail opening_tail _) (word "open") refl ts rest a x
section_parts ts rest a (rows.policy x) = behind_parts (node_tail is_block_tail _) (word "policy") refl ts rest a x
section_parts ts rest a (rows.recall x) = behind_parts (node_tail is_block_tail _) (word "recall") refl ts rest a x

sealing_is_read : {limit : ℕ} → IsRead Sealing Sealing read_sealing limit Always
sealing_is_read = behind_is_read (behind_is_read (behind_is_read (behind_is_read (behind_is_read (behind_is_read (behind_is_read (behind_is_read (behind_is_read (behind_is_read (behind_is_read (behind_is_read empty_is_read
    close_brace) close_paren) close_paren) (word "this")) open_paren) (word "serialize")) open_paren) (word "do_seal")) path) (word "envelope")) (word "return")) open_brace

opening_is_read : {limit : ℕ} → IsRead Opening Opening read_opening limit Always
opening_is_read = behind_is_read (behind_is_read (behind_is_read (behind_is_read (behind_is_read (behind_is_read (behind_is_read (behind_is_read (behind_is_read (behind_is_read (behind_is_read (behind_is_read empty_is_read
    close_brace) close_paren) close_paren) (word "envelope")) open_paren) (word "do_open")) path) (word "envelope")) open_paren) (word "deserialize")) (word "return")) open_brace

module _ (limit : ℕ) where
  attributes_are_read : IsRead (Listed IsAttribute close_brace) (Listed IsAttribute close_brace) (listed close_brace read_attribute) limit Always
  attributes_are_read = listed_is_read close_brace (made_is_read (pair_is_read name_is_read (behind_is_read literal_is_read colon) (λ ts rest b y. tt)) _)
      (forward attribute_parts) (unclosed attribute_parts close_brace refl) (λ rest. tt) (λ rest. tt) (λ rest. refl)

  braced_fields_are_read : IsRead (Listed IsField close_brace) (Listed IsField close_brace) (listed close_brace (read_field limit)) limit Always
  braced_fields_are_read = listed_is_read close_brace (field_is_read limit) (forward field_parts) (unclosed field_parts close_brace refl) (λ rest. tt) (λ rest. tt) (λ rest. refl)

  key_fields_are_read : IsRead (Listed IsField close_bracket) (Listed IsField close_bracket) (listed close_bracket (read_field limit)) limit Always
  key_fields_are_read = listed_is_read close_bracket (field_is_read limit) (forward field_parts) (unclosed field_parts close_bracket refl) (λ rest. tt) (λ rest. tt) (λ rest. refl)

  parameters_are_read : IsRead IsParameters IsParameters (read_parameters limit) limit Always
  parameters_are_read = behind_is_read (listed_is_read close_paren (field_is_read limit) (forward field_parts) (unclosed field_parts close_paren refl) (λ rest. tt) (λ rest. tt) (λ rest. refl)) open_paren

  effect_fields_are_read : IsRead (Listed IsEffectField close_brace) (Listed IsEffectField close_brace) (listed close_brace (read_effect_field limit)) limit Always
  effect_fields_are_read = listed_is_read close_brace (effect_field_is_read limit) (forward effect_field_parts) (unclosed effect_field_parts close_brace refl)
      (λ rest. (refl, tt)) (λ rest. (refl, tt)) (λ rest. refl)

  names_are_read : IsRead (Listed IsName close_brace) (Listed IsName close_brace) (listed close_brace read_name) limit Always
  names_are_read = listed_is_read close_brace name_is_read (forward name_parts) (unclosed name_parts close_brace refl) (λ rest. tt) (λ rest. tt) (λ rest. refl)

  section_reads : (ts rest : Kinds) (a : Part Section) → IsSection ts rest a → a.height ≤ limit → read_section limit ts ≡ Some (a, rest)
  unfolding read_section
  section_reads ts rest a (rows.attributes (forms.behind {ts = inner} x)) low = (node_is_read (behind_is_read attributes_are_read open_brace) section.Attributes).reads inner rest a x low tt
  section_reads ts rest a (rows.fields (forms.behind {ts = inner} x)) low = (node_is_read (behind_is_read braced_fields_are_read open_brace) section.Fields).reads inner rest a x low tt
  section_reads ts rest a (rows.seal (forms.behind {ts = inner} x)) low = (node_is_read sealing_is_read (λ none. section.Seal)).reads inner rest a x low tt
  section_reads ts rest a (rows.open (forms.behind {ts = inner} x)) low = (node_is_read opening_is_read (λ none. section.Open)).reads inner rest a x low tt
  section_reads ts rest a (rows.policy (forms.behind {ts = inner} x)) low = (node_is_read (block_is_read limit) section.Policy).reads inner rest a x low tt
  section_reads ts rest a (rows.recall (forms.behind {ts = inner} x)) low = (node_is_read (block_is_read limit) section.Recall).reads inner rest a x low tt

  section_finds : Finds IsSection (read_section limit) limit
  unfolding read_section
  section_finds =
      on_finds (word "attributes") ((node_is_read (behind_is_read attributes_are_read open_brace) section.Attributes).finds) (λ ts rest a x. rows.attributes x)
      (on_finds (word "fields") ((node_is_read (behind_is_read braced_fields_are_read open_brace) section.Fields).finds) (λ ts rest a x. rows.fields x)
      (on_finds (word "seal") ((node_is_read sealing_is_read (λ none. section.Seal)).finds) (λ ts rest a x. rows.seal x)
      (on_finds (word "open") ((node_is_read opening_is_read (λ none. section.Open)).finds) (λ ts rest a x. rows.open x)
      (on_finds (word "policy") ((node_is_read (block_is_read limit) section.Policy).finds) (λ ts rest a x. rows.policy x)
      (on_finds (word "recall") ((node_is_read (block_is_read limit) section.Recall).finds) (λ ts rest a x. rows.recall x)
      nothing_finds)))))

  section_is_read : IsRead IsSection IsSection (read_section limit) limit Always
  section_is_read = record { reads = λ ts rest a x low ends. section_reads ts rest a x low; finds = section_finds }

  sections_are_read : IsRead (Many IsSection close_brace) (Many IsSection close_brace) (many close_brace (read_section limit)) limit Always
  sections_are_read = many_is_read close_brace section_is_read (forward section_parts) (unclosed section_parts close_brace refl) (λ rest. tt) (λ ts rest a x. tt)

  -- what stands behind the first word of each item
  use_is_read : IsRead (Node item.Use IsName) (Node item.Use IsName) (noded limit item.Use read_name) limit Always
  use_is_read = node_is_read name_is_read item.Use

  let_item_is_read : IsRead (Node (λ t. item.Let t.0 t.1) (IsName ⊗ equals ▸ IsLiteral)) (Node (λ t. item.Let t.0 t.1) (IsName ⊗ equals ▸ IsLiteral)) (read_let_item limit) limit Always
  let_item_is_read = node_is_read (pair_is_read name_is_read (behind_is_read literal_is_read equals) (λ ts rest b y. tt)) (λ t. item.Let t.0 t.1)

  enum_is_read : IsRead (Node (λ t. item.Enum t.0 t.1) (IsName ⊗ open_brace ▸ Listed IsName close_brace)) (Node (λ t. item.Enum t.0 t.1) (IsName ⊗ open_brace ▸ Listed IsName close_brace)) (read_enum limit) limit Always
  enum_is_read = node_is_read (pair_is_read name_is_read (behind_is_read names_are_read open_brace) (λ ts rest b y. tt)) (λ t. item.Enum t.0 t.1)

  struct_is_read : IsRead (Node (λ t. item.Struct t.0 t.1) (IsName ⊗ open_brace ▸ Listed IsField close_brace)) (Node (λ t. item.Struct t.0 t.1) (IsName ⊗ open_brace ▸ Listed IsField close_brace)) (read_struct limit) limit Always
  struct_is_read = node_is_read (pair_is_read name_is_read (behind_is_read braced_fields_are_read open_brace) (λ ts rest b y. tt)) (λ t. item.Struct t.0 t.1)

  effect_is_read : IsRead (Node (λ t. item.Effect t.0 t.1) (IsName ⊗ open_brace ▸ Listed IsEffectField close_brace)) (Node (λ t. item.Effect t.0 t.1) (IsName ⊗ open_brace ▸ Listed IsEffectField close_brace)) (read_effect limit) limit Always
  effect_is_read = node_is_read (pair_is_read name_is_read (behind_is_read effect_fields_are_read open_brace) (λ ts rest b y. tt)) (λ t. item.Effect t.0 t.1)

  abbrev FactRow : Bool → Nonterminal Item
  FactRow is_immutable = Node (λ t. item.Fact is_immutable t.0 t.1.0 t.1.1) (IsName ⊗ open_bracket ▸ Listed IsField close_bracket ⊗ arrow ▸ open_brace ▸ Listed IsField close_brace)

  fact_is_read : (is_immutable : Bool) → IsRead (FactRow is_immutable) (FactRow is_immutable) (read_fact limit is_immutable) limit Always
  fact_is_read is_immutable = node_is_read (pair_is_read name_is_read (behind_is_read (pair_is_read key_fields_are_read (behind_is_read (behind_is_read braced_fields_are_read open_brace) arrow)
      (λ ts rest b y. tt)) open_bracket) (λ ts rest b y. tt)) (λ t. item.Fact is_immutable t.0 t.1.0 t.1.1)

  command_is_read : IsRead (Node (λ t. item.Command t.0 t.1) (IsName ⊗ open_brace ▸ Many IsSection close_brace)) (Node (λ t. item.Command t.0 t.1) (IsName ⊗ open_brace ▸ Many IsSection close_brace)) (read_command limit) limit Always
  command_is_read = node_is_read (pair_is_read name_is_read (behind_is_read sections_are_read open_brace) (λ ts rest b y. tt)) (λ t. item.Command t.0 t.1)

  function_is_read : IsRead (Node (λ t. item.Function t.0 t.1.0 t.1.1.0 t.1.1.1) (IsName ⊗ IsParameters ⊗ IsType ⊗ IsBlock)) (Node (λ t. item.Function t.0 t.1.0 t.1.1.0 t.1.1.1) (IsName ⊗ IsParameters ⊗ IsType ⊗ IsBlock)) (read_function limit) limit Always
  function_is_read = node_is_read (pair_is_read name_is_read (pair_is_read parameters_are_read (pair_is_read (type_is_read limit) (block_is_read limit) (λ ts rest b y. tt)) (λ ts rest b y. tt)) (λ ts rest b y. tt))
      (λ t. item.Function t.0 t.1.0 t.1.1.0 t.1.1.1)

  finish_function_is_read : IsRead (Node (λ t. item.FinishFunction t.0 t.1.0 t.1.1) (IsName ⊗ IsParameters ⊗ IsFinishBlock)) (Node (λ t. item.FinishFunction t.0 t.1.0 t.1.1) (IsName ⊗ IsParameters ⊗ IsFinishBlock)) (read_finish_function limit) limit Always
  finish_function_is_read = node_is_read (pair_is_read name_is_read (pair_is_read parameters_are_read (finish_block_is_read limit) (λ ts rest b y. tt)) (λ ts rest b y. tt)) (λ t. item.FinishFunction t.0 t.1.0 t.1.1)

  action_is_read : IsRead (Node (λ t. item.Action t.0 t.1.0 t.1.1) (IsName ⊗ IsParameters ⊗ IsBlock)) (Node (λ t. item.Action t.0 t.1.0 t.1.1) (IsName ⊗ IsParameters ⊗ IsBlock)) (read_action limit) limit Always
  action_is_read = node_is_read (pair_is_read name_is_read (pair_is_read parameters_are_read (block_is_read limit) (λ ts rest b y. tt)) (λ ts rest b y. tt)) (λ t. item.Action t.0 t.1.0 t.1.1)

  -- whatever follows an item: no item begins another one
  item_tree_reads : (ts rest : Kinds) (a : Part Item) → IsItemTree ts rest a → a.height ≤ limit → read_item_tree limit ts ≡ Some (a, rest)
  unfolding read_item_tree
  item_tree_reads ts rest a (rows.use (forms.behind {ts = inner} x)) low = use_is_read.reads inner rest a x low tt
  item_tree_reads ts rest a (rows.let (forms.behind {ts = inner} x)) low = let_item_is_read.reads inner rest a x low tt
  item_tree_reads ts rest a (rows.enum (forms.behind {ts = inner} x)) low = enum_is_read.reads inner rest a x low tt
  item_tree_reads ts rest a (rows.struct (forms.behind {ts = inner} x)) low = struct_is_read.reads inner rest a x low tt
  item_tree_reads ts rest a (rows.effect (forms.behind {ts = inner} x)) low = effect_is_read.reads inner rest a x low tt
  item_tree_reads ts rest a (rows.fact (forms.behind {ts = inner} x)) low = (fact_is_read false).reads inner rest a x low tt
  item_tree_reads ts rest a (rows.immutable_fact (forms.behind {ts = inner} x)) low = (behind_is_read (fact_is_read true) (word "fact")).reads inner rest a x low tt
  item_tree_reads ts rest a (rows.command (forms.behind {ts = inner} x)) low = command_is_read.reads inner rest a x low tt
  item_tree_reads ts rest a (rows.function (forms.behind {ts = inner} x)) low = function_is_read.reads inner rest a x low tt
  item_tree_reads ts rest a (rows.finish_function (forms.behind {ts = inner} x)) low = (behind_is_read finish_function_is_read (word "function")).reads inner rest a x low tt
  item_tree_reads ts rest a (rows.action (forms.behind {ts = inner} x)) low = action_is_read.reads inner rest a x low tt

  item_tree_finds : Finds IsItemTree (read_item_tree limit) limit
  unfolding read_item_tree
  item_tree_finds =
      on_finds (word "use") use_is_read.finds (λ ts rest a x. rows.use x)
      (on_finds (word "let") let_item_is_read.finds (λ ts rest a x. rows.let x)
      (on_finds (word "enum") enum_is_read.finds (λ ts rest a x. rows.enum x)
      (on_finds (word "struct") struct_is_read.finds (λ ts rest a x. rows.struct x)
      (on_finds (word "effect") effect_is_read.finds (λ ts rest a x. rows.effect x)
      (on_finds (word "fact") ((fact_is_read false).finds) (λ ts rest a x. rows.fact x)
      (on_finds (word "immutable") ((behind_is_read (fact_is_read true) (word "fact")).finds) (λ ts rest a x. rows.immutable_fact x)
      (on_finds (word "command") command_is_read.finds (λ ts rest a x. rows.command x)
      (on_finds (word "function") function_is_read.finds (λ ts rest a x. rows.function x)
      (on_finds (word "finish") ((behind_is_read finish_function_is_read (word "function")).finds) (λ ts rest a x. rows.finish_function x)
      (on_finds (word "action") action_is_read.finds (λ ts rest a x. rows.action x)
      nothing_finds))))))))))

parameters_tail : LeavesTail IsParameters
parameters_tail = behind_tail (listed_tail (parts_tail field_parts) close_paren) open_paren

fact_row_tail : (is_immutable : Bool) → LeavesTail (FactRow 0 is_immutable)
fact_row_tail is_immutable = node_tail (pair_tail (parts_tail name_parts) (behind_tail (pair_tail (listed_tail (parts_tail field_parts) close_bracket) (behind_tail fields_tail arrow)) open_bracket)) _

item_tree_parts : AreParts IsItemTree
item_tree_parts ts rest a (rows.use x) = behind_parts (node_tail (parts_tail name_parts) _) (word "use") refl ts rest a x
item_tree_parts ts rest a (rows.let x) = behind_parts (node_tail (pair_tail (parts_tail name_parts) (behind_tail (parts_tail literal_parts) equals)) _) (word "let") refl ts rest a x
item_tree_parts ts rest a (rows.enum x) = behind_parts (node_tail (pair_tail (parts_tail name_parts) (behind_tail (listed_tail (parts_tail name_parts) close_brace) open_brace)) _) (word "enum") refl ts rest a x
item_tree_parts ts rest a (rows.struct x) = behind_parts (node_tail (pair_tail (parts_tail name_parts) fields_tail) _) (word "struct") refl ts rest a x
item_tree_parts ts rest a (rows.effect x) = behind_parts (node_tail (pair_tail (parts_tail name_parts) (behind_tail (listed_tail (parts_tail effect_field_parts) close_brace) open_brace)) _) (word "effect") refl ts rest a x
item_tree_parts ts rest a (rows.fact x) = behind_parts (fact_row_tail false) (word "fact") refl ts rest a x
item_tree_parts ts rest a (rows.immutable_fact x) = behind_parts (behind_tail (fact_row_tail true) (word "fact")) (word "immutable") refl ts rest a x
item_tree_parts ts rest a (rows.command x) = behind_parts (node_tail (pair_tail (parts_tail name_parts) (behind_tail (many_tail (parts_tail section_parts) close_brace) open_brace)) _) (word "command") refl ts rest a x
item_tree_parts ts rest a (rows.function x) = behind_parts (node_tail (pair_tail (parts_tail name_parts) (pair_tail parameters_tail (pair_tail type_tail is_block_tail))) _) (word "function") refl ts rest a x
item_tree_parts ts rest a (rows.finish_function x) = behind_parts (behind_tail (node_tail (pair_tail (parts_tail name_parts) (pair_tail parameters_tail finish_block_tail)) _) (word "function")) (word "finish") refl ts rest a x
item_tree_parts ts rest a (rows.action x) = behind_parts (node_tail (pair_tail (parts_tail name_parts) (pair_tail parameters_tail is_block_tail)) _) (word "action") refl ts rest a x

-- an item
pub item_part : (ts rest : Kinds) (x : Item) → IsItem ts rest x → IsPart ts rest
item_part ts rest x (policies.low height is low) = item_tree_parts ts rest (record { tree = x; height = height }) is

pub item_reads : (ts rest : Kinds) (x : Item) → IsItem ts rest x → read_item ts ≡ Some (x, rest)
item_reads ts rest x (policies.low height is low) = rw (item_tree_reads max_height ts rest (record { tree = x; height = height }) is low) refl

pub item_found : (ts : Kinds) (p : Item × Kinds) → read_item ts ≡ Some p → IsItem ts p.1 p.0
item_found ts p is = bind_then (read_item_tree max_height ts) (λ a. Some (a.0.tree, a.1)) p is (λ a reads e.
    let found = item_tree_finds max_height ts a reads in
    subst (λ q. IsItem ts q.1 q.0) (same_some (a.0.tree, a.1) p e) (policies.low a.0.height found.spelled found.low))
