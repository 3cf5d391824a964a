-- Items, and the sections of a command.
use Rattle.std.specs.Prelude.{Bool, true, false, List}
use Rattle.policy_ast.specs.declared.field.Field.{Field}
use Rattle.policy_ast.specs.declared.item.Attribute.{Attribute}
use Rattle.policy_ast.specs.declared.item.Item.{Item}
use Rattle.policy_ast.specs.declared.item.Item.TheVariants as item
use Rattle.policy_ast.specs.declared.item.Section.{Section}
use Rattle.policy_ast.specs.declared.item.Section.TheVariants as section
use Rattle.policy_ast.specs.declared.part.Part.{Part}
use Rattle.policy_ast.specs.grammar.Fields.{IsEffectField, IsField, IsLiteral, IsName, IsType}
use Rattle.policy_ast.specs.grammar.Fixed.{arrow, close_brace, close_bracket, close_paren, colon, equals, open_brace, open_bracket, open_paren, path, word}
use Rattle.policy_ast.specs.grammar.Forms.{◌▸◌, ◌⊗◌, Empty, Listed, Made, Many, Node}
use Rattle.policy_ast.specs.grammar.Parts.{Nonterminal, Kinds}
use Rattle.policy_ast.specs.grammar.Statements.{IsBlock, IsFinishBlock}

-- Name ":" literal
abbrev pub IsAttribute : Nonterminal Attribute
IsAttribute = Made (λ t. record { name = t.0; value = t.1 }) (IsName ⊗ colon ▸ IsLiteral)

-- section = "attributes" "{" list(Name ":" literal) "}" | "fields" "{" list(field) "}"
--         | "seal" "{" "return" "envelope" "::" "do_seal" "(" "serialize" "(" "this" ")" ")" "}"
--         | "open" "{" "return" "deserialize" "(" "envelope" "::" "do_open" "(" "envelope" ")" ")" "}"
--         | "policy" block | "recall" block
pub data IsSection (ts rest : Kinds) (a : Part Section) : Type 0 where
  attributes : (word "attributes" ▸ Node section.Attributes (open_brace ▸ Listed IsAttribute close_brace)) ts rest a → IsSection ts rest a
  fields : (word "fields" ▸ Node section.Fields (open_brace ▸ Listed IsField close_brace)) ts rest a → IsSection ts rest a
  seal : (word "seal" ▸ Node (λ none. section.Seal)
      (open_brace ▸ word "return" ▸ word "envelope" ▸ path ▸ word "do_seal" ▸ open_paren ▸ word "serialize" ▸ open_paren ▸ word "this" ▸ close_paren ▸ close_paren ▸ close_brace ▸ Empty)) ts rest a → IsSection ts rest a
  «open» : (word "open" ▸ Node (λ none. section.Open)
      (open_brace ▸ word "return" ▸ word "deserialize" ▸ open_paren ▸ word "envelope" ▸ path ▸ word "do_open" ▸ open_paren ▸ word "envelope" ▸ close_paren ▸ close_paren ▸ close_brace ▸ Empty)) ts rest a → IsSection ts rest a
  policy : (word "policy" ▸ Node section.Policy IsBlock) ts rest a → IsSection ts rest a
  recall : (word "recall" ▸ Node section.Recall IsBlock) ts rest a → IsSection ts rest a

-- "(" list(field) ")"
abbrev pub IsParameters : Nonterminal (List Field)
IsParameters = open_paren ▸ Listed IsField close_paren

-- "fact" Name "[" list(field) "]" "=>" "{" list(field) "}"
abbrev pub IsFact : (is_immutable : Bool) → Nonterminal Item
IsFact is_immutable = word "fact" ▸ Node (λ t. item.Fact is_immutable t.0 t.1.0 t.1.1) (IsName ⊗ open_bracket ▸ Listed IsField close_bracket ⊗ arrow ▸ open_brace ▸ Listed IsField close_brace)

-- item = "use" Name | "let" Name "=" literal
--      | "enum" Name "{" list(Name) "}" | "struct" Name "{" list(field) "}"
--      | "effect" Name "{" list(field "dynamic"?) "}"
--      | "immutable"? "fact" Name "[" list(field) "]" "=>" "{" list(field) "}"
--      | "command" Name "{" section* "}"
--      | "function" Name "(" list(field) ")" type block
--      | "finish" "function" Name "(" list(field) ")" fblock
--      | "action" Name "(" list(field) ")" block
pub data IsItemTree (ts rest : Kinds) (a : Part Item) : Type 0 where
  «use» : (word "use" ▸ Node item.Use IsName) ts rest a → IsItemTree ts rest a
  «let» : (word "let" ▸ Node (λ t. item.Let t.0 t.1) (IsName ⊗ equals ▸ IsLiteral)) ts rest a → IsItemTree ts rest a
  enum : (word "enum" ▸ Node (λ t. item.Enum t.0 t.1) (IsName ⊗ open_brace ▸ Listed IsName close_brace)) ts rest a → IsItemTree ts rest a
  struct : (word "struct" ▸ Node (λ t. item.Struct t.0 t.1) (IsName ⊗ open_brace ▸ Listed IsField close_brace)) ts rest a → IsItemTree ts rest a
  effect : (word "effect" ▸ Node (λ t. item.Effect t.0 t.1) (IsName ⊗ open_brace ▸ Listed IsEffectField close_brace)) ts rest a → IsItemTree ts rest a
  fact : IsFact false ts rest a → IsItemTree ts rest a
  immutable_fact : (word "immutable" ▸ IsFact true) ts rest a → IsItemTree ts rest a
  command : (word "command" ▸ Node (λ t. item.Command t.0 t.1) (IsName ⊗ open_brace ▸ Many IsSection close_brace)) ts rest a → IsItemTree ts rest a
  function : (word "function" ▸ Node (λ t. item.Function t.0 t.1.0 t.1.1.0 t.1.1.1) (IsName ⊗ IsParameters ⊗ IsType ⊗ IsBlock)) ts rest a → IsItemTree ts rest a
  finish_function : (word "finish" ▸ word "function" ▸ Node (λ t. item.FinishFunction t.0 t.1.0 t.1.1) (IsName ⊗ IsParameters ⊗ IsFinishBlock)) ts rest a → IsItemTree ts rest a
  action : (word "action" ▸ Node (λ t. item.Action t.0 t.1.0 t.1.1) (IsName ⊗ IsParameters ⊗ IsBlock)) ts rest a → IsItemTree ts rest a
