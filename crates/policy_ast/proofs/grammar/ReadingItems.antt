-- How items and policies are read.
use Rattle.std.specs.Prelude.{ℕ, zero, suc, ◌-◌, Bool, true, false, List, [], ◌∷◌, ◌++◌, drop, length, Option, None, Some, option_and_then}
use Rattle.policy_ast.specs.declared.field.Field.{Field}
use Rattle.policy_ast.specs.declared.item.Attribute.{Attribute}
use Rattle.policy_ast.specs.declared.item.Item.{Item}
use Rattle.policy_ast.specs.declared.item.Item.TheVariants as item
use Rattle.policy_ast.specs.declared.item.Section.{Section}
use Rattle.policy_ast.specs.declared.item.Section.TheVariants as section
use Rattle.policy_ast.specs.declared.policy.PlacedItem.{PlacedItem}
use Rattle.policy_ast.specs.declared.token.Token.{Token}
use Rattle.policy_ast.specs.grammar.Fixed.{arrow, close_brace, close_bracket, close_paren, colon, equals, open_brace, open_bracket, open_paren, path, word}
use Rattle.policy_ast.specs.grammar.Parts.{Kinds}
use Rattle.policy_ast.specs.grammar.Policies.{kinds, max_height, placed}
use Rattle.policy_ast.proofs.grammar.Reading.{Reader, behind, chosen, listed, making, many, noded, nothing, on, pair, read_empty}
use Rattle.policy_ast.proofs.grammar.ReadingFields.{read_effect_field, read_field, read_literal, read_name, read_type}
use Rattle.policy_ast.proofs.grammar.ReadingStatements.{read_block, read_finish_block}

abbrev pub read_attribute : Reader Attribute
read_attribute = making (λ t. record { name = t.0; value = t.1 }) (pair read_name (behind colon read_literal))

-- what stands behind the words `seal` and `open`
abbrev pub read_sealing : Reader Unit
read_sealing = behind open_brace (behind (word "return") (behind (word "envelope") (behind path (behind (word "do_seal") (behind open_paren (behind (word "serialize")
    (behind open_paren (behind (word "this") (behind close_paren (behind close_paren (behind close_brace read_empty)))))))))))

abbrev pub read_opening : Reader Unit
read_opening = behind open_brace (behind (word "return") (behind (word "deserialize") (behind open_paren (behind (word "envelope") (behind path (behind (word "do_open")
    (behind open_paren (behind (word "envelope") (behind close_paren (behind close_paren (behind close_brace read_empty)))))))))))

-- parts that are at most so high
module _ (limit : ℕ) where
  unfoldable pub read_section : Reader Section
  read_section =
      on (word "attributes") (noded limit section.Attributes (behind open_brace (listed close_brace read_attribute)))
      (on (word "fields") (noded limit section.Fields (behind open_brace (listed close_brace (read_field limit))))
      (on (word "seal") (noded limit (λ none. section.Seal) read_sealing)
      (on (word "open") (noded limit (λ none. section.Open) read_opening)
      (on (word "policy") (noded limit section.Policy (read_block limit))
      (on (word "recall") (noded limit section.Recall (read_block limit))
      nothing)))))

  abbrev pub read_parameters : Reader (List Field)
  read_parameters = behind open_paren (listed close_paren (read_field limit))

  abbrev pub read_let_item : Reader Item
  read_let_item = noded limit (λ t. item.Let t.0 t.1) (pair read_name (behind equals read_literal))

  abbrev pub read_enum : Reader Item
  read_enum = noded limit (λ t. item.Enum t.0 t.1) (pair read_name (behind open_brace (listed close_brace read_name)))

  abbrev pub read_struct : Reader Item
  read_struct = noded limit (λ t. item.Struct t.0 t.1) (pair read_name (behind open_brace (listed close_brace (read_field limit))))

  abbrev pub read_effect : Reader Item
  read_effect = noded limit (λ t. item.Effect t.0 t.1) (pair read_name (behind open_brace (listed close_brace (read_effect_field limit))))

  -- what stands behind the word `fact`
  abbrev pub read_fact : (is_immutable : Bool) → Reader Item
  read_fact is_immutable = noded limit (λ t. item.Fact is_immutable t.0 t.1.0 t.1.1)
      (pair read_name (behind open_bracket (pair (listed close_bracket (read_field limit)) (behind arrow (behind open_brace (listed close_brace (read_field limit)))))))

  abbrev pub read_command : Reader Item
  read_command = noded limit (λ t. item.Command t.0 t.1) (pair read_name (behind open_brace (many close_brace read_section)))

  abbrev pub read_function : Reader Item
  read_function = noded limit (λ t. item.Function t.0 t.1.0 t.1.1.0 t.1.1.1) (pair read_name (pair read_parameters (pair (read_type limit) (read_block limit))))

  abbrev pub read_finish_function : Reader Item
  read_finish_function = noded limit (λ t. item.FinishFunction t.0 t.1.0 t.1.1) (pair read_name (pair read_parameters (read_finish_block limit)))

  abbrev pub read_action : Reader Item
  read_action = noded limit (λ t. item.Action t.0 t.1.0 t.1.1) (pair read_name (pair read_parameters (read_block limit)))

  unfoldable pub read_item_tree : Reader Item
  read_item_tree =
      on (word "use") (noded limit item.Use read_name)
      (on (word "let") read_let_item
      (on (word "enum") read_enum
      (on (word "struct") read_struct
      (on (word "effect") read_effect
      (on (word "fact") (read_fact false)
      (on (word "immutable") (behind (word "fact") (read_fact true))
      (on (word "command") read_command
      (on (word "function") read_function
      (on (word "finish") (behind (word "function") read_finish_function)
      (on (word "action") read_action
      nothing))))))))))

abbrev pub read_item : Kinds → Option (Item × Kinds)
read_item ts = option_and_then (λ a. Some (a.0.tree, a.1)) (read_item_tree max_height ts)

-- the item that tokens begin with, at its line, and the tokens behind it, which are known by how many they are
abbrev pub read_placed : List Token → Option (PlacedItem × List Token)
read_placed [] = None
read_placed (t ∷ ts) = option_and_then (λ a. Some (placed t a.0, drop (length ts - length a.1) ts)) (read_item (kinds (t ∷ ts)))

-- items as long as one can be read, behind those found so far, at most so many more; and the tokens left
unfoldable pub read_run : ℕ → List PlacedItem → List Token → List PlacedItem × List Token
read_run zero found ts = (found, ts)
read_run (suc k) found ts = chosen (read_placed ts) (found, ts) (λ a. read_run k (found ++ a.0 ∷ []) a.1)
