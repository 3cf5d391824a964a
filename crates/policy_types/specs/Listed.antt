-- What `finish` lists in a well-typed policy.
use Rattle.std.specs.Prelude.{◌≡◌, Bool, true, false, List, [], ◌∷◌}
use Rattle.base_bytes.specs.declared.value.Value.{Value}
use Rattle.fact_store.specs.Rows.{are_keys}
use Rattle.policy_ast.specs.declared.item.Item.{Item}
use Rattle.policy_ast.specs.declared.item.Item.TheVariants as item
use Rattle.policy_meaning.specs.Finish.{Change, Create, Update, Delete, Emit}
use Rattle.policy_meaning.specs.Typed.{are_fields_of, holds_at, is_effect_of, is_typed_row}

-- The item is a fact, and these are values of its value fields.
abbrev pub are_values_of : List Item → List Value → Item → Bool
are_values_of items values (item.Fact is_immutable name keys fields) = are_fields_of items values fields
are_values_of items values other = false

-- A row that is created is typed; an update gives values of the fact's value fields; the fields of an effect are typed. Keys are key values.
abbrev pub IsTypedChange : List Item → Change → Type 0
IsTypedChange items (Create row) = (is_typed_row items row ≡ true) × (are_keys row.keys ≡ true)
IsTypedChange items (Update old values) = (holds_at items old.fact (are_values_of items values) ≡ true) × (are_keys old.keys ≡ true)
IsTypedChange items (Delete fact keys) = are_keys keys ≡ true
IsTypedChange items (Emit e) = holds_at items e.effect (is_effect_of items e.fields) ≡ true

-- Each of these is such a change.
abbrev pub AreTypedChanges : List Item → List Change → Type 0
AreTypedChanges items [] = Unit {0}
AreTypedChanges items (c ∷ changes) = IsTypedChange items c × AreTypedChanges items changes
