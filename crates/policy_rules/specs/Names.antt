-- The names of items, and which item a name means.
use Rattle.std.specs.Prelude.{ℕ, Bool, false, List, find, position, filter_map, Option, Some, None, option_map, unwrap_or}
use Rattle.std.specs.List.{list_any}
use Rattle.std.specs.Str.{bytes_eq}
use Rattle.policy_ast.specs.declared.item.Item.{Item}
use Rattle.policy_ast.specs.declared.item.Item.TheVariants as item

-- A name, as its bytes.
abbrev pub Name : Type 0
Name = List ℕ

-- The name of an item; `use` has none.
abbrev pub name_of : Item → Option Name
name_of (item.Use used) = None
name_of (item.Let name value) = Some name
name_of (item.Enum name variants) = Some name
name_of (item.Struct name fields) = Some name
name_of (item.Effect name fields) = Some name
name_of (item.Fact is_immutable name keys values) = Some name
name_of (item.Command name sections) = Some name
name_of (item.Function name parameters result body) = Some name
name_of (item.FinishFunction name parameters body) = Some name
name_of (item.Action name parameters body) = Some name

-- The item is of this name.
abbrev pub is_named : Name → Item → Bool
is_named name i = unwrap_or (option_map (bytes_eq name) (name_of i)) false

-- The names of a list of items.
abbrev pub names_of : List Item → List Name
names_of = filter_map name_of

-- The name is one of these.
abbrev pub is_among : Name → List Name → Bool
is_among name names = list_any (bytes_eq name) names

-- The item that a name means: the first of that name.
abbrev pub item_named : List Item → Name → Option Item
item_named items name = find (is_named name) items

-- The number of the item that a name means, counted from 0.
abbrev pub number_named : List Item → Name → Option ℕ
number_named items name = position (is_named name) items
