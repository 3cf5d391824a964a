-- Parts of the types of forms, as the code finds them.
use Rattle.std.specs.Prelude.{Bool, List, Option}
use Rattle.policy_ast.specs.declared.item.Item.{Item}
use Rattle.policy_rules.specs.FieldLists.{pattern_fits}
use Rattle.policy_rules.specs.Heads.{fact_named, struct_named}
use Rattle.policy_rules.specs.Names.{Name}
use Rattle.policy_rules.specs.Scopes.{type_in}
use Rattle.policy_rules.specs.Types.{joined}
use Rattle.policy_rules.specs.declared.types.NamedType.{NamedType}
use Rattle.policy_rules.specs.Inference.{◌>>=◌, is_int, struct_of}
use Rattle.policy_rules.specs.Judging.{holds}

-- what the operations on numbers take
abbrev pub is_number_of : Option NamedType → Bool
is_number_of found = holds found is_int

-- the name of a struct
abbrev pub struct_found : Option NamedType → Option Name
struct_found found = found >>= struct_of

-- the type of both, where one fits the other
abbrev pub joined_of : Option NamedType → Option NamedType → Option NamedType
joined_of o p = o >>= λ t. p >>= λ u. joined t u

-- the type of a field of the struct of this name
abbrev pub field_type : List Item → Name → Name → Option NamedType
field_type items name struct_name = struct_named items struct_name >>= λ fields. type_in fields name

-- a pattern is one of its fact's rows
abbrev pub is_row_of : List Item → Name → List Name → Option (List (Option NamedType)) → List Name → Option (List (Option NamedType)) → Bool
is_row_of items fact_name key_names keys value_names values =
    holds (fact_named items fact_name) (λ fact. holds keys (λ ks. holds values (λ vs. pattern_fits fact key_names ks value_names vs)))
