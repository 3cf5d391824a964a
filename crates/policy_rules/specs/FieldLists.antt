-- What is asked of the names and the types that are given for declared fields.
use Rattle.std.specs.Prelude.{Bool, true, false, not, ◌&&◌, List, [], ◌∷◌, Option, Some, None}
use Rattle.std.specs.List.{list_all}
use Rattle.std.specs.Option.{is_some}
use Rattle.std.specs.Str.{bytes_eq}
use Rattle.policy_rules.specs.Heads.{FactHead}
use Rattle.policy_rules.specs.Names.{Name, is_among}
use Rattle.policy_rules.specs.Scopes.{names_in, type_in}
use Rattle.policy_rules.specs.Types.{fits}
use Rattle.policy_rules.specs.declared.types.Named.{Named}
use Rattle.policy_rules.specs.declared.types.NamedType.{NamedType}

-- No two are the same.
abbrev pub are_distinct : List Name → Bool
are_distinct [] = true
are_distinct (name ∷ names) = not (is_among name names) && are_distinct names

-- A type fits what is asked for, where something is.
abbrev pub fits_some : NamedType → Option NamedType → Bool
fits_some t None = false
fits_some t (Some u) = fits t u

-- Arguments: as many as parameters, and each fits its parameter.
abbrev pub arguments_fit : List NamedType → List Named → Bool
arguments_fit [] [] = true
arguments_fit (t ∷ types) (p ∷ parameters) = fits t p.ty && arguments_fit types parameters
arguments_fit _ _ = false

-- All fields in declared order, each with a type that fits.
abbrev pub in_declared_order : List Named → List Name → List NamedType → Bool
in_declared_order [] [] [] = true
in_declared_order (f ∷ fields) (name ∷ names) (t ∷ types) = bytes_eq name f.name && fits t f.ty && in_declared_order fields names types
in_declared_order _ _ _ = false

-- Each name is a field's, and its type fits that field's type.
abbrev pub fit_fields : List Named → List Name → List NamedType → Bool
fit_fields fields [] [] = true
fit_fields fields (name ∷ names) (t ∷ types) = fits_some t (type_in fields name) && fit_fields fields names types
fit_fields fields _ _ = false

-- Each field once, in any order, with a type that fits.
abbrev pub in_any_order : List Named → List Name → List NamedType → Bool
in_any_order fields names types = are_distinct names && fit_fields fields names types && list_all (λ field. is_among field names) (names_in fields)

-- A gap, written `?`, fits any field.
abbrev pub gap_fits : Option NamedType → Option NamedType → Bool
gap_fits None u = is_some u
gap_fits (Some t) u = fits_some t u

-- A leading part of the keys, in declared order, where each expression fits its key.
abbrev pub are_leading_keys : List Named → List Name → List (Option NamedType) → Bool
are_leading_keys keys [] [] = true
are_leading_keys (k ∷ keys) (name ∷ names) (gap ∷ gaps) = bytes_eq name k.name && gap_fits gap (Some k.ty) && are_leading_keys keys names gaps
are_leading_keys _ _ _ = false

-- No expression follows a `?`.
abbrev pub gaps_are_last : List (Option NamedType) → Bool
gaps_are_last [] = true
gaps_are_last (Some t ∷ gaps) = gaps_are_last gaps
gaps_are_last (None ∷ gaps) = list_all (λ gap. not (is_some gap)) gaps

-- Each name is a value field's, and its expression fits that field's type.
abbrev pub fit_values : List Named → List Name → List (Option NamedType) → Bool
fit_values values [] [] = true
fit_values values (name ∷ names) (gap ∷ gaps) = gap_fits gap (type_in values name) && fit_values values names gaps
fit_values values _ _ = false

-- What a pattern names of a fact: a leading part of its keys, where no expression follows a `?`, and any value fields, each once.
abbrev pub pattern_fits : FactHead → List Name → List (Option NamedType) → List Name → List (Option NamedType) → Bool
pattern_fits fact key_names keys value_names values =
    are_leading_keys fact.keys key_names keys && gaps_are_last keys && are_distinct value_names && fit_values fact.values value_names values
