-- The rows that a pattern asks for, once its expressions have values; and rows as values.
use Rattle.std.specs.Prelude.{ℕ, if◌then◌else◌, List, [], ◌∷◌, ◌++◌, map, Option, Some, None, option_map, option_and_then}
use Rattle.base_bytes.specs.declared.value.Value.{Value}
use Rattle.base_bytes.specs.declared.value.Value.TheVariants as value
use Rattle.fact_store.specs.Rows.{are_keys}
use Rattle.fact_store.specs.declared.row.Row.{Row}
use Rattle.fact_store.specs.declared.wanted.Wanted.{Wanted}
use Rattle.policy_ast.specs.declared.expr.Expr.{Expr}
use Rattle.policy_ast.specs.declared.item.Item.{Item}
use Rattle.policy_ast.specs.declared.pattern.Pattern.{Pattern}
use Rattle.policy_meaning.specs.Environments.{Env, value_in}
use Rattle.policy_meaning.specs.Outcomes.{Out, Done, ◌>>=◌, or_stuck}
use Rattle.policy_rules.specs.Expressions.{value_part}
use Rattle.policy_rules.specs.Heads.{fact_named}
use Rattle.policy_rules.specs.Names.{Name, number_named}
use Rattle.policy_rules.specs.Scopes.{names_in}

-- A row as a value of its fact's struct: the keys and then the values.
abbrev pub row_value : Row → Value
row_value row = value.Struct row.fact (row.keys ++ row.values)

-- Expressions in order, where a `?` has no value.
abbrev pub gaps_in_order : {E : Type 0} → List (Option (E → ℕ → Out Value)) → E → ℕ → Out (List (Option Value))
gaps_in_order [] env turns = Done [] turns
gaps_in_order (None ∷ more) env turns = gaps_in_order more env turns >>= λ vs turns. Done (None ∷ vs) turns
gaps_in_order (Some first ∷ more) env turns = first env turns >>= λ v turns. gaps_in_order more env turns >>= λ vs turns. Done (Some v ∷ vs) turns

-- The values before the first `?`.
abbrev pub before_gap : List (Option Value) → List Value
before_gap [] = []
before_gap (None ∷ more) = []
before_gap (Some v ∷ more) = v ∷ before_gap more

-- The names that have a value, with it.
abbrev pub named_values : List Name → List (Option Value) → Env
named_values [] values = []
named_values (name ∷ names) [] = []
named_values (name ∷ names) (None ∷ values) = named_values names values
named_values (name ∷ names) (Some v ∷ values) = record { name = name; value = v } ∷ named_values names values

-- Something, where these values may be keys. Nothing else is done with values that can be no keys, as no well-typed tree asks for.
abbrev pub by_keys : {A : Type 0} → List Value → A → Option A
by_keys keys x = if are_keys keys then Some x else None

-- What a pattern asks for: a leading part of the keys, and of each value field in declared order its named value or none.
abbrev pub wanted_of : List Item → Name → List (Option Value) → List Name → List (Option Value) → Option Wanted
wanted_of items fact keys value_names values =
    option_and_then
    (λ number. option_and_then
    (λ head. by_keys (before_gap keys) (record { fact = number; keys = before_gap keys; values = map (value_in (named_values value_names values)) (names_in head.values) }))
    (fact_named items fact))
    (number_named items fact)

-- The expressions of a pattern in written order, keys before values, and the rows that it then asks for.
abbrev pub wanted_by : {E : Type 0} → List Item → Name → List (Option (E → ℕ → Out Value)) → List Name → List (Option (E → ℕ → Out Value)) → E → ℕ → Out Wanted
wanted_by items fact keys names values env turns =
    gaps_in_order keys env turns >>= λ ks turns. gaps_in_order values env turns >>= λ vs turns. or_stuck (wanted_of items fact ks names vs) turns

-- The names of the value fields that a pattern names.
abbrev pub value_names : {E : Type 0} → Pattern E → List Name
value_names p = map (λ f. f.name) (value_part p.values)

-- The same of a pattern whose expressions are given by their meanings.
abbrev pub wanted : {E : Type 0} → List Item → Pattern (E → ℕ → Out Value) → E → ℕ → Out Wanted
wanted items p = wanted_by items p.fact (map (λ f. f.value) p.keys) (value_names p) (map (λ f. f.value) (value_part p.values))

-- The same of a pattern of a statement, by what its expressions mean.
abbrev pub wanted_in : {E : Type 0} → List Item → (Expr → E → ℕ → Out Value) → Pattern Expr → E → ℕ → Out Wanted
wanted_in items says p =
    wanted_by items p.fact (map (λ f. option_map says f.value) p.keys) (value_names p) (map (λ f. option_map says f.value) (value_part p.values))
