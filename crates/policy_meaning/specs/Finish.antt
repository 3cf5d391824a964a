-- What a `finish` block lists: its writes and effects in order. Nothing is written before all are listed.
use Rattle.std.specs.Prelude.{ℕ, zero, suc, List, [], ◌∷◌, ◌++◌, map, Option, Some, option_map, option_and_then}
use Rattle.base_bytes.specs.declared.value.Value.{Value}
use Rattle.fact_store.specs.declared.row.Row.{Row}
use Rattle.fact_store.specs.declared.wanted.Wanted.{Wanted}
use Rattle.policy_ast.specs.declared.bind.Bind.{Bind}
use Rattle.policy_ast.specs.declared.expr.Expr.{Expr}
use Rattle.policy_ast.specs.declared.finish.FinishStmt.{FinishStmt}
use Rattle.policy_ast.specs.declared.finish.FinishStmt.TheVariants as finish
use Rattle.policy_ast.specs.declared.item.Item.{Item}
use Rattle.policy_ast.specs.declared.item.Item.TheVariants as item
use Rattle.policy_meaning.specs.Environments.{Env, bound, bound_parameters}
use Rattle.policy_meaning.specs.Expressions.{Meaning}
use Rattle.policy_meaning.specs.Outcomes.{Out, Done, Ends, Stuck, ◌>>=◌, all_in_order, or_stuck, with_turn}
use Rattle.policy_meaning.specs.Patterns.{by_keys, wanted_in}
use Rattle.policy_meaning.specs.Values.{in_order, struct_parts}
use Rattle.policy_meaning.specs.declared.effect.Effect.{Effect}
use Rattle.policy_rules.specs.Heads.{FactHead, fact_named}
use Rattle.policy_rules.specs.Names.{Name, item_named, number_named}
use Rattle.policy_rules.specs.Scopes.{names_in}
use Rattle.policy_rules.specs.Types.{declared}

-- A write or an effect.
pub data Change : Type 0 where
  Create : Row → Change
  -- the row of just these keys, with the named old values, gets these values
  Update : Wanted → List Value → Change
  -- the row of this fact and just these keys
  Delete : ℕ → List Value → Change
  Emit : Effect → Change

-- What a call of a finish function lists, by its name and the values of its arguments.
abbrev pub FinishCalls : Type 0
FinishCalls = Name → List Value → ℕ → Out (List Change)

-- What a statement of `finish` lists.
abbrev pub Listing : Type 0
Listing = Env → ℕ → Out (List Change)

-- ---- one write each, by the values of its expressions

-- A fact's values in declared order, from fields given by name in any order.
abbrev pub fact_values : FactHead → Env → Option (List Value)
fact_values head given = in_order (names_in head.values) given

abbrev pub create_of : List Item → Name → List Value → Env → Option Change
create_of items fact keys given =
    option_and_then
    (λ number. option_and_then
    (λ head. option_and_then (λ values. by_keys keys (Create (record { fact = number; keys = keys; values = values }))) (fact_values head given))
    (fact_named items fact))
    (number_named items fact)

abbrev pub update_of : List Item → Name → Wanted → Env → Option Change
update_of items fact old given = option_and_then (λ head. option_map (Update old) (fact_values head given)) (fact_named items fact)

abbrev pub delete_of : List Item → Name → List Value → Option Change
delete_of items fact keys = option_and_then (λ number. by_keys keys (Delete number keys)) (number_named items fact)

abbrev pub emit_of : Value → Option Change
emit_of v = option_map (λ parts. Emit (record { effect = parts.0; fields = parts.1 })) (struct_parts v)

-- One change, listed.
abbrev pub listed : Option Change → ℕ → Out (List Change)
listed change turns = or_stuck (option_map (λ c. c ∷ []) change) turns

abbrev pub bind_names : List (Bind Expr) → List Name
bind_names binds = map (λ b. b.name) binds

module _ (items : List Item) (says : Expr → Meaning) (call : FinishCalls) where
  abbrev pub all_of : List Expr → Env → ℕ → Out (List Value)
  all_of es = all_in_order (map says es)

  abbrev pub bind_values : List (Bind Expr) → Env → ℕ → Out (List Value)
  bind_values binds = all_of (map (λ b. b.value) binds)

  -- A statement of `finish`, its expressions in written order.
  abbrev pub listing : FinishStmt → Listing
  listing (finish.Create fact keys values) env turns =
      bind_values keys env turns >>= λ ks turns. bind_values values env turns >>= λ vs turns. listed (create_of items fact ks (bound (bind_names values) vs)) turns
  listing (finish.Update p to) env turns =
      wanted_in items says p env turns >>= λ old turns. bind_values to env turns >>= λ vs turns. listed (update_of items p.fact old (bound (bind_names to) vs)) turns
  listing (finish.Delete fact keys) env turns = bind_values keys env turns >>= λ ks turns. listed (delete_of items fact ks) turns
  listing (finish.Emit e) env turns = says e env turns >>= λ v turns. listed (emit_of v) turns
  listing (finish.Call called arguments) env turns = all_of arguments env turns >>= λ vs turns. call called vs turns

  -- All statements, one after another.
  abbrev pub all_listed : List FinishStmt → Listing
  all_listed [] env turns = Done [] turns
  all_listed (s ∷ more) env turns = listing s env turns >>= λ first turns. all_listed more env turns >>= λ rest turns. Done (first ++ rest) turns

-- A finish function with its arguments: it takes a turn as it begins.
abbrev pub finish_entered : (List FinishStmt → Listing) → List Value → Option Item → ℕ → Out (List Change)
finish_entered statements values (Some (item.FinishFunction name parameters body)) turns = with_turn (statements body (bound_parameters (declared parameters) values)) turns
finish_entered statements values other turns = Ends Stuck

-- Calls of finish functions in chains of at most so many. No well-typed policy has longer ones.
abbrev pub finish_called : List Item → (Expr → Meaning) → ℕ → FinishCalls
finish_called items says zero called values turns = Ends Stuck
finish_called items says (suc depth) called values turns = finish_entered (all_listed items says (finish_called items says depth)) values (item_named items called) turns
