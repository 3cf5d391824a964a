-- Calls of functions give values of their declared types.
use Rattle.std.proofs.Common.{◌≡◌, ℕ, zero, suc, Bool, true, List, Some, None, refl, sym, ap, subst, ◌∙◌}
use Rattle.std.proofs.lemmas.Bool.{false≢true}
use Rattle.std.proofs.lemmas.Option.{same_Some}
use Rattle.std.specs.List.{list_all}
use Rattle.base_bytes.proofs.Formats.{bind_then}
use Rattle.base_bytes.specs.declared.value.Value.{Value}
use Rattle.fact_store.specs.declared.row.Row.{Row}
use Rattle.policy_ast.specs.declared.field.Field.{Field}
use Rattle.policy_ast.specs.declared.field.FieldType.{FieldType}
use Rattle.policy_ast.specs.declared.item.Item.{Item}
use Rattle.policy_ast.specs.declared.item.Item.TheVariants as item
use Rattle.policy_ast.specs.declared.statement.Stmt.{Stmt}
use Rattle.policy_meaning.specs.Environments.{bound_parameters, no_setting}
use Rattle.policy_meaning.specs.Expressions.{meaning}
use Rattle.policy_meaning.specs.Functions.{called, entered, no_listing, returned}
use Rattle.policy_meaning.specs.Outcomes.{◌>>=◌}
use Rattle.policy_meaning.specs.Statements.{Flow, Goes, Returns, Finishes, Ran, body_run}
use Rattle.policy_rules.specs.Calls.{Callee, a_function, called_calls, chain_within, is_no_call, statement_calls}
use Rattle.policy_rules.specs.Heads.{FunctionHead, function_head}
use Rattle.policy_rules.specs.Items as item_rules
use Rattle.policy_rules.specs.Items.{IsOfKind, in_function}
use Rattle.policy_rules.specs.Names.{Name, item_named}
use Rattle.policy_rules.specs.Statements.{IsBlock, ends_in_return}
use Rattle.policy_rules.specs.Types.{declared, written_type}
use Rattle.policy_rules.specs.WellTyped.{IsWellTypedAt}
use Rattle.policy_rules.specs.declared.context.Block.TheVariants as block
use Rattle.policy_rules.specs.declared.context.Context.{Context}
use Rattle.policy_rules.specs.declared.types.NamedType.{NamedType}
use Rattle.policy_types.proofs.Expressions.{Keeps}
use Rattle.policy_types.proofs.Fields.{parameters_fit}
use Rattle.policy_types.proofs.Giving.{gives_then, turn_gives}
use Rattle.policy_types.proofs.Layouts.{hold_all}
use Rattle.policy_types.proofs.Rows.{AreRows}
use Rattle.policy_types.proofs.Standing.{kind_at, standing}
use Rattle.policy_types.proofs.Statements.{FlowIs, Lists, runs_block}
use Rattle.policy_types.specs.Endings.{Gives}
use Rattle.policy_types.specs.Fitting.{AreOf, IsOf, Suits, types_of}

-- a context that asks for nothing is suited by knowing nothing
pub nothing_asked : (items : List Item) (context : Context) → context.this ≡ None → (context.block ≡ block.Command → ⊥) → (context.block ≡ block.Action → ⊥) → Suits items context no_setting
nothing_asked items context none no_command no_action = record {
  this = λ command is. absurd (not_some command (sym none ∙ is));
  author = λ is. absurd (no_command is);
  command_id = λ is. absurd (no_command is);
  device = λ is. absurd (no_action is);
}
  where
    not_some : (command : Name) → None ≡ Some command → ⊥
    not_some command is = absurd (cc)

module _ (items : List Item) (well : (n : ℕ) → IsWellTypedAt items n) (rows : List Row) (typed : AreRows items rows) where
  function_suits : (result : NamedType) → Suits items (in_function result) no_setting
  function_suits result = nothing_asked items (in_function result) refl (λ is. absurd (cc)) (λ is. absurd (cc))

  nothing_listed : (result : NamedType) (may : Callee → Name → Bool) → Lists items (in_function result) may no_listing
  nothing_listed result may is = absurd (cc)

  -- a body whose end is a return returns a value of the declared type
  returned_gives : (result : NamedType) (flow : Flow) → FlowIs items (in_function result) true flow → (turns : ℕ) → Gives (IsOf items result) (returned flow turns)
  returned_gives result Goes is turns = absurd (false≢true (sym is))
  returned_gives result (Returns v) is turns = subst (λ t. IsOf items t v) (sym (same_Some result is.0 is.1)) is.2
  returned_gives result (Finishes changes) is turns = absurd (no_command is.0)
    where
      no_command : (in_function result).block ≡ block.Command → ⊥
      no_command is = absurd (cc)

  body_gives : (depth : ℕ) → Keeps items (chain_within items depth) (called items rows depth) → (parameters : List Field) (result : FieldType) (body : List Stmt)
      → IsBlock items (in_function (written_type result)) (declared parameters) body → ends_in_return body ≡ true → list_all (statement_calls (chain_within items depth)) body ≡ true
      → (values : List Value) → AreOf items (types_of (declared parameters)) values → (turns : ℕ)
      → Gives (IsOf items (written_type result))
      (body_run items (meaning items rows no_setting (called items rows depth)) no_listing body (bound_parameters (declared parameters) values) turns >>= λ r turns. returned r.flow turns)
  body_gives depth keeps parameters result body is_block returns calls values are turns =
      let context : Context = in_function (written_type result) in
      let may : Callee → Name → Bool = chain_within items depth in
      gives_then (λ (r : Ran). FlowIs items context (ends_in_return body) r.flow) (IsOf items (written_type result)) _ _
      (runs_block items well rows typed context (λ is. absurd (cc)) no_setting (function_suits (written_type result)) may (called items rows depth) keeps no_listing
      (nothing_listed (written_type result) may) is_block (hold_all (statement_calls may) body ∙ calls) (bound_parameters (declared parameters) values) (parameters_fit items (declared parameters) values are) turns)
      (λ r n is. returned_gives (written_type result) r.flow (subst (λ must. FlowIs items context must r.flow) returns is) n)

  entered_gives : (depth : ℕ) → Keeps items (chain_within items depth) (called items rows depth) → (i : Item) → IsOfKind items i → (function : FunctionHead) → function_head i ≡ Some function
      → called_calls (chain_within items depth) a_function (Some i) ≡ true → (values : List Value) → AreOf items (types_of function.parameters) values → (turns : ℕ)
      → Gives (IsOf items function.result) (entered (body_run items (meaning items rows no_setting (called items rows depth)) no_listing) values (Some i) turns)
  entered_gives depth keeps (item.Function name parameters result body) kind function is may values are turns = by_kind kind
    where
      head : FunctionHead
      head = record { parameters = declared parameters; result = written_type result }

      same : head ≡ function
      same = same_Some head function is

      by_kind : IsOfKind items (item.Function name parameters result body)
          → Gives (IsOf items function.result) (entered (body_run items (meaning items rows no_setting (called items rows depth)) no_listing) values (Some (item.Function name parameters result body)) turns)
      by_kind (item_rules.function are_parameters exists is_block returns) =
          turn_gives (IsOf items function.result) _ turns (λ n. subst (λ (f : FunctionHead). Gives (IsOf items f.result)
          (body_run items (meaning items rows no_setting (called items rows depth)) no_listing body (bound_parameters (declared parameters) values) n >>= λ r turns. returned r.flow turns)) same
          (body_gives depth keeps parameters result body is_block returns may values (subst (λ (f : FunctionHead). AreOf items (types_of f.parameters) values) (sym same) are) n))
  entered_gives depth keeps i kind function is may values are turns = absurd (cc)

  no_call_of : (i : Item) (function : FunctionHead) → function_head i ≡ Some function → is_no_call a_function (Some i) ≡ true → ⊥
  no_call_of (item.Function name parameters result body) function is none = absurd (false≢true none)
  no_call_of i function is none = absurd (cc)

  -- calls in chains that are not too long
  pub keeps_called : (depth : ℕ) → Keeps items (chain_within items depth) (called items rows depth)
  keeps_called zero name function values turns may is are = bind_then (item_named items name) function_head function is (λ i named head.
      absurd (no_call_of i function head (sym (ap (is_no_call a_function) named) ∙ may)))
  keeps_called (suc depth) name function values turns may is are = bind_then (item_named items name) function_head function is (λ i named head.
      let s = standing items name i named in
      subst (λ o. Gives (IsOf items function.result) (entered (body_run items (meaning items rows no_setting (called items rows depth)) no_listing) values o turns)) (sym named)
      (entered_gives depth (keeps_called depth) i (kind_at items well s.number i s.stands) function head (sym (ap (called_calls (chain_within items depth) a_function) named) ∙ may) values are turns))
