-- The arguments of an action, one by one.
use Rattle.std.proofs.Common.{◌≡◌, ℕ, suc, ◌+◌, List, [], ◌∷◌, ◌++◌, length, drop, Option, Some, None, option_map, option_and_then, slice_get, refl, sym, ap, subst, ◌∙◌, append_assoc}
use Rattle.base_bytes.specs.declared.arg.Arg.{Arg}
use Rattle.base_bytes.specs.declared.ty.Ty.{Ty}
use Rattle.base_bytes.specs.declared.value.Value.{Value}
use Rattle.policy_ast.specs.declared.field.Field.{Field}
use Rattle.policy_ast.specs.declared.item.Item.{Item}
use Rattle.policy_ast.specs.declared.item.Item.TheVariants as item
use Rattle.policy_ast.specs.declared.statement.Stmt.{Stmt}
use Rattle.policy_meaning.specs.Resolving.{resolved}
use Rattle.policy_rules.specs.Names.{Name, number_named}
use Rattle.policy_rules.specs.Shapes.{field_value_types, value_type_of}
use Rattle.policy_rules.specs.Types.{written_type}
use Rattle.policy_types.specs.Resolved.{ResolveTo}
use Rattle.transaction.specs.Acting.{Action, action_at, action_named, parameters_of, resolved_all}

none_first : (o : Option Value) (rest : Option (List Value)) → rest ≡ None → None ≡ option_and_then (λ v. option_map (λ values. v ∷ values) rest) o
none_first None rest is = refl
none_first (Some v) rest is = sym (ap (option_map (λ values. v ∷ values)) is)

-- there are values only for as many arguments as parameters
pub as_many : (items : List Item) (parameters : List Field) (arguments : List Arg) → (length parameters ≡ length arguments → ⊥) → None ≡ resolved_all items (field_value_types items parameters) arguments
as_many items [] [] differ = absurd (differ refl)
as_many items [] (a ∷ arguments) differ = refl
as_many items (p ∷ parameters) [] differ = refl
as_many items (p ∷ parameters) (a ∷ arguments) differ =
    none_first (resolved items a (value_type_of items (written_type p.field_type))) (resolved_all items (field_value_types items parameters) arguments)
    (sym (as_many items parameters arguments (λ same. differ (ap suc same))))

-- one argument more
goes_one : (items : List Item) (t : Ty) (types : List Ty) (a : Arg) (arguments : List Arg) (values : List Value) (v : Value) → resolved items a t ≡ Some v
    → option_map (λ rest. (values ++ v ∷ []) ++ rest) (resolved_all items types arguments) ≡ option_map (λ rest. values ++ rest) (resolved_all items (t ∷ types) (a ∷ arguments))
goes_one items t types a arguments values v is =
    by (resolved_all items types arguments)
    ∙ ap (λ o. option_map (λ rest. values ++ rest) (option_and_then (λ w. option_map (λ more. w ∷ more) (resolved_all items types arguments)) o)) (sym is)
  where
    by : (o : Option (List Value)) → option_map (λ rest. (values ++ v ∷ []) ++ rest) o ≡ option_map (λ rest. values ++ rest) (option_map (λ more. v ∷ more) o)
    by None = refl
    by (Some rest) = ap Some (append_assoc values (v ∷ []) rest)

module _ (items : List Item) (parameters : List Field) (arguments : List Arg) (i : ℕ) (p : Field) (a : Arg) (at_parameter : drop i parameters ≡ p ∷ drop (i + 1) parameters)
    (at_argument : drop i arguments ≡ a ∷ drop (i + 1) arguments) (values : List Value) (whole : Option (List Value))
    (so_far : option_map (λ rest. values ++ rest) (resolved_all items (field_value_types items (drop i parameters)) (drop i arguments)) ≡ whole) where
  split : resolved_all items (field_value_types items (drop i parameters)) (drop i arguments)
      ≡ resolved_all items (value_type_of items (written_type p.field_type) ∷ field_value_types items (drop (i + 1) parameters)) (a ∷ drop (i + 1) arguments)
  split = ap (λ ps. resolved_all items (field_value_types items ps) (drop i arguments)) at_parameter ∙ ap (resolved_all items (field_value_types items (p ∷ drop (i + 1) parameters))) at_argument

  pub one_resolved : (v : Value) → resolved items a (value_type_of items (written_type p.field_type)) ≡ Some v
      → option_map (λ rest. (values ++ v ∷ []) ++ rest) (resolved_all items (field_value_types items (drop (i + 1) parameters)) (drop (i + 1) arguments)) ≡ whole
  one_resolved v is =
      goes_one items (value_type_of items (written_type p.field_type)) (field_value_types items (drop (i + 1) parameters)) a (drop (i + 1) arguments) values v is
      ∙ ap (option_map (λ rest. values ++ rest)) (sym split) ∙ so_far

  pub none_resolved : resolved items a (value_type_of items (written_type p.field_type)) ≡ None → None ≡ whole
  none_resolved is =
      sym (ap (λ o. option_map (λ rest. values ++ rest) (option_and_then (λ w. option_map (λ more. w ∷ more) (resolved_all items (field_value_types items (drop (i + 1) parameters)) (drop (i + 1) arguments))) o)) is)
      ∙ ap (option_map (λ rest. values ++ rest)) (sym split) ∙ so_far

found_by : (items : List Item) (t : Ty) (types : List Ty) (a : Arg) (arguments : List Arg) (o : Option Value) (rest : Option (List Value)) → resolved items a t ≡ o → resolved_all items types arguments ≡ rest
    → (values : List Value) → option_and_then (λ v. option_map (λ more. v ∷ more) rest) o ≡ Some values
    → ((found : List Value) → resolved_all items types arguments ≡ Some found → ResolveTo items types arguments found) → ResolveTo items (t ∷ types) (a ∷ arguments) values
found_by items t types a arguments None rest here later values is more = absurd cc
found_by items t types a arguments (Some v) None here later values is more = absurd cc
found_by items t types a arguments (Some v) (Some found) here later values is more =
    let same : v ∷ found ≡ values = cc in subst (λ vs. ResolveTo items (t ∷ types) (a ∷ arguments) vs) same (here, more found later)

-- values that are found are those of the arguments, each at the type of its place
pub resolve_to : (items : List Item) (types : List Ty) (arguments : List Arg) (values : List Value) → resolved_all items types arguments ≡ Some values → ResolveTo items types arguments values
resolve_to items [] [] [] is = tt
resolve_to items [] [] (v ∷ values) is = absurd cc
resolve_to items [] (a ∷ arguments) values is = absurd cc
resolve_to items (t ∷ types) [] values is = absurd cc
resolve_to items (t ∷ types) (a ∷ arguments) values is =
    found_by items t types a arguments (resolved items a t) (resolved_all items types arguments) refl refl values is (λ found later. resolve_to items types arguments found later)

-- the action of a number, and what its arguments resolve to
pub action_there : (items : List Item) (n : ℕ) (action : Action) → action_at items n ≡ Some action → (name : Name) × (body : List Stmt) × (slice_get items n ≡ Some (item.Action name action.parameters body)) × (action.number ≡ n)
action_there items n action is = by (slice_get items n) refl is
  where
    by : (o : Option Item) → slice_get items n ≡ o → option_map (λ parameters. record { number = n; parameters = parameters }) (option_and_then parameters_of o) ≡ Some action
        → (name : Name) × (body : List Stmt) × (slice_get items n ≡ Some (item.Action name action.parameters body)) × (action.number ≡ n)
    by (Some (item.Action name parameters body)) at found =
        let same : record { number = n; parameters = parameters } ≡ action = cc in
        (name, body, at ∙ ap (λ x. Some (item.Action name x.parameters body)) same, sym (ap (λ x. x.number) same))
    by (Some other) at found = absurd cc
    by None at found = absurd cc

pub named_there : (items : List Item) (name : Name) (action : Action) → action_named items name ≡ Some action
    → (own : Name) × (body : List Stmt) × (slice_get items action.number ≡ Some (item.Action own action.parameters body))
named_there items name action is = by (number_named items name) is
  where
    by : (o : Option ℕ) → option_and_then (action_at items) o ≡ Some action → (own : Name) × (body : List Stmt) × (slice_get items action.number ≡ Some (item.Action own action.parameters body))
    by (Some n) found = let there = action_there items n action found in (there.0, there.1, ap (slice_get items) there.3 ∙ there.2)
    by None found = absurd cc

pub pushed_values : (new values : List Value) (v : Value) (rest : Option (List Value)) (whole : Option (List Value)) → new ≡ values ++ v ∷ []
    → option_map (λ more. (values ++ v ∷ []) ++ more) rest ≡ whole → option_map (λ more. new ++ more) rest ≡ whole
pushed_values new values v rest whole is holds = ap (λ vs. option_map (λ more. vs ++ more) rest) is ∙ holds
