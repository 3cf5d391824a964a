-- The type of each form of expression: one equation a form, over names that stay shut.
use Rattle.std.proofs.Common.{◌≡◌, ℤ, List, [], ◌∷◌, map, Option, Some, None, option_map, refl, sym, ap, ◌∙◌}
use Rattle.policy_ast.specs.declared.bind.Bind.{Bind}
use Rattle.policy_ast.specs.declared.expr.Arithmetic.{Arithmetic}
use Rattle.policy_ast.specs.declared.expr.Comparison.{Comparison}
use Rattle.policy_ast.specs.declared.expr.Count.{Count}
use Rattle.policy_ast.specs.declared.expr.ElseExpr.{ElseExpr}
use Rattle.policy_ast.specs.declared.expr.ElseExpr.TheVariants as else_expr
use Rattle.policy_ast.specs.declared.expr.Expr.{Expr, fold_out-Expr, map-Expr, out-Expr}
use Rattle.policy_ast.specs.declared.expr.Expr.TheOpen.{Expr-F}
use Rattle.policy_ast.specs.declared.expr.Expr.TheVariants as expr
use Rattle.policy_ast.specs.declared.expr.ExprBlock.{ExprBlock}
use Rattle.policy_ast.specs.declared.expr.IfExpr.{IfExpr}
use Rattle.policy_ast.specs.declared.expr.Let.{Let}
use Rattle.policy_ast.specs.declared.expr.Presence.{Presence}
use Rattle.policy_ast.specs.declared.expr.Unary.{Unary}
use Rattle.policy_ast.specs.declared.item.Item.{Item}
use Rattle.policy_ast.specs.declared.literal.Literal.{Literal}
use Rattle.policy_ast.specs.declared.pattern.Free.{Free}
use Rattle.policy_ast.specs.declared.pattern.Pattern.{Pattern}
use Rattle.policy_rules.proofs.Folds.{fold-expr-Or, fold-expr-And, fold-expr-Compare, fold-expr-Is, fold-expr-Unary, fold-expr-Field, fold-expr-Literal, fold-expr-None, fold-expr-Some, fold-expr-This, fold-expr-Name, fold-expr-ForeignCall, fold-expr-Call, fold-expr-Struct, fold-expr-Arithmetic, fold-expr-Query, fold-expr-Exists, fold-expr-Count, fold-expr-If}
use Rattle.policy_rules.proofs.Maps.{bind_names, bind_values, free_names, map_bind, map_block, map_else, map_free, map_gap, map_let, map_pattern, map_values, value_part_map}
use Rattle.policy_rules.specs.Expressions.{count_type, is_positive, value_part}
use Rattle.policy_rules.specs.Heads.{literal_type}
use Rattle.policy_rules.specs.Names.{Name}
use Rattle.policy_rules.specs.Scopes.{Scope, may_introduce, name_type, with_name}
use Rattle.policy_rules.specs.declared.context.Context.{Context}
use Rattle.policy_rules.specs.declared.types.NamedType.{NamedType}
use Rattle.policy_rules.specs.declared.types.NamedType.TheVariants as ty
use Rattle.policy_rules.specs.Inference.{◌>>=◌, Found, all_types, block_type, calculation_of, call_of, choice_of, compare_of, else_type, field_of, found, found_free, found_gap, found_layer, found_pattern, found_values, gap_types, introduced, is_foreign_call, logic_of, only_if, pattern_of, presence_of, struct_literal_of, types_within, unary_of}
use Rattle.policy_infer.specs.working.Types.{are_envelopes, bind_types, block_of, gap_type_of, gap_types_of, is_envelope, is_envelope_layer, lets_behind, otherwise_of, pattern_type, type_of, types_of}

module _ (items : List Item) (context : Context) where
  abbrev find : Expr → Found
  find = found items context

  -- ---- lists

  pub all_same : (es : List Expr) (scope : Scope) → all_types (map find es) scope ≡ types_of items context es scope
  unfolding type_of
  all_same [] scope = refl
  all_same (e ∷ es) scope = ap (λ more. type_of items context e scope >>= λ t. option_map (λ types. t ∷ types) more) (all_same es scope)

  binds_same : (binds : List (Bind Expr)) (scope : Scope) → all_types (map (λ b. b.value) (map (map_bind find) binds)) scope ≡ bind_types items context binds scope
  unfolding type_of
  binds_same [] scope = refl
  binds_same (b ∷ binds) scope = ap (λ more. type_of items context b.value scope >>= λ t. option_map (λ types. t ∷ types) more) (binds_same binds scope)

  more_gaps : (o : Option Expr) (found : List (Option Found)) (scope : Scope)
      → gap_types (map_gap find o ∷ found) scope ≡ (gap_type_of items context o scope >>= λ t. option_map (λ types. t ∷ types) (gap_types found scope))
  unfolding type_of
  more_gaps None found scope = refl
  more_gaps (Some e) found scope = by ((find e).type_within scope)
    where
      by : (o : Option NamedType) → (o >>= λ t. option_map (λ types. Some t ∷ types) (gap_types found scope))
          ≡ (option_map Some o >>= λ t. option_map (λ types. t ∷ types) (gap_types found scope))
      by None = refl
      by (Some t) = refl

  gaps_same : (frees : List (Free Expr)) (scope : Scope) → gap_types (map (λ f. f.value) (map (map_free find) frees)) scope ≡ gap_types_of items context frees scope
  gaps_same [] scope = refl
  gaps_same (f ∷ frees) scope =
      more_gaps f.value (map (λ f. f.value) (map (map_free find) frees)) scope
      ∙ ap (λ more. gap_type_of items context f.value scope >>= λ t. option_map (λ types. t ∷ types) more) (gaps_same frees scope)

  lets_same : (lets : List (Let Expr)) (scope : Scope) → introduced items context (map (map_let find) lets) scope ≡ lets_behind items context lets scope
  unfolding type_of
  lets_same [] scope = refl
  lets_same (l ∷ lets) scope = ap (λ (after : NamedType → Option Scope). type_of items context l.value scope >>= λ t. only_if (may_introduce items context scope l.name) (after t)) (λ i t. lets_same lets (with_name scope l.name t) i)

  block_same : (b : ExprBlock Expr) (scope : Scope) → block_type items context (map_block find b) scope ≡ block_of items context b scope
  unfolding type_of
  block_same b scope = ap (λ o. o >>= λ inner. type_of items context b.value inner) (lets_same b.lets scope)

  otherwise_same : (x : IfExpr Expr) (e : ElseExpr Expr) (scope : Scope) → else_type items context (map_else find x e) scope ≡ otherwise_of items context e scope
  unfolding type_of
  otherwise_same x (else_expr.Block b) scope = block_same b scope
  otherwise_same x (else_expr.If e) scope = refl

  pattern_same : (p : Pattern Expr) (scope : Scope) (t : NamedType) → pattern_of items context (map_pattern find p) scope t ≡ pattern_type items context p t scope
  pattern_same p scope t =
      rw (
        value_part_map find p.values,
        free_names find p.keys,
        gaps_same p.keys scope,
        free_names find (value_part p.values),
        gaps_same (value_part p.values) scope,
      ) refl

  envelope_same : (e : Expr) → (find e).is_envelope ≡ is_envelope e
  envelope_same e = ap (λ f. f.is_envelope) (fold_out-Expr Found (found_layer items context) e) ∙ by_form (out-Expr e)
    where
      by_form : (layer : Expr-F Expr) → (found_layer items context (map-Expr Expr Found find layer)).is_envelope ≡ is_envelope_layer layer
      by_form (Expr-F.Or a b) = refl
      by_form (Expr-F.And a b) = refl
      by_form (Expr-F.Compare a op b) = refl
      by_form (Expr-F.Is a op) = refl
      by_form (Expr-F.Unary op a) = refl
      by_form (Expr-F.Field a name) = refl
      by_form (Expr-F.Literal l) = refl
      by_form Expr-F.None = refl
      by_form (Expr-F.Some a) = refl
      by_form Expr-F.This = refl
      by_form (Expr-F.Name name) = refl
      by_form (Expr-F.ForeignCall of called arguments) = refl
      by_form (Expr-F.Call called arguments) = refl
      by_form (Expr-F.Struct name binds) = refl
      by_form (Expr-F.Arithmetic op a b) = refl
      by_form (Expr-F.Query p) = refl
      by_form (Expr-F.Exists p) = refl
      by_form (Expr-F.Count op n p) = refl
      by_form (Expr-F.If x) = refl

  envelopes_same : (es : List Expr) → map (λ f. f.is_envelope) (map find es) ≡ are_envelopes es
  envelopes_same [] = refl
  envelopes_same (e ∷ es) = ap (λ b. b ∷ map (λ f. f.is_envelope) (map find es)) (envelope_same e) ∙ ap (λ more. is_envelope e ∷ more) (envelopes_same es)

  -- ---- what statements ask of lists and patterns

  pub list_same : (es : List Expr) (scope : Scope) → types_within items context es scope ≡ types_of items context es scope
  list_same es scope = all_same es scope

  pub bind_list_same : (binds : List (Bind Expr)) (scope : Scope) → types_within items context (map (λ b. b.value) binds) scope ≡ bind_types items context binds scope
  bind_list_same binds scope = ap (λ found. all_types found scope) (sym (bind_values find binds)) ∙ binds_same binds scope

  gap_found : (o : Option Expr) → found_gap items context o ≡ map_gap find o
  gap_found None = refl
  gap_found (Some e) = refl

  frees_found : (frees : List (Free Expr)) → map (found_free items context) frees ≡ map (map_free find) frees
  frees_found [] = refl
  frees_found (f ∷ frees) = ap (λ o. record { name = f.name; value = o } ∷ map (found_free items context) frees) (gap_found f.value) ∙ ap (λ more. map_free find f ∷ more) (frees_found frees)

  values_found : (o : Option (List (Free Expr))) → found_values items context o ≡ map_values find o
  values_found None = refl
  values_found (Some frees) = ap Some (frees_found frees)

  pub pattern_found : (p : Pattern Expr) (scope : Scope) (t : NamedType) → pattern_of items context (found_pattern items context p) scope t ≡ pattern_type items context p t scope
  pattern_found p scope t =
      ap (λ keys. pattern_of items context (record { fact = p.fact; keys = keys; values = found_values items context p.values }) scope t) (frees_found p.keys)
      ∙ ap (λ values. pattern_of items context (record { fact = p.fact; keys = map (map_free find) p.keys; values = values }) scope t) (values_found p.values) ∙ pattern_same p scope t

  -- ---- forms

  pub or_is : (scope : Scope) → (a b : Expr) → type_of items context (expr.Or a b) scope ≡ logic_of (type_of items context a scope) (type_of items context b scope)
  unfolding type_of
  or_is scope a b =
      ap (λ f. f.type_within scope) (fold-expr-Or (found_layer items context) a b)

  pub and_is : (scope : Scope) → (a b : Expr) → type_of items context (expr.And a b) scope ≡ logic_of (type_of items context a scope) (type_of items context b scope)
  unfolding type_of
  and_is scope a b =
      ap (λ f. f.type_within scope) (fold-expr-And (found_layer items context) a b)

  pub compare_is : (scope : Scope) → (a : Expr) (op : Comparison) (b : Expr) → type_of items context (expr.Compare a op b) scope ≡ compare_of op (type_of items context a scope) (type_of items context b scope)
  unfolding type_of
  compare_is scope a op b =
      ap (λ f. f.type_within scope) (fold-expr-Compare (found_layer items context) a op b)

  pub presence_is : (scope : Scope) → (a : Expr) (op : Presence) → type_of items context (expr.Is a op) scope ≡ presence_of (type_of items context a scope)
  unfolding type_of
  presence_is scope a op =
      ap (λ f. f.type_within scope) (fold-expr-Is (found_layer items context) a op)

  pub unary_is : (scope : Scope) → (op : Unary) (a : Expr) → type_of items context (expr.Unary op a) scope ≡ unary_of op (type_of items context a scope)
  unfolding type_of
  unary_is scope op a =
      ap (λ f. f.type_within scope) (fold-expr-Unary (found_layer items context) op a)

  pub field_is : (scope : Scope) → (a : Expr) (name : Name) → type_of items context (expr.Field a name) scope ≡ field_of items name (type_of items context a scope)
  unfolding type_of
  field_is scope a name =
      ap (λ f. f.type_within scope) (fold-expr-Field (found_layer items context) a name)

  pub literal_is : (scope : Scope) → (l : Literal) → type_of items context (expr.Literal l) scope ≡ literal_type items l
  unfolding type_of
  literal_is scope l =
      ap (λ f. f.type_within scope) (fold-expr-Literal (found_layer items context) l)

  pub none_is : (scope : Scope) → type_of items context expr.None scope ≡ Some (ty.Optional ty.Never)
  unfolding type_of
  none_is scope =
      ap (λ f. f.type_within scope) (fold-expr-None (found_layer items context))

  pub some_is : (scope : Scope) → (a : Expr) → type_of items context (expr.Some a) scope ≡ option_map ty.Optional (type_of items context a scope)
  unfolding type_of
  some_is scope a =
      ap (λ f. f.type_within scope) (fold-expr-Some (found_layer items context) a)

  pub this_is : (scope : Scope) → type_of items context expr.This scope ≡ option_map ty.Struct context.this
  unfolding type_of
  this_is scope =
      ap (λ f. f.type_within scope) (fold-expr-This (found_layer items context))

  pub name_is : (scope : Scope) → (x : Name) → type_of items context (expr.Name x) scope ≡ name_type items context scope x
  unfolding type_of
  name_is scope x =
      ap (λ f. f.type_within scope) (fold-expr-Name (found_layer items context) x)

  pub foreign_call_is : (scope : Scope) → (of called : Name) (arguments : List Expr) → type_of items context (expr.ForeignCall of called arguments) scope ≡ only_if (is_foreign_call context of called (are_envelopes arguments)) (Some ty.Ident)
  unfolding type_of
  foreign_call_is scope of called arguments =
      ap (λ f. f.type_within scope) (fold-expr-ForeignCall (found_layer items context) of called arguments)
      ∙ ap (λ envelopes. only_if (is_foreign_call context of called envelopes) (Some ty.Ident)) (envelopes_same arguments)

  pub call_is : (scope : Scope) → (called : Name) (arguments : List Expr) → type_of items context (expr.Call called arguments) scope ≡ call_of items called (types_of items context arguments scope)
  unfolding type_of
  call_is scope called arguments =
      ap (λ f. f.type_within scope) (fold-expr-Call (found_layer items context) called arguments)
      ∙ ap (call_of items called) (all_same arguments scope)

  pub struct_is : (scope : Scope) → (name : Name) (binds : List (Bind Expr)) → type_of items context (expr.Struct name binds) scope ≡ struct_literal_of items name (map (λ b. b.name) binds) (bind_types items context binds scope)
  unfolding type_of
  struct_is scope name binds =
      ap (λ f. f.type_within scope) (fold-expr-Struct (found_layer items context) name binds)
      ∙ ap (λ names. struct_literal_of items name names (all_types (map (λ b. b.value) (map (map_bind find) binds)) scope)) (bind_names find binds)
      ∙ ap (struct_literal_of items name (map (λ b. b.name) binds)) (binds_same binds scope)

  pub calculation_is : (scope : Scope) → (op : Arithmetic) (a b : Expr) → type_of items context (expr.Arithmetic op a b) scope ≡ calculation_of op (type_of items context a scope) (type_of items context b scope)
  unfolding type_of
  calculation_is scope op a b =
      ap (λ f. f.type_within scope) (fold-expr-Arithmetic (found_layer items context) op a b)

  pub query_is : (scope : Scope) → (p : Pattern Expr) → type_of items context (expr.Query p) scope ≡ pattern_type items context p (ty.Optional (ty.Struct p.fact)) scope
  unfolding type_of
  query_is scope p =
      ap (λ f. f.type_within scope) (fold-expr-Query (found_layer items context) p)
      ∙ pattern_same p scope (ty.Optional (ty.Struct p.fact))

  pub exists_is : (scope : Scope) → (p : Pattern Expr) → type_of items context (expr.Exists p) scope ≡ pattern_type items context p ty.Bool scope
  unfolding type_of
  exists_is scope p =
      ap (λ f. f.type_within scope) (fold-expr-Exists (found_layer items context) p)
      ∙ pattern_same p scope ty.Bool

  pub count_is : (scope : Scope) → (op : Count) (n : ℤ) (p : Pattern Expr) → type_of items context (expr.Count op n p) scope ≡ only_if (is_positive n) (pattern_type items context p (count_type op) scope)
  unfolding type_of
  count_is scope op n p =
      ap (λ f. f.type_within scope) (fold-expr-Count (found_layer items context) op n p)
      ∙ ap (only_if (is_positive n)) (pattern_same p scope (count_type op))

  pub choice_is : (scope : Scope) → (x : IfExpr Expr) → type_of items context (expr.If x) scope ≡ choice_of (type_of items context x.head scope) (block_of items context x.then scope) (otherwise_of items context x.otherwise scope)
  unfolding type_of
  choice_is scope x =
      ap (λ f. f.type_within scope) (fold-expr-If (found_layer items context) x)
      ∙ ap (λ o. choice_of (type_of items context x.head scope) o (else_type items context (map_else find x x.otherwise) scope)) (block_same x.then scope)
      ∙ ap (choice_of (type_of items context x.head scope) (block_of items context x.then scope)) (otherwise_same x x.otherwise scope)
