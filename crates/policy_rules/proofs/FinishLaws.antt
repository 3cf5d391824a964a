-- Patterns and the statements of `finish`: what the rules say of them is what is found.
use Rattle.std.proofs.Common.{◌≡◌, Bool, true, false, not, ◌&&◌, List, [], ◌∷◌, map, Option, Some, None, refl, sym, ap, subst, ◌∙◌}
use Rattle.std.proofs.lemmas.Bool.{false≢true}
use Rattle.std.proofs.lemmas.Option.{same_Some}
use Rattle.std.specs.Option.{is_some}
use Rattle.base_bytes.proofs.Bools.{and_then}
use Rattle.base_bytes.proofs.Formats.{bind_then, map_then}
use Rattle.policy_ast.specs.declared.bind.Bind.{Bind}
use Rattle.policy_ast.specs.declared.expr.Expr.{Expr}
use Rattle.policy_ast.specs.declared.expr.Expr.TheOpen.{Expr-F}
use Rattle.policy_ast.specs.declared.expr.Expr.TheVariants as expr
use Rattle.policy_ast.specs.declared.finish.FinishStmt.{FinishStmt}
use Rattle.policy_ast.specs.declared.finish.FinishStmt.TheVariants as finish
use Rattle.policy_ast.specs.declared.item.Item.{Item}
use Rattle.policy_ast.specs.declared.pattern.Free.{Free}
use Rattle.policy_ast.specs.declared.pattern.Pattern.{Pattern}
use Rattle.policy_rules.proofs.Finding.{finds, struct_then}
use Rattle.policy_rules.proofs.Folds.{fold-expr-Exists}
use Rattle.policy_rules.proofs.Inferring.{infers, infers_all, infers_pattern, struct_is}
use Rattle.policy_rules.proofs.Maps.{map_free, map_gap, map_pattern, map_values}
use Rattle.policy_rules.specs.Expressions as rules
use Rattle.policy_rules.specs.Expressions.{HasType, HasTypeByForm, HaveTypes, IsPattern}
use Rattle.policy_rules.specs.FieldLists.{arguments_fit, in_any_order, in_declared_order}
use Rattle.policy_rules.specs.Finish as finish_rules
use Rattle.policy_rules.specs.Finish.{AreFinishStmts, BindKeys, BindValues, IsFinishStmt, are_plain, binds_all_keys, is_plain}
use Rattle.policy_rules.specs.Heads.{FactHead, fact_named, finish_function_named, is_effect, names_item}
use Rattle.policy_rules.specs.Scopes.{Scope}
use Rattle.policy_rules.specs.declared.context.Context.{Context}
use Rattle.policy_rules.specs.declared.types.NamedType.{NamedType}
use Rattle.policy_rules.specs.declared.types.NamedType.TheVariants as ty
use Rattle.policy_rules.specs.Inference.{Found, found, found_free, found_gap, found_layer, found_pattern, found_values, inferred, pattern_of, struct_of, types_within}
use Rattle.policy_rules.specs.Judging.{finish_stmt_is, finish_stmts_are, holds, is_pattern_within, keys_bound, values_bound}

pub some_then : {A P : Type 0} (o : Option A) → is_some o ≡ true → ((x : A) → o ≡ Some x → P) → P
some_then None is go = absurd (false≢true is)
some_then (Some x) is go = go x refl

pub holds_then : {A P : Type 0} (o : Option A) (test : A → Bool) → holds o test ≡ true → ((x : A) → o ≡ Some x → test x ≡ true → P) → P
holds_then None test is go = absurd (false≢true is)
holds_then (Some x) test is go = go x refl is

pub not_then : (b : Bool) → not b ≡ true → b ≡ false
not_then true is = absurd (false≢true is)
not_then false is = refl

module _ (items : List Item) (context : Context) where
  abbrev find : Expr → Found
  find = found items context

  -- ---- patterns

  gap_same : (o : Option Expr) → map_gap find o ≡ found_gap items context o
  gap_same None = refl
  gap_same (Some e) = refl

  frees_same : (xs : List (Free Expr)) → map (map_free find) xs ≡ map (found_free items context) xs
  frees_same [] = refl
  frees_same (x ∷ xs) = rw (gap_same x.value, frees_same xs) refl

  values_same : (o : Option (List (Free Expr))) → map_values find o ≡ found_values items context o
  values_same None = refl
  values_same (Some xs) = ap Some (frees_same xs)

  pattern_same : (p : Pattern Expr) → map_pattern find p ≡ found_pattern items context p
  pattern_same p = rw (frees_same p.keys, values_same p.values) refl

  pub pattern_infers : {scope : Scope} {p : Pattern Expr} → IsPattern items context scope p → is_pattern_within items context p scope ≡ true
  pattern_infers {scope} {p} is = ap is_some (subst (λ q. pattern_of items context q scope ty.Bool ≡ Some ty.Bool) (pattern_same p) (infers_pattern items context is ty.Bool))

  exists_inferred : (p : Pattern Expr) (scope : Scope) → inferred items context (expr.Exists p) scope ≡ pattern_of items context (found_pattern items context p) scope ty.Bool
  exists_inferred p scope = ap (λ f. f.type_within scope) (fold-expr-Exists (found_layer items context) p) ∙ ap (λ q. pattern_of items context q scope ty.Bool) (pattern_same p)

  exists_is : {scope : Scope} {p : Pattern Expr} {t : NamedType} → HasTypeByForm items context scope (Expr-F.Exists p) t → IsPattern items context scope p
  exists_is (rules.exists is) = is

  exists_of : {scope : Scope} {p : Pattern Expr} {t : NamedType} → HasType items context scope (expr.Exists p) t → IsPattern items context scope p
  exists_of {scope} {p} {t} (rules.rule r) = exists_is (subst (λ l. HasTypeByForm items context scope l t) (expr.outs-Exists p) r)

  pub pattern_finds : (p : Pattern Expr) (scope : Scope) → is_pattern_within items context p scope ≡ true → IsPattern items context scope p
  pattern_finds p scope is = some_then (pattern_of items context (found_pattern items context p) scope ty.Bool) is (λ t has.
      exists_of (finds items context (expr.Exists p) scope t (exists_inferred p scope ∙ has)))

  -- ---- lists of expressions

  pub types_found : (es : List Expr) (scope : Scope) (types : List NamedType) → types_within items context es scope ≡ Some types → HaveTypes items context scope es types
  types_found [] scope types is = rw (sym (same_Some _ _ is)) rules.no_types
  types_found (e ∷ es) scope types is =
      bind_then (inferred items context e scope) _ types is (λ t has rest. map_then (types_within items context es scope) _ types rest (λ more all same.
      rw (sym same) (rules.more_types (finds items context e scope t has) (types_found es scope more all))))

  -- ---- finish, from the rules

  module _ (scope : Scope) where
    keys_are : {fact : FactHead} {binds : List (Bind Expr)} → BindKeys items context scope fact binds → keys_bound items context fact binds scope ≡ true
    keys_are (finish_rules.keys types all plain order) = rw (infers_all items context all, plain, order) refl

    values_are : {fact : FactHead} {binds : List (Bind Expr)} → BindValues items context scope fact binds → values_bound items context fact binds scope ≡ true
    values_are (finish_rules.values types all plain order) = rw (infers_all items context all, plain, order) refl

    finish_stmt_judged : {s : FinishStmt} → IsFinishStmt items context scope s → finish_stmt_is items context s scope ≡ true
    finish_stmt_judged (finish_rules.create fact is ks vs) = rw (is, keys_are ks, values_are vs) refl
    finish_stmt_judged (finish_rules.update fact is mutable p all vs) = rw (pattern_infers p, is, mutable, all, values_are vs) refl
    finish_stmt_judged (finish_rules.delete fact is ks) = rw (is, keys_are ks) refl
    finish_stmt_judged (finish_rules.emit effect p plain names) = rw (infers items context p, struct_is effect, plain, names) refl
    finish_stmt_judged (finish_rules.call types parameters is all plain fit) = rw (is, infers_all items context all, plain, fit) refl

    pub finish_judged : {ss : List FinishStmt} → AreFinishStmts items context scope ss → finish_stmts_are items context ss scope ≡ true
    finish_judged finish_rules.no_finish_stmts = refl
    finish_judged (finish_rules.more_finish_stmts s more) = rw (finish_stmt_judged s, finish_judged more) refl

    -- ---- and back

    keys_found : (fact : FactHead) (binds : List (Bind Expr)) → keys_bound items context fact binds scope ≡ true → BindKeys items context scope fact binds
    keys_found fact binds is = holds_then (types_within items context (map (λ b. b.value) binds) scope) _ is (λ types all rest.
        and_then (are_plain (map (λ b. b.value) binds)) (in_declared_order fact.keys (map (λ b. b.name) binds) types) rest (λ plain order.
        finish_rules.keys types (types_found (map (λ b. b.value) binds) scope types all) plain order))

    values_found : (fact : FactHead) (binds : List (Bind Expr)) → values_bound items context fact binds scope ≡ true → BindValues items context scope fact binds
    values_found fact binds is = holds_then (types_within items context (map (λ b. b.value) binds) scope) _ is (λ types all rest.
        and_then (are_plain (map (λ b. b.value) binds)) (in_any_order fact.values (map (λ b. b.name) binds) types) rest (λ plain order.
        finish_rules.values types (types_found (map (λ b. b.value) binds) scope types all) plain order))

    finish_stmt_found : (s : FinishStmt) → finish_stmt_is items context s scope ≡ true → IsFinishStmt items context scope s
    finish_stmt_found (finish.Create name key_binds value_binds) is = holds_then (fact_named items name) _ is (λ fact named rest.
        and_then (keys_bound items context fact key_binds scope) (values_bound items context fact value_binds scope) rest (λ ks vs.
        finish_rules.create fact named (keys_found fact key_binds ks) (values_found fact value_binds vs)))
    finish_stmt_found (finish.Update p to) is = holds_then (fact_named items p.fact) _ is (λ fact named rest.
        and_then (not fact.is_immutable) (is_pattern_within items context p scope && (binds_all_keys fact p && values_bound items context fact to scope)) rest (λ mutable more.
        and_then (is_pattern_within items context p scope) (binds_all_keys fact p && values_bound items context fact to scope) more (λ pattern last.
        and_then (binds_all_keys fact p) (values_bound items context fact to scope) last (λ all vs.
        finish_rules.update fact named (not_then fact.is_immutable mutable) (pattern_finds p scope pattern) all (values_found fact to vs)))))
    finish_stmt_found (finish.Delete name key_binds) is = holds_then (fact_named items name) _ is (λ fact named rest. finish_rules.delete fact named (keys_found fact key_binds rest))
    finish_stmt_found (finish.Emit e) is = holds_then _ (λ effect. is_plain e && names_item is_effect items effect) is (λ effect found_it rest.
        bind_then (inferred items context e scope) struct_of effect found_it (λ t has of. and_then (is_plain e) (names_item is_effect items effect) rest (λ plain names.
        finish_rules.emit effect (finds items context e scope (ty.Struct effect) (has ∙ ap Some (struct_then t effect of))) plain names)))
    finish_stmt_found (finish.Call name arguments) is = holds_then (finish_function_named items name) _ is (λ parameters named rest.
        holds_then (types_within items context arguments scope) _ rest (λ types all more. and_then (are_plain arguments) (arguments_fit types parameters) more (λ plain fit.
        finish_rules.call types parameters named (types_found arguments scope types all) plain fit)))

    pub finish_found : (ss : List FinishStmt) → finish_stmts_are items context ss scope ≡ true → AreFinishStmts items context scope ss
    finish_found [] is = finish_rules.no_finish_stmts
    finish_found (s ∷ ss) is = and_then (finish_stmt_is items context s scope) (finish_stmts_are items context ss scope) is (λ one more.
        finish_rules.more_finish_stmts (finish_stmt_found s one) (finish_found ss more))
