-- The statements of `finish` blocks and finish functions.
use Rattle.std.specs.Prelude.{◌≡◌, Bool, true, false, ◌&&◌, ◌==◌, List, [], ◌∷◌, length, map, Option, Some, None}
use Rattle.std.specs.List.{list_all}
use Rattle.std.specs.Option.{is_some}
use Rattle.policy_ast.specs.declared.bind.Bind.{Bind}
use Rattle.policy_ast.specs.declared.expr.Expr.{Expr, fold-Expr}
use Rattle.policy_ast.specs.declared.expr.Expr.TheOpen.{Expr-F}
use Rattle.policy_ast.specs.declared.finish.FinishStmt.{FinishStmt}
use Rattle.policy_ast.specs.declared.finish.FinishStmt.TheVariants as finish
use Rattle.policy_ast.specs.declared.item.Item.{Item}
use Rattle.policy_ast.specs.declared.pattern.Free.{Free}
use Rattle.policy_ast.specs.declared.pattern.Pattern.{Pattern}
use Rattle.policy_rules.specs.Expressions.{HasType, HaveTypes, IsPattern, value_part}
use Rattle.policy_rules.specs.FieldLists.{arguments_fit, in_any_order, in_declared_order}
use Rattle.policy_rules.specs.Heads.{FactHead, fact_named, finish_function_named, is_effect, names_item}
use Rattle.policy_rules.specs.Names.{Name}
use Rattle.policy_rules.specs.Scopes.{Scope}
use Rattle.policy_rules.specs.declared.context.Context.{Context}
use Rattle.policy_rules.specs.declared.types.Named.{Named}
use Rattle.policy_rules.specs.declared.types.NamedType.{NamedType}
use Rattle.policy_rules.specs.declared.types.NamedType.TheVariants as ty

-- Inside `finish`, expressions have only literals, names, `this`, fields, struct literals, `Some` and `None`.
abbrev pub is_plain_layer : Expr-F Bool → Bool
is_plain_layer (Expr-F.Literal l) = true
is_plain_layer (Expr-F.Name name) = true
is_plain_layer Expr-F.This = true
is_plain_layer (Expr-F.Field a name) = a
is_plain_layer (Expr-F.Struct name binds) = list_all (λ b. b.value) binds
is_plain_layer (Expr-F.Some a) = a
is_plain_layer Expr-F.None = true
is_plain_layer other = false

-- The expression may stand inside `finish`.
abbrev pub is_plain : Expr → Bool
is_plain = fold-Expr Bool is_plain_layer

-- All of these may.
abbrev pub are_plain : List Expr → Bool
are_plain = list_all is_plain

-- The expression is bound: no `?` stands in its place.
abbrev pub is_bound : Free Expr → Bool
is_bound f = is_some f.value

-- A `?`, or an expression that may stand inside `finish`.
abbrev pub is_plain_or_gap : Option Expr → Bool
is_plain_or_gap None = true
is_plain_or_gap (Some e) = is_plain e

-- All expressions of a part of a pattern may.
abbrev pub are_plain_or_gaps : List (Free Expr) → Bool
are_plain_or_gaps = list_all (λ f. is_plain_or_gap f.value)

-- An update's pattern binds all keys, and each expression is one that may stand inside `finish`.
abbrev pub binds_all_keys : FactHead → Pattern Expr → Bool
binds_all_keys fact p = (length p.keys == length fact.keys) && list_all is_bound p.keys && are_plain_or_gaps p.keys && are_plain_or_gaps (value_part p.values)

module _ (items : List Item) (context : Context) (scope : Scope) where
  -- Each key of a fact in order, with an expression that fits.
  pub data BindKeys (fact : FactHead) (binds : List (Bind Expr)) : Type 0 where
    keys : (types : List NamedType) → HaveTypes items context scope (map (λ b. b.value) binds) types → are_plain (map (λ b. b.value) binds) ≡ true
        → in_declared_order fact.keys (map (λ b. b.name) binds) types ≡ true → BindKeys fact binds

  -- Each value field of a fact once, in any order, with an expression that fits.
  pub data BindValues (fact : FactHead) (binds : List (Bind Expr)) : Type 0 where
    values : (types : List NamedType) → HaveTypes items context scope (map (λ b. b.value) binds) types → are_plain (map (λ b. b.value) binds) ≡ true
        → in_any_order fact.values (map (λ b. b.name) binds) types ≡ true → BindValues fact binds

  -- The statement of `finish` is well typed.
  pub data IsFinishStmt : FinishStmt → Type 0 where
    create : {name : Name} {key_binds value_binds : List (Bind Expr)} (fact : FactHead) → fact_named items name ≡ Some fact
        → BindKeys fact key_binds → BindValues fact value_binds → IsFinishStmt (finish.Create name key_binds value_binds)
    -- the fact is not immutable, and the pattern binds all its keys
    update : {p : Pattern Expr} {to : List (Bind Expr)} (fact : FactHead) → fact_named items p.fact ≡ Some fact → fact.is_immutable ≡ false
        → IsPattern items context scope p → binds_all_keys fact p ≡ true → BindValues fact to → IsFinishStmt (finish.Update p to)
    delete : {name : Name} {key_binds : List (Bind Expr)} (fact : FactHead) → fact_named items name ≡ Some fact → BindKeys fact key_binds → IsFinishStmt (finish.Delete name key_binds)
    emit : {e : Expr} (effect : Name) → HasType items context scope e (ty.Struct effect) → is_plain e ≡ true → names_item is_effect items effect ≡ true → IsFinishStmt (finish.Emit e)
    call : {name : Name} {arguments : List Expr} (types : List NamedType) (parameters : List Named) → finish_function_named items name ≡ Some parameters
        → HaveTypes items context scope arguments types → are_plain arguments ≡ true → arguments_fit types parameters ≡ true → IsFinishStmt (finish.Call name arguments)

  -- All of these are.
  pub data AreFinishStmts : List FinishStmt → Type 0 where
    no_finish_stmts : AreFinishStmts []
    more_finish_stmts : {s : FinishStmt} {more : List FinishStmt} → IsFinishStmt s → AreFinishStmts more → AreFinishStmts (s ∷ more)
