-- A whole small policy is well typed, by the rules alone.
use Rattle.std.proofs.Common.{◌≡◌, ℕ, zero, suc, pos, true, false, List, [], ◌∷◌, codes, Some, refl, subst}
use Rattle.std.proofs.lemmas.Option.{same_Some}
use Rattle.policy_ast.specs.declared.bind.Bind.{Bind}
use Rattle.policy_ast.specs.declared.expr.Comparison.TheVariants as comparison
use Rattle.policy_ast.specs.declared.expr.Expr.{Expr}
use Rattle.policy_ast.specs.declared.expr.Expr.TheVariants as expr
use Rattle.policy_ast.specs.declared.field.Field.{Field}
use Rattle.policy_ast.specs.declared.field.FieldType.{FieldType}
use Rattle.policy_ast.specs.declared.field.FieldType.TheVariants as field_type
use Rattle.policy_ast.specs.declared.finish.FinishStmt.{FinishStmt}
use Rattle.policy_ast.specs.declared.finish.FinishStmt.TheVariants as finish
use Rattle.policy_ast.specs.declared.item.Item.{Item}
use Rattle.policy_ast.specs.declared.item.Item.TheVariants as item
use Rattle.policy_ast.specs.declared.item.Section.TheVariants as section
use Rattle.policy_ast.specs.declared.literal.Literal.TheVariants as literal
use Rattle.policy_ast.specs.declared.statement.Stmt.{Stmt}
use Rattle.policy_ast.specs.declared.statement.Stmt.TheVariants as stmt
use Rattle.policy_rules.proofs.Finding.{finds}
use Rattle.policy_rules.proofs.Fits.{fitting_rules}
use Rattle.policy_rules.proofs.Folds.{tree_rules}
use Rattle.policy_rules.specs.Expressions as rules
use Rattle.policy_rules.specs.Expressions.{HasType}
use Rattle.policy_rules.specs.Finish as finish_rules
use Rattle.policy_rules.specs.Finish.{AreFinishStmts}
use Rattle.policy_rules.specs.Heads.{is_command, names_item}
use Rattle.policy_rules.specs.Items as item_rules
use Rattle.policy_rules.specs.Items.{IsItem, in_action, in_command}
use Rattle.policy_rules.specs.Names.{Name}
use Rattle.policy_rules.specs.Scopes.{Scope}
use Rattle.policy_rules.specs.Statements as statement_rules
use Rattle.policy_rules.specs.Statements.{IsBlock, IsStmt, within_finish}
use Rattle.policy_rules.specs.Types.{declared}
use Rattle.policy_rules.specs.WellTyped.{IsWellTypedAt}
use Rattle.policy_rules.specs.declared.context.Context.{Context}
use Rattle.policy_rules.specs.declared.types.NamedType.{NamedType}
use Rattle.policy_rules.specs.declared.types.NamedType.TheVariants as ty
use Rattle.policy_rules.specs.Inference.{found}

ruleset row_rules = (fitting_rules, tree_rules)

abbrev field : Name → FieldType → Field
field name t = record { name = name; field_type = t }

abbrev bind : Name → Expr → Bind Expr
bind name e = record { name = name; value = e }

abbrev n : Name
n = codes "n"

abbrev this_n : Expr
this_n = expr.Field expr.This n

abbrev author : Expr
author = expr.ForeignCall (codes "envelope") (codes "author_id") (expr.Name (codes "envelope") ∷ [])

abbrev who : Expr
who = expr.Name (codes "who")

abbrev start_body : List Stmt
start_body = stmt.Finish [] ∷ []

abbrev is_positive : Expr
is_positive = expr.Compare this_n comparison.Greater (expr.Literal (literal.Number (pos 0)))

abbrev writes : List FinishStmt
writes = finish.Create (codes "Item") (bind n this_n ∷ []) (bind (codes "by") who ∷ []) ∷ finish.Emit (expr.Struct (codes "Added") (bind n this_n ∷ [])) ∷ []

abbrev put_body : List Stmt
put_body = stmt.Check is_positive ∷ stmt.Let (record { name = codes "who"; value = author }) ∷ stmt.Finish writes ∷ []

-- fact Item[n int]=>{by id}
abbrev fact_item : Item
fact_item = item.Fact false (codes "Item") (field n field_type.Int ∷ []) (field (codes "by") field_type.Ident ∷ [])

-- effect Added { n int }
abbrev effect_item : Item
effect_item = item.Effect (codes "Added") (record { field = field n field_type.Int; is_dynamic = false } ∷ [])

-- command Start { attributes { init: true } fields { } seal { .. } open { .. } policy { finish { } } }
abbrev start_item : Item
start_item = item.Command (codes "Start") (section.Attributes (record { name = codes "init"; value = literal.True } ∷ []) ∷ section.Fields [] ∷ section.Seal ∷ section.Open
    ∷ section.Policy start_body ∷ [])

-- command Put { fields { n int } seal { .. } open { .. } policy { check this.n > 0 let who = envelope::author_id(envelope)
--   finish { create Item[n: this.n]=>{by: who} emit Added { n: this.n } } } }
abbrev put_item : Item
put_item = item.Command (codes "Put") (section.Fields (field n field_type.Int ∷ []) ∷ section.Seal ∷ section.Open ∷ section.Policy put_body ∷ [])

abbrev start_action : List Stmt
start_action = stmt.Publish (expr.Struct (codes "Start") []) ∷ []

abbrev put_action : List Stmt
put_action = stmt.Publish (expr.Struct (codes "Put") (bind n (expr.Name n) ∷ [])) ∷ []

-- .. action start() { publish Start { } } action put(n int) { publish Put { n: n } }
abbrev items : List Item
items = fact_item ∷ effect_item ∷ start_item ∷ put_item ∷ item.Action (codes "start") [] start_action ∷ item.Action (codes "put") (field n field_type.Int ∷ []) put_action ∷ []

typed : (context : Context) (e : Expr) (scope : Scope) (t : NamedType) → (found items context e).type_within scope ≡ Some t → HasType items context scope e t
typed context e scope t is = finds items context e scope t is

fact_is : IsItem items [] fact_item
fact_is = record { free = refl; of_kind = item_rules.fact (simp row_rules); nests = simp row_rules; chains = refl }

effect_is : IsItem items (codes "Item" ∷ []) effect_item
effect_is = record { free = refl; of_kind = item_rules.effect (simp row_rules); nests = simp row_rules; chains = refl }

abbrev in_start : Context
in_start = in_command (codes "Start")

start_is : IsItem items (codes "Item" ∷ codes "Added" ∷ []) start_item
start_is = record {
  free = refl;
  of_kind = item_rules.command refl refl (item_rules.more_sections item_rules.attributes_section (item_rules.more_sections (item_rules.fields_section refl)
      (item_rules.more_sections item_rules.seal_section (item_rules.more_sections item_rules.open_section (item_rules.more_sections
      (item_rules.policy_section (statement_rules.more_stmts [] (statement_rules.stmt (rw (stmt.outs-Finish []) (statement_rules.finishes refl finish_rules.no_finish_stmts))) refl
      statement_rules.no_stmts))
      item_rules.no_sections)))));
  nests = refl;
  chains = simp row_rules;
}

abbrev in_put : Context
in_put = in_command (codes "Put")

abbrev behind_who : Scope
behind_who = record { name = codes "who"; ty = ty.Ident } ∷ []

one_typed : (context : Context) (e : Expr) (scope : Scope) (t : NamedType) → (found items context e).type_within scope ≡ Some t → rules.HaveTypes items context scope (e ∷ []) (t ∷ [])
one_typed context e scope t is = rules.more_types (typed context e scope t is) rules.no_types

writes_are : AreFinishStmts items (within_finish in_put) behind_who writes
writes_are = finish_rules.more_finish_stmts
    (finish_rules.create (record { is_immutable = false; keys = record { name = n; ty = ty.Int } ∷ []; values = record { name = codes "by"; ty = ty.Ident } ∷ [] }) (simp row_rules)
    (finish_rules.keys (ty.Int ∷ []) (one_typed (within_finish in_put) this_n behind_who ty.Int (simp row_rules)) (simp row_rules) (simp row_rules))
    (finish_rules.values (ty.Ident ∷ []) (one_typed (within_finish in_put) who behind_who ty.Ident (simp row_rules)) (simp row_rules) (simp row_rules)))
    (finish_rules.more_finish_stmts
    (finish_rules.emit (codes "Added") (typed (within_finish in_put) (expr.Struct (codes "Added") (bind n this_n ∷ [])) behind_who (ty.Struct (codes "Added")) (simp row_rules)) (simp row_rules) refl)
    finish_rules.no_finish_stmts)

checked : IsStmt items in_put [] (stmt.Check is_positive) []
checked = statement_rules.stmt (rw (stmt.outs-Check is_positive) (statement_rules.checks (typed in_put is_positive [] ty.Bool (simp row_rules))))

introduced : IsStmt items in_put [] (stmt.Let (record { name = codes "who"; value = author })) behind_who
introduced = statement_rules.stmt (rw (stmt.outs-Let (record { name = codes "who"; value = author })) (statement_rules.introduces ty.Ident (typed in_put author [] ty.Ident (simp row_rules)) refl))

finished : IsStmt items in_put behind_who (stmt.Finish writes) behind_who
finished = statement_rules.stmt (rw (stmt.outs-Finish writes) (statement_rules.finishes refl writes_are))

put_block : IsBlock items in_put [] put_body
put_block = statement_rules.more_stmts [] checked (rw (stmt.outs-Check is_positive) refl)
    (statement_rules.more_stmts behind_who introduced (rw (stmt.outs-Let (record { name = codes "who"; value = author })) refl)
    (statement_rules.more_stmts behind_who finished refl statement_rules.no_stmts))

put_is : IsItem items (codes "Item" ∷ codes "Added" ∷ codes "Start" ∷ []) put_item
put_is = record {
  free = refl;
  of_kind = item_rules.command refl refl (item_rules.more_sections (item_rules.fields_section (simp row_rules)) (item_rules.more_sections item_rules.seal_section
      (item_rules.more_sections item_rules.open_section (item_rules.more_sections (item_rules.policy_section put_block) item_rules.no_sections))));
  nests = simp row_rules;
  chains = simp row_rules;
}

published : (e : Expr) (command : Name) (scope : Scope) → (found items in_action e).type_within scope ≡ Some (ty.Struct command)
    → names_item is_command items command ≡ true → IsBlock items in_action scope (stmt.Publish e ∷ [])
published e command scope is names = statement_rules.more_stmts scope
    (statement_rules.stmt (rw (stmt.outs-Publish e) (statement_rules.publishes command refl (typed in_action e scope (ty.Struct command) is) names))) refl statement_rules.no_stmts

start_action_is : IsItem items (codes "Item" ∷ codes "Added" ∷ codes "Start" ∷ codes "Put" ∷ []) (item.Action (codes "start") [] start_action)
start_action_is = record {
  free = refl;
  of_kind = item_rules.action refl (published (expr.Struct (codes "Start") []) (codes "Start") [] (simp row_rules) refl);
  nests = refl;
  chains = simp row_rules;
}

abbrev with_n : Scope
with_n = declared (field n field_type.Int ∷ [])

put_action_is : IsItem items (codes "Item" ∷ codes "Added" ∷ codes "Start" ∷ codes "Put" ∷ codes "start" ∷ []) (item.Action (codes "put") (field n field_type.Int ∷ []) put_action)
put_action_is = record {
  free = refl;
  of_kind = item_rules.action (simp row_rules) (published (expr.Struct (codes "Put") (bind n (expr.Name n) ∷ [])) (codes "Put") with_n (simp row_rules) refl);
  nests = refl;
  chains = simp row_rules;
}

well_typed : (number : ℕ) → IsWellTypedAt items number
well_typed zero i is = subst (IsItem items []) (same_Some _ _ is) fact_is
well_typed (suc zero) i is = subst (IsItem items (codes "Item" ∷ [])) (same_Some _ _ is) effect_is
well_typed (suc (suc zero)) i is = subst (IsItem items (codes "Item" ∷ codes "Added" ∷ [])) (same_Some _ _ is) start_is
well_typed (suc (suc (suc zero))) i is = subst (IsItem items (codes "Item" ∷ codes "Added" ∷ codes "Start" ∷ [])) (same_Some _ _ is) put_is
well_typed (suc (suc (suc (suc zero)))) i is = subst (IsItem items (codes "Item" ∷ codes "Added" ∷ codes "Start" ∷ codes "Put" ∷ [])) (same_Some _ _ is) start_action_is
well_typed (suc (suc (suc (suc (suc zero))))) i is =
    subst (IsItem items (codes "Item" ∷ codes "Added" ∷ codes "Start" ∷ codes "Put" ∷ codes "start" ∷ [])) (same_Some _ _ is) put_action_is
well_typed (suc (suc (suc (suc (suc (suc number)))))) i is = absurd (cc)
