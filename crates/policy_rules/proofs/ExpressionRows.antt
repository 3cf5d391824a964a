-- Small expressions, and the types that they have or don't have. Each row is computed by the inference, which is the rules.
use Rattle.std.proofs.Common.{◌≡◌, ℕ, pos, false, List, [], ◌∷◌, codes, Option, Some, None}
use Rattle.policy_ast.specs.declared.bind.Bind.{Bind}
use Rattle.policy_ast.specs.declared.expr.Comparison.TheVariants as comparison
use Rattle.policy_ast.specs.declared.expr.Count.TheVariants as count
use Rattle.policy_ast.specs.declared.expr.ElseExpr.TheVariants as else_expr
use Rattle.policy_ast.specs.declared.expr.Expr.{Expr}
use Rattle.policy_ast.specs.declared.expr.Expr.TheVariants as expr
use Rattle.policy_ast.specs.declared.expr.Presence.TheVariants as presence
use Rattle.policy_ast.specs.declared.expr.Unary.TheVariants as unary
use Rattle.policy_ast.specs.declared.field.FieldType.TheVariants as field_type
use Rattle.policy_ast.specs.declared.item.Item.{Item}
use Rattle.policy_ast.specs.declared.item.Item.TheVariants as item
use Rattle.policy_ast.specs.declared.literal.Literal.TheVariants as literal
use Rattle.policy_ast.specs.declared.pattern.Free.{Free}
use Rattle.policy_ast.specs.declared.pattern.Pattern.{Pattern}
use Rattle.policy_rules.proofs.Fits.{fitting_rules}
use Rattle.policy_rules.proofs.Folds.{tree_rules}
use Rattle.policy_rules.specs.Items.{in_action, in_command}
use Rattle.policy_rules.specs.Names.{Name}
use Rattle.policy_rules.specs.Scopes.{Scope}
use Rattle.policy_rules.specs.declared.types.NamedType.TheVariants as ty
use Rattle.policy_rules.specs.Inference.{found}

-- enum Role { Owner, Member }  struct Pair { a int, b bool }  fact User[user id, n int]=>{role enum Role}  function twice(n int) int { .. }
-- let limit = 3  let Pair = true  command Put { fields { n int } .. }
ruleset row_rules = (fitting_rules, tree_rules)

abbrev items : List Item
items =
    item.Enum (codes "Role") (codes "Owner" ∷ codes "Member" ∷ [])
    ∷ item.Struct (codes "Pair") (record { name = codes "a"; field_type = field_type.Int } ∷ record { name = codes "b"; field_type = field_type.Bool } ∷ [])
    ∷ item.Fact false (codes "User") (record { name = codes "user"; field_type = field_type.Ident } ∷ record { name = codes "n"; field_type = field_type.Int } ∷ [])
    (record { name = codes "role"; field_type = field_type.Enum (codes "Role") } ∷ [])
    ∷ item.Function (codes "twice") (record { name = codes "n"; field_type = field_type.Int } ∷ []) field_type.Int []
    ∷ item.Let (codes "limit") (literal.Number (pos 3))
    ∷ item.Let (codes "Pair") literal.True
    ∷ []

abbrev scope : Scope
scope = record { name = codes "x"; ty = ty.Int } ∷ record { name = codes "o"; ty = ty.Optional ty.Int } ∷ record { name = codes "p"; ty = ty.Struct (codes "Pair") } ∷ []

abbrev number : ℕ → Expr
number n = expr.Literal (literal.Number (pos n))

abbrev yes' : Expr
yes' = expr.Literal literal.True

abbrev x : Expr
x = expr.Name (codes "x")

abbrev o : Expr
o = expr.Name (codes "o")

abbrev p : Expr
p = expr.Name (codes "p")

abbrev bind : Name → Expr → Bind Expr
bind name e = record { name = name; value = e }

abbrev free : Name → Option Expr → Free Expr
free name e = record { name = name; value = e }

-- User[..] with these keys, and nothing of its value
abbrev user : List (Free Expr) → Pattern Expr
user keys = record { fact = codes "User"; keys = keys; values = None }

abbrev device : Expr
device = expr.ForeignCall (codes "device") (codes "current_device_id") []

abbrev author : Expr → Expr
author e = expr.ForeignCall (codes "envelope") (codes "author_id") (e ∷ [])

abbrev envelope : Expr
envelope = expr.Name (codes "envelope")

-- ---- names and literals

a_name_in_scope : (found items in_action x).type_within scope ≡ Some ty.Int
a_name_in_scope = simp row_rules

a_let_of_the_policy : (found items in_action (expr.Name (codes "limit"))).type_within scope ≡ Some ty.Int
a_let_of_the_policy = simp row_rules

the_second_item_of_a_name_is_not_meant : (found items in_action (expr.Name (codes "Pair"))).type_within scope ≡ None
the_second_item_of_a_name_is_not_meant = simp row_rules

a_variant : (found items in_action (expr.Literal (literal.Variant (codes "Role") (codes "Owner")))).type_within scope ≡ Some (ty.Enum (codes "Role"))
a_variant = simp row_rules

no_variant : (found items in_action (expr.Literal (literal.Variant (codes "Role") (codes "Guest")))).type_within scope ≡ None
no_variant = simp row_rules

-- ---- operators

a_comparison : (found items in_action (expr.And yes' (expr.Compare x comparison.Less (number 2)))).type_within scope ≡ Some ty.Bool
a_comparison = simp row_rules

never_is_no_int : (found items in_action (expr.Compare (expr.Unary unary.Unwrap expr.None) comparison.Less (number 3))).type_within scope ≡ None
never_is_no_int = simp row_rules

never_fits_an_int : (found items in_action (expr.Compare (expr.Unary unary.Unwrap expr.None) comparison.Equal (number 3))).type_within scope ≡ Some ty.Bool
never_fits_an_int = simp row_rules

an_optional_is_tested : (found items in_action (expr.Is o presence.Some)).type_within scope ≡ Some ty.Bool
an_optional_is_tested = simp row_rules

an_int_is_not_tested : (found items in_action (expr.Is x presence.None)).type_within scope ≡ None
an_int_is_not_tested = simp row_rules

a_field : (found items in_action (expr.Field p (codes "b"))).type_within scope ≡ Some ty.Bool
a_field = simp row_rules

-- ---- an `if` whose branches fit one way

first_fits_second : (found items in_action (expr.If (record { head = yes'; then = record { lets = []; value = expr.None }; otherwise = else_expr.Block (record { lets = []; value = o }) }))).type_within scope
    ≡ Some (ty.Optional ty.Int)
first_fits_second = simp row_rules

second_fits_first : (found items in_action (expr.If (record { head = yes'; then = record { lets = []; value = o }; otherwise = else_expr.Block (record { lets = []; value = expr.None }) }))).type_within scope
    ≡ Some (ty.Optional ty.Int)
second_fits_first = simp row_rules

neither_fits : (found items in_action (expr.If (record { head = yes'; then = record { lets = []; value = o }; otherwise = else_expr.Block (record { lets = []; value = x }) }))).type_within scope ≡ None
neither_fits = simp row_rules

-- ---- calls and struct literals

a_call : (found items in_action (expr.Call (codes "twice") (x ∷ []))).type_within scope ≡ Some ty.Int
a_call = simp row_rules

an_argument_of_another_type : (found items in_action (expr.Call (codes "twice") (o ∷ []))).type_within scope ≡ None
an_argument_of_another_type = simp row_rules

no_function_of_this_name : (found items in_action (expr.Call (codes "User") (x ∷ []))).type_within scope ≡ None
no_function_of_this_name = simp row_rules

fields_in_any_order : (found items in_action (expr.Struct (codes "Pair") (bind (codes "b") yes' ∷ bind (codes "a") x ∷ []))).type_within scope ≡ Some (ty.Struct (codes "Pair"))
fields_in_any_order = simp row_rules

a_field_is_missing : (found items in_action (expr.Struct (codes "Pair") (bind (codes "a") x ∷ []))).type_within scope ≡ None
a_field_is_missing = simp row_rules

a_field_twice : (found items in_action (expr.Struct (codes "Pair") (bind (codes "a") x ∷ bind (codes "b") yes' ∷ bind (codes "a") x ∷ []))).type_within scope ≡ None
a_field_twice = simp row_rules

-- ---- patterns and counts

a_query : (found items in_action (expr.Query (user (free (codes "user") (Some device) ∷ [])))).type_within scope ≡ Some (ty.Optional (ty.Struct (codes "User")))
a_query = simp row_rules

a_gap_behind_an_expression : (found items in_action (expr.Exists (user (free (codes "user") (Some device) ∷ free (codes "n") None ∷ [])))).type_within scope ≡ Some ty.Bool
a_gap_behind_an_expression = simp row_rules

an_expression_behind_a_gap : (found items in_action (expr.Exists (user (free (codes "user") None ∷ free (codes "n") (Some x) ∷ [])))).type_within scope ≡ None
an_expression_behind_a_gap = simp row_rules

no_leading_key : (found items in_action (expr.Exists (user (free (codes "n") (Some x) ∷ [])))).type_within scope ≡ None
no_leading_key = simp row_rules

a_count : (found items in_action (expr.Count count.CountUpTo (pos 1) (user []))).type_within scope ≡ Some ty.Int
a_count = simp row_rules

a_count_to_nothing : (found items in_action (expr.Count count.AtLeast (pos 0) (user []))).type_within scope ≡ None
a_count_to_nothing = simp row_rules

-- ---- `this`, `envelope` and `device`

this_in_a_command : (found items (in_command (codes "Put")) expr.This).type_within scope ≡ Some (ty.Struct (codes "Put"))
this_in_a_command = simp row_rules

this_in_an_action : (found items in_action expr.This).type_within scope ≡ None
this_in_an_action = simp row_rules

the_author : (found items (in_command (codes "Put")) (author envelope)).type_within scope ≡ Some ty.Ident
the_author = simp row_rules

the_author_of_something_else : (found items (in_command (codes "Put")) (author x)).type_within scope ≡ None
the_author_of_something_else = simp row_rules

the_author_in_an_action : (found items in_action (author envelope)).type_within scope ≡ None
the_author_in_an_action = simp row_rules

envelope_alone : (found items (in_command (codes "Put")) envelope).type_within scope ≡ None
envelope_alone = simp row_rules

the_device_in_an_action : (found items in_action device).type_within scope ≡ Some ty.Ident
the_device_in_an_action = simp row_rules

the_device_in_a_command : (found items (in_command (codes "Put")) device).type_within scope ≡ None
the_device_in_a_command = simp row_rules
