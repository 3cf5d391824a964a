-- Small items beside a small policy: in most pairs the first just meets a rule and the second breaks it.
use Rattle.std.proofs.Common.{◌≡◌, pos, true, false, List, [], ◌∷◌, codes, Option, Some, None, refl}
use Rattle.policy_ast.specs.declared.bind.Bind.{Bind}
use Rattle.policy_ast.specs.declared.expr.Comparison.TheVariants as comparison
use Rattle.policy_ast.specs.declared.expr.Expr.{Expr}
use Rattle.policy_ast.specs.declared.expr.Expr.TheVariants as expr
use Rattle.policy_ast.specs.declared.expr.Unary.TheVariants as unary
use Rattle.policy_ast.specs.declared.field.Field.{Field}
use Rattle.policy_ast.specs.declared.field.FieldType.{FieldType}
use Rattle.policy_ast.specs.declared.field.FieldType.TheVariants as field_type
use Rattle.policy_ast.specs.declared.finish.FinishStmt.TheVariants as finish
use Rattle.policy_ast.specs.declared.item.Item.{Item}
use Rattle.policy_ast.specs.declared.item.Item.TheVariants as item
use Rattle.policy_ast.specs.declared.item.Section.TheVariants as section
use Rattle.policy_ast.specs.declared.literal.Literal.TheVariants as literal
use Rattle.policy_ast.specs.declared.pattern.ArmPattern.TheVariants as arm_pattern
use Rattle.policy_ast.specs.declared.pattern.PatternLiteral.TheVariants as pattern
use Rattle.policy_ast.specs.declared.statement.Else.TheVariants as else_stmt
use Rattle.policy_ast.specs.declared.pattern.Free.{Free}
use Rattle.policy_ast.specs.declared.statement.Stmt.TheVariants as stmt
use Rattle.policy_rules.proofs.Fits.{fitting_rules}
use Rattle.policy_rules.proofs.Folds.{tree_rules}
use Rattle.policy_rules.specs.Names.{Name}
use Rattle.policy_rules.specs.Inference.{inferred}
use Rattle.policy_rules.specs.ItemJudging.{item_is}

abbrev field : Name → FieldType → Field
field name t = record { name = name; field_type = t }

abbrev bind : Name → Expr → Bind Expr
bind name e = record { name = name; value = e }

abbrev free : Name → Option Expr → Free Expr
free name e = record { name = name; value = e }

-- enum Role { Owner, Member }
-- struct Pair { a int, b bool }
-- fact G[k int, l int]=>{v int}
-- immutable fact F[k int]=>{v int}
-- effect Did { v int }
-- command Put { fields { n int } .. policy { finish { } } }
-- function f(n int) int { return n }
-- finish function note(v int) { emit Did { v: v } }
-- let limit = 3
abbrev base : List Item
base =
    item.Enum (codes "Role") ((codes "Owner") ∷ (codes "Member") ∷ [])
    ∷ item.Struct (codes "Pair") ((field (codes "a") field_type.Int) ∷ (field (codes "b") field_type.Bool) ∷ [])
    ∷ item.Fact false (codes "G") ((field (codes "k") field_type.Int) ∷ (field (codes "l") field_type.Int) ∷ []) ((field (codes "v") field_type.Int) ∷ [])
    ∷ item.Fact true (codes "F") ((field (codes "k") field_type.Int) ∷ []) ((field (codes "v") field_type.Int) ∷ [])
    ∷ item.Effect (codes "Did") ((record { field = field (codes "v") field_type.Int; is_dynamic = false }) ∷ [])
    ∷ item.Command (codes "Put") (section.Fields ((field (codes "n") field_type.Int) ∷ []) ∷ section.Seal ∷ section.Open ∷ section.Policy (stmt.Finish [] ∷ []) ∷ [])
    ∷ item.Function (codes "f") ((field (codes "n") field_type.Int) ∷ []) field_type.Int (stmt.Return (expr.Name (codes "n")) ∷ [])
    ∷ item.FinishFunction (codes "note") ((field (codes "v") field_type.Int) ∷ []) (finish.Emit (expr.Struct (codes "Did") ((bind (codes "v") (expr.Name (codes "v"))) ∷ [])) ∷ [])
    ∷ item.Let (codes "limit") (literal.Number (pos 3))
    ∷ []

-- ---- lists of statements

-- function x(n int) int { let m = n return m }
abbrev a_return_is_last_item : Item
a_return_is_last_item = item.Function (codes "x") ((field (codes "n") field_type.Int) ∷ []) field_type.Int (stmt.Let (record { name = (codes "m"); value = (expr.Name (codes "n")) }) ∷ stmt.Return (expr.Name (codes "m")) ∷ [])

a_return_is_last : item_is (a_return_is_last_item ∷ base) [] a_return_is_last_item ≡ true
a_return_is_last = simp (inferred, fitting_rules, tree_rules)

-- function x(n int) int { return n return n }
abbrev nothing_stands_behind_a_return_item : Item
nothing_stands_behind_a_return_item = item.Function (codes "x") ((field (codes "n") field_type.Int) ∷ []) field_type.Int (stmt.Return (expr.Name (codes "n")) ∷ stmt.Return (expr.Name (codes "n")) ∷ [])

nothing_stands_behind_a_return : item_is (nothing_stands_behind_a_return_item ∷ base) [] nothing_stands_behind_a_return_item ≡ false
nothing_stands_behind_a_return = simp (inferred, fitting_rules, tree_rules)

-- command X { fields { n int } .. policy { finish { } check true } }
abbrev nothing_stands_behind_a_finish_item : Item
nothing_stands_behind_a_finish_item = item.Command (codes "X") (section.Fields ((field (codes "n") field_type.Int) ∷ []) ∷ section.Seal ∷ section.Open ∷ section.Policy (stmt.Finish [] ∷ stmt.Check (expr.Literal literal.True) ∷ []) ∷ [])

nothing_stands_behind_a_finish : item_is (nothing_stands_behind_a_finish_item ∷ base) [] nothing_stands_behind_a_finish_item ≡ false
nothing_stands_behind_a_finish = simp (inferred, fitting_rules, tree_rules)

-- command X { fields { n int } .. policy { if true { finish { } } check true } }
abbrev a_statement_behind_an_if_with_a_finish_item : Item
a_statement_behind_an_if_with_a_finish_item = item.Command (codes "X") (section.Fields ((field (codes "n") field_type.Int) ∷ []) ∷ section.Seal ∷ section.Open ∷ section.Policy (stmt.If (record { head = (expr.Literal literal.True); then = (stmt.Finish [] ∷ []); otherwise = None }) ∷ stmt.Check (expr.Literal literal.True) ∷ []) ∷ [])

a_statement_behind_an_if_with_a_finish : item_is (a_statement_behind_an_if_with_a_finish_item ∷ base) [] a_statement_behind_an_if_with_a_finish_item ≡ true
a_statement_behind_an_if_with_a_finish = simp (inferred, fitting_rules, tree_rules)

-- function x(n int) int { if n > 0 { return 1 } else { return 2 } }
abbrev both_branches_return_item : Item
both_branches_return_item = item.Function (codes "x") ((field (codes "n") field_type.Int) ∷ []) field_type.Int (stmt.If (record { head = (expr.Compare (expr.Name (codes "n")) comparison.Greater (expr.Literal (literal.Number (pos 0)))); then = (stmt.Return (expr.Literal (literal.Number (pos 1))) ∷ []); otherwise = (Some (else_stmt.Block (stmt.Return (expr.Literal (literal.Number (pos 2))) ∷ []))) }) ∷ [])

both_branches_return : item_is (both_branches_return_item ∷ base) [] both_branches_return_item ≡ true
both_branches_return = simp (inferred, fitting_rules, tree_rules)

-- function x(n int) int { if n > 0 { return 1 } }
abbrev no_else_item : Item
no_else_item = item.Function (codes "x") ((field (codes "n") field_type.Int) ∷ []) field_type.Int (stmt.If (record { head = (expr.Compare (expr.Name (codes "n")) comparison.Greater (expr.Literal (literal.Number (pos 0)))); then = (stmt.Return (expr.Literal (literal.Number (pos 1))) ∷ []); otherwise = None }) ∷ [])

no_else : item_is (no_else_item ∷ base) [] no_else_item ≡ false
no_else = simp (inferred, fitting_rules, tree_rules)

-- function x(b bool) int { match b { true => { return 1 } false => { return 2 } } }
abbrev all_bools_are_listed_item : Item
all_bools_are_listed_item = item.Function (codes "x") ((field (codes "b") field_type.Bool) ∷ []) field_type.Int (stmt.Match (expr.Name (codes "b")) ((record { pattern = (arm_pattern.Literals ((pattern.Literal literal.True) ∷ [])); body = (stmt.Return (expr.Literal (literal.Number (pos 1))) ∷ []) }) ∷ (record { pattern = (arm_pattern.Literals ((pattern.Literal literal.False) ∷ [])); body = (stmt.Return (expr.Literal (literal.Number (pos 2))) ∷ []) }) ∷ []) ∷ [])

all_bools_are_listed : item_is (all_bools_are_listed_item ∷ base) [] all_bools_are_listed_item ≡ true
all_bools_are_listed = simp (inferred, fitting_rules, tree_rules)

-- function x(b bool) int { match b { true => { return 1 } } }
abbrev false_is_not_listed_item : Item
false_is_not_listed_item = item.Function (codes "x") ((field (codes "b") field_type.Bool) ∷ []) field_type.Int (stmt.Match (expr.Name (codes "b")) ((record { pattern = (arm_pattern.Literals ((pattern.Literal literal.True) ∷ [])); body = (stmt.Return (expr.Literal (literal.Number (pos 1))) ∷ []) }) ∷ []) ∷ [])

false_is_not_listed : item_is (false_is_not_listed_item ∷ base) [] false_is_not_listed_item ≡ false
false_is_not_listed = simp (inferred, fitting_rules, tree_rules)

-- function x(n int) int { match n { 1 | 2 => { return 1 } _ => { return 2 } } }
abbrev a_number_and_the_rest_item : Item
a_number_and_the_rest_item = item.Function (codes "x") ((field (codes "n") field_type.Int) ∷ []) field_type.Int (stmt.Match (expr.Name (codes "n")) ((record { pattern = (arm_pattern.Literals ((pattern.Literal (literal.Number (pos 1))) ∷ (pattern.Literal (literal.Number (pos 2))) ∷ [])); body = (stmt.Return (expr.Literal (literal.Number (pos 1))) ∷ []) }) ∷ (record { pattern = arm_pattern.Any; body = (stmt.Return (expr.Literal (literal.Number (pos 2))) ∷ []) }) ∷ []) ∷ [])

a_number_and_the_rest : item_is (a_number_and_the_rest_item ∷ base) [] a_number_and_the_rest_item ≡ true
a_number_and_the_rest = simp (inferred, fitting_rules, tree_rules)

-- function x(n int) int { match n { 1 | 1 => { return 1 } _ => { return 2 } } }
abbrev a_number_twice_item : Item
a_number_twice_item = item.Function (codes "x") ((field (codes "n") field_type.Int) ∷ []) field_type.Int (stmt.Match (expr.Name (codes "n")) ((record { pattern = (arm_pattern.Literals ((pattern.Literal (literal.Number (pos 1))) ∷ (pattern.Literal (literal.Number (pos 1))) ∷ [])); body = (stmt.Return (expr.Literal (literal.Number (pos 1))) ∷ []) }) ∷ (record { pattern = arm_pattern.Any; body = (stmt.Return (expr.Literal (literal.Number (pos 2))) ∷ []) }) ∷ []) ∷ [])

a_number_twice : item_is (a_number_twice_item ∷ base) [] a_number_twice_item ≡ false
a_number_twice = simp (inferred, fitting_rules, tree_rules)

-- function x() int { return unwrap None }
abbrev a_result_that_fits_item : Item
a_result_that_fits_item = item.Function (codes "x") [] field_type.Int (stmt.Return (expr.Unary unary.Unwrap expr.None) ∷ [])

a_result_that_fits : item_is (a_result_that_fits_item ∷ base) [] a_result_that_fits_item ≡ true
a_result_that_fits = simp (inferred, fitting_rules, tree_rules)

-- function x() int { return true }
abbrev a_result_that_does_not_item : Item
a_result_that_does_not_item = item.Function (codes "x") [] field_type.Int (stmt.Return (expr.Literal literal.True) ∷ [])

a_result_that_does_not : item_is (a_result_that_does_not_item ∷ base) [] a_result_that_does_not_item ≡ false
a_result_that_does_not = simp (inferred, fitting_rules, tree_rules)

-- ---- which statements stand where

-- action x() { map G[k: 1] as r { publish Put { n: r.v } } }
abbrev a_map_in_an_action_item : Item
a_map_in_an_action_item = item.Action (codes "x") [] (stmt.Map (record { fact = (codes "G"); keys = ((free (codes "k") (Some (expr.Literal (literal.Number (pos 1))))) ∷ []); values = None }) (codes "r") (stmt.Publish (expr.Struct (codes "Put") ((bind (codes "n") (expr.Field (expr.Name (codes "r")) (codes "v"))) ∷ [])) ∷ []) ∷ [])

a_map_in_an_action : item_is (a_map_in_an_action_item ∷ base) [] a_map_in_an_action_item ≡ true
a_map_in_an_action = simp (inferred, fitting_rules, tree_rules)

-- function x() int { publish Put { n: 1 } return 1 }
abbrev a_publish_in_a_function_item : Item
a_publish_in_a_function_item = item.Function (codes "x") [] field_type.Int (stmt.Publish (expr.Struct (codes "Put") ((bind (codes "n") (expr.Literal (literal.Number (pos 1)))) ∷ [])) ∷ stmt.Return (expr.Literal (literal.Number (pos 1))) ∷ [])

a_publish_in_a_function : item_is (a_publish_in_a_function_item ∷ base) [] a_publish_in_a_function_item ≡ false
a_publish_in_a_function = simp (inferred, fitting_rules, tree_rules)

-- action x() { finish { } }
abbrev a_finish_in_an_action_item : Item
a_finish_in_an_action_item = item.Action (codes "x") [] (stmt.Finish [] ∷ [])

a_finish_in_an_action : item_is (a_finish_in_an_action_item ∷ base) [] a_finish_in_an_action_item ≡ false
a_finish_in_an_action = simp (inferred, fitting_rules, tree_rules)

-- action x() { return 1 }
abbrev a_return_in_an_action_item : Item
a_return_in_an_action_item = item.Action (codes "x") [] (stmt.Return (expr.Literal (literal.Number (pos 1))) ∷ [])

a_return_in_an_action : item_is (a_return_in_an_action_item ∷ base) [] a_return_in_an_action_item ≡ false
a_return_in_an_action = simp (inferred, fitting_rules, tree_rules)

-- action x() { publish Did { v: 1 } }
abbrev an_effect_is_not_published_item : Item
an_effect_is_not_published_item = item.Action (codes "x") [] (stmt.Publish (expr.Struct (codes "Did") ((bind (codes "v") (expr.Literal (literal.Number (pos 1)))) ∷ [])) ∷ [])

an_effect_is_not_published : item_is (an_effect_is_not_published_item ∷ base) [] an_effect_is_not_published_item ≡ false
an_effect_is_not_published = simp (inferred, fitting_rules, tree_rules)

-- action x() { check 1 }
abbrev a_check_takes_a_bool_item : Item
a_check_takes_a_bool_item = item.Action (codes "x") [] (stmt.Check (expr.Literal (literal.Number (pos 1))) ∷ [])

a_check_takes_a_bool : item_is (a_check_takes_a_bool_item ∷ base) [] a_check_takes_a_bool_item ≡ false
a_check_takes_a_bool = simp (inferred, fitting_rules, tree_rules)

-- ---- names that are introduced

-- action x() { let other = 1 }
abbrev a_new_name_item : Item
a_new_name_item = item.Action (codes "x") [] (stmt.Let (record { name = (codes "other"); value = (expr.Literal (literal.Number (pos 1))) }) ∷ [])

a_new_name : item_is (a_new_name_item ∷ base) [] a_new_name_item ≡ true
a_new_name = simp (inferred, fitting_rules, tree_rules)

-- action x() { let limit = 1 }
abbrev the_name_of_a_let_item : Item
the_name_of_a_let_item = item.Action (codes "x") [] (stmt.Let (record { name = (codes "limit"); value = (expr.Literal (literal.Number (pos 1))) }) ∷ [])

the_name_of_a_let : item_is (the_name_of_a_let_item ∷ base) [] the_name_of_a_let_item ≡ false
the_name_of_a_let = simp (inferred, fitting_rules, tree_rules)

-- action x() { if true { let a = 1 } let a = 2 }
abbrev a_scope_ends_with_its_block_item : Item
a_scope_ends_with_its_block_item = item.Action (codes "x") [] (stmt.If (record { head = (expr.Literal literal.True); then = (stmt.Let (record { name = (codes "a"); value = (expr.Literal (literal.Number (pos 1))) }) ∷ []); otherwise = None }) ∷ stmt.Let (record { name = (codes "a"); value = (expr.Literal (literal.Number (pos 2))) }) ∷ [])

a_scope_ends_with_its_block : item_is (a_scope_ends_with_its_block_item ∷ base) [] a_scope_ends_with_its_block_item ≡ true
a_scope_ends_with_its_block = simp (inferred, fitting_rules, tree_rules)

-- action x() { let a = 1 if true { let a = 2 } }
abbrev a_name_of_the_block_around_item : Item
a_name_of_the_block_around_item = item.Action (codes "x") [] (stmt.Let (record { name = (codes "a"); value = (expr.Literal (literal.Number (pos 1))) }) ∷ stmt.If (record { head = (expr.Literal literal.True); then = (stmt.Let (record { name = (codes "a"); value = (expr.Literal (literal.Number (pos 2))) }) ∷ []); otherwise = None }) ∷ [])

a_name_of_the_block_around : item_is (a_name_of_the_block_around_item ∷ base) [] a_name_of_the_block_around_item ≡ false
a_name_of_the_block_around = simp (inferred, fitting_rules, tree_rules)

-- action x(r int) { map G[k: 1] as r { } }
abbrev the_name_of_a_parameter_item : Item
the_name_of_a_parameter_item = item.Action (codes "x") ((field (codes "r") field_type.Int) ∷ []) (stmt.Map (record { fact = (codes "G"); keys = ((free (codes "k") (Some (expr.Literal (literal.Number (pos 1))))) ∷ []); values = None }) (codes "r") [] ∷ [])

the_name_of_a_parameter : item_is (the_name_of_a_parameter_item ∷ base) [] the_name_of_a_parameter_item ≡ false
the_name_of_a_parameter = simp (inferred, fitting_rules, tree_rules)

-- action x() { let envelope = 1 }
abbrev envelope_in_an_action_item : Item
envelope_in_an_action_item = item.Action (codes "x") [] (stmt.Let (record { name = (codes "envelope"); value = (expr.Literal (literal.Number (pos 1))) }) ∷ [])

envelope_in_an_action : item_is (envelope_in_an_action_item ∷ base) [] envelope_in_an_action_item ≡ true
envelope_in_an_action = simp (inferred, fitting_rules, tree_rules)

-- command X { fields { n int } .. policy { let envelope = 1 } }
abbrev envelope_in_a_command_item : Item
envelope_in_a_command_item = item.Command (codes "X") (section.Fields ((field (codes "n") field_type.Int) ∷ []) ∷ section.Seal ∷ section.Open ∷ section.Policy (stmt.Let (record { name = (codes "envelope"); value = (expr.Literal (literal.Number (pos 1))) }) ∷ []) ∷ [])

envelope_in_a_command : item_is (envelope_in_a_command_item ∷ base) [] envelope_in_a_command_item ≡ false
envelope_in_a_command = simp (inferred, fitting_rules, tree_rules)

-- function x(a int, a int) int { return 1 }
abbrev a_parameter_twice_item : Item
a_parameter_twice_item = item.Function (codes "x") ((field (codes "a") field_type.Int) ∷ (field (codes "a") field_type.Int) ∷ []) field_type.Int (stmt.Return (expr.Literal (literal.Number (pos 1))) ∷ [])

a_parameter_twice : item_is (a_parameter_twice_item ∷ base) [] a_parameter_twice_item ≡ false
a_parameter_twice = refl

-- ---- types that are written

-- function x(p struct G) int { return p.v }
abbrev a_fact_is_a_struct_item : Item
a_fact_is_a_struct_item = item.Function (codes "x") ((field (codes "p") (field_type.Struct (codes "G"))) ∷ []) field_type.Int (stmt.Return (expr.Field (expr.Name (codes "p")) (codes "v")) ∷ [])

a_fact_is_a_struct : item_is (a_fact_is_a_struct_item ∷ base) [] a_fact_is_a_struct_item ≡ true
a_fact_is_a_struct = simp (inferred, fitting_rules, tree_rules)

-- function x(p enum Gone) int { return 1 }
abbrev a_type_that_names_nothing_item : Item
a_type_that_names_nothing_item = item.Function (codes "x") ((field (codes "p") (field_type.Enum (codes "Gone"))) ∷ []) field_type.Int (stmt.Return (expr.Literal (literal.Number (pos 1))) ∷ [])

a_type_that_names_nothing : item_is (a_type_that_names_nothing_item ∷ base) [] a_type_that_names_nothing_item ≡ false
a_type_that_names_nothing = simp (inferred, fitting_rules, tree_rules)

-- function x(p enum Pair) int { return 1 }
abbrev an_enum_that_is_a_struct_item : Item
an_enum_that_is_a_struct_item = item.Function (codes "x") ((field (codes "p") (field_type.Enum (codes "Pair"))) ∷ []) field_type.Int (stmt.Return (expr.Literal (literal.Number (pos 1))) ∷ [])

an_enum_that_is_a_struct : item_is (an_enum_that_is_a_struct_item ∷ base) [] an_enum_that_is_a_struct_item ≡ false
an_enum_that_is_a_struct = simp (inferred, fitting_rules, tree_rules)

-- ---- finish

-- finish function x(a int) { create G[k: a, l: a]=>{v: a} update G[k: a, l: a] to {v: 1} delete G[k: a, l: 1] }
abbrev a_write_of_a_fact_item : Item
a_write_of_a_fact_item = item.FinishFunction (codes "x") ((field (codes "a") field_type.Int) ∷ []) (finish.Create (codes "G") ((bind (codes "k") (expr.Name (codes "a"))) ∷ (bind (codes "l") (expr.Name (codes "a"))) ∷ []) ((bind (codes "v") (expr.Name (codes "a"))) ∷ []) ∷ finish.Update (record { fact = (codes "G"); keys = ((free (codes "k") (Some (expr.Name (codes "a")))) ∷ (free (codes "l") (Some (expr.Name (codes "a")))) ∷ []); values = None }) ((bind (codes "v") (expr.Literal (literal.Number (pos 1)))) ∷ []) ∷ finish.Delete (codes "G") ((bind (codes "k") (expr.Name (codes "a"))) ∷ (bind (codes "l") (expr.Literal (literal.Number (pos 1)))) ∷ []) ∷ [])

a_write_of_a_fact : item_is (a_write_of_a_fact_item ∷ base) [] a_write_of_a_fact_item ≡ true
a_write_of_a_fact = simp (inferred, fitting_rules, tree_rules)

-- finish function x(a int) { create G[l: a, k: a]=>{v: a} }
abbrev keys_out_of_order_item : Item
keys_out_of_order_item = item.FinishFunction (codes "x") ((field (codes "a") field_type.Int) ∷ []) (finish.Create (codes "G") ((bind (codes "l") (expr.Name (codes "a"))) ∷ (bind (codes "k") (expr.Name (codes "a"))) ∷ []) ((bind (codes "v") (expr.Name (codes "a"))) ∷ []) ∷ [])

keys_out_of_order : item_is (keys_out_of_order_item ∷ base) [] keys_out_of_order_item ≡ false
keys_out_of_order = simp (inferred, fitting_rules, tree_rules)

-- finish function x(a int) { update G[k: a, l: ?] to {v: 1} }
abbrev a_key_is_not_bound_item : Item
a_key_is_not_bound_item = item.FinishFunction (codes "x") ((field (codes "a") field_type.Int) ∷ []) (finish.Update (record { fact = (codes "G"); keys = ((free (codes "k") (Some (expr.Name (codes "a")))) ∷ (free (codes "l") None) ∷ []); values = None }) ((bind (codes "v") (expr.Literal (literal.Number (pos 1)))) ∷ []) ∷ [])

a_key_is_not_bound : item_is (a_key_is_not_bound_item ∷ base) [] a_key_is_not_bound_item ≡ false
a_key_is_not_bound = simp (inferred, fitting_rules, tree_rules)

-- finish function x(a int) { delete G[k: a] }
abbrev a_key_is_left_out_item : Item
a_key_is_left_out_item = item.FinishFunction (codes "x") ((field (codes "a") field_type.Int) ∷ []) (finish.Delete (codes "G") ((bind (codes "k") (expr.Name (codes "a"))) ∷ []) ∷ [])

a_key_is_left_out : item_is (a_key_is_left_out_item ∷ base) [] a_key_is_left_out_item ≡ false
a_key_is_left_out = simp (inferred, fitting_rules, tree_rules)

-- finish function x(a int) { create F[k: a]=>{v: a} }
abbrev an_immutable_fact_is_created_item : Item
an_immutable_fact_is_created_item = item.FinishFunction (codes "x") ((field (codes "a") field_type.Int) ∷ []) (finish.Create (codes "F") ((bind (codes "k") (expr.Name (codes "a"))) ∷ []) ((bind (codes "v") (expr.Name (codes "a"))) ∷ []) ∷ [])

an_immutable_fact_is_created : item_is (an_immutable_fact_is_created_item ∷ base) [] an_immutable_fact_is_created_item ≡ true
an_immutable_fact_is_created = simp (inferred, fitting_rules, tree_rules)

-- finish function x(a int) { update F[k: a] to {v: 1} }
abbrev an_immutable_fact_is_not_updated_item : Item
an_immutable_fact_is_not_updated_item = item.FinishFunction (codes "x") ((field (codes "a") field_type.Int) ∷ []) (finish.Update (record { fact = (codes "F"); keys = ((free (codes "k") (Some (expr.Name (codes "a")))) ∷ []); values = None }) ((bind (codes "v") (expr.Literal (literal.Number (pos 1)))) ∷ []) ∷ [])

an_immutable_fact_is_not_updated : item_is (an_immutable_fact_is_not_updated_item ∷ base) [] an_immutable_fact_is_not_updated_item ≡ false
an_immutable_fact_is_not_updated = simp (inferred, fitting_rules, tree_rules)

-- finish function x(a int) { emit Did { v: a } }
abbrev an_effect_is_emitted_item : Item
an_effect_is_emitted_item = item.FinishFunction (codes "x") ((field (codes "a") field_type.Int) ∷ []) (finish.Emit (expr.Struct (codes "Did") ((bind (codes "v") (expr.Name (codes "a"))) ∷ [])) ∷ [])

an_effect_is_emitted : item_is (an_effect_is_emitted_item ∷ base) [] an_effect_is_emitted_item ≡ true
an_effect_is_emitted = simp (inferred, fitting_rules, tree_rules)

-- finish function x(a int) { emit Put { n: a } }
abbrev a_command_is_not_emitted_item : Item
a_command_is_not_emitted_item = item.FinishFunction (codes "x") ((field (codes "a") field_type.Int) ∷ []) (finish.Emit (expr.Struct (codes "Put") ((bind (codes "n") (expr.Name (codes "a"))) ∷ [])) ∷ [])

a_command_is_not_emitted : item_is (a_command_is_not_emitted_item ∷ base) [] a_command_is_not_emitted_item ≡ false
a_command_is_not_emitted = simp (inferred, fitting_rules, tree_rules)

-- finish function x(a int) { emit Did { v: f(a) } }
abbrev no_call_inside_finish_item : Item
no_call_inside_finish_item = item.FinishFunction (codes "x") ((field (codes "a") field_type.Int) ∷ []) (finish.Emit (expr.Struct (codes "Did") ((bind (codes "v") (expr.Call (codes "f") ((expr.Name (codes "a")) ∷ []))) ∷ [])) ∷ [])

no_call_inside_finish : item_is (no_call_inside_finish_item ∷ base) [] no_call_inside_finish_item ≡ false
no_call_inside_finish = simp (inferred, fitting_rules, tree_rules)

-- finish function x(a int) { emit Did { v: this.n } }
abbrev no_this_in_a_finish_function_item : Item
no_this_in_a_finish_function_item = item.FinishFunction (codes "x") ((field (codes "a") field_type.Int) ∷ []) (finish.Emit (expr.Struct (codes "Did") ((bind (codes "v") (expr.Field expr.This (codes "n"))) ∷ [])) ∷ [])

no_this_in_a_finish_function : item_is (no_this_in_a_finish_function_item ∷ base) [] no_this_in_a_finish_function_item ≡ false
no_this_in_a_finish_function = simp (inferred, fitting_rules, tree_rules)

-- command X { fields { n int } .. policy { finish { note(this.n) } } }
abbrev this_in_the_finish_of_a_command_item : Item
this_in_the_finish_of_a_command_item = item.Command (codes "X") (section.Fields ((field (codes "n") field_type.Int) ∷ []) ∷ section.Seal ∷ section.Open ∷ section.Policy (stmt.Finish (finish.Call (codes "note") ((expr.Field expr.This (codes "n")) ∷ []) ∷ []) ∷ []) ∷ [])

this_in_the_finish_of_a_command : item_is (this_in_the_finish_of_a_command_item ∷ base) [] this_in_the_finish_of_a_command_item ≡ true
this_in_the_finish_of_a_command = simp (inferred, fitting_rules, tree_rules)

-- command X { fields { n int } .. policy { finish { f(this.n) } } }
abbrev a_function_is_no_finish_function_item : Item
a_function_is_no_finish_function_item = item.Command (codes "X") (section.Fields ((field (codes "n") field_type.Int) ∷ []) ∷ section.Seal ∷ section.Open ∷ section.Policy (stmt.Finish (finish.Call (codes "f") ((expr.Field expr.This (codes "n")) ∷ []) ∷ []) ∷ []) ∷ [])

a_function_is_no_finish_function : item_is (a_function_is_no_finish_function_item ∷ base) [] a_function_is_no_finish_function_item ≡ false
a_function_is_no_finish_function = simp (inferred, fitting_rules, tree_rules)

-- ---- calls

-- function x() int { return f(1) }
abbrev a_call_item : Item
a_call_item = item.Function (codes "x") [] field_type.Int (stmt.Return (expr.Call (codes "f") ((expr.Literal (literal.Number (pos 1))) ∷ [])) ∷ [])

a_call : item_is (a_call_item ∷ base) [] a_call_item ≡ true
a_call = simp (inferred, fitting_rules, tree_rules)

-- function x() int { return x() }
abbrev a_function_in_itself_item : Item
a_function_in_itself_item = item.Function (codes "x") [] field_type.Int (stmt.Return (expr.Call (codes "x") []) ∷ [])

a_function_in_itself : item_is (a_function_in_itself_item ∷ base) [] a_function_in_itself_item ≡ false
a_function_in_itself = simp (inferred, fitting_rules, tree_rules)
