-- A policy of counts, slots and words is well typed: each of its items passes behind the names before it.
use Rattle.std.proofs.Common.{◌≡◌, pos, true, false, List, [], ◌∷◌, codes, Option, Some, None}
use Rattle.std.specs.Str.{is_utf8, chars}
use lib.Utf8.{encode}
use Rattle.policy_ast.specs.declared.bind.Bind.{Bind}
use Rattle.policy_ast.specs.declared.expr.Arithmetic.TheVariants as arithmetic
use Rattle.policy_ast.specs.declared.expr.Comparison.TheVariants as comparison
use Rattle.policy_ast.specs.declared.expr.Count.TheVariants as count
use Rattle.policy_ast.specs.declared.expr.Expr.{Expr}
use Rattle.policy_ast.specs.declared.expr.Expr.TheVariants as expr
use Rattle.policy_ast.specs.declared.expr.Unary.TheVariants as unary
use Rattle.policy_ast.specs.declared.field.Field.{Field}
use Rattle.policy_ast.specs.declared.field.FieldType.{FieldType}
use Rattle.policy_ast.specs.declared.field.FieldType.TheVariants as field_type
use Rattle.policy_ast.specs.declared.finish.FinishStmt.TheVariants as finish
use Rattle.policy_ast.specs.declared.item.Item.{Item}
use Rattle.policy_ast.specs.declared.item.Item.TheVariants as item
use Rattle.policy_ast.specs.declared.item.Section.TheVariants as section
use Rattle.policy_ast.specs.declared.literal.Literal.TheVariants as literal
use Rattle.policy_ast.specs.declared.pattern.Free.{Free}
use Rattle.policy_ast.specs.declared.statement.Stmt.TheVariants as stmt
use Rattle.policy_rules.proofs.Fits.{fitting_rules}
use Rattle.policy_rules.proofs.Folds.{tree_rules}
use Rattle.policy_rules.specs.Names.{Name}
use Rattle.policy_rules.specs.Inference.{inferred}
use Rattle.policy_rules.specs.ItemJudging.{item_is}

abbrev field : Name → FieldType → Field
field name t = record { name = name; field_type = t }

abbrev bind : Name → Expr → Bind Expr
bind name e = record { name = name; value = e }

abbrev free : Name → Option Expr → Free Expr
free name e = record { name = name; value = e }

abbrev fact_count : Item
fact_count = item.Fact false (codes "Count") [] ((field (codes "n") field_type.Int) ∷ [])

abbrev fact_log : Item
fact_log = item.Fact false (codes "Log") ((field (codes "at") field_type.Int) ∷ []) ((field (codes "v") field_type.Int) ∷ [])

abbrev fact_slot : Item
fact_slot = item.Fact false (codes "Slot") ((field (codes "s") field_type.Int) ∷ []) ((field (codes "v") field_type.Int) ∷ [])

abbrev fact_word : Item
fact_word = item.Fact false (codes "Word") ((field (codes "a") field_type.Str) ∷ (field (codes "b") field_type.Int) ∷ []) ((field (codes "c") field_type.Int) ∷ [])

abbrev effect_did : Item
effect_did = item.Effect (codes "Did") ((record { field = field (codes "v") field_type.Int; is_dynamic = false }) ∷ [])

abbrev effect_lost : Item
effect_lost = item.Effect (codes "Lost") ((record { field = field (codes "v") field_type.Int; is_dynamic = false }) ∷ [])

abbrev finish_function_note : Item
finish_function_note = item.FinishFunction (codes "note") ((field (codes "v") field_type.Int) ∷ (field (codes "old") field_type.Int) ∷ (field (codes "now") field_type.Int) ∷ []) (finish.Create (codes "Log") ((bind (codes "at") (expr.Name (codes "now"))) ∷ []) ((bind (codes "v") (expr.Name (codes "v"))) ∷ []) ∷ finish.Update (record { fact = (codes "Count"); keys = []; values = (Some ((free (codes "n") (Some (expr.Name (codes "old")))) ∷ [])) }) ((bind (codes "n") (expr.Name (codes "now"))) ∷ []) ∷ finish.Emit (expr.Struct (codes "Did") ((bind (codes "v") (expr.Name (codes "v"))) ∷ [])) ∷ [])

abbrev command_begin : Item
command_begin = item.Command (codes "Begin") (section.Attributes ((record { name = (codes "init"); value = literal.True }) ∷ []) ∷ section.Fields [] ∷ section.Seal ∷ section.Open ∷ section.Policy (stmt.Finish (finish.Create (codes "Count") [] ((bind (codes "n") (expr.Literal (literal.Number (pos 0)))) ∷ []) ∷ []) ∷ []) ∷ [])

abbrev command_low : Item
command_low = item.Command (codes "Low") (section.Attributes ((record { name = (codes "priority"); value = (literal.Number (pos 1)) }) ∷ []) ∷ section.Fields ((field (codes "v") field_type.Int) ∷ []) ∷ section.Seal ∷ section.Open ∷ section.Policy (stmt.Let (record { name = (codes "c"); value = (expr.Unary unary.Unwrap (expr.Query (record { fact = (codes "Count"); keys = []; values = None }))) }) ∷ stmt.Let (record { name = (codes "now"); value = (expr.Arithmetic arithmetic.SaturatingAdd (expr.Field (expr.Name (codes "c")) (codes "n")) (expr.Literal (literal.Number (pos 1)))) }) ∷ stmt.Finish (finish.Call (codes "note") ((expr.Field expr.This (codes "v")) ∷ (expr.Field (expr.Name (codes "c")) (codes "n")) ∷ (expr.Name (codes "now")) ∷ []) ∷ []) ∷ []) ∷ [])

abbrev command_mid : Item
command_mid = item.Command (codes "Mid") (section.Attributes ((record { name = (codes "priority"); value = (literal.Number (pos 5)) }) ∷ []) ∷ section.Fields ((field (codes "v") field_type.Int) ∷ []) ∷ section.Seal ∷ section.Open ∷ section.Policy (stmt.Let (record { name = (codes "c"); value = (expr.Unary unary.Unwrap (expr.Query (record { fact = (codes "Count"); keys = []; values = None }))) }) ∷ stmt.Let (record { name = (codes "now"); value = (expr.Arithmetic arithmetic.SaturatingAdd (expr.Field (expr.Name (codes "c")) (codes "n")) (expr.Literal (literal.Number (pos 1)))) }) ∷ stmt.Finish (finish.Call (codes "note") ((expr.Field expr.This (codes "v")) ∷ (expr.Field (expr.Name (codes "c")) (codes "n")) ∷ (expr.Name (codes "now")) ∷ []) ∷ []) ∷ []) ∷ [])

abbrev command_high : Item
command_high = item.Command (codes "High") (section.Attributes ((record { name = (codes "priority"); value = (literal.Number (pos 10)) }) ∷ []) ∷ section.Fields ((field (codes "v") field_type.Int) ∷ []) ∷ section.Seal ∷ section.Open ∷ section.Policy (stmt.Let (record { name = (codes "c"); value = (expr.Unary unary.Unwrap (expr.Query (record { fact = (codes "Count"); keys = []; values = None }))) }) ∷ stmt.Let (record { name = (codes "now"); value = (expr.Arithmetic arithmetic.SaturatingAdd (expr.Field (expr.Name (codes "c")) (codes "n")) (expr.Literal (literal.Number (pos 1)))) }) ∷ stmt.Finish (finish.Call (codes "note") ((expr.Field expr.This (codes "v")) ∷ (expr.Field (expr.Name (codes "c")) (codes "n")) ∷ (expr.Name (codes "now")) ∷ []) ∷ []) ∷ []) ∷ [])

abbrev command_claim : Item
command_claim = item.Command (codes "Claim") (section.Attributes ((record { name = (codes "priority"); value = (literal.Number (pos 5)) }) ∷ []) ∷ section.Fields ((field (codes "s") field_type.Int) ∷ (field (codes "v") field_type.Int) ∷ []) ∷ section.Seal ∷ section.Open ∷ section.Policy (stmt.Check (expr.Unary unary.Not (expr.Exists (record { fact = (codes "Slot"); keys = ((free (codes "s") (Some (expr.Field expr.This (codes "s")))) ∷ []); values = None }))) ∷ stmt.Finish (finish.Create (codes "Slot") ((bind (codes "s") (expr.Field expr.This (codes "s"))) ∷ []) ((bind (codes "v") (expr.Field expr.This (codes "v"))) ∷ []) ∷ finish.Emit (expr.Struct (codes "Did") ((bind (codes "v") (expr.Field expr.This (codes "v"))) ∷ [])) ∷ []) ∷ []) ∷ section.Recall (stmt.Finish (finish.Emit (expr.Struct (codes "Lost") ((bind (codes "v") (expr.Field expr.This (codes "v"))) ∷ [])) ∷ []) ∷ []) ∷ [])

abbrev command_free : Item
command_free = item.Command (codes "Free") (section.Attributes ((record { name = (codes "priority"); value = (literal.Number (pos 10)) }) ∷ []) ∷ section.Fields ((field (codes "s") field_type.Int) ∷ []) ∷ section.Seal ∷ section.Open ∷ section.Policy (stmt.Check (expr.Exists (record { fact = (codes "Slot"); keys = ((free (codes "s") (Some (expr.Field expr.This (codes "s")))) ∷ []); values = None })) ∷ stmt.Finish (finish.Delete (codes "Slot") ((bind (codes "s") (expr.Field expr.This (codes "s"))) ∷ []) ∷ []) ∷ []) ∷ [])

abbrev command_say : Item
command_say = item.Command (codes "Say") (section.Fields ((field (codes "a") field_type.Str) ∷ (field (codes "b") field_type.Int) ∷ (field (codes "c") field_type.Int) ∷ []) ∷ section.Seal ∷ section.Open ∷ section.Policy (stmt.Finish (finish.Create (codes "Word") ((bind (codes "a") (expr.Field expr.This (codes "a"))) ∷ (bind (codes "b") (expr.Field expr.This (codes "b"))) ∷ []) ((bind (codes "c") (expr.Field expr.This (codes "c"))) ∷ []) ∷ []) ∷ []) ∷ [])

abbrev command_close : Item
command_close = item.Command (codes "Close") (section.Attributes ((record { name = (codes "finalize"); value = literal.True }) ∷ []) ∷ section.Fields [] ∷ section.Seal ∷ section.Open ∷ section.Policy (stmt.Finish [] ∷ []) ∷ [])

abbrev action_begin : Item
action_begin = item.Action (codes "begin") [] (stmt.Publish (expr.Struct (codes "Begin") []) ∷ [])

abbrev action_low : Item
action_low = item.Action (codes "low") ((field (codes "v") field_type.Int) ∷ []) (stmt.Publish (expr.Struct (codes "Low") ((bind (codes "v") (expr.Name (codes "v"))) ∷ [])) ∷ [])

abbrev action_mid : Item
action_mid = item.Action (codes "mid") ((field (codes "v") field_type.Int) ∷ []) (stmt.Publish (expr.Struct (codes "Mid") ((bind (codes "v") (expr.Name (codes "v"))) ∷ [])) ∷ [])

abbrev action_high : Item
action_high = item.Action (codes "high") ((field (codes "v") field_type.Int) ∷ []) (stmt.Publish (expr.Struct (codes "High") ((bind (codes "v") (expr.Name (codes "v"))) ∷ [])) ∷ [])

abbrev action_claim : Item
action_claim = item.Action (codes "claim") ((field (codes "s") field_type.Int) ∷ (field (codes "v") field_type.Int) ∷ []) (stmt.Publish (expr.Struct (codes "Claim") ((bind (codes "s") (expr.Name (codes "s"))) ∷ (bind (codes "v") (expr.Name (codes "v"))) ∷ [])) ∷ [])

abbrev action_free : Item
action_free = item.Action (codes "free") ((field (codes "s") field_type.Int) ∷ []) (stmt.Publish (expr.Struct (codes "Free") ((bind (codes "s") (expr.Name (codes "s"))) ∷ [])) ∷ [])

abbrev action_free_all : Item
action_free_all = item.Action (codes "free_all") [] (stmt.Map (record { fact = (codes "Slot"); keys = ((free (codes "s") None) ∷ []); values = None }) (codes "r") (stmt.Publish (expr.Struct (codes "Free") ((bind (codes "s") (expr.Field (expr.Name (codes "r")) (codes "s"))) ∷ [])) ∷ []) ∷ [])

abbrev action_say : Item
action_say = item.Action (codes "say") ((field (codes "a") field_type.Str) ∷ (field (codes "b") field_type.Int) ∷ (field (codes "c") field_type.Int) ∷ []) (stmt.Publish (expr.Struct (codes "Say") ((bind (codes "a") (expr.Name (codes "a"))) ∷ (bind (codes "b") (expr.Name (codes "b"))) ∷ (bind (codes "c") (expr.Name (codes "c"))) ∷ [])) ∷ [])

abbrev action_probe : Item
action_probe = item.Action (codes "probe") ((field (codes "want") field_type.Int) ∷ []) (stmt.Let (record { name = (codes "r"); value = (expr.Unary unary.Unwrap (expr.Query (record { fact = (codes "Word"); keys = ((free (codes "a") (Some (expr.Literal (literal.Text [])))) ∷ (free (codes "b") None) ∷ []); values = None }))) }) ∷ stmt.Check (expr.Compare (expr.Field (expr.Name (codes "r")) (codes "c")) comparison.Equal (expr.Name (codes "want"))) ∷ stmt.Check (expr.Compare (expr.Count count.CountUpTo (pos 5) (record { fact = (codes "Word"); keys = ((free (codes "a") (Some (expr.Literal (literal.Text [])))) ∷ (free (codes "b") None) ∷ []); values = None })) comparison.Equal (expr.Literal (literal.Number (pos 2)))) ∷ [])

abbrev action_close : Item
action_close = item.Action (codes "close") [] (stmt.Publish (expr.Struct (codes "Close") []) ∷ [])

abbrev items : List Item
items = fact_count ∷ fact_log ∷ fact_slot ∷ fact_word ∷ effect_did ∷ effect_lost ∷ finish_function_note ∷ command_begin ∷ command_low ∷ command_mid ∷ command_high ∷ command_claim ∷ command_free ∷ command_say ∷ command_close ∷ action_begin ∷ action_low ∷ action_mid ∷ action_high ∷ action_claim ∷ action_free ∷ action_free_all ∷ action_say ∷ action_probe ∷ action_close ∷ []

fact_count_is : item_is items [] fact_count ≡ true
fact_count_is = simp (inferred, fitting_rules, tree_rules)

fact_log_is : item_is items (codes "Count" ∷ []) fact_log ≡ true
fact_log_is = simp (inferred, fitting_rules, tree_rules)

fact_slot_is : item_is items (codes "Count" ∷ codes "Log" ∷ []) fact_slot ≡ true
fact_slot_is = simp (inferred, fitting_rules, tree_rules)

fact_word_is : item_is items (codes "Count" ∷ codes "Log" ∷ codes "Slot" ∷ []) fact_word ≡ true
fact_word_is = simp (inferred, fitting_rules, tree_rules)

effect_did_is : item_is items (codes "Count" ∷ codes "Log" ∷ codes "Slot" ∷ codes "Word" ∷ []) effect_did ≡ true
effect_did_is = simp (inferred, fitting_rules, tree_rules)

effect_lost_is : item_is items (codes "Count" ∷ codes "Log" ∷ codes "Slot" ∷ codes "Word" ∷ codes "Did" ∷ []) effect_lost ≡ true
effect_lost_is = simp (inferred, fitting_rules, tree_rules)

finish_function_note_is : item_is items (codes "Count" ∷ codes "Log" ∷ codes "Slot" ∷ codes "Word" ∷ codes "Did" ∷ codes "Lost" ∷ []) finish_function_note ≡ true
finish_function_note_is = simp (inferred, fitting_rules, tree_rules)

command_begin_is : item_is items (codes "Count" ∷ codes "Log" ∷ codes "Slot" ∷ codes "Word" ∷ codes "Did" ∷ codes "Lost" ∷ codes "note" ∷ []) command_begin ≡ true
command_begin_is = simp (inferred, fitting_rules, tree_rules)

command_low_is : item_is items (codes "Count" ∷ codes "Log" ∷ codes "Slot" ∷ codes "Word" ∷ codes "Did" ∷ codes "Lost" ∷ codes "note" ∷ codes "Begin" ∷ []) command_low ≡ true
command_low_is = simp (inferred, fitting_rules, tree_rules)

command_mid_is : item_is items (codes "Count" ∷ codes "Log" ∷ codes "Slot" ∷ codes "Word" ∷ codes "Did" ∷ codes "Lost" ∷ codes "note" ∷ codes "Begin" ∷ codes "Low" ∷ []) command_mid ≡ true
command_mid_is = simp (inferred, fitting_rules, tree_rules)

command_high_is : item_is items (codes "Count" ∷ codes "Log" ∷ codes "Slot" ∷ codes "Word" ∷ codes "Did" ∷ codes "Lost" ∷ codes "note" ∷ codes "Begin" ∷ codes "Low" ∷ codes "Mid" ∷ []) command_high ≡ true
command_high_is = simp (inferred, fitting_rules, tree_rules)

command_claim_is : item_is items (codes "Count" ∷ codes "Log" ∷ codes "Slot" ∷ codes "Word" ∷ codes "Did" ∷ codes "Lost" ∷ codes "note" ∷ codes "Begin" ∷ codes "Low" ∷ codes "Mid" ∷ codes "High" ∷ []) command_claim ≡ true
command_claim_is = simp (inferred, fitting_rules, tree_rules)

command_free_is : item_is items (codes "Count" ∷ codes "Log" ∷ codes "Slot" ∷ codes "Word" ∷ codes "Did" ∷ codes "Lost" ∷ codes "note" ∷ codes "Begin" ∷ codes "Low" ∷ codes "Mid" ∷ codes "High" ∷ codes "Claim" ∷ []) command_free ≡ true
command_free_is = simp (inferred, fitting_rules, tree_rules)

command_say_is : item_is items (codes "Count" ∷ codes "Log" ∷ codes "Slot" ∷ codes "Word" ∷ codes "Did" ∷ codes "Lost" ∷ codes "note" ∷ codes "Begin" ∷ codes "Low" ∷ codes "Mid" ∷ codes "High" ∷ codes "Claim" ∷ codes "Free" ∷ []) command_say ≡ true
command_say_is = simp (inferred, fitting_rules, tree_rules)

command_close_is : item_is items (codes "Count" ∷ codes "Log" ∷ codes "Slot" ∷ codes "Word" ∷ codes "Did" ∷ codes "Lost" ∷ codes "note" ∷ codes "Begin" ∷ codes "Low" ∷ codes "Mid" ∷ codes "High" ∷ codes "Claim" ∷ codes "Free" ∷ codes "Say" ∷ []) command_close ≡ true
command_close_is = simp (inferred, fitting_rules, tree_rules)

action_begin_is : item_is items (codes "Count" ∷ codes "Log" ∷ codes "Slot" ∷ codes "Word" ∷ codes "Did" ∷ codes "Lost" ∷ codes "note" ∷ codes "Begin" ∷ codes "Low" ∷ codes "Mid" ∷ codes "High" ∷ codes "Claim" ∷ codes "Free" ∷ codes "Say" ∷ codes "Close" ∷ []) action_begin ≡ true
action_begin_is = simp (inferred, fitting_rules, tree_rules)

action_low_is : item_is items (codes "Count" ∷ codes "Log" ∷ codes "Slot" ∷ codes "Word" ∷ codes "Did" ∷ codes "Lost" ∷ codes "note" ∷ codes "Begin" ∷ codes "Low" ∷ codes "Mid" ∷ codes "High" ∷ codes "Claim" ∷ codes "Free" ∷ codes "Say" ∷ codes "Close" ∷ codes "begin" ∷ []) action_low ≡ true
action_low_is = simp (inferred, fitting_rules, tree_rules)

action_mid_is : item_is items (codes "Count" ∷ codes "Log" ∷ codes "Slot" ∷ codes "Word" ∷ codes "Did" ∷ codes "Lost" ∷ codes "note" ∷ codes "Begin" ∷ codes "Low" ∷ codes "Mid" ∷ codes "High" ∷ codes "Claim" ∷ codes "Free" ∷ codes "Say" ∷ codes "Close" ∷ codes "begin" ∷ codes "low" ∷ []) action_mid ≡ true
action_mid_is = simp (inferred, fitting_rules, tree_rules)

action_high_is : item_is items (codes "Count" ∷ codes "Log" ∷ codes "Slot" ∷ codes "Word" ∷ codes "Did" ∷ codes "Lost" ∷ codes "note" ∷ codes "Begin" ∷ codes "Low" ∷ codes "Mid" ∷ codes "High" ∷ codes "Claim" ∷ codes "Free" ∷ codes "Say" ∷ codes "Close" ∷ codes "begin" ∷ codes "low" ∷ codes "mid" ∷ []) action_high ≡ true
action_high_is = simp (inferred, fitting_rules, tree_rules)

action_claim_is : item_is items (codes "Count" ∷ codes "Log" ∷ codes "Slot" ∷ codes "Word" ∷ codes "Did" ∷ codes "Lost" ∷ codes "note" ∷ codes "Begin" ∷ codes "Low" ∷ codes "Mid" ∷ codes "High" ∷ codes "Claim" ∷ codes "Free" ∷ codes "Say" ∷ codes "Close" ∷ codes "begin" ∷ codes "low" ∷ codes "mid" ∷ codes "high" ∷ []) action_claim ≡ true
action_claim_is = simp (inferred, fitting_rules, tree_rules)

action_free_is : item_is items (codes "Count" ∷ codes "Log" ∷ codes "Slot" ∷ codes "Word" ∷ codes "Did" ∷ codes "Lost" ∷ codes "note" ∷ codes "Begin" ∷ codes "Low" ∷ codes "Mid" ∷ codes "High" ∷ codes "Claim" ∷ codes "Free" ∷ codes "Say" ∷ codes "Close" ∷ codes "begin" ∷ codes "low" ∷ codes "mid" ∷ codes "high" ∷ codes "claim" ∷ []) action_free ≡ true
action_free_is = simp (inferred, fitting_rules, tree_rules)

action_free_all_is : item_is items (codes "Count" ∷ codes "Log" ∷ codes "Slot" ∷ codes "Word" ∷ codes "Did" ∷ codes "Lost" ∷ codes "note" ∷ codes "Begin" ∷ codes "Low" ∷ codes "Mid" ∷ codes "High" ∷ codes "Claim" ∷ codes "Free" ∷ codes "Say" ∷ codes "Close" ∷ codes "begin" ∷ codes "low" ∷ codes "mid" ∷ codes "high" ∷ codes "claim" ∷ codes "free" ∷ []) action_free_all ≡ true
action_free_all_is = simp (inferred, fitting_rules, tree_rules)

action_say_is : item_is items (codes "Count" ∷ codes "Log" ∷ codes "Slot" ∷ codes "Word" ∷ codes "Did" ∷ codes "Lost" ∷ codes "note" ∷ codes "Begin" ∷ codes "Low" ∷ codes "Mid" ∷ codes "High" ∷ codes "Claim" ∷ codes "Free" ∷ codes "Say" ∷ codes "Close" ∷ codes "begin" ∷ codes "low" ∷ codes "mid" ∷ codes "high" ∷ codes "claim" ∷ codes "free" ∷ codes "free_all" ∷ []) action_say ≡ true
action_say_is = simp (inferred, fitting_rules, tree_rules)

action_probe_is : item_is items (codes "Count" ∷ codes "Log" ∷ codes "Slot" ∷ codes "Word" ∷ codes "Did" ∷ codes "Lost" ∷ codes "note" ∷ codes "Begin" ∷ codes "Low" ∷ codes "Mid" ∷ codes "High" ∷ codes "Claim" ∷ codes "Free" ∷ codes "Say" ∷ codes "Close" ∷ codes "begin" ∷ codes "low" ∷ codes "mid" ∷ codes "high" ∷ codes "claim" ∷ codes "free" ∷ codes "free_all" ∷ codes "say" ∷ []) action_probe ≡ true
unfolding is_utf8 chars encode
action_probe_is = simp (inferred, fitting_rules, tree_rules)

action_close_is : item_is items (codes "Count" ∷ codes "Log" ∷ codes "Slot" ∷ codes "Word" ∷ codes "Did" ∷ codes "Lost" ∷ codes "note" ∷ codes "Begin" ∷ codes "Low" ∷ codes "Mid" ∷ codes "High" ∷ codes "Claim" ∷ codes "Free" ∷ codes "Say" ∷ codes "Close" ∷ codes "begin" ∷ codes "low" ∷ codes "mid" ∷ codes "high" ∷ codes "claim" ∷ codes "free" ∷ codes "free_all" ∷ codes "say" ∷ codes "probe" ∷ []) action_close ≡ true
action_close_is = simp (inferred, fitting_rules, tree_rules)
