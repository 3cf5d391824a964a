-- A policy of notes, and users who write them, is well typed: each of its items passes behind the names before it.
use Rattle.std.proofs.Common.{◌≡◌, pos, true, false, List, [], ◌∷◌, codes, Option, Some, None, refl}
use Rattle.std.specs.Str.{is_utf8, chars}
use lib.Utf8.{encode}
use Rattle.policy_ast.specs.declared.bind.Bind.{Bind}
use Rattle.policy_ast.specs.declared.expr.Expr.{Expr}
use Rattle.policy_ast.specs.declared.expr.Expr.TheVariants as expr
use Rattle.policy_ast.specs.declared.expr.Unary.TheVariants as unary
use Rattle.policy_ast.specs.declared.field.Field.{Field}
use Rattle.policy_ast.specs.declared.field.FieldType.{FieldType}
use Rattle.policy_ast.specs.declared.field.FieldType.TheVariants as field_type
use Rattle.policy_ast.specs.declared.finish.FinishStmt.TheVariants as finish
use Rattle.policy_ast.specs.declared.item.Item.{Item}
use Rattle.policy_ast.specs.declared.item.Item.TheVariants as item
use Rattle.policy_ast.specs.declared.item.Section.TheVariants as section
use Rattle.policy_ast.specs.declared.literal.Literal.TheVariants as literal
use Rattle.policy_ast.specs.declared.pattern.Free.{Free}
use Rattle.policy_ast.specs.declared.statement.Stmt.TheVariants as stmt
use Rattle.policy_rules.proofs.Fits.{fitting_rules}
use Rattle.policy_rules.proofs.Folds.{tree_rules}
use Rattle.policy_rules.specs.Names.{Name}
use Rattle.policy_rules.specs.Inference.{inferred}
use Rattle.policy_rules.specs.ItemJudging.{item_is}

abbrev field : Name → FieldType → Field
field name t = record { name = name; field_type = t }

abbrev bind : Name → Expr → Bind Expr
bind name e = record { name = name; value = e }

abbrev free : Name → Option Expr → Free Expr
free name e = record { name = name; value = e }

abbrev used : Item
used = item.Use (codes "envelope")

abbrev enum_role : Item
enum_role = item.Enum (codes "Role") ((codes "Owner") ∷ (codes "Member") ∷ [])

abbrev fact_user : Item
fact_user = item.Fact false (codes "User") ((field (codes "user") field_type.Ident) ∷ []) ((field (codes "role") (field_type.Enum (codes "Role"))) ∷ [])

abbrev fact_note : Item
fact_note = item.Fact false (codes "Note") ((field (codes "topic") field_type.Str) ∷ (field (codes "n") field_type.Int) ∷ []) ((field (codes "text") field_type.Str) ∷ [])

abbrev effect_user_added : Item
effect_user_added = item.Effect (codes "UserAdded") ((record { field = field (codes "user") field_type.Ident; is_dynamic = false }) ∷ (record { field = field (codes "role") (field_type.Enum (codes "Role")); is_dynamic = false }) ∷ [])

abbrev effect_user_removed : Item
effect_user_removed = item.Effect (codes "UserRemoved") ((record { field = field (codes "user") field_type.Ident; is_dynamic = false }) ∷ [])

abbrev effect_note_written : Item
effect_note_written = item.Effect (codes "NoteWritten") ((record { field = field (codes "topic") field_type.Str; is_dynamic = false }) ∷ (record { field = field (codes "n") field_type.Int; is_dynamic = false }) ∷ (record { field = field (codes "text") field_type.Str; is_dynamic = false }) ∷ [])

abbrev effect_note_lost : Item
effect_note_lost = item.Effect (codes "NoteLost") ((record { field = field (codes "topic") field_type.Str; is_dynamic = false }) ∷ (record { field = field (codes "n") field_type.Int; is_dynamic = false }) ∷ [])

abbrev function_is_owner : Item
function_is_owner = item.Function (codes "is_owner") ((field (codes "user") field_type.Ident) ∷ []) field_type.Bool (stmt.Return (expr.Exists (record { fact = (codes "User"); keys = ((free (codes "user") (Some (expr.Name (codes "user")))) ∷ []); values = (Some ((free (codes "role") (Some (expr.Literal (literal.Variant (codes "Role") (codes "Owner"))))) ∷ [])) })) ∷ [])

abbrev finish_function_set_user : Item
finish_function_set_user = item.FinishFunction (codes "set_user") ((field (codes "user") field_type.Ident) ∷ (field (codes "role") (field_type.Enum (codes "Role"))) ∷ []) (finish.Create (codes "User") ((bind (codes "user") (expr.Name (codes "user"))) ∷ []) ((bind (codes "role") (expr.Name (codes "role"))) ∷ []) ∷ finish.Emit (expr.Struct (codes "UserAdded") ((bind (codes "user") (expr.Name (codes "user"))) ∷ (bind (codes "role") (expr.Name (codes "role"))) ∷ [])) ∷ [])

abbrev command_create_team : Item
command_create_team = item.Command (codes "CreateTeam") (section.Attributes ((record { name = (codes "init"); value = literal.True }) ∷ []) ∷ section.Fields [] ∷ section.Seal ∷ section.Open ∷ section.Policy (stmt.Let (record { name = (codes "author"); value = (expr.ForeignCall (codes "envelope") (codes "author_id") ((expr.Name (codes "envelope")) ∷ [])) }) ∷ stmt.Finish (finish.Call (codes "set_user") ((expr.Name (codes "author")) ∷ (expr.Literal (literal.Variant (codes "Role") (codes "Owner"))) ∷ []) ∷ []) ∷ []) ∷ [])

abbrev command_add_user : Item
command_add_user = item.Command (codes "AddUser") (section.Attributes ((record { name = (codes "priority"); value = (literal.Number (pos 20)) }) ∷ []) ∷ section.Fields ((field (codes "user") field_type.Ident) ∷ (field (codes "role") (field_type.Enum (codes "Role"))) ∷ []) ∷ section.Seal ∷ section.Open ∷ section.Policy (stmt.Let (record { name = (codes "author"); value = (expr.ForeignCall (codes "envelope") (codes "author_id") ((expr.Name (codes "envelope")) ∷ [])) }) ∷ stmt.Check (expr.Call (codes "is_owner") ((expr.Name (codes "author")) ∷ [])) ∷ stmt.Check (expr.Unary unary.Not (expr.Exists (record { fact = (codes "User"); keys = ((free (codes "user") (Some (expr.Field expr.This (codes "user")))) ∷ []); values = None }))) ∷ stmt.Finish (finish.Call (codes "set_user") ((expr.Field expr.This (codes "user")) ∷ (expr.Field expr.This (codes "role")) ∷ []) ∷ []) ∷ []) ∷ [])

abbrev command_remove_user : Item
command_remove_user = item.Command (codes "RemoveUser") (section.Attributes ((record { name = (codes "priority"); value = (literal.Number (pos 30)) }) ∷ []) ∷ section.Fields ((field (codes "user") field_type.Ident) ∷ []) ∷ section.Seal ∷ section.Open ∷ section.Policy (stmt.Let (record { name = (codes "author"); value = (expr.ForeignCall (codes "envelope") (codes "author_id") ((expr.Name (codes "envelope")) ∷ [])) }) ∷ stmt.Check (expr.Call (codes "is_owner") ((expr.Name (codes "author")) ∷ [])) ∷ stmt.Let (record { name = (codes "gone"); value = (expr.Unary unary.CheckUnwrap (expr.Query (record { fact = (codes "User"); keys = ((free (codes "user") (Some (expr.Field expr.This (codes "user")))) ∷ []); values = None }))) }) ∷ stmt.Finish (finish.Delete (codes "User") ((bind (codes "user") (expr.Field (expr.Name (codes "gone")) (codes "user"))) ∷ []) ∷ finish.Emit (expr.Struct (codes "UserRemoved") ((bind (codes "user") (expr.Field (expr.Name (codes "gone")) (codes "user"))) ∷ [])) ∷ []) ∷ []) ∷ [])

abbrev command_write_note : Item
command_write_note = item.Command (codes "WriteNote") (section.Attributes ((record { name = (codes "priority"); value = (literal.Number (pos 10)) }) ∷ []) ∷ section.Fields ((field (codes "topic") field_type.Str) ∷ (field (codes "n") field_type.Int) ∷ (field (codes "text") field_type.Str) ∷ []) ∷ section.Seal ∷ section.Open ∷ section.Policy (stmt.Let (record { name = (codes "author"); value = (expr.ForeignCall (codes "envelope") (codes "author_id") ((expr.Name (codes "envelope")) ∷ [])) }) ∷ stmt.Check (expr.Exists (record { fact = (codes "User"); keys = ((free (codes "user") (Some (expr.Name (codes "author")))) ∷ []); values = None })) ∷ stmt.Check (expr.Unary unary.Not (expr.Exists (record { fact = (codes "Note"); keys = ((free (codes "topic") (Some (expr.Field expr.This (codes "topic")))) ∷ (free (codes "n") (Some (expr.Field expr.This (codes "n")))) ∷ []); values = None }))) ∷ stmt.Finish (finish.Create (codes "Note") ((bind (codes "topic") (expr.Field expr.This (codes "topic"))) ∷ (bind (codes "n") (expr.Field expr.This (codes "n"))) ∷ []) ((bind (codes "text") (expr.Field expr.This (codes "text"))) ∷ []) ∷ finish.Emit (expr.Struct (codes "NoteWritten") ((bind (codes "topic") (expr.Field expr.This (codes "topic"))) ∷ (bind (codes "n") (expr.Field expr.This (codes "n"))) ∷ (bind (codes "text") (expr.Field expr.This (codes "text"))) ∷ [])) ∷ []) ∷ []) ∷ section.Recall (stmt.Finish (finish.Emit (expr.Struct (codes "NoteLost") ((bind (codes "topic") (expr.Field expr.This (codes "topic"))) ∷ (bind (codes "n") (expr.Field expr.This (codes "n"))) ∷ [])) ∷ []) ∷ []) ∷ [])

abbrev command_close_epoch : Item
command_close_epoch = item.Command (codes "CloseEpoch") (section.Attributes ((record { name = (codes "finalize"); value = literal.True }) ∷ []) ∷ section.Fields [] ∷ section.Seal ∷ section.Open ∷ section.Policy (stmt.Let (record { name = (codes "author"); value = (expr.ForeignCall (codes "envelope") (codes "author_id") ((expr.Name (codes "envelope")) ∷ [])) }) ∷ stmt.Check (expr.Call (codes "is_owner") ((expr.Name (codes "author")) ∷ [])) ∷ stmt.Finish [] ∷ []) ∷ [])

abbrev action_create_team : Item
action_create_team = item.Action (codes "create_team") [] (stmt.Publish (expr.Struct (codes "CreateTeam") []) ∷ [])

abbrev action_add_user : Item
action_add_user = item.Action (codes "add_user") ((field (codes "user") field_type.Ident) ∷ (field (codes "role") (field_type.Enum (codes "Role"))) ∷ []) (stmt.Publish (expr.Struct (codes "AddUser") ((bind (codes "user") (expr.Name (codes "user"))) ∷ (bind (codes "role") (expr.Name (codes "role"))) ∷ [])) ∷ [])

abbrev action_remove_user : Item
action_remove_user = item.Action (codes "remove_user") ((field (codes "user") field_type.Ident) ∷ []) (stmt.Publish (expr.Struct (codes "RemoveUser") ((bind (codes "user") (expr.Name (codes "user"))) ∷ [])) ∷ [])

abbrev action_write_note : Item
action_write_note = item.Action (codes "write_note") ((field (codes "topic") field_type.Str) ∷ (field (codes "n") field_type.Int) ∷ (field (codes "text") field_type.Str) ∷ []) (stmt.Publish (expr.Struct (codes "WriteNote") ((bind (codes "topic") (expr.Name (codes "topic"))) ∷ (bind (codes "n") (expr.Name (codes "n"))) ∷ (bind (codes "text") (expr.Name (codes "text"))) ∷ [])) ∷ [])

abbrev action_write_two : Item
action_write_two = item.Action (codes "write_two") ((field (codes "topic") field_type.Str) ∷ (field (codes "a") field_type.Int) ∷ (field (codes "b") field_type.Int) ∷ []) (stmt.Publish (expr.Struct (codes "WriteNote") ((bind (codes "topic") (expr.Name (codes "topic"))) ∷ (bind (codes "n") (expr.Name (codes "a"))) ∷ (bind (codes "text") (expr.Literal (literal.Text (codes "one")))) ∷ [])) ∷ stmt.Publish (expr.Struct (codes "WriteNote") ((bind (codes "topic") (expr.Name (codes "topic"))) ∷ (bind (codes "n") (expr.Name (codes "b"))) ∷ (bind (codes "text") (expr.Literal (literal.Text (codes "two")))) ∷ [])) ∷ [])

abbrev action_close_epoch : Item
action_close_epoch = item.Action (codes "close_epoch") [] (stmt.Publish (expr.Struct (codes "CloseEpoch") []) ∷ [])

abbrev items : List Item
items = used ∷ enum_role ∷ fact_user ∷ fact_note ∷ effect_user_added ∷ effect_user_removed ∷ effect_note_written ∷ effect_note_lost ∷ function_is_owner ∷ finish_function_set_user ∷ command_create_team ∷ command_add_user ∷ command_remove_user ∷ command_write_note ∷ command_close_epoch ∷ action_create_team ∷ action_add_user ∷ action_remove_user ∷ action_write_note ∷ action_write_two ∷ action_close_epoch ∷ []

used_is : item_is items [] used ≡ true
used_is = refl

enum_role_is : item_is items [] enum_role ≡ true
enum_role_is = refl

fact_user_is : item_is items (codes "Role" ∷ []) fact_user ≡ true
fact_user_is = simp (inferred, fitting_rules, tree_rules)

fact_note_is : item_is items (codes "Role" ∷ codes "User" ∷ []) fact_note ≡ true
fact_note_is = simp (inferred, fitting_rules, tree_rules)

effect_user_added_is : item_is items (codes "Role" ∷ codes "User" ∷ codes "Note" ∷ []) effect_user_added ≡ true
effect_user_added_is = simp (inferred, fitting_rules, tree_rules)

effect_user_removed_is : item_is items (codes "Role" ∷ codes "User" ∷ codes "Note" ∷ codes "UserAdded" ∷ []) effect_user_removed ≡ true
effect_user_removed_is = simp (inferred, fitting_rules, tree_rules)

effect_note_written_is : item_is items (codes "Role" ∷ codes "User" ∷ codes "Note" ∷ codes "UserAdded" ∷ codes "UserRemoved" ∷ []) effect_note_written ≡ true
effect_note_written_is = simp (inferred, fitting_rules, tree_rules)

effect_note_lost_is : item_is items (codes "Role" ∷ codes "User" ∷ codes "Note" ∷ codes "UserAdded" ∷ codes "UserRemoved" ∷ codes "NoteWritten" ∷ []) effect_note_lost ≡ true
effect_note_lost_is = simp (inferred, fitting_rules, tree_rules)

function_is_owner_is : item_is items (codes "Role" ∷ codes "User" ∷ codes "Note" ∷ codes "UserAdded" ∷ codes "UserRemoved" ∷ codes "NoteWritten" ∷ codes "NoteLost" ∷ []) function_is_owner ≡ true
function_is_owner_is = simp (inferred, fitting_rules, tree_rules)

finish_function_set_user_is : item_is items (codes "Role" ∷ codes "User" ∷ codes "Note" ∷ codes "UserAdded" ∷ codes "UserRemoved" ∷ codes "NoteWritten" ∷ codes "NoteLost" ∷ codes "is_owner" ∷ []) finish_function_set_user ≡ true
finish_function_set_user_is = simp (inferred, fitting_rules, tree_rules)

command_create_team_is : item_is items (codes "Role" ∷ codes "User" ∷ codes "Note" ∷ codes "UserAdded" ∷ codes "UserRemoved" ∷ codes "NoteWritten" ∷ codes "NoteLost" ∷ codes "is_owner" ∷ codes "set_user" ∷ []) command_create_team ≡ true
command_create_team_is = simp (inferred, fitting_rules, tree_rules)

command_add_user_is : item_is items (codes "Role" ∷ codes "User" ∷ codes "Note" ∷ codes "UserAdded" ∷ codes "UserRemoved" ∷ codes "NoteWritten" ∷ codes "NoteLost" ∷ codes "is_owner" ∷ codes "set_user" ∷ codes "CreateTeam" ∷ []) command_add_user ≡ true
command_add_user_is = simp (inferred, fitting_rules, tree_rules)

command_remove_user_is : item_is items (codes "Role" ∷ codes "User" ∷ codes "Note" ∷ codes "UserAdded" ∷ codes "UserRemoved" ∷ codes "NoteWritten" ∷ codes "NoteLost" ∷ codes "is_owner" ∷ codes "set_user" ∷ codes "CreateTeam" ∷ codes "AddUser" ∷ []) command_remove_user ≡ true
command_remove_user_is = simp (inferred, fitting_rules, tree_rules)

command_write_note_is : item_is items (codes "Role" ∷ codes "User" ∷ codes "Note" ∷ codes "UserAdded" ∷ codes "UserRemoved" ∷ codes "NoteWritten" ∷ codes "NoteLost" ∷ codes "is_owner" ∷ codes "set_user" ∷ codes "CreateTeam" ∷ codes "AddUser" ∷ codes "RemoveUser" ∷ []) command_write_note ≡ true
command_write_note_is = simp (inferred, fitting_rules, tree_rules)

command_close_epoch_is : item_is items (codes "Role" ∷ codes "User" ∷ codes "Note" ∷ codes "UserAdded" ∷ codes "UserRemoved" ∷ codes "NoteWritten" ∷ codes "NoteLost" ∷ codes "is_owner" ∷ codes "set_user" ∷ codes "CreateTeam" ∷ codes "AddUser" ∷ codes "RemoveUser" ∷ codes "WriteNote" ∷ []) command_close_epoch ≡ true
command_close_epoch_is = simp (inferred, fitting_rules, tree_rules)

action_create_team_is : item_is items (codes "Role" ∷ codes "User" ∷ codes "Note" ∷ codes "UserAdded" ∷ codes "UserRemoved" ∷ codes "NoteWritten" ∷ codes "NoteLost" ∷ codes "is_owner" ∷ codes "set_user" ∷ codes "CreateTeam" ∷ codes "AddUser" ∷ codes "RemoveUser" ∷ codes "WriteNote" ∷ codes "CloseEpoch" ∷ []) action_create_team ≡ true
action_create_team_is = simp (inferred, fitting_rules, tree_rules)

action_add_user_is : item_is items (codes "Role" ∷ codes "User" ∷ codes "Note" ∷ codes "UserAdded" ∷ codes "UserRemoved" ∷ codes "NoteWritten" ∷ codes "NoteLost" ∷ codes "is_owner" ∷ codes "set_user" ∷ codes "CreateTeam" ∷ codes "AddUser" ∷ codes "RemoveUser" ∷ codes "WriteNote" ∷ codes "CloseEpoch" ∷ codes "create_team" ∷ []) action_add_user ≡ true
action_add_user_is = simp (inferred, fitting_rules, tree_rules)

action_remove_user_is : item_is items (codes "Role" ∷ codes "User" ∷ codes "Note" ∷ codes "UserAdded" ∷ codes "UserRemoved" ∷ codes "NoteWritten" ∷ codes "NoteLost" ∷ codes "is_owner" ∷ codes "set_user" ∷ codes "CreateTeam" ∷ codes "AddUser" ∷ codes "RemoveUser" ∷ codes "WriteNote" ∷ codes "CloseEpoch" ∷ codes "create_team" ∷ codes "add_user" ∷ []) action_remove_user ≡ true
action_remove_user_is = simp (inferred, fitting_rules, tree_rules)

action_write_note_is : item_is items (codes "Role" ∷ codes "User" ∷ codes "Note" ∷ codes "UserAdded" ∷ codes "UserRemoved" ∷ codes "NoteWritten" ∷ codes "NoteLost" ∷ codes "is_owner" ∷ codes "set_user" ∷ codes "CreateTeam" ∷ codes "AddUser" ∷ codes "RemoveUser" ∷ codes "WriteNote" ∷ codes "CloseEpoch" ∷ codes "create_team" ∷ codes "add_user" ∷ codes "remove_user" ∷ []) action_write_note ≡ true
action_write_note_is = simp (inferred, fitting_rules, tree_rules)

action_write_two_is : item_is items (codes "Role" ∷ codes "User" ∷ codes "Note" ∷ codes "UserAdded" ∷ codes "UserRemoved" ∷ codes "NoteWritten" ∷ codes "NoteLost" ∷ codes "is_owner" ∷ codes "set_user" ∷ codes "CreateTeam" ∷ codes "AddUser" ∷ codes "RemoveUser" ∷ codes "WriteNote" ∷ codes "CloseEpoch" ∷ codes "create_team" ∷ codes "add_user" ∷ codes "remove_user" ∷ codes "write_note" ∷ []) action_write_two ≡ true
unfolding is_utf8 chars encode
action_write_two_is = simp (inferred, fitting_rules, tree_rules)

action_close_epoch_is : item_is items (codes "Role" ∷ codes "User" ∷ codes "Note" ∷ codes "UserAdded" ∷ codes "UserRemoved" ∷ codes "NoteWritten" ∷ codes "NoteLost" ∷ codes "is_owner" ∷ codes "set_user" ∷ codes "CreateTeam" ∷ codes "AddUser" ∷ codes "RemoveUser" ∷ codes "WriteNote" ∷ codes "CloseEpoch" ∷ codes "create_team" ∷ codes "add_user" ∷ codes "remove_user" ∷ codes "write_note" ∷ codes "write_two" ∷ []) action_close_epoch ≡ true
action_close_epoch_is = simp (inferred, fitting_rules, tree_rules)
