-- The numbers of the items that an item leads to: by calls, and by the structs of its fields.
use Rattle.std.specs.Prelude.{◌≡◌, ℕ, Bool, true, ◌&&◌, if◌then◌else◌, List, [], ◌∷◌, Option, Some, None, option_map, unwrap_or}
use Rattle.std.specs.List.{list_all}
use Rattle.std.specs.Option.{is_some}
use Rattle.policy_ast.specs.declared.expr.ElseExpr.{ElseExpr}
use Rattle.policy_ast.specs.declared.expr.ElseExpr.TheVariants as else_expr
use Rattle.policy_ast.specs.declared.expr.Expr.{Expr}
use Rattle.policy_ast.specs.declared.finish.FinishStmt.{FinishStmt}
use Rattle.policy_ast.specs.declared.item.Item.{Item}
use Rattle.policy_ast.specs.declared.statement.Else.{Else}
use Rattle.policy_ast.specs.declared.statement.Else.TheVariants as else_stmt
use Rattle.policy_ast.specs.declared.statement.Stmt.{Stmt}
use Rattle.policy_rules.specs.Calls.{Callee, expression_calls, finish_calls, is_no_call, item_calls, statement_calls}
use Rattle.policy_rules.specs.Heads.{struct_named, written_fields}
use Rattle.policy_rules.specs.Names.{Name, item_named, number_named}
use Rattle.policy_rules.specs.Nesting.{struct_passes}
use Rattle.policy_rules.specs.Types.{declared}
use Rattle.policy_rules.specs.declared.types.Named.{Named}

-- Those of the new list are those of the old one, and others: they all pass a test exactly where the old ones do and these.
abbrev pub Gathers : List ℕ → List ℕ → ((ℕ → Bool) → Bool) → Type 0
Gathers old new others = (test : ℕ → Bool) → list_all test new ≡ (list_all test old && others test)

-- ---- calls

-- The number of the function, or of the finish function, that is called by a name.
abbrev pub called_number : List Item → Callee → Name → Option ℕ
called_number items callee name = if is_no_call callee (item_named items name) then None else number_named items name

-- What is called passes a test; a name that means no such thing does.
abbrev pub call_passes : List Item → (ℕ → Bool) → Callee → Name → Bool
call_passes items test callee name = unwrap_or (option_map test (called_number items callee name)) true

-- All that an expression calls passes the test.
unfoldable pub expression_passes : List Item → (ℕ → Bool) → Expr → Bool
expression_passes items test e = expression_calls (call_passes items test) e

-- The same of an expression where a `?` may stand.
abbrev pub gap_passes : List Item → (ℕ → Bool) → Option Expr → Bool
gap_passes items test None = true
gap_passes items test (Some e) = expression_passes items test e

-- The same of what follows `else` in an expression.
abbrev pub else_passes : List Item → (ℕ → Bool) → ElseExpr Expr → Bool
else_passes items test (else_expr.Block b) = list_all (λ l. expression_passes items test l.value) b.lets && expression_passes items test b.value
else_passes items test (else_expr.If e) = expression_passes items test e

-- The same of a statement of `finish`, of a statement and of an item.
unfoldable pub finish_passes : List Item → (ℕ → Bool) → FinishStmt → Bool
finish_passes items test s = finish_calls (call_passes items test) s

unfoldable pub statement_passes : List Item → (ℕ → Bool) → Stmt → Bool
statement_passes items test s = statement_calls (call_passes items test) s

-- The same of what follows `else` in a statement, if anything.
abbrev pub else_statement_passes : List Item → (ℕ → Bool) → Option (Else Stmt) → Bool
else_statement_passes items test None = true
else_statement_passes items test (Some (else_stmt.Block body)) = list_all (λ s. statement_passes items test s) body
else_statement_passes items test (Some (else_stmt.If s)) = statement_passes items test s

unfoldable pub item_passes : List Item → (ℕ → Bool) → Item → Bool
item_passes items test i = item_calls (call_passes items test) i

-- ---- structs

-- The number of the struct that a name means.
abbrev pub struct_number : List Item → Name → Option ℕ
struct_number items name = if is_some (struct_named items name) then number_named items name else None

-- The struct that a name means passes a test; a name that means none does.
abbrev pub struct_passes_by : List Item → (ℕ → Bool) → Name → Bool
struct_passes_by items test name = unwrap_or (option_map test (struct_number items name)) true

-- The structs of all fields pass the test.
abbrev pub fields_pass_by : List Item → (ℕ → Bool) → List Named → Bool
fields_pass_by items test fields = list_all (λ f. struct_passes (struct_passes_by items test) f.ty) fields

-- The structs of the fields of an item that is a struct type do.
abbrev pub structs_pass : List Item → (ℕ → Bool) → Item → Bool
structs_pass items test i = fields_pass_by items test (unwrap_or (option_map declared (written_fields i)) [])

-- ---- all items

-- What each of these items leads to was gathered.
abbrev pub AreGathered : ((ℕ → Bool) → Item → Bool) → List Item → List (List ℕ) → Type 0
AreGathered passes [] [] = Unit
AreGathered passes (i ∷ items) (numbers ∷ more) = ((test : ℕ → Bool) → list_all test numbers ≡ passes test i) × AreGathered passes items more
AreGathered passes _ _ = ⊥
