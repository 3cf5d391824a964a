-- What comes first, shown at single forms: arguments before the turn, turns before a write's fault, a fault instead of all writes, the first arm, and the rows
-- of a `map` as it begins.
use Rattle.std.proofs.Common.{◌≡◌, ℕ, true, false, List, [], ◌∷◌, Option, None, Some, Ok, Err, refl}
use Rattle.std.specs.Prelude.{codes, option_map, unwrap_or}
use Rattle.base_bytes.specs.declared.value.Value.{Value}
use Rattle.fact_store.specs.Matching.{selected}
use Rattle.fact_store.specs.Writes.{created, deleted, updated}
use Rattle.fact_store.specs.declared.row.Row.{Row}
use Rattle.fact_store.specs.declared.wanted.Wanted.{Wanted}
use Rattle.fact_store.specs.declared.write_fault.WriteFault.TheVariants as write_fault
use Rattle.policy_ast.specs.declared.expr.Expr.{Expr}
use Rattle.policy_ast.specs.declared.expr.Expr.TheOpen.{Expr-F}
use Rattle.policy_ast.specs.declared.field.Field.{Field}
use Rattle.policy_ast.specs.declared.finish.FinishStmt.{FinishStmt}
use Rattle.policy_ast.specs.declared.finish.FinishStmt.TheVariants as finish
use Rattle.policy_ast.specs.declared.item.Item.{Item}
use Rattle.policy_ast.specs.declared.item.Item.TheVariants as item
use Rattle.policy_ast.specs.declared.pattern.Pattern.{Pattern}
use Rattle.policy_ast.specs.declared.statement.Arm.{Arm}
use Rattle.policy_ast.specs.declared.statement.Stmt.{Stmt}
use Rattle.policy_ast.specs.declared.statement.Stmt.TheOpen.{Stmt-F}
use Rattle.policy_meaning.specs.Actions.{◌>>>◌, Act, Answer, Brought, Deed, Did, World, act_layer, acts, answered, deed_end, each_row, published, world_of, with_turns}
use Rattle.policy_meaning.specs.Applying.{Faults, applied}
use Rattle.policy_meaning.specs.Arms.{first_body, takes}
use Rattle.policy_meaning.specs.Blocks.{rows_after}
use Rattle.policy_meaning.specs.Environments.{Env, Setting, value_in}
use Rattle.policy_meaning.specs.Expressions.{Calls, Meaning, meaning_layer}
use Rattle.policy_meaning.specs.Finish.{Change, Create, Delete, Emit, FinishCalls, Listing, Update, all_listed, finish_entered, listing}
use Rattle.policy_meaning.specs.Functions.{entered}
use Rattle.policy_meaning.specs.Outcomes.{Check, Done, Ends, Fault}
use Rattle.policy_meaning.specs.Patterns.{row_value, wanted_in}
use Rattle.policy_meaning.specs.Statements.{Run}
use Rattle.policy_meaning.specs.declared.effect.Effect.{Effect}
use Rattle.policy_meaning.specs.declared.ends.ActionEnd.TheVariants as end
use Rattle.policy_meaning.specs.declared.ends.FaultKind.TheVariants as fault
use Rattle.policy_meaning.specs.declared.ends.Posted.TheVariants as posted

-- ---- arguments come before the turn

module _ (items : List Item) (rows : List Row) (setting : Setting) (bodies : List Stmt → Run) (function : Option Item) (env : Env) where
  -- calls of a function with these statements
  abbrev calls : Calls
  calls name values turns = entered bodies values function turns

  -- An argument that fails ends the call in its own way, also where no turn is left for the call.
  arguments_come_first : (argument : Meaning) (name : List ℕ) → argument env 0 ≡ Ends (Check None)
      → meaning_layer items rows setting calls (Expr-F.Call name (argument ∷ [])) env 0 ≡ Ends (Check None)
  arguments_come_first argument name is = rw is refl

  -- An argument that takes the last turn leaves none for the call.
  an_argument_takes_the_last_turn : (argument : Meaning) (v : Value) (name : List ℕ) → argument env 1 ≡ Done v 0
      → meaning_layer items rows setting calls (Expr-F.Call name (argument ∷ [])) env 1 ≡ entered bodies (v ∷ []) function 0
  an_argument_takes_the_last_turn argument v name is = rw is refl

-- ---- all is listed before anything is written

module _ (items : List Item) (says : Expr → Meaning) (bodies : List FinishStmt → Listing) (env : Env) where
  -- calls of a finish function with these statements
  abbrev finish_calls : Option Item → FinishCalls
  finish_calls function name values turns = finish_entered bodies values function turns

  -- A finish function for which no turn is left is the fault of the block, though a write before it isn't possible.
  turns_come_before_writes : (first : FinishStmt) (changes : List Change) (name own : List ℕ) (parameters : List Field) (body : List FinishStmt)
      → listing items says (finish_calls (Some (item.FinishFunction own parameters body))) first env 0 ≡ Done changes 0
      → all_listed items says (finish_calls (Some (item.FinishFunction own parameters body))) (first ∷ finish.Call name [] ∷ []) env 0 ≡ Ends (Fault fault.Turns)
  turns_come_before_writes first changes name own parameters body is = rw is refl

-- ---- a fault instead of all writes and effects

module _ (rows : List Row) (e : Effect) (more : List Change) where
  a_row_that_exists : (row : Row) → created row rows ≡ Err write_fault.Exists → applied (Emit e ∷ Create row ∷ more) rows ≡ Faults fault.Exists
  a_row_that_exists row is = rw is refl

  a_row_that_lacks : (fact : ℕ) (keys : List Value) → deleted fact keys rows ≡ Err write_fault.Missing → applied (Emit e ∷ Delete fact keys ∷ more) rows ≡ Faults fault.Missing
  a_row_that_lacks fact keys is = rw is refl

  a_row_that_differs : (old : Wanted) (values : List Value) → updated old values rows ≡ Err write_fault.Differs → applied (Emit e ∷ Update old values ∷ more) rows ≡ Faults fault.Differs
  a_row_that_differs old values is = rw is refl

  -- Each write meets the rows that the one before it left, and what that one wrote is dropped with it.
  the_second_write_faults : (row : Row) (between : List Row) → created row rows ≡ Ok between → created row between ≡ Err write_fault.Exists
      → applied (Create row ∷ Create row ∷ more) rows ≡ Faults fault.Exists
  the_second_write_faults row between is again = rw (is, again) refl

  a_fault_leaves_the_rows : rows_after (Faults fault.Exists) rows ≡ rows
  a_fault_leaves_the_rows = refl

-- ---- the first arm

module _ {S : Type 0} (items : List Item) (v : Value) (first second : Arm S) (more : List (Arm S)) where
  the_first_arm_that_takes : takes items v first.pattern ≡ true → first_body items v (first ∷ second ∷ more) ≡ Some first.body
  the_first_arm_that_takes is = rw is refl

  an_arm_that_takes_not : takes items v first.pattern ≡ false → first_body items v (first ∷ second ∷ more) ≡ first_body items v (second ∷ more)
  an_arm_that_takes_not is = rw is refl

-- ---- what an action publishes

module _ (rows behind : List Row) (left : List Answer) (made : List Brought) (turns : ℕ) (c : Brought) where
  abbrev before : World
  before = record { rows = rows; left = left; made = made; turns = turns }

  -- A desk that refuses stops the action, and one for which the payload is too long ends it with that fault.
  a_desk_refuses : deed_end ((answered c before (record { posted = posted.Refused; rows = behind } ∷ left)) >>> λ done w. Did [] w) ≡ Some end.Stopped
  a_desk_refuses = refl

  a_payload_is_too_long : deed_end ((answered c before (record { posted = posted.TooLong; rows = behind } ∷ left)) >>> λ done w. Did [] w) ≡ Some (end.Fault fault.TooLong)
  a_payload_is_too_long = refl

  -- What follows a publish sees the rows that the desk left.
  a_publish_leaves_the_desks_rows : (world_of ((answered c before (record { posted = posted.Taken; rows = behind } ∷ left)) >>> λ done w. Did [] w)).rows ≡ behind
  a_publish_leaves_the_desks_rows = refl

-- ---- the rows of a `map`

-- The rows are those that match as it begins.
module _ (items : List Item) (says : List Row → Expr → Meaning) where
  a_map_begins_with_its_rows : (p : Pattern Expr) (name : List ℕ) (body : List Act) (env : Env) (w : World) (q : Wanted) (turns : ℕ) → wanted_in items (says w.rows) p env w.turns ≡ Done q turns
      → act_layer items says (Stmt-F.Map p name body) env w ≡ each_row name (acts body) env (selected q w.rows) (with_turns w turns)
  a_map_begins_with_its_rows p name body env w q turns is = rw is refl

-- a body that publishes the row under the name `r` as a command of number 7
abbrev body_of : Option Value → World → Deed (Unit {0})
body_of found w = published (Some (7, unwrap_or (option_map (λ v. v ∷ []) found) [])) w

abbrev publishes_it : Act
publishes_it env w = body_of (value_in env (codes "r")) w >>> λ done w. Did env w

-- It goes on with them though a publish leaves no row, and takes a turn for each.
a_map_goes_on : (one other : Row) (left : List Answer) → world_of
    (each_row (codes "r") publishes_it [] (one ∷ other ∷ [])
    (record { rows = one ∷ other ∷ []; left = record { posted = posted.Taken; rows = [] } ∷ record { posted = posted.Taken; rows = [] } ∷ left; made = []; turns = 2 }))
    ≡ record { rows = []; left = left; made = record { command = 7; fields = row_value one ∷ [] } ∷ record { command = 7; fields = row_value other ∷ [] } ∷ []; turns = 0 }
a_map_goes_on one other left = refl

-- With one turn less it ends behind the first row.
a_map_takes_turns : (one other : Row) (left : List Answer) → deed_end
    (each_row (codes "r") publishes_it [] (one ∷ other ∷ [])
    (record { rows = one ∷ other ∷ []; left = record { posted = posted.Taken; rows = [] } ∷ left; made = []; turns = 1 }))
    ≡ Some (end.Fault fault.Turns)
a_map_takes_turns one other left = refl
