-- The meaning of an action. What the desk answers is data: a list of answers that are used up one by one. So the meaning reads both ways: over
-- all answers it is how the action ends, and where the answers are used up it tells what the action publishes next.
use Rattle.std.specs.Prelude.{ℕ, ◌-◌, ◌==◌, if◌then◌else◌, Bool, true, false, List, [], ◌∷◌, ◌++◌, map, slice_get, Option, Some, None}
use Rattle.base_bytes.specs.declared.value.Value.{Value}
use Rattle.fact_store.specs.Matching.{selected}
use Rattle.fact_store.specs.declared.row.Row.{Row}
use Rattle.policy_ast.specs.declared.expr.Expr.{Expr}
use Rattle.policy_ast.specs.declared.item.Item.{Item}
use Rattle.policy_ast.specs.declared.item.Item.TheVariants as item
use Rattle.policy_ast.specs.declared.statement.Else.{Else}
use Rattle.policy_ast.specs.declared.statement.Else.TheVariants as else_stmt
use Rattle.policy_ast.specs.declared.statement.Stmt.{Stmt, fold-Stmt}
use Rattle.policy_ast.specs.declared.statement.Stmt.TheOpen.{Stmt-F}
use Rattle.policy_meaning.specs.Arms.{first_body}
use Rattle.policy_meaning.specs.Blocks.{most_turns}
use Rattle.policy_meaning.specs.Environments.{Env, Setting, bound_parameters, with_value}
use Rattle.policy_meaning.specs.Expressions.{Meaning}
use Rattle.policy_meaning.specs.Functions.{expression}
use Rattle.policy_meaning.specs.Outcomes.{Halt, Check, Fault, Stuck, Out, Done, Ends}
use Rattle.policy_meaning.specs.Patterns.{row_value, wanted_in}
use Rattle.policy_meaning.specs.Values.{struct_parts, truth}
use Rattle.policy_meaning.specs.declared.ends.ActionEnd.{ActionEnd}
use Rattle.policy_meaning.specs.declared.ends.ActionEnd.TheVariants as end
use Rattle.policy_meaning.specs.declared.ends.FaultKind.TheVariants as fault
use Rattle.policy_meaning.specs.declared.ends.Posted.{Posted}
use Rattle.policy_meaning.specs.declared.ends.Posted.TheVariants as posted
use Rattle.policy_rules.specs.Types.{declared}

-- What a publish brings to the desk: the item number of a command, and the values of its fields.
pub record Brought : Type 0 where
  pub command : ℕ
  pub fields : List Value

-- What the desk answers, and the facts behind the publish.
pub record Answer : Type 0 where
  pub posted : Posted
  pub rows : List Row

-- What an action goes through: the facts, the answers still to come, what was published, and the turns left.
pub record World : Type 0 where
  pub rows : List Row
  pub left : List Answer
  pub made : List Brought
  pub turns : ℕ

-- Why an action stops: as an evaluation does, because the desk refused, or because the next publish has no answer yet.
pub data Stop : Type 0 where
  Halts : Halt → Stop
  IsRefused : Stop
  Asks : Brought → Stop

-- One part of an action is done, or the action stops; both in some world.
pub data Deed (A : Type 0) : Type 0 where
  Did : A → World → Deed A
  Stops : Stop → World → Deed A

infixl 10 ◌>>>◌
abbrev pub ◌>>>◌ : {A B : Type 0} → Deed A → (A → World → Deed B) → Deed B
(Did x w) >>> next = next x w
(Stops stop w) >>> next = Stops stop w

abbrev pub with_turns : World → ℕ → World
with_turns w turns = record w { turns = turns }

-- An evaluation within an action: it reads the facts and takes turns.
abbrev pub told : {A : Type 0} → World → Out A → Deed A
told w (Done x turns) = Did x (with_turns w turns)
told w (Ends halt) = Stops (Halts halt) w

-- What follows an answer: the next statement after Taken, and else the end.
abbrev pub after_answer : Posted → World → Deed (Unit {0})
after_answer posted.Taken w = Did tt w
after_answer posted.TooLong w = Stops (Halts (Fault fault.TooLong)) w
after_answer posted.Refused w = Stops IsRefused w

-- A publish takes the next answer, and goes on with the facts behind it.
abbrev pub answered : Brought → World → List Answer → Deed (Unit {0})
answered c w [] = Stops (Asks c) w
answered c w (a ∷ left) = after_answer a.posted (record { rows = a.rows; left = left; made = w.made ++ c ∷ []; turns = w.turns })

abbrev pub published : Option (ℕ × List Value) → World → Deed (Unit {0})
published (Some parts) w = answered (record { command = parts.0; fields = parts.1 }) w w.left
published None w = Stops (Halts Stuck) w

-- What depends on a test, and is stuck where the test has no answer.
abbrev pub choose : {A : Type 0} → Option Bool → (World → Deed A) → (World → Deed A) → World → Deed A
choose (Some true) first second w = first w
choose (Some false) first second w = second w
choose None first second w = Stops (Halts Stuck) w

-- One turn is taken; where none is left it is a fault.
abbrev pub with_turn : {A : Type 0} → (World → Deed A) → World → Deed A
with_turn next w = if w.turns == 0 then Stops (Halts (Fault fault.Turns)) w else next (with_turns w (w.turns - 1))

-- What a statement of an action does: the names behind it.
abbrev pub Act : Type 0
Act = Env → World → Deed Env

-- Statements one after another.
abbrev pub acts : List Act → Act
acts [] env w = Did env w
acts (s ∷ more) env w = s env w >>> acts more

-- A block, whose names end with it.
abbrev pub inside : Act → Act
inside act env w = act env w >>> λ inner w. Did env w

abbrev pub else_act : Option (Else Act) → Act
else_act None env w = Did env w
else_act (Some (else_stmt.Block body)) env w = acts body env w
else_act (Some (else_stmt.If s)) env w = s env w

abbrev pub arm_act : Option (List Act) → Act
arm_act (Some body) env w = acts body env w
arm_act None env w = Stops (Halts Stuck) w

-- A block for each of these rows: it takes a turn as it begins, and has the row under a name.
abbrev pub each_row : List ℕ → Act → Env → List Row → World → Deed Env
each_row name body env [] w = Did env w
each_row name body env (row ∷ rows) w = with_turn (body (with_value env name (row_value row))) w >>> λ inner w. each_row name body env rows w

module _ (items : List Item) (says : List Row → Expr → Meaning) where
  -- An expression sees the facts behind the publishes before it.
  abbrev pub said : Expr → Env → World → Deed Value
  said e env w = told w (says w.rows e env w.turns)

  -- One form, where the statements inside are given by what they do. `map` goes through the rows that match as it begins, in fact order.
  abbrev pub act_layer : Stmt-F Act → Act
  act_layer (Stmt-F.Let l) env w = said l.value env w >>> λ v w. Did (with_value env l.name v) w
  act_layer (Stmt-F.Check e) env w = said e env w >>> λ v w. choose (truth v) (Did env) (Stops (Halts (Check None))) w
  act_layer (Stmt-F.If x) env w = said x.head env w >>> λ v w. choose (truth v) (inside (acts x.then) env) (inside (else_act x.otherwise) env) w
  act_layer (Stmt-F.Match e arms) env w = said e env w >>> λ v w. inside (arm_act (first_body items v arms)) env w
  act_layer (Stmt-F.Map p name body) env w = told w (wanted_in items (says w.rows) p env w.turns) >>> λ q w. each_row name (acts body) env (selected q w.rows) w
  act_layer (Stmt-F.Publish e) env w = said e env w >>> λ v w. published (struct_parts v) w >>> λ done w. Did env w
  act_layer (Stmt-F.Finish statements) env w = Stops (Halts Stuck) w
  act_layer (Stmt-F.Return e) env w = Stops (Halts Stuck) w

  abbrev pub act : Stmt → Act
  act = fold-Stmt Act act_layer

-- What an action knows beside its names: the device.
abbrev pub action_setting : List ℕ → Setting
action_setting device = record { this = None; author = None; command_id = None; device = Some device }

-- The body of an action, from a world on.
abbrev pub action_deed : List Item → List ℕ → List Value → Option Item → World → Deed Env
action_deed items device arguments (Some (item.Action name parameters body)) w =
    acts (map (act items (λ rows. expression items rows (action_setting device))) body) (bound_parameters (declared parameters) arguments) w
action_deed items device arguments other w = Stops (Halts Stuck) w

-- The action of this number over these facts, where the desk answers so.
abbrev pub acted : List Item → ℕ → List Value → List ℕ → List Row → List Answer → Deed Env
acted items action arguments device rows answers =
    action_deed items device arguments (slice_get items action) (record { rows = rows; left = answers; made = []; turns = most_turns })

-- How an action ends. It has no end where an answer is lacking, or where it is stuck, as no action of a well-typed policy is.
abbrev pub stop_end : Stop → Option ActionEnd
stop_end (Halts (Check recall)) = Some end.Check
stop_end (Halts (Fault kind)) = Some (end.Fault kind)
stop_end (Halts Stuck) = None
stop_end IsRefused = Some end.Stopped
stop_end (Asks c) = None

abbrev pub deed_end : Deed Env → Option ActionEnd
deed_end (Did env w) = Some end.Done
deed_end (Stops stop w) = stop_end stop

abbrev pub world_of : Deed Env → World
world_of (Did env w) = w
world_of (Stops stop w) = w
