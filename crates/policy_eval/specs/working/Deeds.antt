-- What statements of actions do, under names that proofs of code keep shut.
use Rattle.std.specs.Prelude.{ℕ, List, [], ◌∷◌, Option, Some, None, option_and_then, slice_get}
use Rattle.base_bytes.specs.declared.value.Value.{Value}
use Rattle.fact_store.specs.Matching.{selected}
use Rattle.fact_store.specs.declared.row.Row.{Row}
use Rattle.fact_store.specs.declared.wanted.Wanted.{Wanted}
use Rattle.policy_ast.specs.declared.field.Field.{Field}
use Rattle.policy_ast.specs.declared.item.Item.{Item}
use Rattle.policy_ast.specs.declared.item.Item.TheVariants as item
use Rattle.policy_ast.specs.declared.statement.Else.{Else}
use Rattle.policy_ast.specs.declared.statement.Else.TheVariants as else_stmt
use Rattle.policy_ast.specs.declared.statement.Stmt.{Stmt}
use Rattle.policy_meaning.specs.Actions.{Act, Deed, Did, Halts, Stops, World, ◌>>>◌, act, action_deed, action_setting}
use Rattle.policy_meaning.specs.Environments.{Env, Setting, bound_parameters, with_value}
use Rattle.policy_meaning.specs.Functions.{expression}
use Rattle.policy_meaning.specs.Outcomes.{Out, Done, Stuck, ◌>>=◌, with_turn}
use Rattle.policy_meaning.specs.Patterns.{row_value}
use Rattle.policy_rules.specs.Names.{Name}
use Rattle.policy_rules.specs.Types.{declared}
use Rattle.policy_eval.specs.declared.actions.ActionBody.{ActionBody}

-- what one statement does
unfoldable pub deed : List Item → Setting → Stmt → Act
deed items setting s = act items (λ rows. expression items rows setting) s

-- statements one after another
abbrev pub deeds : List Item → Setting → List Stmt → Act
deeds items setting [] env w = Did env w
deeds items setting (s ∷ more) env w = deed items setting s env w >>> deeds items setting more

-- what follows `else`, if anything
abbrev pub else_deed : List Item → Setting → Option (Else Stmt) → Act
else_deed items setting None env w = Did env w
else_deed items setting (Some (else_stmt.Block body)) env w = deeds items setting body env w
else_deed items setting (Some (else_stmt.If s)) env w = deed items setting s env w

-- the arm that takes the value
abbrev pub arm_deed : List Item → Setting → Option (List Stmt) → Act
arm_deed items setting (Some body) env w = deeds items setting body env w
arm_deed items setting None env w = Stops (Halts Stuck) w

-- the end, where nobody asks for the names
abbrev pub finished : Env → World → Deed (Unit {0})
finished env w = Did tt w

-- the whole action
abbrev pub whole : List Item → List ℕ → List Value → Option Item → World → Deed (Unit {0})
whole items device arguments o w = action_deed items device arguments o w >>> finished

-- the parameters and the body of an action
abbrev pub action_parts_of : Item → Option (List Field × List Stmt)
action_parts_of (item.Action name parameters body) = Some (parameters, body)
action_parts_of other = None

abbrev pub action_parts : List Item → ℕ → Option (List Field × List Stmt)
action_parts items number = option_and_then action_parts_of (slice_get items number)

-- the same as the code keeps it
abbrev pub kept_action : ActionBody → List Field × List Stmt
kept_action action = (action.parameters.now, action.body.now)

-- the whole action, by its parts
abbrev pub body_whole : List Item → List ℕ → List Value → List Field × List Stmt → World → Deed (Unit {0})
body_whole items device arguments parts w = deeds items (action_setting device) parts.1 (bound_parameters (declared parts.0) arguments) w >>> finished

-- the rows that match
abbrev pub rows_matching : List Row → Out Wanted → Out (List Row)
rows_matching rows out = out >>= λ q turns. Done (selected q rows) turns

-- a row of a `map` takes a turn, and has a name
abbrev pub row_entered : Name → Env → Row → ℕ → Out Env
row_entered name env row turns = with_turn (λ turns. Done (with_value env name (row_value row)) turns) turns

-- its value, behind the turn
abbrev pub row_entering : Row → ℕ → Out Value
row_entering row turns = with_turn (λ turns. Done (row_value row) turns) turns
