-- What an action comes to: all that it publishes, or its first fault.
use Rattle.std.specs.Prelude.{◌≡◌, ◌⊎◌, ℕ, Bool, true, false, not, ◌&&◌, if◌then◌else◌, List, [], ◌∷◌, length, filter, slice_get, Option, Some, None, option_and_then, option_map, Result, Ok, Err}
use Rattle.base_bytes.specs.declared.arg.Arg.{Arg}
use Rattle.base_bytes.specs.declared.ty.Ty.{Ty}
use Rattle.base_bytes.specs.declared.value.Value.{Value}
use Rattle.braid_run.specs.declared.entry.Entry.{Entry}
use Rattle.command.specs.Kinds.{is_merge}
use Rattle.command.specs.declared.command.Command.{Command}
use Rattle.fact_store.specs.declared.row.Row.{Row}
use Rattle.policy_ast.specs.declared.field.Field.{Field}
use Rattle.policy_ast.specs.declared.item.Item.{Item}
use Rattle.policy_ast.specs.declared.item.Item.TheVariants as item
use Rattle.policy_meaning.specs.Desks.{ActionRun}
use Rattle.policy_meaning.specs.Resolving.{resolved}
use Rattle.policy_meaning.specs.declared.ends.ActionEnd.{ActionEnd}
use Rattle.policy_meaning.specs.declared.ends.ActionEnd.TheVariants as end
use Rattle.policy_rules.specs.Names.{Name, number_named}
use Rattle.policy_rules.specs.Shapes.{field_value_types}
use Rattle.policy_rules.specs.WellTyped.{items_of}
use Rattle.transaction.specs.Drafts.{Draft, Basis, first_draft}
use Rattle.transaction.specs.Seals.{IsPublish}
use Rattle.transaction.specs.declared.fault.ActFault.{ActFault}
use Rattle.transaction.specs.declared.fault.ActFault.TheVariants as fault

-- ---- the action and its arguments

abbrev pub parameters_of : Item → Option (List Field)
parameters_of (item.Action name parameters body) = Some parameters
parameters_of other = None

-- An action by its item number, and its parameters.
pub record Action : Type 0 where
  pub number : ℕ
  pub parameters : List Field

abbrev pub action_at : List Item → ℕ → Option Action
action_at items number = option_map (λ parameters. record { number = number; parameters = parameters }) (option_and_then parameters_of (slice_get items number))

-- The item that the name means, where it is an action.
abbrev pub action_named : List Item → Name → Option Action
action_named items name = option_and_then (action_at items) (number_named items name)

-- The values of the arguments, one for each type, where each argument is a value of its type.
abbrev pub resolved_all : List Item → List Ty → List Arg → Option (List Value)
resolved_all items [] [] = Some []
resolved_all items (t ∷ types) (a ∷ arguments) = option_and_then (λ v. option_map (λ values. v ∷ values) (resolved_all items types arguments)) (resolved items a t)
resolved_all items types arguments = None

-- What is asked for: an action by its name, its arguments, and whether it is to be the first of its graph.
pub record Request : Type 0 where
  pub action : List ℕ
  pub arguments : List Arg
  pub first : Bool

-- An action with the values of its arguments.
pub record Start : Type 0 where
  pub action : ℕ
  pub arguments : List Value

abbrev pub start_with : ℕ → Option (List Value) → Result Start ActFault
start_with number None = Err fault.Arguments
start_with number (Some values) = Ok (record { action = number; arguments = values })

abbrev pub start_of : List Item → List Arg → Option Action → Result Start ActFault
start_of items arguments None = Err fault.UnknownAction
start_of items arguments (Some action) = start_with action.number (resolved_all items (field_value_types items action.parameters) arguments)

abbrev pub is_none : List Command → Bool
is_none [] = true
is_none (c ∷ cs) = false

-- How an action begins, or the fault before its body.
abbrev pub started : Basis → Request → Result Start ActFault
started basis request =
    if not request.first && is_none basis.held then Err fault.NoGraph
    else start_of (items_of basis.policy) request.arguments (action_named (items_of basis.policy) request.action)

-- ---- its body

-- What an action publishes: the merges and then the commands, how many of them are merges, an entry for each other one, and the facts behind them.
pub record Made : Type 0 where
  pub commands : List Command
  pub merges : ℕ
  pub entries : List Entry
  pub rows : List Row

abbrev pub merge_count : List Command → ℕ
merge_count cs = length (filter is_merge cs)

abbrev pub made_of : Draft → List Row → Made
made_of draft rows = record { commands = draft.commands; merges = merge_count draft.commands; entries = draft.entries; rows = rows }

-- By the end of the body. An action is stopped by a refused command alone, whose fault it then has.
abbrev pub by_end : ActionEnd → Made → Result Made ActFault
by_end end.Done made = Ok made
by_end end.Check made = Err fault.Check
by_end (end.Fault kind) made = Err (fault.Fault kind)
by_end end.Stopped made = Err fault.NoMemory

abbrev pub by_refusal : Option ActFault → ActionEnd → Made → Result Made ActFault
by_refusal (Some why) end made = Err why
by_refusal None end made = by_end end made

-- All that was made, or the fault of a refused command or of the body.
abbrev pub acted : ActionEnd → Draft → List Row → Result Made ActFault
acted end draft rows = by_refusal draft.refusal end (made_of draft rows)

-- The body runs over the present facts, and each publish goes on from the draft and the facts behind the one before.
pub record RunsBody (basis : Basis) (rows : List Row) (start : Start) (result : Result Made ActFault) (before now : ℕ) : Type 0 where
  pub end : ActionEnd
  pub draft : Draft
  pub last : List Row
  pub run : ActionRun (IsPublish basis) basis.policy start.action start.arguments basis.author (first_draft basis.held) rows end before now draft last
  pub ends : result ≡ acted end draft last

abbrev pub ActsFrom : Result Start ActFault → Basis → List Row → Result Made ActFault → ℕ → ℕ → Type 0
ActsFrom (Err why) basis rows result before now = result ≡ Err why
ActsFrom (Ok start) basis rows result before now = RunsBody basis rows start result before now

-- What an action comes to over the present facts, and how far a counter goes.
abbrev pub Acts : Basis → List Row → Request → Result Made ActFault → ℕ → ℕ → Type 0
Acts basis rows request result before now = ActsFrom (started basis request) basis rows result before now

-- A call answers so, or lacks memory.
abbrev pub Answers : {A : Type 0} → (A → Made) → (Result Made ActFault → Type 0) → Result A ActFault → Type 0
Answers seen acts (Ok prepared) = acts (Ok (seen prepared))
Answers seen acts (Err why) = (why ≡ fault.NoMemory) ⊎ acts (Err why)
