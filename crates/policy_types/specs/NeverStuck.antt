-- No evaluation of a well-typed policy is stuck: what expressions, functions, blocks and actions come to.
use Rattle.std.specs.Prelude.{◌≡◌, ℕ, Bool, true, List, map, Some}
use Rattle.std.specs.List.{list_all}
use Rattle.base_bytes.specs.declared.value.Value.{Value}
use Rattle.fact_store.specs.declared.row.Row.{Row}
use Rattle.policy_ast.specs.declared.expr.Expr.{Expr}
use Rattle.policy_ast.specs.declared.finish.FinishStmt.{FinishStmt}
use Rattle.policy_ast.specs.declared.pattern.Pattern.{Pattern}
use Rattle.policy_ast.specs.declared.policy.PlacedItem.{PlacedItem}
use Rattle.policy_meaning.specs.Actions.{Answer, acted}
use Rattle.policy_meaning.specs.Blocks.{policy_block, recall_block}
use Rattle.policy_meaning.specs.Commands.{call_judged}
use Rattle.policy_meaning.specs.Desks.{Acts, Posting, answer, brought}
use Rattle.policy_meaning.specs.Environments.{Env, Setting}
use Rattle.policy_meaning.specs.Functions.{called, expression, finish}
use Rattle.policy_meaning.specs.Patterns.{wanted_in}
use Rattle.policy_meaning.specs.Typed.{AreTyped}
use Rattle.policy_meaning.specs.declared.call.Call.{Call}
use Rattle.policy_meaning.specs.declared.ends.ActionEnd.{ActionEnd}
use Rattle.policy_rules.specs.Calls.{Callee, a_function, chain_within, expression_calls, finish_calls, longest_chain, pattern_calls}
use Rattle.policy_rules.specs.Expressions.{HasType, IsPattern}
use Rattle.policy_rules.specs.Finish.{AreFinishStmts}
use Rattle.policy_rules.specs.Heads.{FunctionHead, function_named}
use Rattle.policy_rules.specs.Items.{in_command}
use Rattle.policy_rules.specs.Names.{Name}
use Rattle.policy_rules.specs.Scopes.{Scope}
use Rattle.policy_rules.specs.Statements.{within_finish}
use Rattle.policy_rules.specs.WellTyped.{items_of}
use Rattle.policy_rules.specs.declared.context.Context.{Context}
use Rattle.policy_rules.specs.declared.types.NamedType.{NamedType}
use Rattle.policy_types.specs.ActsWell.{ActsWell, AreCommands, LeaveTyped}
use Rattle.policy_types.specs.Asked.{AsksFor}
use Rattle.policy_types.specs.Endings.{Gives}
use Rattle.policy_types.specs.EndsWell.{EndsWell, JudgedWell}
use Rattle.policy_types.specs.Fitting.{AreOf, Fits, IsOf, Suits, types_of}
use Rattle.policy_types.specs.Listed.{AreTypedChanges}

-- Where an expression may stand: typed facts, what its place knows, and names with values of their types.
pub record StandsIn (policy : List PlacedItem) (context : Context) (scope : Scope) (rows : List Row) (setting : Setting) (env : Env) : Type 0 where
  pub facts : AreTyped policy rows
  pub suits : Suits (items_of policy) context setting
  pub names : Fits (items_of policy) scope env

-- A call by this name begins a chain of calls that is no longer than it may be.
abbrev pub may_be_called : List PlacedItem → Callee → Name → Bool
may_be_called policy = chain_within (items_of policy) longest_chain

-- An expression gives a value of its type, or a check fails, or there is a fault, whatever its names, the facts and the turns are.
abbrev pub ExpressionsGive : List PlacedItem → Type 0
ExpressionsGive policy = (context : Context) (scope : Scope) (e : Expr) (t : NamedType) → HasType (items_of policy) context scope e t → expression_calls (may_be_called policy) e ≡ true
    → (rows : List Row) (setting : Setting) (env : Env) → StandsIn policy context scope rows setting env → (turns : ℕ)
    → Gives (IsOf (items_of policy) t) (expression (items_of policy) rows setting e env turns)

-- A pattern asks for rows of its fact, by key values, or it ends early.
abbrev pub PatternsAsk : List PlacedItem → Type 0
PatternsAsk policy = (context : Context) (scope : Scope) (p : Pattern Expr) → IsPattern (items_of policy) context scope p → pattern_calls (may_be_called policy) p ≡ true
    → (rows : List Row) (setting : Setting) (env : Env) → StandsIn policy context scope rows setting env → (turns : ℕ)
    → Gives (AsksFor (items_of policy) p.fact) (wanted_in (items_of policy) (expression (items_of policy) rows setting) p env turns)

-- A call of a function, in a chain of at most so many, gives a value of the declared type, or it ends early.
abbrev pub FunctionsGive : List PlacedItem → Type 0
FunctionsGive policy = (name : Name) (function : FunctionHead) → function_named (items_of policy) name ≡ Some function → (depth : ℕ) → chain_within (items_of policy) depth a_function name ≡ true
    → (rows : List Row) → AreTyped policy rows → (arguments : List Value) → AreOf (items_of policy) (types_of function.parameters) arguments → (turns : ℕ)
    → Gives (IsOf (items_of policy) function.result) (called (items_of policy) rows depth name arguments turns)

-- The statements of a `finish` block list typed writes and effects, or they end early.
abbrev pub FinishLists : List PlacedItem → Type 0
FinishLists policy = (command : Name) (scope : Scope) (statements : List FinishStmt) → AreFinishStmts (items_of policy) (within_finish (in_command command)) scope statements
    → list_all (finish_calls (may_be_called policy)) statements ≡ true → (rows : List Row) (setting : Setting) (env : Env) → StandsIn policy (in_command command) scope rows setting env → (turns : ℕ)
    → Gives (AreTypedChanges (items_of policy)) (finish (items_of policy) rows setting statements env turns)

-- The policy block and the recall block of a command with fields of the declared types, over typed facts, and what the command comes to.
pub record BlocksEndWell (policy : List PlacedItem) (call : Call) (rows : List Row) : Type 0 where
  pub policy_block : EndsWell policy (policy_block policy call rows)
  pub recall_block : EndsWell policy (recall_block policy call rows)
  pub command : JudgedWell policy (call_judged policy rows (Some call))

-- An action with arguments of the declared types, over typed facts: whatever typed facts the desk's answers leave, it goes well; and of each way in
-- which it can end, all that it published are typed commands.
pub record ActionsGoWell (policy : List PlacedItem) (action : ℕ) (arguments : List Value) (device : List ℕ) (rows : List Row) : Type 0 where
  pub acts : (answers : List Answer) → LeaveTyped policy answers → ActsWell policy (acted (items_of policy) action arguments device rows answers)
  pub publishes : (postings : List Posting) (end : ActionEnd) → LeaveTyped policy (map answer postings) → Acts policy action arguments device rows postings end
      → AreCommands policy (map brought postings)
