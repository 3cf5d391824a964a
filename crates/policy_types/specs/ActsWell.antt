-- How the actions of a well-typed policy go.
use Rattle.std.specs.Prelude.{List, [], ◌∷◌}
use Rattle.policy_ast.specs.declared.policy.PlacedItem.{PlacedItem}
use Rattle.policy_meaning.specs.Actions.{Answer, Brought, Deed, Did, Stops, Stop, Halts, IsRefused, Asks, World}
use Rattle.policy_meaning.specs.Environments.{Env}
use Rattle.policy_meaning.specs.Typed.{AreTyped, IsCommandOf}
use Rattle.policy_types.specs.Endings.{MayHalt}

-- The facts behind each answer are typed.
abbrev pub LeaveTyped : List PlacedItem → List Answer → Type 0
LeaveTyped policy [] = Unit {0}
LeaveTyped policy (a ∷ answers) = AreTyped policy a.rows × LeaveTyped policy answers

-- What is brought is a command of the policy, with fields of the declared types.
abbrev pub IsCommand : List PlacedItem → Brought → Type 0
IsCommand policy c = IsCommandOf policy c.command c.fields

-- Each of these is such a command.
abbrev pub AreCommands : List PlacedItem → List Brought → Type 0
AreCommands policy [] = Unit {0}
AreCommands policy (c ∷ brought) = IsCommand policy c × AreCommands policy brought

-- The facts are typed, with those behind the answers to come, and all that was published are such commands.
pub record IsTypedWorld (policy : List PlacedItem) (w : World) : Type 0 where
  pub rows : AreTyped policy w.rows
  pub left : LeaveTyped policy w.left
  pub made : AreCommands policy w.made

-- An action stops as an evaluation may, or where the desk refuses, or to publish such a command, to which there is no answer yet.
abbrev pub MayStop : List PlacedItem → Stop → Type 0
MayStop policy (Halts halt) = MayHalt halt
MayStop policy IsRefused = Unit {0}
MayStop policy (Asks c) = IsCommand policy c

-- An action is done, or it stops for such a reason, and in either case in a typed world. So it isn't stuck.
abbrev pub ActsWell : List PlacedItem → Deed Env → Type 0
ActsWell policy (Did env w) = IsTypedWorld policy w
ActsWell policy (Stops stop w) = IsTypedWorld policy w × MayStop policy stop
