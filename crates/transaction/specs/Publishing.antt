-- What one publish comes to. The order of the faults is the order of the definitions.
use Rattle.std.specs.Prelude.{ℕ, ◌+◌, Bool, true, false, not, if◌then◌else◌, nat_lt, List, [], ◌∷◌, ◌++◌, length, slice_get, Option, Some, None, option_and_then, unwrap_or, Result, Ok, Err}
use Rattle.base_bytes.specs.Payload.{spelling}
use Rattle.base_bytes.specs.declared.value.Value.TheVariants as value
use Rattle.braid_run.specs.declared.entry.Outcome.TheVariants as outcome
use Rattle.command.specs.Closed.{max_commands}
use Rattle.command.specs.Wire.{command_id}
use Rattle.command.specs.declared.command.Command.{Command}
use Rattle.command.specs.declared.command.Command.TheVariants as command
use Rattle.fact_store.specs.declared.row.Row.{Row}
use Rattle.policy_ast.specs.declared.item.Item.{Item}
use Rattle.policy_ast.specs.declared.item.Item.TheVariants as item
use Rattle.policy_ast.specs.declared.policy.PlacedItem.{PlacedItem}
use Rattle.policy_meaning.specs.Actions.{Brought}
use Rattle.policy_meaning.specs.Applying.{Ended, Passes, Checks, Faults, Sticks}
use Rattle.policy_meaning.specs.Blocks.{policy_block}
use Rattle.policy_meaning.specs.declared.call.Call.{Call}
use Rattle.policy_meaning.specs.declared.effect.Effect.{Effect}
use Rattle.policy_meaning.specs.declared.ends.Why.TheVariants as why
use Rattle.policy_rules.specs.Commands.{CommandKind, Basic, Finalize, Init, command_kind}
use Rattle.policy_rules.specs.Names.{Name}
use Rattle.policy_rules.specs.WellTyped.{items_of}
use Rattle.transaction.specs.Drafts.{Draft, Basis}
use Rattle.transaction.specs.Merging.{is_known, merges}
use Rattle.transaction.specs.declared.fault.ActFault.{ActFault}
use Rattle.transaction.specs.declared.fault.ActFault.TheVariants as fault

-- ---- what is published

-- The name and the kind of a command, as the policy declares them.
pub record Declared : Type 0 where
  pub name : Name
  pub kind : CommandKind

abbrev pub declared_of : Item → Option Declared
declared_of (item.Command name sections) = Some (record { name = name; kind = command_kind sections })
declared_of other = None

abbrev pub not_declared : Declared
not_declared = record { name = []; kind = Basic 0 }

-- Those of the command of an item number. Of a number that is no command's nothing is published.
abbrev pub declared_at : List PlacedItem → ℕ → Declared
declared_at policy number = unwrap_or (option_and_then declared_of (slice_get (items_of policy) number)) not_declared

-- The spelling of the fields.
abbrev pub payload_of : Brought → List ℕ
payload_of b = spelling (value.Struct b.command b.fields)

-- The parent is the one head, which is the command published before or the merge of all heads.
abbrev pub parent_of : List (List ℕ) → List ℕ
parent_of [] = []
parent_of (id ∷ ids) = id

-- The command of this digest, author, parent, kind, name and payload, with this tag.
abbrev pub new_command : List ℕ → List ℕ → List ℕ → CommandKind → Name → List ℕ → List ℕ → Command
new_command digest author parent Init name payload tag = command.Init None digest author name payload tag
new_command digest author parent (Basic priority) name payload tag = command.Basic None priority parent author name payload tag
new_command digest author parent Finalize name payload tag = command.Finalize None parent author name payload tag

-- What was brought as a command behind the heads.
abbrev pub command_of : Basis → List (List ℕ) → Brought → List ℕ → Command
command_of basis heads b tag =
    new_command basis.digest basis.author (parent_of heads) (declared_at basis.policy b.command).kind (declared_at basis.policy b.command).name (payload_of b) tag

-- ---- what a publish comes to

-- The command is taken, with the facts behind it; or its payload is too long; or it is refused, behind so many blocks that were run.
pub data Publication : Type 0 where
  Takes : (draft : Draft) → (rows : List Row) → Publication
  IsTooLong : Publication
  Refuses : (why : ActFault) → (ticks : ℕ) → Publication

abbrev pub has_head : List (List ℕ) → Bool
has_head [] = false
has_head (id ∷ ids) = true

-- An init is published where there is no head, which is so before the first command of a graph and at no other time; every other command is
-- published behind a head.
abbrev pub is_misplaced : CommandKind → Bool → Bool
is_misplaced Init headed = headed
is_misplaced kind headed = not headed

-- How many commands a publish adds: one, and before it a merge for each head but one.
abbrev pub added_commands : List (List ℕ) → ℕ
added_commands [] = 1
added_commands (id ∷ ids) = length (id ∷ ids)

-- The commands held, those made and those that this publish adds are too many.
abbrev pub is_full : List Command → Draft → Bool
is_full held draft = nat_lt max_commands (length held + length draft.commands + added_commands draft.heads)

abbrev pub or_collision : Result Draft (List ℕ) → Result Draft ActFault
or_collision (Ok draft) = Ok draft
or_collision (Err id) = Err (fault.Collision id)

-- The draft with its heads merged, or why it doesn't come to a seal.
abbrev pub opened : List Command → Draft → Declared → Result Draft ActFault
opened held draft declared =
    if is_misplaced declared.kind (has_head draft.heads) then Err (fault.CommandPolicy declared.name why.WrongKind)
    else if is_full held draft then Err fault.Full
    else or_collision (merges held (length draft.heads) draft)

-- With one command more, which is the one head, and its entry.
abbrev pub with_command : Draft → Command → List Effect → Draft
with_command draft c effects = record draft {
  heads = command_id c ∷ [];
  commands = draft.commands ++ c ∷ [];
  entries = draft.entries ++ (record { id = command_id c; outcome = outcome.Pass; effects = effects }) ∷ [];
}

-- By how its policy block ends over the facts that stand. No block of a well-typed policy is stuck.
abbrev pub judged : Draft → Command → Name → Ended → Publication
judged draft c name (Passes rows effects) = Takes (with_command draft c effects) rows
judged draft c name (Checks recall) = Refuses (fault.CommandPolicy name why.Check) 1
judged draft c name (Faults kind) = Refuses (fault.CommandPolicy name (why.Fault kind)) 1
judged draft c name Sticks = Refuses (fault.CommandPolicy name why.Check) 1

-- The call of what was brought, under the id of the command that it became.
abbrev pub call_with : List ℕ → Brought → List ℕ → Call
call_with author b id = record { command = b.command; fields = b.fields; author = author; id = id }

-- A command with a tag is taken where its id is new and its policy passes.
abbrev pub checked : List PlacedItem → List ℕ → List Command → Draft → List Row → Brought → Command → Publication
checked policy author held draft rows b c =
    if is_known held draft.commands (command_id c) then Refuses (fault.Collision (command_id c)) 0
    else judged draft c (declared_at policy b.command).name (policy_block policy (call_with author b (command_id c)) rows)

-- By the tag that the envelope made, where it made one.
abbrev pub sealed : Basis → Draft → List Row → Brought → Option (List ℕ) → Publication
sealed basis draft rows b None = Refuses fault.SealFault 0
sealed basis draft rows b (Some tag) = checked basis.policy basis.author basis.held draft rows b (command_of basis draft.heads b tag)

abbrev pub behind_opening : Basis → Result Draft ActFault → List Row → Brought → Option (List ℕ) → Publication
behind_opening basis (Err why) rows b tag = Refuses why 0
behind_opening basis (Ok draft) rows b tag = sealed basis draft rows b tag

-- What a publish comes to over these facts, where the envelope makes this tag or none.
abbrev pub published : Basis → Draft → List Row → Brought → Option (List ℕ) → Publication
published basis draft rows b tag =
    if nat_lt 4096 (length (payload_of b)) then IsTooLong else behind_opening basis (opened basis.held draft (declared_at basis.policy b.command)) rows b tag
