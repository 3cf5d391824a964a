-- The call that a command of the graph is, and what it makes of the facts by its policy and recall blocks.
use Rattle.std.specs.Prelude.{◌≡◌, ℕ, if◌then◌else◌, List, Option, Some, None, option_map, option_and_then}
use Rattle.base_bytes.specs.Payload.{IsPayload}
use Rattle.base_bytes.specs.declared.ty.Ty.TheVariants as ty
use Rattle.base_bytes.specs.declared.value.Value.{Value}
use Rattle.base_bytes.specs.declared.value.Value.TheVariants as value
use Rattle.command.specs.Wire.{command_id}
use Rattle.command.specs.declared.command.Command.{Command}
use Rattle.command.specs.declared.command.Command.TheVariants as command
use Rattle.fact_store.specs.declared.row.Row.{Row}
use Rattle.policy_ast.specs.declared.item.Item.{Item}
use Rattle.policy_ast.specs.declared.policy.PlacedItem.{PlacedItem}
use Rattle.policy_meaning.specs.Applying.{Ended, Passes, Checks, Faults}
use Rattle.policy_meaning.specs.Blocks.{policy_block, recall_block}
use Rattle.policy_meaning.specs.declared.call.Call.{Call}
use Rattle.policy_meaning.specs.declared.effect.Effect.{Effect}
use Rattle.policy_meaning.specs.Payloads.{payload_fields}
use Rattle.policy_rules.specs.Heads.{is_command, names_item}
use Rattle.policy_rules.specs.Names.{Name, number_named}
use Rattle.policy_rules.specs.Shapes.{shapes_of}
use Rattle.policy_rules.specs.WellTyped.{items_of}

-- The name, the payload and the author of a command; a merge has none.
pub record Content : Type 0 where
  pub name : List ℕ
  pub payload : List ℕ
  pub author : List ℕ

abbrev pub content_of : Command → Option Content
content_of (command.Init cut digest author name payload tag) = Some (record { name = name; payload = payload; author = author })
content_of (command.Basic cut priority parent author name payload tag) = Some (record { name = name; payload = payload; author = author })
content_of (command.Finalize cut parent author name payload tag) = Some (record { name = name; payload = payload; author = author })
content_of (command.Merge cut left right) = None

-- The item number of the command of this name, where the policy declares one.
abbrev pub command_number : List Item → Name → Option ℕ
command_number items name = if names_item is_command items name then number_named items name else None

-- The payload spells these values, as the fields of the struct of this number.
abbrev pub AreSpelled : List Item → ℕ → List Value → List ℕ → Type 0
AreSpelled items number fields payload = IsPayload (shapes_of items) (ty.Struct number) (value.Struct number fields) payload

-- The call that a command of this id and content is: that of the command of its name, with the values that its payload spells. It is none where the
-- policy declares no command of the name, or where the payload spells no values of its fields.
pub data IsCallBy (items : List Item) (id : List ℕ) (content : Content) : Option Call → Type 0 where
  called : {number : ℕ} {fields : List Value} → command_number items content.name ≡ Some number → AreSpelled items number fields content.payload
      → IsCallBy items id content (Some (record { command = number; fields = fields; author = content.author; id = id }))
  not_declared : command_number items content.name ≡ None → IsCallBy items id content None
  not_spelled : {number : ℕ} → command_number items content.name ≡ Some number → ((fields : List Value) → AreSpelled items number fields content.payload → ⊥) → IsCallBy items id content None

-- The same of a command; a merge has no content, and is no call.
abbrev pub IsCallOfContent : List Item → List ℕ → Option Content → Option Call → Type 0
IsCallOfContent items id None o = o ≡ None
IsCallOfContent items id (Some content) o = IsCallBy items id content o

abbrev pub IsCallOf : List PlacedItem → Command → Option Call → Type 0
IsCallOf policy c o = IsCallOfContent (items_of policy) (command_id c) (content_of c) o

-- That call, as it is found: the payload is read.
abbrev pub call_by : List Item → List ℕ → Content → Option Call
call_by items id content =
    option_and_then
    (λ number. option_map (λ fields. record { command = number; fields = fields; author = content.author; id = id }) (payload_fields items number content.payload))
    (command_number items content.name)

-- The one call that a command is, or none, as `IsCallOf` says.
unfoldable pub call_of : List PlacedItem → Command → Option Call
call_of policy c = option_and_then (call_by (items_of policy) (command_id c)) (content_of c)

-- What a command comes to: its policy passes, or a check of it fails and its recall passes, or nothing.
pub data Judged : Type 0 where
  Pass : (rows : List Row) → (effects : List Effect) → Judged
  Recalled : (rows : List Row) → (effects : List Effect) → Judged
  Void : Judged
  -- no block of a well-typed policy comes to this
  Sticks : Judged

-- After a check of the policy failed: a failed check or a fault of the recall changes nothing.
abbrev pub recalled : Ended → Judged
recalled (Passes rows effects) = Recalled rows effects
recalled (Checks named) = Void
recalled (Faults kind) = Void
recalled other = Sticks

-- By how the policy block ends; after a fault no recall is run.
abbrev pub judged_by : Ended → Ended → Judged
judged_by (Passes rows effects) recall = Pass rows effects
judged_by (Checks named) recall = recalled recall
judged_by (Faults kind) recall = Void
judged_by other recall = Sticks

abbrev pub call_judged : List PlacedItem → List Row → Option Call → Judged
call_judged policy rows None = Void
call_judged policy rows (Some call) = judged_by (policy_block policy call rows) (recall_block policy call rows)

-- What a command comes to over these facts.
abbrev pub judged : List PlacedItem → List Row → Command → Judged
judged policy rows c = call_judged policy rows (call_of policy c)
