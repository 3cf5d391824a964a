-- The command that a publish makes is the call that was brought, and the policy declares its kind.
use Rattle.std.proofs.Common.{◌≡◌, ℕ, Bool, if◌then◌else◌, IsTrue, List, [], Option, Some, None, option_map, option_and_then, refl, sym, ap, ◌∙◌}
use Rattle.std.specs.Option.{is_some}
use Rattle.base_bytes.specs.Payload.{spelling}
use Rattle.base_bytes.specs.declared.value.Value.{Value}
use Rattle.base_bytes.specs.declared.value.Value.TheVariants as value
use Rattle.braid_run.specs.Soundness.{HasDigest, HasGoodTag, declared_kind, item_kind, kind_of}
use Rattle.command.specs.Wire.{body, command_id}
use Rattle.command.specs.declared.command.Command.{Command}
use Rattle.command.proofs.ClosedFacts.{bytes_of_same}
use Rattle.fact_store.specs.declared.row.Row.{Row}
use Rattle.policy_ast.specs.declared.item.Item.{Item}
use Rattle.policy_ast.specs.declared.item.Item.TheVariants as item
use Rattle.policy_ast.specs.declared.policy.PlacedItem.{PlacedItem}
use Rattle.policy_meaning.specs.Applying.{Passes}
use Rattle.policy_meaning.specs.Blocks.{policy_block, recall_block}
use Rattle.policy_meaning.specs.Commands.{Content, Pass, call_by, call_judged, call_of, command_number, content_of, judged, judged_by}
use Rattle.policy_meaning.specs.Typed.{IsCommandOf}
use Rattle.policy_meaning.specs.declared.call.Call.{Call}
use Rattle.policy_meaning.specs.declared.effect.Effect.{Effect}
use Rattle.policy_meaning.specs.Payloads.{payload_fields}
use Rattle.policy_meaning.proofs.DeclaredFacts.{named_at}
use Rattle.policy_meaning.proofs.NumberFacts.{own_number}
use Rattle.policy_meaning.proofs.PayloadFacts.{fields_read}
use Rattle.policy_rules.specs.Commands.{CommandKind, Basic, Finalize, Init, command_kind}
use Rattle.policy_rules.specs.Heads.{is_command}
use Rattle.policy_rules.specs.Names.{Name, item_named, number_named}
use Rattle.policy_rules.specs.WellTyped.{IsWellTyped, items_of}
use Rattle.policy_rules.proofs.Reaching.{structs_are_finite}
use Rattle.transaction.specs.Publishing.{call_with, declared_at, new_command}
use Rattle.transaction.proofs.CommandFacts.{Stands, declared_stands, stands, struct_typed}

-- ---- a command of its parts

pub content_made : (digest author parent : List ℕ) (kind : CommandKind) (name : Name) (payload tag : List ℕ)
    → content_of (new_command digest author parent kind name payload tag) ≡ Some (record { name = name; payload = payload; author = author })
content_made digest author parent Init name payload tag = refl
content_made digest author parent (Basic priority) name payload tag = refl
content_made digest author parent Finalize name payload tag = refl

kind_made : (digest author parent : List ℕ) (kind : CommandKind) (name : Name) (payload tag : List ℕ) → kind_of (new_command digest author parent kind name payload tag) ≡ Some kind
kind_made digest author parent Init name payload tag = refl
kind_made digest author parent (Basic priority) name payload tag = refl
kind_made digest author parent Finalize name payload tag = refl

pub digest_made : (digest author parent : List ℕ) (kind : CommandKind) (name : Name) (payload tag : List ℕ) → HasDigest digest (new_command digest author parent kind name payload tag)
digest_made digest author parent Init name payload tag = refl
digest_made digest author parent (Basic priority) name payload tag = tt
digest_made digest author parent Finalize name payload tag = tt

-- the body doesn't hold the tag
pub tag_made : (good : List ℕ → List ℕ → List ℕ → Bool) (digest author parent : List ℕ) (kind : CommandKind) (name : Name) (payload tag : List ℕ)
    → IsTrue (good author (body (new_command digest author parent kind name payload [])) tag) → HasGoodTag good (new_command digest author parent kind name payload tag)
tag_made good digest author parent Init name payload tag is = is
tag_made good digest author parent (Basic priority) name payload tag is = is
tag_made good digest author parent Finalize name payload tag is = is

-- ---- its call

module _ (policy : List PlacedItem) (typed : IsWellTyped policy) (n : ℕ) (fields : List Value) (is : IsCommandOf policy n fields) where
  abbrev items : List Item
  items = items_of policy

  abbrev there : Stands policy n fields
  there = stands policy n fields is

  declared : declared_at policy n ≡ record { name = there.name; kind = command_kind there.sections }
  declared = declared_stands policy n there.name there.sections there.at

  number : number_named items there.name ≡ Some n
  number = own_number policy typed n (item.Command there.name there.sections) there.name there.at (bytes_of_same there.name there.name refl)

  own_item : item_named items there.name ≡ Some (item.Command there.name there.sections)
  own_item = named_at items there.name n number ∙ there.at

  own_command : command_number items there.name ≡ Some n
  own_command =
      ap (λ o. if is_some (option_and_then (λ i. if is_command i then Some i else None) o) then number_named items there.name else None) own_item ∙ number

  abbrev call_to : List ℕ → List ℕ → Option Call
  call_to author id = Some (record { command = n; fields = fields; author = author; id = id })

  call_by_own : (id author : List ℕ) → call_by items id (record { name = there.name; payload = spelling (value.Struct n fields); author = author }) ≡ call_to author id
  call_by_own id author =
      ap (λ o. option_and_then (λ k. option_map (λ found. record { command = k; fields = found; author = author; id = id }) (payload_fields items k (spelling (value.Struct n fields)))) o) own_command
      ∙ ap (option_map (λ found. record { command = n; fields = found; author = author; id = id }))
      (fields_read items (structs_are_finite policy typed) n fields (spelling (value.Struct n fields)) (record { typed = struct_typed policy n fields is; spelled = refl }))

  call_of_content : (c : Command) (author : List ℕ) → content_of c ≡ Some (record { name = (declared_at policy n).name; payload = spelling (value.Struct n fields); author = author })
      → call_of policy c ≡ call_to author (command_id c)
  unfolding call_of
  call_of_content c author has =
      ap (option_and_then (call_by items (command_id c))) has
      ∙ ap (λ d. call_by items (command_id c) (record { name = d.name; payload = spelling (value.Struct n fields); author = author })) declared
      ∙ call_by_own (command_id c) author

  -- where its policy passes, it passes
  pub passes_made : (c : Command) (author : List ℕ) (rows after : List Row) (effects : List Effect) → content_of c ≡ Some (record { name = (declared_at policy n).name; payload = spelling (value.Struct n fields); author = author })
      → policy_block policy (call_with author (record { command = n; fields = fields }) (command_id c)) rows ≡ Passes after effects → judged policy rows c ≡ Pass after effects
  passes_made c author rows after effects has passes =
      ap (call_judged policy rows) (call_of_content c author has)
      ∙ ap (λ e. judged_by e (recall_block policy (call_with author (record { command = n; fields = fields }) (command_id c)) rows)) passes

  -- and its kind is the declared one
  pub kind_is_declared : (digest author parent payload tag : List ℕ)
      → option_and_then (λ (content : Content). declared_kind policy content.name) (content_of (new_command digest author parent (declared_at policy n).kind (declared_at policy n).name payload tag))
      ≡ kind_of (new_command digest author parent (declared_at policy n).kind (declared_at policy n).name payload tag)
  kind_is_declared digest author parent payload tag =
      ap (option_and_then (λ (content : Content). declared_kind policy content.name)) (content_made digest author parent (declared_at policy n).kind (declared_at policy n).name payload tag)
      ∙ ap (λ d. declared_kind policy d.name) declared
      ∙ ap (option_and_then item_kind) own_item
      ∙ sym (ap (λ d. Some d.kind) declared)
      ∙ sym (kind_made digest author parent (declared_at policy n).kind (declared_at policy n).name payload tag)
