-- Sound states: what a state promises for a policy and a type of envelopes, beyond what is true of every state.
use Rattle.std.specs.Prelude.{◌≡◌, ℕ, Bool, false, IsTrue, List, ◌++◌, drop, Option, Some, None, option_and_then}
use Rattle.std.specs.List.{Contains}
use Rattle.braid.specs.Braids.{IsBraid}
use Rattle.braid_run.specs.Batches.{IsCommonPrefix}
use Rattle.braid_run.specs.Places.{AreAtPlace}
use Rattle.braid_run.specs.RunOf.{IsRunOf}
use Rattle.braid_run.specs.Runs.{run_of}
use Rattle.braid_run.specs.States.{Held, IsStanding}
use Rattle.braid_run.specs.declared.entry.Entry.{Entry}
use Rattle.command.specs.Kinds.{is_merge}
use Rattle.command.specs.Wire.{body}
use Rattle.command.specs.declared.command.Command.{Command}
use Rattle.command.specs.declared.command.Command.TheVariants as command
use Rattle.fact_store.specs.declared.row.Row.{Row}
use Rattle.policy_ast.specs.declared.item.Item.{Item}
use Rattle.policy_ast.specs.declared.item.Item.TheVariants as item
use Rattle.policy_ast.specs.declared.policy.PlacedItem.{PlacedItem}
use Rattle.policy_meaning.specs.Commands.{Judged, Pass, content_of, judged}
use Rattle.policy_rules.specs.Commands.{CommandKind, Basic, Finalize, Init, command_kind}
use Rattle.policy_rules.specs.Names.{Name, item_named}
use Rattle.policy_rules.specs.WellTyped.{items_of}

-- What commands are judged by: a policy, the digest of its document, and the test of tags that a type of envelopes has.
pub record Criteria : Type 0 where
  pub policy : List PlacedItem
  pub digest : List ℕ
  pub good : List ℕ → List ℕ → List ℕ → Bool

-- An init carries the digest.
abbrev pub HasDigest : List ℕ → Command → Type 0
HasDigest digest (command.Init cut own author name payload tag) = own ≡ digest
HasDigest digest other = Unit {0}

-- The tag is good for the author and the body. A merge has none.
abbrev pub HasGoodTag : (List ℕ → List ℕ → List ℕ → Bool) → Command → Type 0
HasGoodTag good (command.Init cut digest author name payload tag) = IsTrue (good author (body (command.Init cut digest author name payload tag)) tag)
HasGoodTag good (command.Basic cut priority parent author name payload tag) = IsTrue (good author (body (command.Basic cut priority parent author name payload tag)) tag)
HasGoodTag good (command.Finalize cut parent author name payload tag) = IsTrue (good author (body (command.Finalize cut parent author name payload tag)) tag)
HasGoodTag good (command.Merge cut left right) = Unit {0}

-- The kind and priority of a command, as a policy declares them. A merge has none.
abbrev pub kind_of : Command → Option CommandKind
kind_of (command.Init cut digest author name payload tag) = Some Init
kind_of (command.Basic cut priority parent author name payload tag) = Some (Basic priority)
kind_of (command.Finalize cut parent author name payload tag) = Some Finalize
kind_of (command.Merge cut left right) = None

abbrev pub item_kind : Item → Option CommandKind
item_kind (item.Command name sections) = Some (command_kind sections)
item_kind other = None

-- The kind that the policy declares for commands of this name.
abbrev pub declared_kind : List PlacedItem → Name → Option CommandKind
declared_kind policy name = option_and_then item_kind (item_named (items_of policy) name)

-- It passes. So the policy declares its name, and its payload is a value of the fields.
abbrev pub DoesPass : Judged → Type 0
DoesPass (Pass rows effects) = Unit {0}
DoesPass other = ⊥

-- A command, no merge, that the policy and the envelopes accept where it stands.
pub record IsLawful (criteria : Criteria) (cs : List Command) (c : Command) : Type 0 where
  pub digest : HasDigest criteria.digest c
  pub tag : HasGoodTag criteria.good c
  pub kind : option_and_then (λ content. declared_kind criteria.policy content.name) (content_of c) ≡ kind_of c
  pub passes : (rows : List Row) → AreAtPlace criteria.policy cs c rows → DoesPass (judged criteria.policy rows c)

-- Each of these but the merges is lawful where it stands in the list.
abbrev pub AreLawful : Criteria → List Command → List Command → Type 0
AreLawful criteria cs these = (c : Command) → Contains these c → is_merge c ≡ false → IsLawful criteria cs c

-- A sound list of commands.
pub record AreSound (criteria : Criteria) (graph_id : Option (List ℕ)) (cs : List Command) : Type 0 where
  pub standing : IsStanding graph_id cs
  pub lawful : AreLawful criteria cs cs

-- A sound state: its commands are sound, and its facts and entries are those of running their braid.
pub record IsSound (criteria : Criteria) (held : Held) : Type 0 where
  pub commands : AreSound criteria held.graph_id held.commands
  pub run : IsRunOf criteria.policy held.commands held.rows held.entries

-- What it takes for added commands, a cut, and what was run to leave a sound state sound: the new commands are lawful; the braids before and after
-- have the first `cut` commands in common; and the facts are those of the new braid's run, the entries those of it from `cut` on.
pub record IsSoundExtension (criteria : Criteria) (cs more : List Command) (cut : ℕ) (rows : List Row) (entries : List Entry) : Type 0 where
  pub lawful : AreLawful criteria (cs ++ more) more
  pub before : List Command
  pub was : IsBraid cs before
  pub now : List Command
  pub is : IsBraid (cs ++ more) now
  pub common : IsCommonPrefix before now cut
  pub same_rows : rows ≡ (run_of criteria.policy now).rows
  pub same_entries : entries ≡ drop cut (run_of criteria.policy now).entries
