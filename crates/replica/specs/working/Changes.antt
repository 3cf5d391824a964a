-- What a take comes to before anything is changed, and what is held once it is adopted.
use Rattle.std.specs.Prelude.{◌≡◌, ℕ, ◌-◌, ◌<◌, Bool, List, ◌++◌, length, Option, Some, None, Ok}
use Rattle.std.specs.List.{common_prefix_len}
use Rattle.std.specs.Str.{bytes_eq}
use Rattle.accept.specs.Admission.{IsAdmission}
use Rattle.accept.specs.Takes.{Tally, counted}
use Rattle.accept.specs.declared.answer.Admit.{Admit}
use Rattle.braid_run.specs.RunOf.{IsRunOf}
use Rattle.braid_run.specs.Soundness.{AreSound, Criteria}
use Rattle.braid_run.specs.States.{Held, IsStanding, extended}
use Rattle.braid_run.specs.declared.entry.Entry.{Entry}
use Rattle.command.specs.declared.command.Command.{Command}
use Rattle.fact_store.specs.declared.row.Row.{Row}
use Rattle.policy_ast.specs.declared.policy.PlacedItem.{PlacedItem}
use Rattle.policy_meaning.specs.Typed.{AreTyped}
use Rattle.replica.specs.Actions.{IsCounted}
use Rattle.replica.specs.Kept.{IsReplica}
use Rattle.replica.specs.Messages.{IsResponseRead}
use Rattle.replica.specs.Takes.{Takes}
use Rattle.replica.specs.declared.counts.Published.{Published}
use Rattle.replica.specs.declared.counts.Taken.{Taken}
use Rattle.replica.specs.declared.refusal.Refusal.{Refusal}
use Rattle.replica.specs.declared.refusal.Refusal.TheVariants as refusal
use Rattle.sync_codec.specs.declared.response.Response.{Response}
use Rattle.transaction.specs.Acting.{Acts, Made, Request as Action}
use Rattle.transaction.specs.Applying.{applied}
use Rattle.transaction.specs.Drafts.{Basis}
use Rattle.transaction.specs.declared.fault.ActFault.{ActFault}
use Rattle.transaction.specs.declared.fault.ActFault.TheVariants as act_fault

-- Two entries are of one command.
abbrev pub same_entry : Entry → Entry → Bool
same_entry one other = bytes_eq one.id other.id

-- Commands to be added, and the facts and entries of all that is held then.
pub record Change : Type 0 where
  pub commands : List Command
  pub rows : List Row
  pub entries : List Entry

abbrev pub changed : Held → Option Change → Held
changed held None = held
changed held (Some change) = extended held change.commands 0 change.rows change.entries

-- One command more is counted in, whatever becomes of it.
pub record CountsOne (criteria : Criteria) (graph_id : Option (List ℕ)) (below : List Command) (c : Command) (old new : Tally) : Type 0 where
  pub answer : Admit
  pub admission : IsAdmission criteria graph_id (below ++ old.added) c answer
  pub same_tally : new ≡ counted old c answer

-- The change of a take may be adopted: it adds commands, all that is held then stands, and the facts are typed.
abbrev pub MayChange : Criteria → Held → Option Change → Type 0
MayChange criteria held None = Unit {0}
MayChange criteria held (Some change) = (0 < length change.commands) × IsStanding held.graph_id (held.commands ++ change.commands) × AreTyped criteria.policy change.rows

-- What a take comes to, and the change that it asks for, behind which the replica is still one, and what was sound still sound.
pub record IsReady (criteria : Criteria) (held : Held) (response : Response) (taken : Taken) (change : Option Change) : Type 0 where
  pub takes : Takes criteria held response taken (changed held change)
  pub may_change : MayChange criteria held change
  pub replica : IsReplica criteria.policy criteria.digest (changed held change)
  pub sound : AreSound criteria held.graph_id held.commands → AreSound criteria (changed held change).graph_id (changed held change).commands

-- The same, of the bytes of a response.
pub record IsReadyFor (criteria : Criteria) (held : Held) (bytes : List ℕ) (taken : Taken) (change : Option Change) : Type 0 where
  pub response : Response
  pub read : IsResponseRead bytes held.graph_id (Ok response)
  pub ready : IsReady criteria held response taken change

-- What was added, and the run of all that is held with it; the entries before and behind share so many, and so many follow.
pub record Reruns (policy : List PlacedItem) (below added : List Command) (olds : List Entry) (change : Change) (cut entries : ℕ) : Type 0 where
  pub same_added : change.commands ≡ added
  pub run : IsRunOf policy (below ++ added) change.rows change.entries
  pub typed : AreTyped policy change.rows
  pub shared : cut ≡ common_prefix_len same_entry olds change.entries
  pub left : entries ≡ length change.entries - cut

-- The refusal of an action, by its fault. That memory lacks is a refusal of its own.
abbrev pub refused_by : ActFault → Refusal
refused_by act_fault.NoMemory = refusal.NoMemory
refused_by other = refusal.Act other

-- An action was done on what a replica holds, and these are the counts of it.
abbrev pub IsDone : Basis → Held → Action → ℕ → ℕ → Published → Held → Type 0
IsDone basis old action before now counts new =
    (made : Made) × Acts basis old.rows action (Ok made) before now × IsCounted basis.policy old.commands made counts × (new ≡ applied old made)
