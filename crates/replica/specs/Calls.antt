-- The calls of a replica, each as a step.
use Rattle.std.specs.Prelude.{◌≡◌, ◌⊎◌, ⊤, ℕ, Bool, List, length, Option, Some, None, IsSome, Result, Ok, Err}
use Rattle.braid_run.specs.RunOf.{IsRunOf}
use Rattle.braid_run.specs.States.{Held}
use Rattle.journal.specs.declared.commit.Commit.{Commit}
use Rattle.journal.specs.declared.fault.OpenFault.{OpenFault}
use Rattle.journal.specs.declared.fault.OpenFault.TheVariants as fault
use Rattle.outside.specs.declared.faults.DiskStep.{DiskStep}
use Rattle.policy_ast.specs.declared.policy.PlacedItem.{PlacedItem}
use Rattle.replica.specs.Fronts.{Front, behind_commit, front_of}
use Rattle.replica.specs.Kept.{IsUpWith, Kept, criteria_of, loose_of}
use Rattle.replica.specs.Messages.{AreNextBytes, IsRequestRead, IsResponseRead}
use Rattle.replica.specs.Steps.{IsReplyOf, IsStep}
use Rattle.replica.specs.Actions.{IsCounted, IsFault}
use Rattle.replica.specs.Takes.{Takes}
use Rattle.replica.specs.declared.counts.Published.{Published}
use Rattle.replica.specs.declared.counts.Taken.{Taken}
use Rattle.replica.specs.declared.refusal.Refusal.{Refusal}
use Rattle.replica.specs.declared.refusal.Refusal.TheVariants as refusal
use Rattle.sync_codec.specs.Messages.{IsRequest, IsResponse}
use Rattle.sync_codec.specs.declared.request.Request.{Request}
use Rattle.sync_codec.specs.declared.response.Response.{Response}
use Rattle.sync_peer.specs.Messages.{IsAnswer, next_of, request_of}
use Rattle.transaction.specs.Acting.{Acts, Made, Request as Action}
use Rattle.transaction.specs.Applying.{applied}
use Rattle.transaction.specs.Drafts.{Basis}

-- The faults by which a journal is refused; a failed disk and want of memory are refusals of their own.
abbrev pub IsRefusedJournal : OpenFault → Type 0
IsRefusedJournal (fault.Damaged offset) = ⊤
IsRefusedJournal (fault.OtherPolicy digest) = ⊤
IsRefusedJournal (fault.DiskFault step) = ⊥
IsRefusedJournal fault.NoMemory = ⊥

-- The fault of an opening that a refusal tells of. What tells of none says nothing of what the disk reads, and counts as want of memory.
abbrev pub opening_fault : Refusal → OpenFault
opening_fault (refusal.Journal cause) = cause
opening_fault other = fault.NoMemory

module _ {D : Type 0} (old : Kept D) where
  -- A join names the graph, where it has no id.
  abbrev pub Joins : {T : Type 0} → List ℕ → Result T Refusal → Kept D → Type 0
  Joins id result new =
      IsStep old (λ reply held. (old.held.graph_id ≡ None) × (held ≡ record old.held { graph_id = Some id })) (λ why. IsSome old.held.graph_id × (why ≡ refusal.HasGraph)) result new

  -- The first request of a session, where the graph has an id.
  abbrev pub Asks : Result (List ℕ) Refusal → Type 0
  Asks result =
      IsReplyOf old (λ bytes. (id : List ℕ) × (old.held.graph_id ≡ Some id) × IsRequest (request_of id old.held.commands) bytes) (λ why. (old.held.graph_id ≡ None) × (why ≡ refusal.NoGraph)) result

  -- The request that follows a response, and none exactly where no more commands follow.
  abbrev pub AsksNext : List ℕ → Result (Option (List ℕ)) Refusal → Type 0
  AsksNext bytes result =
      IsReplyOf old (λ next. (response : Response) × IsResponseRead bytes old.held.graph_id (Ok response) × AreNextBytes (next_of response) next) (λ why. IsResponseRead bytes old.held.graph_id (Err why)) result

  -- The response to a request.
  abbrev pub Answers : List ℕ → Result (List ℕ) Refusal → Type 0
  Answers bytes result =
      IsReplyOf old (λ answer. (request : Request) × IsRequestRead bytes old.held.graph_id (Ok request) × ((response : Response) × IsAnswer old.held.commands request response × IsResponse response answer))
      (λ why. IsRequestRead bytes old.held.graph_id (Err why)) result

  -- A take of the commands of a response comes to this.
  abbrev pub IsTakeOf : (List ℕ → List ℕ → List ℕ → Bool) → List ℕ → Taken → Held → Type 0
  IsTakeOf good bytes taken held = (response : Response) × IsResponseRead bytes old.held.graph_id (Ok response) × Takes (criteria_of good old) old.held response taken held

  abbrev pub TakesIn : (List ℕ → List ℕ → List ℕ → Bool) → List ℕ → Result Taken Refusal → Kept D → Type 0
  TakesIn good bytes result new = IsStep old (IsTakeOf good bytes) (λ why. IsResponseRead bytes old.held.graph_id (Err why)) result new

  -- The same take, with the answer twice.
  abbrev pub TakesTwice : (List ℕ → List ℕ → List ℕ → Bool) → List ℕ → Result (Taken × Taken) Refusal → Kept D → Type 0
  TakesTwice good bytes result new = IsStep old (λ two held. (two.0 ≡ two.1) × IsTakeOf good bytes two.0 held) (λ why. IsResponseRead bytes old.held.graph_id (Err why)) result new

  -- What an action stands on.
  abbrev pub basis_of : (List ℕ → List ℕ → List ℕ → Bool) → Option (List ℕ → List ℕ → List ℕ) → Basis
  basis_of good told = record { policy = old.policy; digest = old.digest; good = good; told = told; author = old.author; held = old.held.commands }

  -- An action publishes all of this, and these are the counts of it.
  abbrev pub IsActionOf : (List ℕ → List ℕ → List ℕ → Bool) → Option (List ℕ → List ℕ → List ℕ) → Action → ℕ → ℕ → Published → Held → Type 0
  IsActionOf good told action before now counts held =
      (made : Made) × Acts (basis_of good told) old.held.rows action (Ok made) before now × IsCounted old.policy old.held.commands made counts × (held ≡ applied old.held made)

  -- An action, whole or not at all.
  abbrev pub ActsIn : (List ℕ → List ℕ → List ℕ → Bool) → Option (List ℕ → List ℕ → List ℕ) → Action → ℕ → ℕ → Result Published Refusal → Kept D → Type 0
  ActsIn good told action before now result new = IsStep old (IsActionOf good told action before now) (IsFault (basis_of good told) old.held.rows action before now) result new

  -- The first action of a graph, where there is no graph id yet.
  abbrev pub Begins : (List ℕ → List ℕ → List ℕ → Bool) → Option (List ℕ → List ℕ → List ℕ) → Action → ℕ → ℕ → Result Published Refusal → Kept D → Type 0
  Begins good told action before now result new =
      IsStep old (λ counts held. (old.held.graph_id ≡ None) × IsActionOf good told action before now counts held)
      (λ why. (IsSome old.held.graph_id × (why ≡ refusal.HasGraph)) ⊎ ((old.held.graph_id ≡ None) × IsFault (basis_of good told) old.held.rows action before now why)) result new

  -- A restart: the replica is up again, with what its disk reads, and says how many commands it holds; or the journal is refused, or memory lacks, and
  -- all stays but the disk; or the disk fails again, and the replica is down, with the loose commit that it had.
  abbrev pub Restarts : Result ℕ Refusal → Kept D → Type 0
  Restarts (Ok count) new = (held : Held) × (count ≡ length held.commands) × IsRunOf old.policy held.commands held.rows held.entries × IsUpWith old held new
  Restarts (Err why) new =
      (((why ≡ refusal.NoMemory) ⊎ ((cause : OpenFault) × IsRefusedJournal cause × (why ≡ refusal.Journal cause))) × (new ≡ record old { disk = new.disk }))
      ⊎ ((step : DiskStep) × (why ≡ refusal.DiskFault step) × (new ≡ record old { disk = new.disk; down = Some (record { step = step; loose = loose_of old.down }) }))

  -- While the disk returns what was written, no journal is refused, and what was held is held again, or that with the loose commit.
  abbrev pub StaysAtRestart : Result ℕ Refusal → Kept D → Type 0
  StaysAtRestart (Ok count) new = (new.held ≡ old.held) ⊎ ((commit : Commit) × (loose_of old.down ≡ Some commit) × (front_of new.held ≡ behind_commit (front_of old.held) commit))
  StaysAtRestart (Err why) new = (cause : OpenFault) → why ≡ refusal.Journal cause → ⊥

-- What a restart answers of its disk, as an opening does.
abbrev pub restart_opens : {T D : Type 0} → Result T Refusal → Kept D → Result Front OpenFault
restart_opens (Ok count) new = Ok (front_of new.held)
restart_opens (Err why) new = Err (opening_fault why)

-- What opening on a disk answers: the empty replica of nothing, or with what the disk reads; or a refusal, which hands back the runner and the disk.
abbrev pub opened_front : {R D : Type 0} → Result (Kept D) (OpenFault × R × D) → Result Front OpenFault
opened_front (Ok kept) = Ok (front_of kept.held)
opened_front (Err refused) = Err refused.0

abbrev pub opened_disk : {R D : Type 0} → Result (Kept D) (OpenFault × R × D) → D
opened_disk (Ok kept) = kept.disk
opened_disk (Err refused) = refused.2

-- A replica as it is opened: up, of this policy and author, with the run of what it holds.
pub record IsOpened {D : Type 0} (policy : List PlacedItem) (digest author : List ℕ) (kept : Kept D) : Type 0 where
  pub run : IsRunOf policy kept.held.commands kept.held.rows kept.held.entries
  pub same : kept ≡ record { policy = policy; digest = digest; author = author; held = kept.held; down = None; disk = kept.disk; outline = kept.outline }
