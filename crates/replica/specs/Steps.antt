-- How a call of a replica goes: it does what is asked, or refuses it, or its disk fails. Memory may lack in place of each.
use Rattle.std.specs.Prelude.{◌≡◌, ◌⊎◌, ◌<◌, length, Some, None, Result, Ok, Err}
use Rattle.braid_run.specs.States.{Held}
use Rattle.journal.specs.declared.commit.Commit.{Commit}
use Rattle.outside.specs.declared.faults.DiskStep.{DiskStep}
use Rattle.journal.specs.declared.commit.Commit.TheVariants.{Graph, Commands}
use Rattle.replica.specs.Fronts.{Front, behind_commit, front_of}
use Rattle.replica.specs.Kept.{Kept}
use Rattle.replica.specs.declared.down.Down.{Down}
use Rattle.replica.specs.declared.refusal.Refusal.{Refusal}
use Rattle.replica.specs.declared.refusal.Refusal.TheVariants as refusal

-- A commit that changes what is held: it names a graph that has no id, or it has commands.
abbrev pub IsChange : Front → Commit → Type 0
IsChange front (Graph id) = front.graph_id ≡ None
IsChange front (Commands commands) = 0 < length commands

-- The replica holds this, and is up. Where no graph was named and no command added, nothing is written.
pub record IsNowWith {D : Type 0} (old : Kept D) (held : Held) (new : Kept D) : Type 0 where
  pub same : new ≡ record old { held = held; down = None; disk = new.disk; outline = new.outline }
  pub still : front_of held ≡ front_of old.held → new.disk ≡ old.disk

module _ {D : Type 0} (old : Kept D) where
  -- A replica that is down says so, and at which step its disk failed.
  abbrev pub SaysDown : Refusal → Type 0
  SaysDown why = (down : Down) × (old.down ≡ Some down) × (why ≡ refusal.Down down.step)

  -- It would have given a reply and have held what a commit leads to, but the disk failed at that commit: it holds what it held, is down, and the
  -- commit is loose.
  pub record FailsIn {T : Type 0} (gives : T → Held → Type 0) (step : DiskStep) (new : Kept D) : Type 0 where
    pub reply : T
    pub held : Held
    pub given : gives reply held
    pub commit : Commit
    pub some : IsChange (front_of old.held) commit
    pub leads : front_of held ≡ behind_commit (front_of old.held) commit
    pub same : new ≡ record old { disk = new.disk; down = Some (record { step = step; loose = Some commit }) }

  -- It refuses for a reason that stands, and all stays; or its disk fails; or it is down, and all stays.
  abbrev pub Refuses : {T : Type 0} → (T → Held → Type 0) → (Refusal → Type 0) → Refusal → Kept D → Type 0
  Refuses gives refuses why new =
      ((old.down ≡ None) × ((why ≡ refusal.NoMemory) ⊎ refuses why) × (new ≡ old))
      ⊎ ((old.down ≡ None) × ((step : DiskStep) × (why ≡ refusal.DiskFault step) × FailsIn gives step new))
      ⊎ (SaysDown why × (new ≡ old))

  -- It is up, gives a reply and holds what was asked for; or refuses.
  abbrev pub IsStep : {T : Type 0} → (T → Held → Type 0) → (Refusal → Type 0) → Result T Refusal → Kept D → Type 0
  IsStep gives refuses (Ok reply) new = (old.down ≡ None) × ((held : Held) × gives reply held × IsNowWith old held new)
  IsStep gives refuses (Err why) new = Refuses gives refuses why new

  -- The same of a call that changes nothing.
  abbrev pub IsReplyOf : {T : Type 0} → (T → Type 0) → (Refusal → Type 0) → Result T Refusal → Type 0
  IsReplyOf gives refuses (Ok reply) = (old.down ≡ None) × gives reply
  IsReplyOf gives refuses (Err why) = ((old.down ≡ None) × ((why ≡ refusal.NoMemory) ⊎ refuses why)) ⊎ SaysDown why

-- A reply, or a refusal for a reason that stands, of whatever replica.
abbrev pub IsReply : {T : Type 0} → (T → Type 0) → (Refusal → Type 0) → Result T Refusal → Type 0
IsReply gives refuses (Ok reply) = gives reply
IsReply gives refuses (Err why) = (why ≡ refusal.NoMemory) ⊎ refuses why
