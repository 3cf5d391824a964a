-- Calls of a replica that is up: what they found to do, and why they refuse.
use Rattle.std.proofs.Common.{◌≡◌, ◌⊎◌, inl, inr, ℕ, Bool, true, false, cond, List, [], ◌∷◌, ◌++◌, Option, Some, None, Result, Ok, Err, IfOk, IfErr, length, refl, sym, ap, ◌∙◌, arith}
use Rattle.braid_run.specs.Soundness.{AreSound, Criteria}
use Rattle.braid_run.specs.States.{Held, IsStanding}
use Rattle.command.specs.declared.command.Command.{Command}
use Rattle.fact_store.specs.declared.row.Row.{Row}
use Rattle.outside.specs.declared.faults.DiskStep.{DiskStep}
use Rattle.replica.specs.Actions.{IsFault}
use Rattle.replica.specs.Kept.{IsReplica}
use Rattle.replica.specs.Messages.{IsRead, for_graph}
use Rattle.replica.specs.declared.refusal.Refusal.{Refusal}
use Rattle.replica.specs.declared.refusal.Refusal.TheVariants as refusal
use Rattle.replica.specs.working.Commits.{EndsCommitting, Parts}
use Rattle.std.specs.Str.{bytes_eq}
use Rattle.transaction.specs.Acting.{Made, Request as Action}
use Rattle.transaction.specs.Applying.{IsPublishedOn, applied, graph_named}
use Rattle.transaction.specs.Drafts.{Basis}
use Rattle.transaction.specs.declared.fault.ActFault.{ActFault}
use Rattle.transaction.proofs.SoundFacts.{applied_sound}

pub no_commands : (cs : List Command) → length cs ≡ 0 → cs ≡ []
no_commands [] is = refl
no_commands (c ∷ cs) is = absurd (omega (arith, is))

-- an answer that was given is the one that was to be given
pub replies_with : {T : Type 0} (result : Result T Refusal) (reply : T) → IfOk result (λ it. it ≡ reply) → (x : T) → result ≡ Ok x → x ≡ reply
replies_with (Ok y) reply is x same = let one : x ≡ y = cc in one ∙ is
replies_with (Err why) reply is x same = absurd cc

-- what commits answers no fault of an action
pub no_act_fault : {D T : Type 0} (target : Held) (old : Parts D) (result : Result T Refusal) (new : Parts D) (fault : ActFault) (X : Type 0) → EndsCommitting target old result new → IfErr result (λ why. why ≡ refusal.Act fault → X)
no_act_fault target old (Ok x) new fault X ends = tt
no_act_fault target old (Err why) new fault X (inl lacks) = λ is. let no_fault : refusal.NoMemory ≡ refusal.Act fault = sym lacks.0 ∙ is in absurd cc
no_act_fault target old (Err why) new fault X (inr (step, commit, fails, some, leads, same, falls, outlined)) = λ is. let no_fault : refusal.DiskFault step ≡ refusal.Act fault = sym fails ∙ is in absurd cc

-- a fault of an action is none of the disk
pub act_no_disk : (basis : Basis) (rows : List Row) (action : Action) (before now : ℕ) (why : Refusal) → (why ≡ refusal.NoMemory) ⊎ IsFault basis rows action before now why → (step : DiskStep) → why ≡ refusal.DiskFault step → ⊥
act_no_disk basis rows action before now why (inl lacks) step is = let no_fault : refusal.NoMemory ≡ refusal.DiskFault step = sym lacks ∙ is in absurd cc
act_no_disk basis rows action before now why (inr fault) step is = let no_fault : refusal.Act fault.0 ≡ refusal.DiskFault step = sym fault.2 ∙ is in absurd cc

-- an action keeps sound what was
pub action_sound : (criteria : Criteria) (held : Held) (made : Made) → IsReplica criteria.policy criteria.digest held → IsStanding (graph_named held.graph_id made.commands) (held.commands ++ made.commands) → IsPublishedOn criteria held made →
    AreSound criteria held.graph_id held.commands → AreSound criteria (applied held made).graph_id (applied held made).commands
action_sound criteria held made is standing published sound = (applied_sound criteria held made standing (record { commands = sound; run = is.sound.run }) published).commands

-- a message that isn't read is no fault of the disk
module _ {M : Type 0} (form : M → List ℕ → Type 0) (graph : M → List ℕ) where
  of_another : (m : M) (b : Bool) (step : DiskStep) → Err (refusal.DiskFault step) ≡ cond b (Ok m) (Err (refusal.OtherGraph (graph m))) → ⊥
  of_another m true step is = let no_fault : Err (refusal.DiskFault step) ≡ Ok m = is in cc
  of_another m false step is = let no_fault : cond false (Ok m) (Err (refusal.OtherGraph (graph m))) ≡ Err (refusal.DiskFault step) = sym is in cc

  of_none : (message : Option M) (graph_id : Option (List ℕ)) (step : DiskStep) → Err (refusal.DiskFault step) ≡ for_graph graph message graph_id → ⊥
  of_none None graph_id step is = let no_fault : for_graph graph None graph_id ≡ Err (refusal.DiskFault step) = sym is in cc
  of_none (Some m) None step is = let no_fault : for_graph graph (Some m) None ≡ Err (refusal.DiskFault step) = sym is in cc
  of_none (Some m) (Some own) step is = of_another m (bytes_eq (graph m) own) step is

  pub read_no_disk : (bytes : List ℕ) (graph_id : Option (List ℕ)) (why : Refusal) → (why ≡ refusal.NoMemory) ⊎ IsRead form graph bytes graph_id (Err why) → (step : DiskStep) → why ≡ refusal.DiskFault step → ⊥
  read_no_disk bytes graph_id why (inl lacks) step is = let no_fault : refusal.NoMemory ≡ refusal.DiskFault step = sym lacks ∙ is in absurd cc
  read_no_disk bytes graph_id why (inr read) step is = of_none read.message graph_id step (ap Err (sym is) ∙ read.same_read)
