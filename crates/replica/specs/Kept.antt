-- What a replica keeps, as contracts see it.
use Rattle.std.specs.Prelude.{◌≡◌, ℕ, Bool, true, List, [], Option, None, option_and_then, option_map}
use Rattle.braid_run.specs.Soundness.{Criteria, IsSound}
use Rattle.braid_run.specs.States.{Held}
use Rattle.journal.specs.Outline.{Outline}
use Rattle.journal.specs.declared.commit.Commit.{Commit}
use Rattle.outside.specs.declared.faults.DiskStep.{DiskStep}
use Rattle.policy_ast.specs.declared.policy.PlacedItem.{PlacedItem}
use Rattle.policy_meaning.specs.Typed.{AreTyped}
use Rattle.replica.specs.declared.down.Down.{Down}

-- Its policy and the digest of the policy's document, its author id, what its state holds, and its disk; whether it is down; and where the journal on the
-- disk ends.
pub record Kept (D : Type 0) : Type 0 where
  pub policy : List PlacedItem
  pub digest : List ℕ
  pub author : List ℕ
  pub held : Held
  pub down : Option Down
  pub disk : D
  pub outline : Outline

-- The step at which its disk failed, where it is down.
abbrev pub step_of : Option Down → Option DiskStep
step_of down = option_map (λ d. d.step) down

-- The commit in which its disk failed, which the disk may hold: the loose one.
abbrev pub loose_of : Option Down → Option Commit
loose_of down = option_and_then (λ d. d.loose) down

-- What it judges commands by, with the test of tags of a type of envelopes.
abbrev pub criteria_of : {D : Type 0} → (List ℕ → List ℕ → List ℕ → Bool) → Kept D → Criteria
criteria_of good kept = record { policy = kept.policy; digest = kept.digest; good = good }

-- It takes every tag.
abbrev pub any_tag : List ℕ → List ℕ → List ℕ → Bool
any_tag author sealed tag = true

-- What is true of every replica: the facts are of its policy's types, and its state is sound for its policy, but for the tags of commands, of
-- which only an envelope tells.
pub record IsReplica (policy : List PlacedItem) (digest : List ℕ) (held : Held) : Type 0 where
  pub typed : AreTyped policy held.rows
  pub sound : IsSound (record { policy = policy; digest = digest; good = any_tag }) held

-- The replica holds this, and is up. Its disk and the end of its journal are left open.
pub record IsUpWith {D : Type 0} (old : Kept D) (held : Held) (new : Kept D) : Type 0 where
  pub same : new ≡ record old { held = held; down = None; disk = new.disk; outline = new.outline }

-- The empty state: no graph id, no command, no fact and no entry.
abbrev pub nothing_held : Held
nothing_held = record { graph_id = None; commands = []; rows = []; entries = [] }
