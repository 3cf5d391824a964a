-- What an action stands on, and what it has made so far.
use Rattle.std.specs.Prelude.{ℕ, Bool, List, [], ◌∷◌, Option, Some, None, slice_get}
use Rattle.std.specs.BTreeSet.{insert_key}
use Rattle.std.specs.Cmp.Lexicographic.{slice_cmp}
use Rattle.std.specs.Ordering.{nat_cmp}
use Rattle.braid_run.specs.declared.entry.Entry.{Entry}
use Rattle.command.specs.Ancestors.{heads}
use Rattle.command.specs.Wire.{command_id}
use Rattle.command.specs.declared.command.Command.{Command}
use Rattle.policy_ast.specs.declared.policy.PlacedItem.{PlacedItem}
use Rattle.transaction.specs.declared.fault.ActFault.{ActFault}

-- What stays during an action: the policy, the digest of its document, the test of tags and the tags that are told, the author, and the commands held.
pub record Basis : Type 0 where
  pub policy : List PlacedItem
  pub digest : List ℕ
  pub good : List ℕ → List ℕ → List ℕ → Bool
  pub told : Option (List ℕ → List ℕ → List ℕ)
  pub author : List ℕ
  pub held : List Command

-- the same of its parts
abbrev pub basis_of : List PlacedItem → List ℕ → (List ℕ → List ℕ → List ℕ → Bool) → Option (List ℕ → List ℕ → List ℕ) → List ℕ → List Command → Basis
basis_of policy digest good told author held = record { policy = policy; digest = digest; good = good; told = told; author = author; held = held }

-- What an action has made so far: the ids of the heads as they are then, ascending; the new commands; an entry for each that is no merge; and
-- why a command was refused, where one was.
pub record Draft : Type 0 where
  pub heads : List (List ℕ)
  pub commands : List Command
  pub entries : List Entry
  pub refusal : Option ActFault

-- Ids that ascend, and one more at its place.
abbrev pub with_id : List (List ℕ) → List ℕ → List (List ℕ)
with_id ids id = insert_key (slice_cmp nat_cmp) ids id

abbrev pub with_head : List (List ℕ) → Option Command → List (List ℕ)
with_head ids None = ids
with_head ids (Some c) = with_id ids (command_id c)

-- The ids of the commands at these places, and of those before.
abbrev pub with_places : List Command → List (List ℕ) → List ℕ → List (List ℕ)
with_places cs ids [] = ids
with_places cs ids (place ∷ places) = with_places cs (with_head ids (slice_get cs place)) places

-- The ids of the heads, ascending.
abbrev pub head_ids : List Command → List (List ℕ)
head_ids cs = with_places cs [] (heads cs)

-- Before the body nothing is made.
abbrev pub first_draft : List Command → Draft
first_draft held = record { heads = head_ids held; commands = []; entries = []; refusal = None }
