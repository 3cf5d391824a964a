-- What the laws say.
use Rattle.std.specs.Prelude.{◌≡◌, ℕ, ◌≤◌, ◌⊎◌, List, [], ◌∷◌, length}
use Rattle.std.specs.List.{All, Contains}
use Rattle.command.specs.Closed.{IsClosed, IsHeld}
use Rattle.command.specs.Each.{Each}
use Rattle.command.specs.Kinds.{parents_of}
use Rattle.command.specs.Wire.{command_id}
use Rattle.command.specs.declared.command.Command.{Command}
use Rattle.sync_peer.specs.Missing.{AreMissing, IsKnown}
use Rattle.sync_peer.specs.Samples.{sample}
use Rattle.sync_peer.specs.Sessions.{Answer}

-- None stands twice in the list.
abbrev pub AreDistinct : {X : Type 0} → List X → Type 0
AreDistinct [] = Unit {0}
AreDistinct (x ∷ xs) = (Contains xs x → ⊥) × AreDistinct xs

-- A sample has at most 17 ids, and each is held; that of a closed list has each id once.
pub record IsSmallSample (cs : List Command) : Type 0 where
  pub few : length (sample cs) ≤ 17
  pub held : All (IsHeld cs) (sample cs)
  pub once : IsClosed cs → AreDistinct (sample cs)

-- A sample leaves one list of missing commands.
pub record HasOneMissing (cs : List Command) (ids : List (List ℕ)) : Type 0 where
  pub some : (missing : List Command) × AreMissing cs ids missing
  pub one : (missing others : List Command) → AreMissing cs ids missing → AreMissing cs ids others → missing ≡ others

-- The id is that of a command that is known.
abbrev pub IsKnownId : List Command → List (List ℕ) → List ℕ → Type 0
IsKnownId cs ids id = (c : Command) × Contains cs c × (command_id c ≡ id) × IsKnown cs ids c

-- Each parent of the command is among these, or is known.
abbrev pub HasParents : List Command → List (List ℕ) → List Command → Command → Type 0
HasParents cs ids front c = (id : List ℕ) → Contains (parents_of c) id → IsHeld front id ⊎ IsKnownId cs ids id

-- Each command is known or missing, and not both; and the parents of a missing one are known, or are missing and stand before it.
pub record ArePartedInOrder (cs : List Command) (ids : List (List ℕ)) (missing : List Command) : Type 0 where
  pub each : (c : Command) → Contains cs c → IsKnown cs ids c ⊎ Contains missing c
  pub missing_alone : (c : Command) → Contains missing c → Contains cs c × (IsKnown cs ids c → ⊥)
  pub parents_first : Each (HasParents cs ids) missing

-- Each id in the sample of a response is held by the responder then. The next request has the same sample, and the responder only grows.
abbrev pub NameHeldIds : List Answer → Type 0
NameHeldIds answers = All (λ answer. All (IsHeld answer.held) answer.response.sample) answers
