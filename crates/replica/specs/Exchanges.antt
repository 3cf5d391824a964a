-- The same session by the calls of the two replicas, over the bytes of their messages.
use Rattle.std.specs.Prelude.{◌≡◌, ℕ, Bool, List, [], ◌∷◌, ◌++◌, Option, Some, None, Ok}
use Rattle.std.specs.List.{Contains}
use Rattle.accept.specs.Takes.{Refusal}
use Rattle.braid_run.specs.Soundness.{Criteria}
use Rattle.command.specs.Wire.{command_id}
use Rattle.command.specs.declared.command.Command.{Command}
use Rattle.replica.specs.Calls.{Answers, Asks, AsksNext, TakesIn}
use Rattle.replica.specs.Kept.{Kept, criteria_of}
use Rattle.replica.specs.Sessions.{IsForNow, union}
use Rattle.replica.specs.declared.counts.Taken.{Taken}
use Rattle.sync_peer.specs.Sessions.{Begins}

-- One exchange: the responder and the bytes that it answers; the asker, what its take of them replies, and what it is then; and the bytes of the next
-- request, where it has one.
pub record Exchange (D E : Type 0) : Type 0 where
  pub responder : Kept E
  pub answer : List ℕ
  pub asker : Kept D
  pub taken : Taken
  pub left : Kept D
  pub next : Option (List ℕ)

-- What the responder held at its last answer, and what the asker holds behind its last take.
abbrev pub last_responder : {D E : Type 0} → List Command → List (Exchange D E) → List Command
last_responder held [] = held
last_responder held (x ∷ xs) = last_responder x.responder.held.commands xs

abbrev pub last_left : {D E : Type 0} → List Command → List (Exchange D E) → List Command
last_left held [] = held
last_left held (x ∷ xs) = last_left x.left.held.commands xs

-- What the replies say was refused.
abbrev pub told_refused : {D E : Type 0} → List (Exchange D E) → List Refusal
told_refused [] = []
told_refused (x ∷ xs) = x.taken.refused ++ told_refused xs

-- A reply says that the command was refused, for now.
abbrev pub IsToldRefused : {D E : Type 0} → List (Exchange D E) → Command → Type 0
IsToldRefused xs c = (refusal : Refusal) × Contains (told_refused xs) refusal × (refusal.id ≡ command_id c) × IsForNow refusal.why

-- The replica is of the graph and judges by these criteria.
pub record IsIn {D : Type 0} (good : List ℕ → List ℕ → List ℕ → Bool) (criteria : Criteria) (id : List ℕ) (kept : Kept D) : Type 0 where
  pub same_criteria : criteria_of good kept ≡ criteria
  pub graph : kept.held.graph_id ≡ Some id

module _ {D E : Type 0} (good : List ℕ → List ℕ → List ℕ → Bool) (criteria : Criteria) (id : List ℕ) where
  -- From the bytes of a request on: each is answered, the answer is taken, and the next is asked for, as these bytes; no call refuses. Between the calls
  -- both replicas may do what they like: what they hold only grows.
  abbrev pub AreExchanged : List Command → List Command → Option (List ℕ) → List (Exchange D E) → Type 0
  AreExchanged asker responder None [] = Unit {0}
  AreExchanged asker responder None (x ∷ xs) = ⊥
  AreExchanged asker responder (Some request) [] = ⊥
  AreExchanged asker responder (Some request) (x ∷ xs) =
      Begins responder x.responder.held.commands × IsIn good criteria id x.responder × Answers x.responder request (Ok x.answer) ×
      Begins asker x.asker.held.commands × IsIn good criteria id x.asker × TakesIn x.asker good x.answer (Ok x.taken) x.left ×
      AsksNext x.left x.answer (Ok x.next) × AreExchanged x.left.held.commands x.responder.held.commands x.next xs

  -- A whole session: the first request is asked for, and no more follow behind the last exchange. The asker holds `end` at the end.
  pub record AreWhole (asker : Kept D) (responder : Kept E) (request : List ℕ) (xs : List (Exchange D E)) (end : List Command) : Type 0 where
    pub in_graph : IsIn good criteria id asker
    pub asked : Asks asker (Ok request)
    pub exchanged : AreExchanged asker.held.commands responder.held.commands (Some request) xs
    pub later : Begins (last_left asker.held.commands xs) end

-- No reply tells of a refused command, and the asker holds the union.
pub record TellsUnion {D E : Type 0} (xs : List (Exchange D E)) (end last : List Command) : Type 0 where
  pub none_refused : told_refused xs ≡ []
  pub all_held : (c : Command) → Contains (union end last) c → Contains end c
