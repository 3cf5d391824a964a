-- A session of two replicas under one policy: one asks, the other answers, and each answer is taken. Both may change meanwhile.
use Rattle.std.specs.Prelude.{ℕ, ◌≡◌, ◌≤◌, List, [], ◌∷◌, ◌++◌, filter, length, map, not, Option, Some}
use Rattle.std.specs.List.{Contains}
use Rattle.accept.specs.Takes.{IsTake, Refusal, Tally}
use Rattle.accept.specs.declared.answer.Reason.{Reason}
use Rattle.accept.specs.declared.answer.Reason.TheVariants as reason
use Rattle.braid_run.specs.Places.{AgreeOnIds}
use Rattle.braid_run.specs.Soundness.{AreSound, Criteria}
use Rattle.braid_run.specs.States.{IsStanding}
use Rattle.command.specs.Ancestors.{AreInLine}
use Rattle.command.specs.Closed.{has_id, max_commands}
use Rattle.command.specs.Wire.{command_id}
use Rattle.command.specs.declared.command.Command.{Command}
use Rattle.sync_peer.specs.Messages.{request_of}
use Rattle.sync_peer.specs.Sessions.{Answer, Begins, IsSession, last_held}

-- A turn: the answer, with what the responder held then; what the asker held when it took that answer; and what the take came to.
pub record Turn : Type 0 where
  pub answer : Answer
  pub held : List Command
  pub tally : Tally

abbrev pub answers_of : List Turn → List Answer
answers_of turns = map (λ turn. turn.answer) turns

-- The takes of a session, where the asker held these commands before. It may hold more at each take, by its own actions or by other sessions.
abbrev pub AreTaken : Criteria → Option (List ℕ) → List Command → List Turn → Type 0
AreTaken criteria graph_id held [] = Unit {0}
AreTaken criteria graph_id held (turn ∷ turns) =
    Begins held turn.held × IsTake criteria graph_id turn.held turn.answer.response.commands turn.tally × AreTaken criteria graph_id (turn.held ++ turn.tally.added) turns

-- What the asker holds behind the last take.
abbrev pub last_taken : List Command → List Turn → List Command
last_taken held [] = held
last_taken held (turn ∷ turns) = last_taken (turn.held ++ turn.tally.added) turns

-- What the responder held at its last answer.
abbrev pub last_answered : List Command → List Turn → List Command
last_answered held turns = last_held held (answers_of turns)

-- All commands that the takes refused, with the reasons.
abbrev pub all_refused : List Turn → List Refusal
all_refused [] = []
all_refused (turn ∷ turns) = turn.tally.refused ++ all_refused turns

-- A whole session in the graph of this id, up to a response that has no more. The asker asks over `asker` and the responder holds `responder` before. Each
-- message arrives as it was made: what is answered is the request, and what is taken is the answer. `end` is what the asker holds at the end.
pub record IsWhole (criteria : Criteria) (id : List ℕ) (asker responder : List Command) (turns : List Turn) (end : List Command) : Type 0 where
  pub answered : IsSession responder (Some (request_of id asker)) (answers_of turns)
  pub taken : AreTaken criteria (Some id) asker turns
  pub later : Begins (last_taken asker turns) end

-- The lists that meet in a session: what the asker holds at the end stands, what the responder held at its last answer is sound, and no id is two
-- commands in the two. So what either held before stands too, since it begins these.
pub record Meet (criteria : Criteria) (id : List ℕ) (end last : List Command) : Type 0 where
  pub asker : IsStanding (Some id) end
  pub responder : AreSound criteria (Some id) last
  pub agree : AgreeOnIds end last

-- The reasons that leave a command of a sound list out for now.
abbrev pub IsForNow : Reason → Type 0
IsForNow (reason.MissingParent id) = Unit {0}
IsForNow (reason.ParallelFinalize id) = Unit {0}
IsForNow reason.Full = Unit {0}
IsForNow other = ⊥

-- A take of the session refused the command, for such a reason.
abbrev pub WasRefused : List Turn → Command → Type 0
WasRefused turns c = (refusal : Refusal) × Contains (all_refused turns) refusal × (refusal.id ≡ command_id c) × IsForNow refusal.why

-- The commands of both, each once where no id is two commands.
abbrev pub union : List Command → List Command → List Command
union one other = one ++ filter (λ c. not (has_id one (command_id c))) other

-- The two could be one list: of two finalize commands of the union one is the other's ancestor, and the union has room.
pub record MayBeOne (one other : List Command) : Type 0 where
  pub in_line : AreInLine (union one other)
  pub few : length (union one other) ≤ max_commands

-- Nothing was refused, and the asker holds the union.
pub record HoldsUnion (turns : List Turn) (end last : List Command) : Type 0 where
  pub none_refused : all_refused turns ≡ []
  pub all_held : (c : Command) → Contains (union end last) c → Contains end c
