-- A session, as its answers: from a request on, each is given over what is held by then, and is followed by the next request while it has more.
use Rattle.std.specs.Prelude.{◌≡◌, List, [], ◌∷◌, ◌++◌, Option, Some, None}
use Rattle.command.specs.Closed.{IsClosed}
use Rattle.command.specs.declared.command.Command.{Command}
use Rattle.sync_codec.specs.declared.request.Request.{Request}
use Rattle.sync_codec.specs.declared.response.Response.{Response}
use Rattle.sync_peer.specs.Messages.{IsAnswer, next_of}

-- These commands begin those.
abbrev pub Begins : List Command → List Command → Type 0
Begins front cs = (more : List Command) × (cs ≡ front ++ more)

-- An answer: what the responder held, and its response.
pub record Answer : Type 0 where
  pub held : List Command
  pub response : Response

-- The answers of a session from a request on, where the responder held these commands before. It may hold more at each answer. The last response has no more.
abbrev pub IsSession : List Command → Option Request → List Answer → Type 0
IsSession held None [] = Unit {0}
IsSession held None (answer ∷ answers) = ⊥
IsSession held (Some request) [] = ⊥
IsSession held (Some request) (answer ∷ answers) =
    Begins held answer.held × IsClosed answer.held × IsAnswer answer.held request answer.response × IsSession answer.held (next_of answer.response) answers

-- All commands that are sent, in the order of the responses.
abbrev pub all_sent : List Answer → List Command
all_sent [] = []
all_sent (answer ∷ answers) = answer.response.commands ++ all_sent answers

-- What the responder held at the last answer.
abbrev pub last_held : List Command → List Answer → List Command
last_held held [] = held
last_held held (answer ∷ answers) = last_held answer.held answers
