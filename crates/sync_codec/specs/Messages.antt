-- The forms of the two messages of a session, version 1. All numbers are big-endian.
use Rattle.std.specs.Prelude.{◌≡◌, ℕ, ◌+◌, ◌<◌, ◌≤◌, IsTrue, All, List, ◌∷◌, ◌++◌, length}
use Rattle.std.specs.Int.{w8, w32, to_be_bytes}
use Rattle.base_bytes.specs.Pieces.{counted, flag, listed}
use Rattle.command.specs.Wire.{IsInForm, IsWire, wire}
use Rattle.command.specs.declared.command.Command.{Command}
use Rattle.sync_codec.specs.declared.request.Request.{Request}
use Rattle.sync_codec.specs.declared.response.Response.{Response}

-- What both messages have behind their kind: the graph, the ids of the sample with their number in one byte, and the place from which commands are meant.
abbrev pub front : List ℕ → List (List ℕ) → ℕ → List ℕ
front graph sample from = graph ++ listed w8 (λ id. id) sample ++ to_be_bytes w32 from

-- The bytes of a request.
abbrev pub request_bytes : Request → List ℕ
request_bytes request = 1 ∷ 1 ∷ front request.graph request.sample request.from

-- A command with its length in four bytes.
abbrev pub counted_command : Command → List ℕ
counted_command command = counted w32 (wire command)

-- The bytes of a response.
abbrev pub response_bytes : Response → List ℕ
response_bytes response = 1 ∷ 2 ∷ (front response.graph response.sample response.from ++ flag response.more ++ listed w8 counted_command response.commands)

-- The request is in the message form, as far as the types of its parts leave that open.
pub record IsRequestInForm (request : Request) : Type 0 where
  pub few_ids : length request.sample ≤ 32
  pub near : request.from ≤ 65536

-- The same of a response. Where more commands follow, there is one at least.
pub record IsResponseInForm (response : Response) : Type 0 where
  pub few_ids : length response.sample ≤ 32
  pub few_commands : length response.commands ≤ 64
  pub near : response.from + length response.commands ≤ 65536
  pub some : IsTrue response.more → 0 < length response.commands
  pub in_form : All IsInForm response.commands

-- Each id has 32 bytes.
pub record HaveIds (graph : List ℕ) (sample : List (List ℕ)) : Type 0 where
  pub graph_size : length graph ≡ 32
  pub sample_sizes : All (λ id. length id ≡ 32) sample

-- The relation between a request and its bytes. It also says the lengths that the types of the parts keep, for a reader of bytes who has no request yet. That each number of a list is a byte, the types alone say.
pub record IsRequest (request : Request) (told : List ℕ) : Type 0 where
  pub in_form : IsRequestInForm request
  pub ids : HaveIds request.graph request.sample
  pub spelled : told ≡ request_bytes request

-- The relation between a response and its bytes.
pub record IsResponse (response : Response) (told : List ℕ) : Type 0 where
  pub in_form : IsResponseInForm response
  pub ids : HaveIds response.graph response.sample
  pub commands : All (λ command. IsWire command (wire command)) response.commands
  pub spelled : told ≡ response_bytes response
