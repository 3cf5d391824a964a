-- What the messages of a session say: the first request, the response to a request, and the request that follows a response.
use Rattle.std.specs.Prelude.{◌≡◌, ℕ, ◌+◌, if◌then◌else◌, List, drop, length, nat_lt, take, Option, Some, None}
use Rattle.command.specs.declared.command.Command.{Command}
use Rattle.sync_codec.specs.declared.request.Request.{Request}
use Rattle.sync_codec.specs.declared.response.Response.{Response}
use Rattle.sync_peer.specs.Missing.{AreMissing, held_ids}
use Rattle.sync_peer.specs.Samples.{sample}

-- The request that begins a session: all that is missing for who holds these commands.
abbrev pub request_of : List ℕ → List Command → Request
request_of graph cs = record { graph = graph; sample = sample cs; from = 0 }

-- How many commands a response has at most.
abbrev pub most_sent : ℕ
most_sent = 64

-- The response to a request, where these are missing: the held part of the sample, and the missing commands from the place that is asked for on, as
-- many as a response takes, and whether others follow.
abbrev pub response_of : List Command → Request → List Command → Response
response_of cs request missing = record {
  graph = request.graph;
  sample = held_ids cs request.sample;
  from = request.from;
  more = nat_lt most_sent (length (drop request.from missing));
  commands = take most_sent (drop request.from missing);
}

-- It is the response of who holds these commands: the missing ones are those beyond the held part of the sample.
pub record IsAnswer (cs : List Command) (request : Request) (response : Response) : Type 0 where
  pub missing : List Command
  pub are_missing : AreMissing cs (held_ids cs request.sample) missing
  pub same_response : response ≡ response_of cs request missing

-- The request that follows a response, where more commands follow.
abbrev pub next_of : Response → Option Request
next_of response =
    if response.more then Some (record { graph = response.graph; sample = response.sample; from = response.from + length response.commands }) else None
