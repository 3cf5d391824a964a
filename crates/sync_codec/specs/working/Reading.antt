-- How a message is read. What its form is stands in Messages; the laws in proofs/ say that the two agree.
use Rattle.std.specs.Prelude.{ℕ, ◌+◌, ◌&&◌, ◌||◌, not, nat_le, nat_lt, Bool, List, length}
use Rattle.std.specs.Int.{w8, w32}
use Rattle.base_bytes.specs.Reading.{Reading, behind, bytes_at, flag_at, listed_at, made, number_at, pair, passing}
use Rattle.command.specs.Reading.{counted_command_at}
use Rattle.command.specs.declared.command.Command.{Command}
use Rattle.sync_codec.specs.declared.request.Request.{Request}
use Rattle.sync_codec.specs.declared.response.Response.{Response}

-- A graph, a sample, and the place from which commands are meant.
abbrev pub Front : Type 0
Front = List ℕ × (List (List ℕ) × ℕ)

abbrev pub front_at : Reading Front
front_at = pair (bytes_at 32) (pair (listed_at w8 32 (bytes_at 32)) (number_at w32))

abbrev pub request_of : Front → Request
request_of front = record { graph = front.0; sample = front.1.0; from = front.1.1 }

abbrev pub request_at : Reading Request
request_at = behind 1 (behind 1 (made request_of (passing (λ front. nat_le front.1.1 65536) front_at)))

abbrev pub response_of : Front × (Bool × List Command) → Response
response_of p = record { graph = p.0.0; sample = p.0.1.0; from = p.0.1.1; more = p.1.0; commands = p.1.1 }

-- The place and the number of commands together are within the limit, and where more follow there is a command.
abbrev pub have_place : ℕ → Bool → ℕ → Bool
have_place from more count = nat_le (from + count) 65536 && (not more || nat_lt 0 count)

abbrev pub response_at : Reading Response
response_at = behind 1 (behind 2 (made response_of (passing (λ p. have_place p.0.1.1 p.1.0 (length p.1.1)) (pair front_at (pair flag_at (listed_at w8 64 counted_command_at))))))
