-- The forms of messages and their readings agree.
use Rattle.std.proofs.Common.{◌≡◌, ℕ, ◌+◌, ◌^◌, ◌<◌, ◌≤◌, nat_le, nat_lt, Bool, true, false, All, List, ◌++◌, length, refl, append_assoc, arith, IsTrue}
use Rattle.std.specs.Int.{w8, w32, to_be_bytes}
use Rattle.std.specs.List.{AllByRecursion}
use Rattle.std.proofs.lemmas.Bool.{false≢true, leb-true, le-leb, lt-ltb, ltb-true}
use Rattle.std.proofs.lemmas.List.Elements.{All-from_recursion, recursion_from_All}
use Rattle.base_bytes.proofs.Bools.{and_then}
use Rattle.base_bytes.specs.Pieces.{flag, listed}
use Rattle.base_bytes.proofs.Formats.{IsFormat, behind_format, bytes_format, flag_format, listed_format, made_format, number_format, pair_format, passing_format, told_format, wide_8, wide_32}
use Rattle.command.specs.Wire.{IsFormed}
use Rattle.command.specs.declared.command.Command.{Command}
use Rattle.command.proofs.WireLaws.{counted_command_format}
use Rattle.sync_codec.specs.Messages.{HaveIds, IsRequestInForm, IsResponseInForm, counted_command, front, request_bytes, response_bytes}
use Rattle.sync_codec.specs.working.Reading.{Front, front_at, have_place, request_at, request_of, response_at, response_of}
use Rattle.sync_codec.specs.declared.request.Request.{Request}
use Rattle.sync_codec.specs.declared.response.Response.{Response}

-- ---- the front

abbrev IsFront : Front → Type 0
IsFront f = HaveIds f.0 f.1.0 × (length f.1.0 ≤ 32) × (f.1.1 < 2 ^ 32)

abbrev front_bytes : Front → List ℕ
front_bytes f = front f.0 f.1.0 f.1.1

front_format : IsFormat IsFront front_bytes front_at
front_format = told_format (pair_format (bytes_format 32) (pair_format (listed_format (bytes_format 32) wide_8 32 (omega arith)) (number_format wide_32))) IsFront front_bytes
    (λ f is. (is.0.graph_size, ((is.1, recursion_from_All (λ id. length id ≡ 32) f.1.0 is.0.sample_sizes), is.2)))
    (λ f is are. (record { graph_size = is.0; sample_sizes = All-from_recursion (λ id. length id ≡ 32) f.1.0 is.1.0.1 }, is.1.0.0, is.1.1))
    (λ f. append_assoc f.0 (listed w8 (λ id. id) f.1.0) (to_be_bytes w32 f.1.1))

-- ---- requests

abbrev pub IsRequestForm : Request → Type 0
IsRequestForm request = IsRequestInForm request × HaveIds request.graph request.sample

abbrev of_request : Request → Front
of_request request = (request.graph, (request.sample, request.from))

pub request_format : IsFormat IsRequestForm request_bytes request_at
request_format = behind_format 1 (omega arith) (behind_format 1 (omega arith)
    (made_format (passing_format front_format (λ f. nat_le f.1.1 65536)) IsRequestForm (λ request. front_bytes (of_request request)) request_of
    (λ request is. (of_request request, refl, ((is.1, is.0.few_ids, omega (arith, is.0.near)), le-leb _ _ is.0.near)))
    (λ f is are. (record { few_ids = is.0.1; near = leb-true _ _ is.1 }, is.0.0)) (λ f is. refl)))

-- ---- responses

abbrev Parts : Type 0
Parts = Front × (Bool × List Command)

abbrev AreParts : Parts → Type 0
AreParts p = (IsFront p.0 × (Unit {0} × ((length p.1.1 ≤ 64) × AllByRecursion IsFormed p.1.1))) × (have_place p.0.1.1 p.1.0 (length p.1.1) ≡ true)

abbrev pub IsResponseForm : Response → Type 0
IsResponseForm response = IsResponseInForm response × HaveIds response.graph response.sample × All IsFormed response.commands

abbrev of_response : Response → Parts
of_response response = ((response.graph, (response.sample, response.from)), (response.more, response.commands))

place_is : (from : ℕ) (more : Bool) (count : ℕ) → from + count ≤ 65536 → (IsTrue more → 0 < count) → have_place from more count ≡ true
place_is from true count near some = rw (le-leb _ _ near, lt-ltb _ _ (some refl)) refl
place_is from false count near some = rw (le-leb _ _ near) refl

place_near : (from : ℕ) (more : Bool) (count : ℕ) → have_place from more count ≡ true → (from + count ≤ 65536) × (IsTrue more → 0 < count)
place_near from true count is = and_then (nat_le (from + count) 65536) (nat_lt 0 count) is (λ near some. (leb-true _ _ near, λ more. ltb-true _ _ some))
place_near from false count is = and_then (nat_le (from + count) 65536) true is (λ near some. (leb-true _ _ near, λ more. absurd (false≢true more)))

response_back : (response : Response) → IsResponseForm response → (p : Parts) × (response_of p ≡ response) × AreParts p
response_back response is = (
  of_response response,
  refl,
  (
    ((is.1, is.0.few_ids, omega (arith, is.0.near)), (tt, (is.0.few_commands, recursion_from_All IsFormed response.commands is.2))),
    place_is response.from response.more (length response.commands) is.0.near is.0.some,
  ),
)

response_forth : (p : Parts) → AreParts p → IsResponseForm (response_of p)
response_forth p is =
    let place = place_near p.0.1.1 p.1.0 (length p.1.1) is.1 in
    let whole : All IsFormed p.1.1 = All-from_recursion IsFormed p.1.1 is.0.1.1.1 in
    (record { few_ids = is.0.0.1; few_commands = is.0.1.1.0; near = place.0; some = place.1; in_form = λ k d lt. (whole k d lt).in_form }, is.0.0.0, whole)

pub response_format : IsFormat IsResponseForm response_bytes response_at
response_format = behind_format 1 (omega arith) (behind_format 2 (omega arith)
    (made_format (passing_format (pair_format front_format (pair_format flag_format (listed_format counted_command_format wide_8 64 (omega arith)))) (λ p. have_place p.0.1.1 p.1.0 (length p.1.1))) IsResponseForm
    (λ response. front response.graph response.sample response.from ++ flag response.more ++ listed w8 counted_command response.commands) response_of response_back (λ p is are. response_forth p is)
    (λ p is. append_assoc (front_bytes p.0) (flag p.1.0) (listed w8 counted_command p.1.1))))
