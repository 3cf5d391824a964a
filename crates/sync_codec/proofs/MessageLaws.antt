-- Messages are read as their forms say.
use Rattle.std.proofs.Common.{◌≡◌, ℕ, List, [], ◌++◌, Some, sym, ap, ◌∙◌}
use Rattle.std.proofs.lemmas.List.{append-nil}
use Rattle.base_bytes.specs.Laws.{IsUnambiguous}
use Rattle.base_bytes.proofs.Codes.{IsReadBy, unambiguous}
use Rattle.base_bytes.proofs.Formats.{AreBytes}
use Rattle.sync_codec.specs.Messages.{IsRequest, IsResponse, request_bytes, response_bytes}
use Rattle.sync_codec.specs.working.Reading.{request_at, response_at}
use Rattle.sync_codec.specs.declared.request.Request.{Request}
use Rattle.sync_codec.specs.declared.response.Response.{Response}
use Rattle.sync_codec.proofs.MessageFormats.{request_format, response_format}

-- ---- requests

pub is_request : (bytes : List ℕ) → AreBytes bytes → (request : Request) → request_at bytes ≡ Some (request, []) → IsRequest request bytes
is_request bytes are request is =
    let t = request_format.takes bytes (request, []) are is in
    record { in_form = t.1.0; ids = t.1.1; spelled = t.0 ∙ append-nil (request_bytes request) }

request_read_by : (request : Request) (told : List ℕ) → IsRequest request told → IsReadBy request_at request told
request_read_by request told is = record { found = λ rest. ap (λ bytes. request_at (bytes ++ rest)) is.spelled ∙ request_format.again request rest (is.in_form, is.ids) }

pub request_read : (bytes : List ℕ) (request : Request) → IsRequest request bytes → request_at bytes ≡ Some (request, [])
request_read bytes request is = ap request_at (sym (append-nil bytes)) ∙ (request_read_by request bytes is).found []

pub requests : IsUnambiguous IsRequest
requests = unambiguous (λ x y told others is is_too. (request_at, request_read_by x told is, request_read_by y others is_too)) (λ x told others is is_too. is.spelled ∙ sym is_too.spelled)

-- ---- responses

pub is_response : (bytes : List ℕ) → AreBytes bytes → (response : Response) → response_at bytes ≡ Some (response, []) → IsResponse response bytes
is_response bytes are response is =
    let t = response_format.takes bytes (response, []) are is in
    record { in_form = t.1.0; ids = t.1.1; commands = t.1.2; spelled = t.0 ∙ append-nil (response_bytes response) }

response_read_by : (response : Response) (told : List ℕ) → IsResponse response told → IsReadBy response_at response told
response_read_by response told is = record { found = λ rest. ap (λ bytes. response_at (bytes ++ rest)) is.spelled ∙ response_format.again response rest (is.in_form, is.ids, is.commands) }

pub response_read : (bytes : List ℕ) (response : Response) → IsResponse response bytes → response_at bytes ≡ Some (response, [])
response_read bytes response is = ap response_at (sym (append-nil bytes)) ∙ (response_read_by response bytes is).found []

pub responses : IsUnambiguous IsResponse
responses = unambiguous (λ x y told others is is_too. (response_at, response_read_by x told is, response_read_by y others is_too)) (λ x told others is is_too. is.spelled ∙ sym is_too.spelled)
