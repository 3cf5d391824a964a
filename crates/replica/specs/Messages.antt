-- The messages that a replica takes in: bytes that spell one, about its own graph.
use Rattle.std.specs.Prelude.{◌≡◌, ℕ, if◌then◌else◌, List, Option, Some, None, IfNone, IfSome, Result, Ok, Err}
use Rattle.std.specs.Str.{bytes_eq}
use Rattle.replica.specs.declared.refusal.Refusal.{Refusal}
use Rattle.replica.specs.declared.refusal.Refusal.TheVariants as refusal
use Rattle.sync_codec.specs.Messages.{IsRequest, IsResponse}
use Rattle.sync_codec.specs.declared.request.Request.{Request}
use Rattle.sync_codec.specs.declared.response.Response.{Response}

-- What bytes spell in a form; None where they spell nothing.
pub record IsSpelled {M : Type 0} (form : M → List ℕ → Type 0) (bytes : List ℕ) (message : Option M) : Type 0 where
  pub found : IfSome message (λ m. form m bytes)
  pub none : IfNone message ((m : M) → form m bytes → ⊥)

-- The message, where there is one and it is about the graph; the refusals in their order.
abbrev pub for_graph : {M : Type 0} → (M → List ℕ) → Option M → Option (List ℕ) → Result M Refusal
for_graph graph None graph_id = Err refusal.Malformed
for_graph graph (Some message) None = Err refusal.NoGraph
for_graph graph (Some message) (Some id) = if bytes_eq (graph message) id then Ok message else Err (refusal.OtherGraph (graph message))

-- What is read of bytes where this is the graph's id.
pub record IsRead {M : Type 0} (form : M → List ℕ → Type 0) (graph : M → List ℕ) (bytes : List ℕ) (graph_id : Option (List ℕ)) (read : Result M Refusal) : Type 0 where
  pub message : Option M
  pub spelled : IsSpelled form bytes message
  pub same_read : read ≡ for_graph graph message graph_id

abbrev pub IsRequestRead : List ℕ → Option (List ℕ) → Result Request Refusal → Type 0
IsRequestRead bytes graph_id read = IsRead IsRequest (λ m. m.graph) bytes graph_id read

abbrev pub IsResponseRead : List ℕ → Option (List ℕ) → Result Response Refusal → Type 0
IsResponseRead bytes graph_id read = IsRead IsResponse (λ m. m.graph) bytes graph_id read

-- The bytes of the request that follows, where one does.
abbrev pub AreNextBytes : Option Request → Option (List ℕ) → Type 0
AreNextBytes None None = Unit {0}
AreNextBytes (Some request) (Some bytes) = IsRequest request bytes
AreNextBytes None (Some bytes) = ⊥
AreNextBytes (Some request) None = ⊥
