-- The calls of two replicas come to a session.
use Rattle.std.proofs.Common.{◌≡◌, ℕ, ◌⊎◌, Bool, true, false, cond, List, [], ◌∷◌, ◌++◌, Option, Some, None, Ok, Err, IfSome, refl, sym, ap, subst, ◌∙◌}
use Rattle.std.specs.List.{Contains}
use Rattle.std.specs.Str.{bytes_eq}
use Rattle.std.proofs.lemmas.Option.{same_Some}
use Rattle.accept.specs.Takes.{IsTake, Refusal}
use Rattle.braid_run.specs.Soundness.{Criteria}
use Rattle.command.specs.Closed.{IsClosed}
use Rattle.command.specs.Wire.{command_id}
use Rattle.command.specs.declared.command.Command.{Command}
use Rattle.replica.specs.Exchanges.{AreExchanged, AreWhole, Exchange, TellsUnion, IsToldRefused, last_left, last_responder, told_refused}
use Rattle.replica.specs.Kept.{Kept, criteria_of}
use Rattle.replica.specs.Messages.{AreNextBytes, IsRead, IsRequestRead, IsResponseRead, for_graph}
use Rattle.replica.specs.Sessions.{AreTaken, IsForNow, IsWhole, MayBeOne, Meet, Turn, all_refused, answers_of, last_answered, last_taken, union}
use Rattle.replica.specs.declared.refusal.Refusal.TheVariants as refusal
use Rattle.replica.proofs.JoinLists.{leads_closed, leads_itself, leads_on}
use Rattle.replica.proofs.JoinFacts.{AreWelcome, each_joined}
use Rattle.replica.proofs.JoinWhole.{whole_joined}
use Rattle.sync_codec.specs.Messages.{IsRequest, IsResponse}
use Rattle.sync_codec.specs.declared.request.Request.{Request}
use Rattle.sync_codec.specs.declared.response.Response.{Response}
use Rattle.sync_codec.proofs.MessageLaws.{requests, responses}
use Rattle.sync_peer.specs.Messages.{IsAnswer, next_of, request_of}
use Rattle.sync_peer.specs.Sessions.{Answer, Begins, IsSession}

-- ---- what is read is what was spelled

module _ {M : Type 0} (form : M → List ℕ → Type 0) (graph : M → List ℕ) where
  of_graph : (m x : M) (own : List ℕ) (b : Bool) → Ok m ≡ cond b (Ok x) (Err (refusal.OtherGraph (graph x))) → x ≡ m
  of_graph m x own true is = let same : Ok m ≡ Ok x = is in cc
  of_graph m x own false is = let no : Ok m ≡ Err (refusal.OtherGraph (graph x)) = is in absurd cc

  read_one : (message : Option M) (graph_id : Option (List ℕ)) (m : M) → Ok m ≡ for_graph graph message graph_id → message ≡ Some m
  read_one None graph_id m is = let no : Ok m ≡ Err refusal.Malformed = is in absurd cc
  read_one (Some x) None m is = let no : Ok m ≡ Err refusal.NoGraph = is in absurd cc
  read_one (Some x) (Some own) m is = ap Some (of_graph m x own (bytes_eq (graph x) own) is)

  spells : (bytes : List ℕ) (graph_id : Option (List ℕ)) (m : M) → IsRead form graph bytes graph_id (Ok m) → form m bytes
  spells bytes graph_id m read = by read.message (read_one read.message graph_id m read.same_read) read.spelled.found
    where
      by : (o : Option M) → o ≡ Some m → IfSome o (λ x. form x bytes) → form m bytes
      by None is found = absurd cc
      by (Some x) is found = let same : x ≡ m = cc in subst (λ z. form z bytes) same found

same_request : (bytes : List ℕ) (graph_id : Option (List ℕ)) (one other : Request) → IsRequest one bytes → IsRequestRead bytes graph_id (Ok other) → other ≡ one
same_request bytes graph_id one other is read = requests.one_value other one bytes (spells IsRequest (λ m. m.graph) bytes graph_id other read) is

same_response : (bytes : List ℕ) (graph_id : Option (List ℕ)) (one other : Response) → IsResponse one bytes → IsResponseRead bytes graph_id (Ok other) → other ≡ one
same_response bytes graph_id one other is read = responses.one_value other one bytes (spells IsResponse (λ m. m.graph) bytes graph_id other read) is

-- ---- the turns

-- the turns that the exchanges come to
pub record Come {D E : Type 0} (criteria : Criteria) (id : List ℕ) (asker responder : List Command) (request : Option Request) (xs : List (Exchange D E)) (turns : List Turn) : Type 0 where
  pub answered : IsSession responder request (answers_of turns)
  pub taken : AreTaken criteria (Some id) asker turns
  pub refused : all_refused turns ≡ told_refused xs
  pub left : last_taken asker turns ≡ last_left asker xs
  pub last : last_answered responder turns ≡ last_responder responder xs

module _ {D E : Type 0} (good : List ℕ → List ℕ → List ℕ → Bool) (criteria : Criteria) (id : List ℕ) where
  responder_leads : (xs : List (Exchange D E)) (asker responder : List Command) (request : Option (List ℕ)) → AreExchanged good criteria id asker responder request xs → Begins responder (last_responder responder xs)
  responder_leads [] asker responder request is = leads_itself responder
  responder_leads (x ∷ xs) asker responder None is = absurd is
  responder_leads (x ∷ xs) asker responder (Some request) is =
      leads_on responder x.responder.held.commands (last_responder x.responder.held.commands xs) is.0 (responder_leads xs x.left.held.commands x.responder.held.commands x.next is.7)

  come : (xs : List (Exchange D E)) (asker responder : List Command) (request : Option Request) (bytes : Option (List ℕ)) → AreNextBytes request bytes
      → AreExchanged good criteria id asker responder bytes xs → IsClosed (last_responder responder xs) → (turns : List Turn) × Come criteria id asker responder request xs turns
  come [] asker responder None None same is closed = ([], record { answered = tt; taken = tt; refused = refl; left = refl; last = refl })
  come [] asker responder None (Some bytes) same is closed = absurd same
  come [] asker responder (Some request) None same is closed = absurd same
  come [] asker responder (Some request) (Some bytes) same is closed = absurd is
  come (x ∷ xs) asker responder request None same is closed = absurd is
  come (x ∷ xs) asker responder None (Some bytes) same is closed = absurd same
  come (x ∷ xs) asker responder (Some request) (Some bytes) same is closed =
      let given = is.2.1 in
      let response = given.2.0 in
      let asked = same_request bytes x.responder.held.graph_id request given.0 same given.1 in
      let step = is.5.1 in
      let got = step.1 in
      let read = same_response x.answer x.asker.held.graph_id response got.0 given.2.2 got.1 in
      let takes = got.2 in
      let tally = takes.tally in
      let on = is.6.1 in
      let again = same_response x.answer x.left.held.graph_id response on.0 given.2.2 on.1 in
      let left_is : x.left.held.commands ≡ x.asker.held.commands ++ tally.added = ap (λ k. k.held.commands) step.2.same ∙ takes.commands in
      let rest = come xs x.left.held.commands x.responder.held.commands (next_of response) x.next (subst (λ r. AreNextBytes (next_of r) x.next) again on.2) is.7 closed in
      let answer : Answer = record { held = x.responder.held.commands; response = response } in (
        record { answer = answer; held = x.asker.held.commands; tally = tally } ∷ rest.0,
        record {
          answered = (
            is.0,
            leads_closed x.responder.held.commands (last_responder x.responder.held.commands xs) (responder_leads xs x.left.held.commands x.responder.held.commands x.next is.7) closed,
            subst (λ r. IsAnswer x.responder.held.commands r response) asked given.2.1,
            rest.1.answered,
          );
          taken = (
            is.3,
            subst (λ k. IsTake k (Some id) x.asker.held.commands response.commands tally) is.4.same_criteria
                (subst (λ g. IsTake (criteria_of good x.asker) g x.asker.held.commands response.commands tally) is.4.graph
                (subst (λ r. IsTake (criteria_of good x.asker) x.asker.held.graph_id x.asker.held.commands r.commands tally) read takes.take)),
            subst (λ l. AreTaken criteria (Some id) l rest.0) left_is rest.1.taken,
          );
          refused = ap (λ l. l ++ all_refused rest.0) (sym takes.told.refused) ∙ ap (λ l. x.taken.refused ++ l) rest.1.refused;
          left = ap (λ l. last_taken l rest.0) (sym left_is) ∙ rest.1.left;
          last = rest.1.last;
        },
      )

  -- a whole session by calls is a whole session
  pub whole_turns : (asker : Kept D) (responder : Kept E) (request : List ℕ) (xs : List (Exchange D E)) (end : List Command) → AreWhole good criteria id asker responder request xs end
      → IsClosed (last_responder responder.held.commands xs)
      → (turns : List Turn) × IsWhole criteria id asker.held.commands responder.held.commands turns end × (all_refused turns ≡ told_refused xs)
      × (last_answered responder.held.commands turns ≡ last_responder responder.held.commands xs)
  whole_turns asker responder request xs end whole closed =
      let asked = whole.asked.1 in
      let named : asked.0 ≡ id = same_Some asked.0 id (sym asked.1 ∙ whole.in_graph.graph) in
      let first : IsRequest (request_of id asker.held.commands) request = subst (λ i. IsRequest (request_of i asker.held.commands) request) named asked.2 in
      let turns = come xs asker.held.commands responder.held.commands (Some (request_of id asker.held.commands)) (Some request) first whole.exchanged closed in (
        turns.0,
        record { answered = turns.1.answered; taken = turns.1.taken; later = subst (λ l. Begins l end) (sym turns.1.left) whole.later },
        turns.1.refused,
        turns.1.last,
      )

-- ---- the law by calls

module _ {D E : Type 0} (welcome : AreWelcome) (good : List ℕ → List ℕ → List ℕ → Bool) (criteria : Criteria) (id : List ℕ) (asker : Kept D) (responder : Kept E) (request : List ℕ)
    (xs : List (Exchange D E)) (end : List Command) (whole : AreWhole good criteria id asker responder request xs end)
    (meet : Meet criteria id end (last_responder responder.held.commands xs)) where
  abbrev as_turns : (turns : List Turn) × IsWhole criteria id asker.held.commands responder.held.commands turns end × (all_refused turns ≡ told_refused xs)
      × (last_answered responder.held.commands turns ≡ last_responder responder.held.commands xs)
  as_turns = whole_turns good criteria id asker responder request xs end whole meet.responder.standing.closed

  pub each_by_calls : (c : Command) → Contains (last_responder responder.held.commands xs) c → Contains end c ⊎ IsToldRefused xs c
  each_by_calls c inside =
      let t = as_turns in
      subst (λ l. Contains end c ⊎ ((r : Refusal) × Contains l r × (r.id ≡ command_id c) × IsForNow r.why)) t.2
      (each_joined welcome criteria id asker.held.commands responder.held.commands end t.0 t.1 (subst (Meet criteria id end) (sym t.3) meet) c (subst (λ l. Contains l c) (sym t.3) inside))

  pub union_by_calls : MayBeOne end (last_responder responder.held.commands xs) → TellsUnion xs end (last_responder responder.held.commands xs)
  union_by_calls may =
      let t = as_turns in
      let done = whole_joined welcome criteria id asker.held.commands responder.held.commands end t.0 t.1 (subst (Meet criteria id end) (sym t.3) meet) (subst (MayBeOne end) (sym t.3) may) in
      record { none_refused = sym t.2 ∙ done.none_refused; all_held = λ c inside. done.all_held c (subst (λ l. Contains (union end l) c) (sym t.3) inside) }
