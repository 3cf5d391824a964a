-- A session sends just what is missing.
use Rattle.std.proofs.Common.{◌≡◌, ℕ, ◌+◌, Bool, true, false, IsTrue, List, [], ◌∷◌, ◌++◌, drop, filter, length, nat_lt, take, Option, Some, None, refl, sym, ap, subst, ◌∙◌, arith, append_assoc, append-nil, length-append}
use Rattle.std.specs.List.{All, Contains}
use Rattle.std.proofs.Math.Seq.{drop-append_seam}
use Rattle.std.proofs.lemmas.Bool.{ltb-false}
use Rattle.std.proofs.lemmas.List.{take-append-drop, take_all}
use Rattle.std.proofs.lemmas.List.Elements.{All-cons, All-nil, filter_passes}
use Rattle.command.specs.Closed.{IsClosed, IsHeld, has_id}
use Rattle.command.specs.declared.command.Command.{Command}
use Rattle.command.proofs.ClosedFacts.{held_more}
use Rattle.command.proofs.ListFacts.{at_head, behind_head}
use Rattle.sync_codec.specs.declared.request.Request.{Request}
use Rattle.sync_codec.specs.declared.response.Response.{Response}
use Rattle.sync_peer.specs.Laws.{NameHeldIds}
use Rattle.sync_peer.specs.Messages.{IsAnswer, most_sent, next_of, response_of}
use Rattle.sync_peer.specs.Missing.{AreMissing, held_ids}
use Rattle.sync_peer.specs.Sessions.{Answer, IsSession, all_sent, last_held}
use Rattle.sync_peer.proofs.MissingFacts.{missing_grows}

-- what a filter keeps passes, and what passes is kept
kept_passes : {X : Type 0} (p : X → Bool) (xs : List X) (x : X) → Contains (filter p xs) x → IsTrue (p x)
kept_passes p xs x inside = subst (λ z. IsTrue (p z)) inside.2 (filter_passes p xs inside.0 x inside.1)

all_kept : {X : Type 0} (p : X → Bool) (xs : List X) → ((x : X) → Contains xs x → IsTrue (p x)) → filter p xs ≡ xs
all_kept p [] all = refl
all_kept p (x ∷ xs) all = rw (all x (at_head x xs), all_kept p xs (λ y h. all y (behind_head x xs y h))) refl

-- the request that follows
abbrev pub following : Response → Request
following response = record { graph = response.graph; sample = response.sample; from = response.from + length response.commands }

next_none : (response : Response) → response.more ≡ false → next_of response ≡ None
next_none response is = rw is refl

next_some : (response : Response) → response.more ≡ true → next_of response ≡ Some (following response)
next_some response is = rw is refl

-- a session ends where there is no more, and goes on where there is
session_ends : (held : List Command) (response : Response) → IsSession held (next_of response) [] → response.more ≡ false
session_ends held response session = by response.more refl
  where
    by : (b : Bool) → response.more ≡ b → response.more ≡ false
    by false is = is
    by true is = absurd (subst (λ o. IsSession held o []) (next_some response is) session)

session_goes_on : (held : List Command) (response : Response) (a : Answer) (answers : List Answer) → IsSession held (next_of response) (a ∷ answers) → IsSession held (Some (following response)) (a ∷ answers)
session_goes_on held response a answers session = by response.more refl
  where
    by : (b : Bool) → response.more ≡ b → IsSession held (Some (following response)) (a ∷ answers)
    by true is = subst (λ o. IsSession held o (a ∷ answers)) (next_some response is) session
    by false is = absurd (subst (λ o. IsSession held o (a ∷ answers)) (next_none response is) session)

-- where no more follow, the rest was sent
rest_sent : (left : List Command) → nat_lt most_sent (length left) ≡ false → take most_sent left ≡ left
rest_sent left is = take_all most_sent left (ltb-false most_sent (length left) is)

-- an answer is given of which what was sent begins what is missing
pub record IsGiven (answer : Answer) (request : Request) (ids : List (List ℕ)) (sent left : List Command) : Type 0 where
  pub closed : IsClosed answer.held
  pub held : (id : List ℕ) → Contains ids id → IsHeld answer.held id
  pub same_ids : held_ids answer.held request.sample ≡ ids
  pub are_missing : AreMissing answer.held ids (sent ++ left)
  pub same_response : answer.response ≡ response_of answer.held request (sent ++ left)
  pub from : request.from ≡ length sent

module _ (answer : Answer) (request : Request) (ids : List (List ℕ)) (sent left : List Command) (given : IsGiven answer request ids sent left) where
  left_is : drop request.from (sent ++ left) ≡ left
  left_is = ap (λ n. drop n (sent ++ left)) given.from ∙ drop-append_seam sent left

  commands_are : answer.response.commands ≡ take most_sent left
  commands_are = ap (λ r. r.commands) given.same_response ∙ ap (take most_sent) left_is

  more_is : answer.response.more ≡ nat_lt most_sent (length left)
  more_is = ap (λ r. r.more) given.same_response ∙ ap (λ l. nat_lt most_sent (length l)) left_is

  -- the last answer sends all that is left
  given_last : answer.response.more ≡ false → sent ++ (answer.response.commands ++ []) ≡ sent ++ left
  given_last none = ap (λ l. sent ++ l) (append-nil answer.response.commands ∙ commands_are ∙ rest_sent left (sym more_is ∙ none))

  whole : (sent ++ answer.response.commands) ++ drop most_sent left ≡ sent ++ left
  whole = append_assoc sent answer.response.commands (drop most_sent left) ∙ ap (λ l. sent ++ l) (ap (λ l. l ++ drop most_sent left) commands_are ∙ take-append-drop most_sent left)

  -- the next answer goes on behind what is sent
  given_next : (next : Answer) (more : List Command) → next.held ≡ answer.held ++ more → IsClosed next.held → IsAnswer next.held (following answer.response) next.response →
      (behind : List Command) × IsGiven next (following answer.response) ids (sent ++ answer.response.commands) behind
  given_next next more grows closed is =
      let ids_stay : (id : List ℕ) → Contains ids id → IsHeld next.held id = λ id h. subst (λ l. IsHeld l id) (sym grows) (held_more answer.held more id (given.held id h)) in
      let sample_is : (following answer.response).sample ≡ ids = ap (λ r. r.sample) given.same_response ∙ given.same_ids in
      let same_ids : held_ids next.held (following answer.response).sample ≡ ids = ap (held_ids next.held) sample_is ∙ all_kept (has_id next.held) ids ids_stay in
      let are : AreMissing next.held ids is.missing = subst (λ l. AreMissing next.held l is.missing) same_ids is.are_missing in
      let grown = missing_grows answer.held more (subst IsClosed grows closed) ids given.held (sent ++ left) is.missing given.are_missing (subst (λ l. AreMissing l ids is.missing) grows are) in
      let behind = drop most_sent left ++ grown.0 in
      let split : is.missing ≡ (sent ++ answer.response.commands) ++ behind =
      grown.1 ∙ ap (λ l. l ++ grown.0) (sym whole) ∙ append_assoc (sent ++ answer.response.commands) (drop most_sent left) grown.0 in (
        behind,
        record {
          closed = closed;
          held = ids_stay;
          same_ids = same_ids;
          are_missing = subst (λ l. AreMissing next.held ids l) split are;
          same_response = is.same_response ∙ ap (response_of next.held (following answer.response)) split;
          from =
              let before : answer.response.from ≡ length sent = ap (λ r. r.from) given.same_response ∙ given.from in
              omega (arith, before, length-append sent answer.response.commands);
        },
      )

sends_missing : (answers : List Answer) (answer : Answer) (request : Request) (ids : List (List ℕ)) (sent left : List Command) → IsGiven answer request ids sent left →
    IsSession answer.held (next_of answer.response) answers → AreMissing (last_held answer.held answers) ids (sent ++ all_sent (answer ∷ answers))
sends_missing [] answer request ids sent left given session =
    subst (λ l. AreMissing answer.held ids l) (sym (given_last answer request ids sent left given (session_ends answer.held answer.response session))) given.are_missing
sends_missing (next ∷ answers) answer request ids sent left given session =
    let on = session_goes_on answer.held answer.response next answers session in
    let more = on.0 in
    let then = given_next answer request ids sent left given next more.0 more.1 on.1 on.2 in
    let rest = sends_missing answers next (following answer.response) ids (sent ++ answer.response.commands) then.0 then.1 on.3 in
    subst (λ l. AreMissing (last_held next.held answers) ids l) (append_assoc sent answer.response.commands (all_sent (next ∷ answers))) rest

pub sessions_send : (held : List Command) (graph : List ℕ) (sample : List (List ℕ)) (answer : Answer) (answers : List Answer) →
    IsSession held (Some (record { graph = graph; sample = sample; from = 0 })) (answer ∷ answers) →
    AreMissing (last_held held (answer ∷ answers)) (held_ids answer.held sample) (all_sent (answer ∷ answers))
sessions_send held graph sample answer answers session =
    let is = session.2 in
    sends_missing answers answer (record { graph = graph; sample = sample; from = 0 }) (held_ids answer.held sample) [] is.missing
    (record {
      closed = session.1;
      held = λ id h. kept_passes (has_id answer.held) sample id h;
      same_ids = refl;
      are_missing = is.are_missing;
      same_response = is.same_response;
      from = refl;
    })
    session.3

-- ---- what responses and later requests name

held_ids_held : (cs : List Command) (ids : List (List ℕ)) → All (IsHeld cs) (held_ids cs ids)
held_ids_held cs [] = All-nil (IsHeld cs)
held_ids_held cs (id ∷ ids) = by (held_ids_held cs ids) (has_id cs id) refl
  where
    by : All (IsHeld cs) (held_ids cs ids) → (b : Bool) → has_id cs id ≡ b → All (IsHeld cs) (held_ids cs (id ∷ ids))
    by rest true is =
        let kept : held_ids cs (id ∷ ids) ≡ id ∷ held_ids cs ids = rw is refl in
        subst (All (IsHeld cs)) (sym kept) (All-cons (IsHeld cs) id (held_ids cs ids) is rest)
    by rest false is = let left : held_ids cs (id ∷ ids) ≡ held_ids cs ids = rw is refl in subst (All (IsHeld cs)) (sym left) rest

sample_held : (cs : List Command) (request : Request) (response : Response) → IsAnswer cs request response → All (IsHeld cs) response.sample
sample_held cs request response is = subst (All (IsHeld cs)) (sym (ap (λ r. r.sample) is.same_response)) (held_ids_held cs request.sample)

pub names_held : (answers : List Answer) (held : List Command) (asked : Option Request) → IsSession held asked answers → NameHeldIds answers
names_held [] held asked session = All-nil (λ answer. All (IsHeld answer.held) answer.response.sample)
names_held (answer ∷ answers) held None session = absurd session
names_held (answer ∷ answers) held (Some request) session =
    All-cons (λ answer. All (IsHeld answer.held) answer.response.sample) answer answers (sample_held answer.held request answer.response session.2)
    (names_held answers answer.held (next_of answer.response) session.3)
