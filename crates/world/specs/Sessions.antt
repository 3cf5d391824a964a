-- A session of two replicas: `sync A B`.
use Rattle.std.specs.Prelude.{ℕ, ◌+◌, Bool, List, [], ◌∷◌, ◌++◌, length, codes, Option, Some, None, Result, Ok, Err}
use Rattle.accept.specs.Takes as takes
use Rattle.replica.specs.Calls.{Answers, Asks, AsksNext, TakesIn}
use Rattle.replica.specs.declared.counts.Taken.{Taken}
use Rattle.replica.specs.declared.refusal.Refusal.{Refusal}
use Rattle.script_texts.specs.Bytes.{Bytes}
use Rattle.script_texts.specs.Replies.{refused_commands_text, synced_text}
use Rattle.world.specs.Reasons.{shown_refusals}
use Rattle.world.specs.Replies.{reply_text}
use Rattle.world.specs.Worlds.{Changes, Named, Of}

-- What the takes of a session came to: how many answers were taken, how many commands were added and how many were repeats, and those refused.
pub record Sum : Type 0 where
  pub answers : ℕ
  pub added : ℕ
  pub repeats : ℕ
  pub refused : List takes.Refusal

abbrev pub no_sum : Sum
no_sum = record { answers = 0; added = 0; repeats = 0; refused = [] }

abbrev pub with_taken : Sum → Taken → Sum
with_taken sum taken = record {
  answers = sum.answers + 1;
  added = sum.added + taken.added;
  repeats = sum.repeats + taken.repeats;
  refused = sum.refused ++ taken.refused;
}

-- `sync A B: answers N, added X, repeat Y, refused Z`, and the refused.
abbrev pub synced_lines : List Bytes → Sum → Bytes
synced_lines names sum = synced_text (codes "sync") names sum.answers sum.added sum.repeats (length sum.refused) ++ refused_commands_text (shown_refusals sum.refused)

abbrev pub synced_line : Bytes → Bytes → Result Sum Refusal → Option Bytes
synced_line a b result = reply_text (codes "sync") (a ∷ b ∷ []) (synced_lines (a ∷ b ∷ [])) result

module _ {D : Type 0} (good : List ℕ → List ℕ → List ℕ → Bool) (a b : Bytes) where
  -- B answers a request, and A takes the response.
  pub record IsHalfRound (old : List (Named D)) (request : Bytes) (taken : Taken) (new : List (Named D)) : Type 0 where
    pub response : Bytes
    pub answer : Of old b (λ kept. Answers kept request (Ok response))
    pub take : Changes old a (λ before after. TakesIn before good response (Ok taken) after) new

  -- The same, and A asks for what follows or not.
  pub record IsRound (old : List (Named D)) (request : Bytes) (taken : Taken) (next : Result (Option Bytes) Refusal) (new : List (Named D)) : Type 0 where
    pub response : Bytes
    pub answer : Of old b (λ kept. Answers kept request (Ok response))
    pub take : Changes old a (λ before after. TakesIn before good response (Ok taken) after) new
    pub asks_next : Of new a (λ kept. AsksNext kept response next)

  -- So far a session came from the first replicas to these: the next request is this, and the takes came to that.
  pub data Goes (first : List (Named D)) : List (Named D) → Bytes → Sum → Type 0 where
    begins : {request : Bytes} → Of first a (λ kept. Asks kept (Ok request)) → Goes first first request no_sum
    more : {old new : List (Named D)} {request next : Bytes} {sum : Sum} {taken : Taken} →
        Goes first old request sum → IsRound old request taken (Ok (Some next)) new → Goes first new next (with_taken sum taken)

  -- A session ends where nothing follows, or at the first refusal.
  pub data Session (first : List (Named D)) : Result Sum Refusal → List (Named D) → Type 0 where
    no_request : {why : Refusal} → Of first a (λ kept. Asks kept (Err why)) → Session first (Err why) first
    no_answer : {old : List (Named D)} {request : Bytes} {sum : Sum} {why : Refusal} →
        Goes first old request sum → Of old b (λ kept. Answers kept request (Err why)) → Session first (Err why) old
    no_take : {old : List (Named D)} {request response : Bytes} {sum : Sum} {why : Refusal} →
        Goes first old request sum → Of old b (λ kept. Answers kept request (Ok response)) → Of old a (λ kept. TakesIn kept good response (Err why) kept) → Session first (Err why) old
    no_next : {old new : List (Named D)} {request : Bytes} {sum : Sum} {taken : Taken} {why : Refusal} →
        Goes first old request sum → IsRound old request taken (Err why) new → Session first (Err why) new
    done : {old new : List (Named D)} {request : Bytes} {sum : Sum} {taken : Taken} →
        Goes first old request sum → IsRound old request taken (Ok None) new → Session first (Ok (with_taken sum taken)) new
