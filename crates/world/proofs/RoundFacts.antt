-- The rounds of a session: each next request asks from behind the commands that were met.
use Rattle.std.proofs.Common.{◌≡◌, ℕ, ◌+◌, ◌<◌, ◌≤◌, ◌^◌, Bool, true, false, if◌then◌else◌, List, [], ◌∷◌, ◌++◌, length, Option, Some, None, Ok, Err, refl, sym, ap, subst, ◌∙◌, arith, length-append}
use Rattle.std.specs.Str.{bytes_eq}
use Rattle.accept.specs.Takes.{IsTakenOn, Tally, counted, no_tally}
use Rattle.accept.specs.declared.answer.Admit.{Admit}
use Rattle.accept.specs.declared.answer.Admit.TheVariants.{Added, Repeat, Refused}
use Rattle.base_bytes.specs.Laws.{IsUnambiguous}
use Rattle.braid_run.specs.Soundness.{Criteria}
use Rattle.command.specs.declared.command.Command.{Command}
use Rattle.replica.specs.Calls.{Asks, TakesIn}
use Rattle.replica.specs.Kept.{Kept, criteria_of}
use Rattle.replica.specs.Messages.{AreNextBytes, IsRead, IsSpelled, for_graph}
use Rattle.replica.specs.declared.counts.Taken.{Taken}
use Rattle.replica.specs.declared.refusal.Refusal.{Refusal}
use Rattle.replica.specs.declared.refusal.Refusal.TheVariants as refusal
use Rattle.script_texts.specs.Bytes.{Bytes}
use Rattle.sync_codec.specs.Messages.{IsRequest, IsResponse}
use Rattle.sync_codec.specs.declared.request.Request.{Request}
use Rattle.sync_codec.specs.declared.response.Response.{Response}
use Rattle.sync_peer.specs.Messages.{next_of, request_of}
use Rattle.world.specs.Sessions.{Sum, no_sum, with_taken}

-- ---- what is read was spelled

spelled_own : {M : Type 0} (form : M → List ℕ → Type 0) (bytes : List ℕ) (m x : M) (why : Refusal) (b : Bool) → Ok m ≡ (if b then Ok x else Err why) → form x bytes → form m bytes
spelled_own form bytes m x why true is found = let same : m ≡ x = cc in subst (λ z. form z bytes) (sym same) found
spelled_own form bytes m x why false is found = absurd cc

spelled_by : {M : Type 0} (form : M → List ℕ → Type 0) (graph : M → List ℕ) (bytes : List ℕ) (m : M) (o : Option M) (id : Option (List ℕ)) → IsSpelled form bytes o → Ok m ≡ for_graph graph o id → form m bytes
spelled_by form graph bytes m None id spelled is = absurd cc
spelled_by form graph bytes m (Some x) None spelled is = absurd cc
spelled_by form graph bytes m (Some x) (Some id) spelled is = spelled_own form bytes m x (refusal.OtherGraph (graph x)) (bytes_eq (graph x) id) is spelled.found

-- the message that bytes are read as is spelled by them
pub read_form : {M : Type 0} (form : M → List ℕ → Type 0) (graph : M → List ℕ) (bytes : List ℕ) (id : Option (List ℕ)) (m : M) → IsRead form graph bytes id (Ok m) → form m bytes
read_form form graph bytes id m read = spelled_by form graph bytes m read.message id read.spelled read.same_read

-- ---- a take meets each command of the response once

pub met_in : Taken → ℕ
met_in taken = taken.added + taken.repeats + length taken.refused

met_by : Tally → ℕ
met_by t = length t.added + t.repeats + length t.refused

met_one : (t : Tally) (c : Command) (answer : Admit) → met_by (counted t c answer) ≡ met_by t + 1
unfolding met_by
met_one t c Added = rw length-append (omega arith)
met_one t c Repeat = omega arith
met_one t c (Refused why) = rw length-append (omega arith)

met_all : (criteria : Criteria) (id : Option (List ℕ)) (cs : List Command) (before : Tally) (list : List Command) (behind : Tally) → IsTakenOn criteria id cs before list behind → met_by behind ≡ met_by before + length list
met_all criteria id cs before [] behind on = let same : met_by behind ≡ met_by before = ap met_by on in omega arith
met_all criteria id cs before (c ∷ list) behind on =
    let rest : IsTakenOn criteria id cs (counted before c on.0) list behind = on.2 in
    let all : met_by behind ≡ met_by (counted before c on.0) + length list = met_all criteria id cs (counted before c on.0) list behind rest in
    let one : met_by (counted before c on.0) ≡ met_by before + 1 = met_one before c on.0 in
    omega arith

-- a take of bytes meets the commands of the response that they spell
pub record Meets (bytes : Bytes) (taken : Taken) : Type 0 where
  pub response : Response
  pub spelled : IsResponse response bytes
  pub met : met_in taken ≡ length response.commands

module _ {D : Type 0} (good : List ℕ → List ℕ → List ℕ → Bool) where
  pub taken_meets : (old new : Kept D) (bytes : Bytes) (taken : Taken) → TakesIn old good bytes (Ok taken) new → Meets bytes taken
  unfolding met_in met_by
  taken_meets old new bytes taken (up, (held, (response, read, takes), is)) =
      let all : met_by takes.tally ≡ met_by no_tally + length response.commands = met_all (criteria_of good old) old.held.graph_id old.held.commands no_tally response.commands takes.tally takes.take in
      let refused : length taken.refused ≡ length takes.tally.refused = ap length takes.told.refused in
      record {
        response = response;
        spelled = read_form IsResponse (λ m. m.graph) bytes old.held.graph_id response read;
        met = omega (arith, takes.told.added, takes.told.repeats);
      }

-- a response has few commands
few_commands : (bytes : Bytes) (taken : Taken) → Meets bytes taken → met_in taken ≤ 64
few_commands bytes taken meets = let few = meets.spelled.in_form.few_commands in omega (arith, meets.met)

-- ---- the request that follows

following : Response → Request
following r = record { graph = r.graph; sample = r.sample; from = r.from + length r.commands }

follows_by : (r : Response) (next : Bytes) (b : Bool) → AreNextBytes (if b then Some (following r) else None) (Some next) → (b ≡ true) × IsRequest (following r) next
follows_by r next true are = (refl, are)
follows_by r next false are = absurd are

-- where a request follows, the response has more
next_follows : (r : Response) (next : Bytes) → AreNextBytes (next_of r) (Some next) → (r.more ≡ true) × IsRequest (following r) next
unfolding following
next_follows r next are = follows_by r next r.more are

-- how many commands the takes have met
pub met_commands : Sum → ℕ
met_commands sum = sum.added + sum.repeats + length sum.refused

met_more : (sum : Sum) (taken : Taken) → met_commands (with_taken sum taken) ≡ met_commands sum + met_in taken
unfolding met_commands met_in
met_more sum taken = let refused : length (sum.refused ++ taken.refused) ≡ length sum.refused + length taken.refused = length-append sum.refused taken.refused in omega arith

-- The next request asks from behind the commands that were met, of which each answer brought one.
pub record AsksBehind (sum : Sum) (request : Bytes) : Type 0 where
  pub message : Request
  pub spelled : IsRequest message request
  pub from : message.from ≡ met_commands sum
  pub few : sum.answers ≤ met_commands sum

-- the first request asks from the start
pub asks_first : {D : Type 0} (kept : Kept D) (request : Bytes) → Asks kept (Ok request) → AsksBehind no_sum request
unfolding met_commands
asks_first kept request (up, (id, is, spelled)) = record { message = request_of id kept.held.commands; spelled = spelled; from = refl; few = omega arith }

-- one answer brings a command at least, where another request follows
pub record IsFurther (old new : Sum) (next : Bytes) : Type 0 where
  pub behind : AsksBehind new next
  pub meets_more : met_commands old < met_commands new

-- a request, its response, and the request that follows
pub further : (sum : Sum) (request bytes next : Bytes) (taken : Taken) (asked : Request) (answered : Response) (again : Response) → IsUnambiguous IsRequest → IsUnambiguous IsResponse → AsksBehind sum request →
    IsRequest asked request → answered.from ≡ asked.from → IsResponse answered bytes → Meets bytes taken → IsResponse again bytes → AreNextBytes (next_of again) (Some next) → IsFurther sum (with_taken sum taken) next
unfolding following
further sum request bytes next taken asked answered again requests responses behind asks from answers meets reads are =
    let same_request : behind.message ≡ asked = requests.one_value behind.message asked request behind.spelled asks in
    let same_response : again ≡ answered = responses.one_value again answered bytes reads answers in
    let same_taken : meets.response ≡ again = responses.one_value meets.response again bytes meets.spelled reads in
    let follows = next_follows again next are in
    let some : 0 < length again.commands = reads.in_form.some follows.0 in
    let met : met_in taken ≡ length again.commands = meets.met ∙ ap (λ (r : Response). length r.commands) same_taken in
    let start : again.from ≡ met_commands sum = ap (λ (r : Response). r.from) same_response ∙ from ∙ sym (ap (λ (r : Request). r.from) same_request) ∙ behind.from in
    let met_then : met_commands (with_taken sum taken) ≡ met_commands sum + met_in taken = met_more sum taken in
    let few = behind.few in
    record {
      behind = record { message = following again; spelled = follows.1; from = omega arith; few = omega arith };
      meets_more = omega arith;
    }

-- what a message asks for is within the limit
pub few_met : (sum : Sum) (request : Bytes) → AsksBehind sum request → met_commands sum ≤ 65536
few_met sum request behind = let near = behind.spelled.in_form.near in omega (arith, behind.from)

-- the sums and one take more are far from what a number holds
pub record IsSmall (sum : Sum) (taken : Taken) : Type 0 where
  pub answers : sum.answers + 1 < 2 ^ 64
  pub added : sum.added + taken.added < 2 ^ 64
  pub repeats : sum.repeats + taken.repeats < 2 ^ 64

pub small : (sum : Sum) (request bytes : Bytes) (taken : Taken) → AsksBehind sum request → Meets bytes taken → IsSmall sum taken
unfolding met_commands met_in
small sum request bytes taken behind meets =
    let most = few_met sum request behind in
    let few = few_commands bytes taken meets in
    let answers = behind.few in
    record { answers = omega arith; added = omega arith; repeats = omega arith }
