-- Answers and takes: there is one of each, and a take keeps what it goes on from.
use Rattle.std.proofs.Common.{◌≡◌, ℕ, List, [], ◌∷◌, ◌++◌, Option, refl, sym, ap, subst, ◌∙◌, append_assoc, append-nil}
use Rattle.std.specs.List.{All}
use Rattle.std.proofs.lemmas.List.Elements.{All-head, All-tail}
use Rattle.accept.specs.Admission.{IsAdmission, answer_by}
use Rattle.accept.specs.Laws.{HasOneAnswer, HasOneTally}
use Rattle.accept.specs.Takes.{IsTake, IsTakenOn, Tally, counted, no_tally}
use Rattle.accept.specs.declared.answer.Admit.{Admit}
use Rattle.accept.specs.declared.answer.Admit.TheVariants.{Added, Repeat, Refused}
use Rattle.accept.proofs.AddedFacts.{follows, sound}
use Rattle.accept.proofs.ParallelFacts.{one_first, some_beside}
use Rattle.braid_run.specs.Places.{IsBehind}
use Rattle.braid_run.specs.Soundness.{AreSound, Criteria}
use Rattle.braid_run.specs.States.{IsStanding}
use Rattle.braid_run.proofs.PlacedFacts.{has_place_facts}
use Rattle.braid_run.proofs.StandingFacts.{one_more}
use Rattle.command.specs.Closed.{IsClosed}
use Rattle.command.specs.Wire.{IsFormed}
use Rattle.command.specs.declared.command.Command.{Command}

-- ---- one answer

pub one_answer : (criteria : Criteria) (graph_id : Option (List ℕ)) (cs : List Command) (c : Command) → IsClosed cs → HasOneAnswer criteria graph_id cs c
one_answer criteria graph_id cs c closed =
    let place = has_place_facts cs closed c criteria.policy in
    let rows = place.some.0 in
    let beside = some_beside cs c closed in
    record {
      some = (
        answer_by criteria graph_id cs c rows beside.0,
        λ others other there first.
            ap (λ r. answer_by criteria graph_id cs c r beside.0) (place.one rows others place.some.1 there)
            ∙ ap (answer_by criteria graph_id cs c others) (one_first (IsBehind cs c) cs beside.0 other beside.1 first),
      );
      one = λ a b is also. is rows beside.0 place.some.1 beside.1 ∙ sym (also rows beside.0 place.some.1 beside.1);
    }

-- ---- takes

-- what an answer leaves is as what was held before
module _ (criteria : Criteria) (graph_id : Option (List ℕ)) (P : List Command → Type 0)
    (next : (cs : List Command) (c : Command) → P cs → IsFormed c → IsAdmission criteria graph_id cs c Added → P (cs ++ c ∷ [])) (cs : List Command) where
  pub one_on : (tally : Tally) (c : Command) (answer : Admit) → IsFormed c → IsAdmission criteria graph_id (cs ++ tally.added) c answer → P (cs ++ tally.added)
      → P (cs ++ (counted tally c answer).added)
  one_on tally c Added formed is before = subst P (append_assoc cs tally.added (c ∷ [])) (next (cs ++ tally.added) c before formed is)
  one_on tally c Repeat formed is before = before
  one_on tally c (Refused cause) formed is before = before

  all_on : (list : List Command) (before behind : Tally) → All IsFormed list → IsTakenOn criteria graph_id cs before list behind → P (cs ++ before.added) → P (cs ++ behind.added)
  all_on [] before behind formed is holds = subst (λ t. P (cs ++ t.added)) (sym is) holds
  all_on (c ∷ more) before behind formed is holds =
      all_on more (counted before c is.0) behind (All-tail IsFormed c more formed) is.2 (one_on before c is.0 (All-head IsFormed c more formed) is.1 holds)

  pub taken : (list : List Command) (tally : Tally) → All IsFormed list → IsTake criteria graph_id cs list tally → P cs → P (cs ++ tally.added)
  taken list tally formed is holds = all_on list no_tally tally formed is (subst P (sym (append-nil cs)) holds)

standing_next : (criteria : Criteria) (graph_id : Option (List ℕ)) (cs : List Command) (c : Command) → IsStanding graph_id cs → IsFormed c → IsAdmission criteria graph_id cs c Added
    → IsStanding graph_id (cs ++ c ∷ [])
standing_next criteria graph_id cs c standing formed is = one_more graph_id cs c standing (follows criteria graph_id cs c standing.closed formed is standing)

pub take_stands : (criteria : Criteria) (graph_id : Option (List ℕ)) (cs list : List Command) (tally : Tally) → IsStanding graph_id cs → All IsFormed list
    → IsTake criteria graph_id cs list tally → IsStanding graph_id (cs ++ tally.added)
take_stands criteria graph_id cs list tally standing formed is = taken criteria graph_id (IsStanding graph_id) (standing_next criteria graph_id) cs list tally formed is standing

pub take_is_sound : (criteria : Criteria) (graph_id : Option (List ℕ)) (cs list : List Command) (tally : Tally) → AreSound criteria graph_id cs → All IsFormed list
    → IsTake criteria graph_id cs list tally → AreSound criteria graph_id (cs ++ tally.added)
take_is_sound criteria graph_id cs list tally are formed is =
    taken criteria graph_id (AreSound criteria graph_id) (λ held c before form added. sound criteria graph_id held c before.standing.closed form added before) cs list tally formed is are

-- ---- one tally

module _ (criteria : Criteria) (graph_id : Option (List ℕ)) (cs : List Command) where
  tally_on : (list : List Command) (before : Tally) → All IsFormed list → IsStanding graph_id (cs ++ before.added)
      → ((tally : Tally) × IsTakenOn criteria graph_id cs before list tally)
      × ((a b : Tally) → IsTakenOn criteria graph_id cs before list a → IsTakenOn criteria graph_id cs before list b → a ≡ b)
  tally_on [] before formed standing = ((before, refl), (λ a b one other. one ∙ sym other))
  tally_on (c ∷ more) before formed standing =
      let answer = one_answer criteria graph_id (cs ++ before.added) c standing.closed in
      let now = answer.some.0 in
      let stands = one_on criteria graph_id (IsStanding graph_id) (standing_next criteria graph_id) cs before c now (All-head IsFormed c more formed) answer.some.1 standing in
      let rest = tally_on more (counted before c now) (All-tail IsFormed c more formed) stands in (
        (rest.0.0, (now, answer.some.1, rest.0.1)),
        (λ a b one other. rest.1 a b
            (subst (λ x. IsTakenOn criteria graph_id cs (counted before c x) more a) (answer.one one.0 now one.1 answer.some.1) one.2)
            (subst (λ x. IsTakenOn criteria graph_id cs (counted before c x) more b) (answer.one other.0 now other.1 answer.some.1) other.2)),
      )

pub one_tally : (criteria : Criteria) (graph_id : Option (List ℕ)) (cs list : List Command) → IsStanding graph_id cs → All IsFormed list → HasOneTally criteria graph_id cs list
one_tally criteria graph_id cs list standing formed =
    let both = tally_on criteria graph_id cs list no_tally formed (subst (IsStanding graph_id) (sym (append-nil cs)) standing) in
    record { some = both.0; one = both.1 }
