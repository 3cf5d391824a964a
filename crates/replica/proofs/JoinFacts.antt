-- The takes of a session: what is sent is held behind them, or was refused for now.
use Rattle.std.proofs.Common.{◌≡◌, ℕ, ◌≤◌, ◌⊎◌, inl, inr, List, [], ◌∷◌, ◌++◌, length, Option, Some, refl, sym, subst, arith}
use Rattle.std.specs.List.{Contains}
use Rattle.std.proofs.lemmas.List.Elements.{All-contains, Contains-append_cases, Contains-append_left, Contains-append_right, Contains-push}
use Rattle.accept.specs.Admission.{IsAdmission}
use Rattle.accept.specs.Laws.{IsHindered, IsWelcome}
use Rattle.accept.specs.Takes.{IsTakenOn, Refusal, Tally, counted, no_tally}
use Rattle.accept.specs.declared.answer.Admit.{Admit}
use Rattle.accept.specs.declared.answer.Admit.TheVariants.{Added, Repeat, Refused}
use Rattle.accept.specs.declared.answer.Reason.{Reason}
use Rattle.accept.specs.declared.answer.Reason.TheVariants as reason
use Rattle.braid_run.specs.Places.{AgreeOnIds}
use Rattle.braid_run.specs.Soundness.{AreSound, Criteria}
use Rattle.command.specs.Closed.{IsClosed, IsHeld}
use Rattle.command.specs.Wire.{command_id}
use Rattle.command.specs.declared.command.Command.{Command}
use Rattle.command.proofs.AncestorFacts.{inside_down}
use Rattle.command.proofs.ClosedFacts.{held_command, parents_held}
use Rattle.command.proofs.ListFacts.{head_cases, none_element}
use Rattle.replica.specs.Sessions.{AreTaken, IsForNow, IsWhole, Meet, Turn, WasRefused, all_refused, answers_of, last_answered, last_taken}
use Rattle.replica.proofs.JoinLists.{Leads, leads_behind, leads_closed, leads_has, leads_itself, leads_length, leads_on, of_filter}
use Rattle.sync_peer.specs.Missing.{IsKnown, held_ids}
use Rattle.sync_peer.specs.Samples.{sample}
use Rattle.sync_peer.specs.Sessions.{Begins, all_sent}
use Rattle.sync_peer.proofs.MissingFacts.{are_parted}
use Rattle.sync_peer.proofs.SampleFacts.{small_sample}
use Rattle.sync_peer.proofs.SessionFacts.{sessions_send}
use Rattle.command.specs.Closed.{has_id}

-- what becomes of a command of a sound list elsewhere is a law of admission
abbrev pub AreWelcome : Type 0
AreWelcome =
    (criteria : Criteria) (graph_id : Option (List ℕ)) (commands sound : List Command) (command : Command) (answer : Admit) → IsClosed commands → AreSound criteria graph_id sound →
    AgreeOnIds commands sound → Contains sound command → IsAdmission criteria graph_id commands command answer → IsWelcome commands command answer

-- ---- tallies grow

pub one_added : (tally : Tally) (c : Command) (answer : Admit) → Leads tally.added (counted tally c answer).added
one_added tally c Added = (c ∷ [], refl)
one_added tally c Repeat = leads_itself tally.added
one_added tally c (Refused why) = leads_itself tally.added

one_refused : (tally : Tally) (c : Command) (answer : Admit) → Leads tally.refused (counted tally c answer).refused
one_refused tally c Added = leads_itself tally.refused
one_refused tally c Repeat = leads_itself tally.refused
one_refused tally c (Refused why) = (record { id = command_id c; why = why } ∷ [], refl)

module _ (criteria : Criteria) (graph_id : Option (List ℕ)) (cs : List Command) where
  pub added_grows : (list : List Command) (before behind : Tally) → IsTakenOn criteria graph_id cs before list behind → Leads before.added behind.added
  added_grows [] before behind is = subst (λ t. Leads before.added t.added) (sym is) (leads_itself before.added)
  added_grows (c ∷ more) before behind is =
      leads_on before.added (counted before c is.0).added behind.added (one_added before c is.0) (added_grows more (counted before c is.0) behind is.2)

  refused_grows : (list : List Command) (before behind : Tally) → IsTakenOn criteria graph_id cs before list behind → Leads before.refused behind.refused
  refused_grows [] before behind is = subst (λ t. Leads before.refused t.refused) (sym is) (leads_itself before.refused)
  refused_grows (c ∷ more) before behind is =
      leads_on before.refused (counted before c is.0).refused behind.refused (one_refused before c is.0) (refused_grows more (counted before c is.0) behind is.2)

-- what a turn's take leaves begins what is held behind the session
pub taken_leads : (criteria : Criteria) (graph_id : Option (List ℕ)) (turns : List Turn) (held : List Command) → AreTaken criteria graph_id held turns → Begins held (last_taken held turns)
taken_leads criteria graph_id [] held taken = leads_itself held
taken_leads criteria graph_id (turn ∷ turns) held taken =
    let rest = taken_leads criteria graph_id turns (turn.held ++ turn.tally.added) taken.2 in
    leads_on held turn.held (last_taken (turn.held ++ turn.tally.added) turns) taken.0 (leads_on turn.held (turn.held ++ turn.tally.added) _ (turn.tally.added, refl) rest)

-- ---- what is sent

for_now : (cs : List Command) (c : Command) (why : Reason) → IsHindered cs c why → IsForNow why
for_now cs c (reason.Collision id held) is = absurd is
for_now cs c reason.OtherInit is = absurd is
for_now cs c (reason.MissingParent id) is = tt
for_now cs c (reason.WrongCut stated real) is = absurd is
for_now cs c reason.BadEnvelope is = absurd is
for_now cs c (reason.Policy why) is = absurd is
for_now cs c (reason.ParallelFinalize id) is = tt
for_now cs c reason.Full is = tt

-- a refusal of the command, for now
abbrev pub IsOut : List Refusal → Command → Type 0
IsOut refused c = (refusal : Refusal) × Contains refused refusal × (refusal.id ≡ command_id c) × IsForNow refusal.why

still_out : (refused more : List Refusal) (c : Command) → Leads refused more → IsOut refused c → IsOut more c
still_out refused more c leads out = (out.0, leads_has refused more leads out.0 out.1, out.2, out.3)

module _ (welcome : AreWelcome) (criteria : Criteria) (id : List ℕ) (end last : List Command) (meet : Meet criteria id end last) where
  -- an answer, where what is held begins what is held at the end
  pub answered : (held : List Command) → Begins held end → (c : Command) (answer : Admit) → Contains last c → IsAdmission criteria (Some id) held c answer → IsWelcome held c answer
  answered held begins c answer inside is =
      welcome criteria (Some id) held last c answer (leads_closed held end begins meet.asker.closed) meet.responder (λ x y h k same. meet.agree x y (leads_has held end begins x h) k same) inside is

  module _ (mine : List Command) where
    settled : (tally : Tally) (c : Command) (answer : Admit) → IsWelcome (mine ++ tally.added) c answer
        → Contains (mine ++ (counted tally c answer).added) c ⊎ IsOut (counted tally c answer).refused c
    settled tally c Added is = inl (Contains-append_right mine (tally.added ++ c ∷ []) c (Contains-push tally.added c))
    settled tally c Repeat is = inl is
    settled tally c (Refused why) is = inr (record { id = command_id c; why = why }, Contains-push tally.refused (record { id = command_id c; why = why }), refl, for_now (mine ++ tally.added) c why is.1)

    all_settled : (list : List Command) (before behind : Tally) → IsTakenOn criteria (Some id) mine before list behind → ((c : Command) → Contains list c → Contains last c)
        → Begins (mine ++ behind.added) end → (c : Command) → Contains list c → Contains (mine ++ behind.added) c ⊎ IsOut behind.refused c
    all_settled [] before behind is sent begins c inside = absurd (none_element c inside)
    all_settled (x ∷ more) before behind is sent begins c inside =
        let now = counted before x is.0 in
        let grown = added_grows criteria (Some id) mine more now behind is.2 in
        let front = leads_on (mine ++ now.added) (mine ++ behind.added) end (leads_behind mine now.added behind.added grown) begins in
        let before_front = leads_on (mine ++ before.added) (mine ++ now.added) end (leads_behind mine before.added now.added (one_added before x is.0)) front in
        elim (head_cases x more c inside) [
          | inl same ↦
              let among : Contains last x = subst (λ z. Contains last z) (sym same) (sent c inside) in
              let here : Contains (mine ++ now.added) c ⊎ IsOut now.refused c =
              subst (λ z. Contains (mine ++ now.added) z ⊎ IsOut now.refused z) same (settled before x is.0 (answered (mine ++ before.added) before_front x is.0 among is.1)) in
              elim here [
                | inl held ↦ inl (leads_has (mine ++ now.added) (mine ++ behind.added) (leads_behind mine now.added behind.added grown) c held)
                | inr out ↦ inr (still_out now.refused behind.refused c (refused_grows criteria (Some id) mine more now behind is.2) out)
              ]
          | inr later ↦ all_settled more now behind is.2 (λ y h. sent y (Contains-append_right (x ∷ []) more y h)) begins c later
        ]

  pub turns_settled : (turns : List Turn) (held : List Command) → AreTaken criteria (Some id) held turns → ((c : Command) → Contains (all_sent (answers_of turns)) c → Contains last c)
      → Begins (last_taken held turns) end → (c : Command) → Contains (all_sent (answers_of turns)) c → Contains (last_taken held turns) c ⊎ IsOut (all_refused turns) c
  turns_settled [] held taken sent begins c inside = absurd (none_element c inside)
  turns_settled (turn ∷ turns) held taken sent begins c inside =
      let list = turn.answer.response.commands in
      let others = all_sent (answers_of turns) in
      let behind = turn.held ++ turn.tally.added in
      let rest = taken_leads criteria (Some id) turns behind taken.2 in
      elim (Contains-append_cases list others c inside) [
        | inl here ↦
            elim (all_settled turn.held list no_tally turn.tally taken.1 (λ y h. sent y (Contains-append_left list others y h)) (leads_on behind (last_taken behind turns) end rest begins) c here) [
              | inl now ↦ inl (leads_has behind (last_taken behind turns) rest c now)
              | inr out ↦ inr (still_out turn.tally.refused (turn.tally.refused ++ all_refused turns) c (all_refused turns, refl) out)
            ]
        | inr there ↦
            elim (turns_settled turns behind taken.2 (λ y h. sent y (Contains-append_right list others y h)) begins c there) [
              | inl now ↦ inl now
              | inr out ↦ inr (out.0, Contains-append_right turn.tally.refused (all_refused turns) out.0 out.1, out.2, out.3)
            ]
      ]

  -- ---- what is known

  -- what stands up to a command that is held by both is held at the end
  known_held : (ids : List (List ℕ)) (asker : List Command) → Begins asker end → ((i : List ℕ) → Contains ids i → IsHeld asker i) → (c : Command) → IsKnown last ids c → Contains asker c
  known_held ids asker begins held c known =
      let y = known.0 in
      let closed = leads_closed asker end begins meet.asker.closed in
      let found = held_command asker (command_id y) (held (command_id y) known.2) in
      let there : Contains asker y = subst (λ z. Contains asker z) (meet.agree found.0 y (leads_has asker end begins found.0 found.1) known.1 found.2) found.1 in
      elim known.3 [
        | inl same ↦ subst (λ z. Contains asker z) (sym same) there
        | inr above ↦
            inside_down last (Contains asker)
            (λ m z e inside.
            let parent = held_command asker (command_id m) (parents_held asker closed z (command_id m) inside e.link) in
            subst (λ w. Contains asker w) (meet.agree parent.0 m (leads_has asker end begins parent.0 parent.1) e.older parent.2) parent.1)
            c y above there
      ]

  pub known_is_held : (asker held : List Command) → Begins asker end → (c : Command) → IsKnown last (held_ids held (sample asker)) c → Contains asker c
  known_is_held asker held begins =
      let few : length asker ≤ 65536 = omega (arith, leads_length asker end begins, meet.asker.few) in
      known_held (held_ids held (sample asker)) asker begins
      (λ i inside. All-contains (IsHeld asker) (sample asker) i (small_sample asker few).held (of_filter (has_id held) (sample asker) i inside))

-- ---- the first half of the law

pub each_joined : AreWelcome → (criteria : Criteria) (id : List ℕ) (asker responder end : List Command) (turns : List Turn) → IsWhole criteria id asker responder turns end
    → Meet criteria id end (last_answered responder turns) → (c : Command) → Contains (last_answered responder turns) c → Contains end c ⊎ WasRefused turns c
each_joined welcome criteria id asker responder end [] whole meet c inside = absurd whole.answered
each_joined welcome criteria id asker responder end (turn ∷ turns) whole meet c inside =
    let all = turn ∷ turns in
    let last = last_answered responder all in
    let ids = held_ids turn.answer.held (sample asker) in
    let missing = sessions_send responder id (sample asker) turn.answer (answers_of turns) whole.answered in
    let parted = are_parted last ids (all_sent (answers_of all)) meet.responder.standing.closed missing in
    let taken = taken_leads criteria (Some id) all asker whole.taken in
    elim (parted.each c inside) [
      | inl known ↦
          let begins = leads_on asker (last_taken asker all) end taken whole.later in
          inl (leads_has asker end begins c (known_is_held welcome criteria id end last meet asker turn.answer.held begins c known))
      | inr sent ↦
          elim (turns_settled welcome criteria id end last meet all asker whole.taken (λ y h. (parted.missing_alone y h).0) whole.later c sent) [
            | inl held ↦ inl (leads_has (last_taken asker all) end whole.later c held)
            | inr out ↦ inr out
          ]
    ]
