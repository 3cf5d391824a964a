-- Where the union could be one list, no take of a session refuses anything.
use Rattle.std.proofs.Common.{◌≡◌, ℕ, ◌≤◌, ◌⊎◌, inl, inr, true, List, [], ◌∷◌, ◌++◌, length, Some, refl, sym, ap, subst, ◌∙◌, arith, append_assoc}
use Rattle.std.specs.List.{Contains}
use Rattle.std.proofs.lemmas.List.Elements.{Contains-append_cases, Contains-append_left, Contains-append_right, Contains-push}
use Rattle.accept.specs.Laws.{IsHindered, IsWelcome}
use Rattle.accept.specs.Takes.{IsTakenOn, Tally, counted, no_tally}
use Rattle.accept.specs.declared.answer.Admit.{Admit}
use Rattle.accept.specs.declared.answer.Admit.TheVariants.{Added, Repeat, Refused}
use Rattle.accept.specs.declared.answer.Reason.{Reason}
use Rattle.accept.specs.declared.answer.Reason.TheVariants as reason
use Rattle.braid_run.specs.Places.{IsBehind}
use Rattle.braid_run.specs.Soundness.{Criteria}
use Rattle.command.specs.Ancestors.{Ancestor}
use Rattle.command.specs.Ancestors.Ancestor.{Parent, Further}
use Rattle.command.specs.Closed.{IsClosed, IsHeld}
use Rattle.command.specs.Each.{EachAfter}
use Rattle.command.specs.Kinds.{is_finalize, parents_of}
use Rattle.command.specs.Wire.{command_id}
use Rattle.command.specs.declared.command.Command.{Command}
use Rattle.command.proofs.AncestorFacts.{IsDown, ancestor_down, inside_down}
use Rattle.command.proofs.ClosedFacts.{held_by, held_command, held_more, parents_held, same_by_id}
use Rattle.command.proofs.ListFacts.{at_head, behind_head, each_left, each_right, head_cases, none_element}
use Rattle.replica.specs.Sessions.{AreTaken, HoldsUnion, IsWhole, MayBeOne, Meet, Turn, all_refused, answers_of, last_answered, last_taken, union}
use Rattle.replica.proofs.JoinFacts.{AreWelcome, added_grows, answered, known_is_held, one_added, taken_leads}
use Rattle.replica.proofs.JoinLists.{beyond, leads_behind, leads_closed, leads_has, leads_held, leads_on, union_cases, union_has, union_longer}
use Rattle.sync_peer.specs.Laws.{HasParents, IsKnownId}
use Rattle.sync_peer.specs.Missing.{held_ids}
use Rattle.sync_peer.specs.Samples.{sample}
use Rattle.sync_peer.specs.Sessions.{Begins, all_sent}
use Rattle.sync_peer.proofs.MissingFacts.{are_parted}
use Rattle.sync_peer.proofs.SessionFacts.{sessions_send}

module _ (welcome : AreWelcome) (criteria : Criteria) (id : List ℕ) (end last : List Command) (meet : Meet criteria id end last) (may : MayBeOne end last) where
  abbrev both : List Command
  both = union end last

  -- ---- what is held begins what is held at the end

  module _ (held : List Command) (begins : Begins held end) where
    closed : IsClosed held
    closed = leads_closed held end begins meet.asker.closed

    -- a command of the union that has a held id is held
    same_id : (x y : Command) → Contains both x → Contains held y → command_id y ≡ command_id x → Contains held x
    same_id x y inside there same =
        let older = leads_has held end begins y there in
        let one : y ≡ x =
        elim (union_cases end last x inside) [ inl here ↦ same_by_id end meet.asker.closed y x older here same | inr other ↦ meet.agree y x older other same ] in
        subst (λ z. Contains held z) one there

    down : IsDown held both
    down m y e inside = let found = held_command held (command_id m) (parents_held held closed y (command_id m) inside e.link) in same_id m found.0 e.older found.1 found.2

    module _ (c : Command) (parents : (i : List ℕ) → Contains (parents_of c) i → IsHeld held i) where
      behind_of : (f : Command) → Contains held f → Ancestor both f c → IsBehind held c f
      behind_of f inside (Parent e) = (f, inside, e.link, inl refl)
      behind_of f inside (Further {m = m} above e) =
          let found = held_command held (command_id m) (parents (command_id m) e.link) in
          let there : Contains held m = same_id m found.0 e.older found.1 found.2 in
          (m, there, e.link, inr (ancestor_down held both down f m above there))

      module _ (among : Contains last c) (fresh : IsHeld held (command_id c) → ⊥) where
        not_parallel : (f : Command) → Contains held f → is_finalize f ≡ true → is_finalize c ≡ true → (IsBehind held c f → ⊥) → ⊥
        not_parallel f inside is also beside =
            elim (may.in_line f c (Contains-append_left end (beyond end last) f (leads_has held end begins f inside)) (union_has end last meet.agree c among) is also) [
              | inl same ↦ fresh (held_by held c (subst (λ z. Contains held z) same inside))
              | inr either ↦
                  elim either [
                    | inl above ↦ beside (behind_of f inside above)
                    | inr below ↦ fresh (held_by held c (inside_down both (Contains held) down c f below inside))
                  ]
            ]

        not_full : 65536 ≤ length held → ⊥
        not_full full = let longer = union_longer end last held meet.agree begins c among fresh in omega (arith, longer, may.few, full)

        pub not_hindered : (why : Reason) → IsHindered held c why → ⊥
        not_hindered (reason.Collision i bytes) is = is
        not_hindered reason.OtherInit is = is
        not_hindered (reason.MissingParent i) is = is.1 (parents i is.0)
        not_hindered (reason.WrongCut stated real) is = is
        not_hindered reason.BadEnvelope is = is
        not_hindered (reason.Policy why) is = is
        not_hindered (reason.ParallelFinalize i) is = not_parallel is.1.0 is.1.1 is.1.2 is.0 is.1.4
        not_hindered reason.Full is = not_full is

  -- ---- one take

  module _ (ids : List (List ℕ)) (mine : List Command) (known : (i : List ℕ) → IsKnownId last ids i → IsHeld mine i) where
    one_taken : (tally : Tally) (c : Command) (answer : Admit) → IsWelcome (mine ++ tally.added) c answer → Begins (mine ++ tally.added) end → Contains last c
        → ((i : List ℕ) → Contains (parents_of c) i → IsHeld (mine ++ tally.added) i) → tally.refused ≡ []
        → ((counted tally c answer).refused ≡ []) × Contains (mine ++ (counted tally c answer).added) c
    one_taken tally c Added is begins among parents none = (none, Contains-append_right mine (tally.added ++ c ∷ []) c (Contains-push tally.added c))
    one_taken tally c Repeat is begins among parents none = (none, is)
    one_taken tally c (Refused why) is begins among parents none = absurd (not_hindered (mine ++ tally.added) begins c parents among is.0 why is.1)

    parents_are_held : (front held : List Command) (c : Command) → HasParents last ids front c → ((x : Command) → Contains front x → Contains held x) → Begins mine held
        → (i : List ℕ) → Contains (parents_of c) i → IsHeld held i
    parents_are_held front held c has there begins i link =
        elim (has i link) [
          | inl sent ↦ let found = held_command front i sent in subst (λ z. IsHeld held z) found.2 (held_by held found.0 (there found.0 found.1))
          | inr is ↦ leads_held mine held begins i (known i is)
        ]

    all_taken : (list front : List Command) (before behind : Tally) → IsTakenOn criteria (Some id) mine before list behind → ((c : Command) → Contains list c → Contains last c)
        → Begins (mine ++ behind.added) end → EachAfter (HasParents last ids) front list → ((x : Command) → Contains front x → Contains (mine ++ before.added) x) → before.refused ≡ []
        → (behind.refused ≡ []) × ((x : Command) → Contains (front ++ list) x → Contains (mine ++ behind.added) x)
    all_taken [] front before behind is sent begins each held none = (
      subst (λ t. t.refused ≡ []) (sym is) none,
      (λ x inside. subst (λ t. Contains (mine ++ t.added) x) (sym is) (elim (Contains-append_cases front [] x inside) [ inl here ↦ held x here | inr never ↦ absurd (none_element x never) ])),
    )
    all_taken (c ∷ more) front before behind is sent begins each held none =
        let now = counted before c is.0 in
        let whole = added_grows criteria (Some id) mine (c ∷ more) before behind is in
        let before_begins = leads_on (mine ++ before.added) (mine ++ behind.added) end (leads_behind mine before.added behind.added whole) begins in
        let among : Contains last c = sent c (at_head c more) in
        let parents = parents_are_held front (mine ++ before.added) c each.0 held (before.added, refl) in
        let one = one_taken before c is.0 (answered welcome criteria id end last meet (mine ++ before.added) before_begins c is.0 among is.1) before_begins among parents none in
        let on : (x : Command) → Contains (front ++ c ∷ []) x → Contains (mine ++ now.added) x =
        λ x inside.
        elim (Contains-append_cases front (c ∷ []) x inside) [
          | inl older ↦ leads_has (mine ++ before.added) (mine ++ now.added) (leads_behind mine before.added now.added (one_added before c is.0)) x (held x older)
          | inr newest ↦ elim (head_cases c [] x newest) [ inl same ↦ subst (λ z. Contains (mine ++ now.added) z) same one.1 | inr never ↦ absurd (none_element x never) ]
        ] in
        let rest = all_taken more (front ++ c ∷ []) now behind is.2 (λ y h. sent y (behind_head c more y h)) begins each.1 on one.0 in
        (rest.0, (λ x inside. rest.1 x (subst (λ l. Contains l x) (sym (append_assoc front (c ∷ []) more)) inside)))

  -- ---- all turns

  turns_taken : (ids : List (List ℕ)) (turns : List Turn) (held front : List Command) → AreTaken criteria (Some id) held turns → ((c : Command) → Contains (all_sent (answers_of turns)) c → Contains last c)
      → Begins (last_taken held turns) end → EachAfter (HasParents last ids) front (all_sent (answers_of turns)) → ((x : Command) → Contains front x → Contains held x)
      → ((i : List ℕ) → IsKnownId last ids i → IsHeld held i) → (all_refused turns ≡ []) × ((x : Command) → Contains (front ++ all_sent (answers_of turns)) x → Contains (last_taken held turns) x)
  turns_taken ids [] held front taken sent begins each there known =
      (refl, (λ x inside. elim (Contains-append_cases front [] x inside) [ inl here ↦ there x here | inr never ↦ absurd (none_element x never) ]))
  turns_taken ids (turn ∷ turns) held front taken sent begins each there known =
      let list = turn.answer.response.commands in
      let others = all_sent (answers_of turns) in
      let behind = turn.held ++ turn.tally.added in
      let rest = taken_leads criteria (Some id) turns behind taken.2 in
      let own = leads_on behind (last_taken behind turns) end rest begins in
      let now = all_taken ids turn.held (λ i is. leads_held held turn.held taken.0 i (known i is)) list front no_tally turn.tally taken.1 (λ y h. sent y (Contains-append_left list others y h)) own
      (each_left (HasParents last ids) front list others each)
      (λ x inside. Contains-append_left turn.held [] x (leads_has held turn.held taken.0 x (there x inside))) refl in
      let later = turns_taken ids turns behind (front ++ list) taken.2 (λ y h. sent y (Contains-append_right list others y h)) begins (each_right (HasParents last ids) front list others each) now.1
      (λ i is. held_more turn.held turn.tally.added i (leads_held held turn.held taken.0 i (known i is))) in
      (ap (λ l. l ++ all_refused turns) now.0 ∙ later.0, (λ x inside. later.1 x (subst (λ l. Contains l x) (sym (append_assoc front list others)) inside)))

-- ---- the second half of the law

pub whole_joined : AreWelcome → (criteria : Criteria) (id : List ℕ) (asker responder end : List Command) (turns : List Turn) → IsWhole criteria id asker responder turns end
    → Meet criteria id end (last_answered responder turns) → MayBeOne end (last_answered responder turns) → HoldsUnion turns end (last_answered responder turns)
whole_joined welcome criteria id asker responder end [] whole meet may = absurd whole.answered
whole_joined welcome criteria id asker responder end (turn ∷ turns) whole meet may =
    let all = turn ∷ turns in
    let last = last_answered responder all in
    let ids = held_ids turn.answer.held (sample asker) in
    let missing = sessions_send responder id (sample asker) turn.answer (answers_of turns) whole.answered in
    let parted = are_parted last ids (all_sent (answers_of all)) meet.responder.standing.closed missing in
    let begins = leads_on asker (last_taken asker all) end (taken_leads criteria (Some id) all asker whole.taken) whole.later in
    let is_held : (c : Command) → Contains last c → Contains asker c ⊎ Contains (all_sent (answers_of all)) c =
    λ c inside. elim (parted.each c inside) [ inl known ↦ inl (known_is_held welcome criteria id end last meet asker turn.answer.held begins c known) | inr sent ↦ inr sent ] in
    let known : (i : List ℕ) → IsKnownId last ids i → IsHeld asker i =
    λ i is. subst (λ z. IsHeld asker z) is.2 (held_by asker is.0 (known_is_held welcome criteria id end last meet asker turn.answer.held begins is.0 is.3)) in
    let done = turns_taken welcome criteria id end last meet may ids all asker [] whole.taken (λ y h. (parted.missing_alone y h).0) whole.later parted.parents_first
    (λ x never. absurd (none_element x never)) known in
    record {
      none_refused = done.0;
      all_held = λ c inside.
          elim (union_cases end last c inside) [
            | inl here ↦ here
            | inr there ↦
                elim (is_held c there) [
                  | inl older ↦ leads_has asker end begins c older
                  | inr sent ↦ leads_has (last_taken asker all) end whole.later c (done.1 c sent)
                ]
          ];
    }
