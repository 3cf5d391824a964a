-- Commits that are admitted one after another.
use Rattle.std.proofs.Common.{◌≡◌, ℕ, ◌+◌, ◌≤◌, inl, inr, true, false, List, [], ◌∷◌, ◌++◌, length, take, Option, Some, None, refl, sym, ap, subst, ◌∙◌, arith, append_assoc, append-nil, length-append}
use Rattle.std.specs.List.{All, AllByRecursion}
use Rattle.accept.specs.Admission.{IsAdmission}
use Rattle.accept.specs.Takes.{IsTake, IsTakenOn, Tally, counted}
use Rattle.accept.specs.declared.answer.Admit.{Admit}
use Rattle.accept.specs.declared.answer.Admit.TheVariants.{Added, Repeat, Refused}
use Rattle.braid_run.specs.RunOf.{IsRunOf}
use Rattle.braid_run.specs.Soundness.{AreSound, Criteria, HasGoodTag, IsSound}
use Rattle.braid_run.specs.States.{HasOneInit, Held, IsStanding, extended}
use Rattle.braid_run.specs.declared.entry.Entry.{Entry}
use Rattle.command.specs.Each.{EachAfter}
use Rattle.command.specs.Wire.{IsFormed, command_id}
use Rattle.command.specs.declared.command.Command.{Command}
use Rattle.command.specs.declared.command.Command.TheVariants as command
use Rattle.command.proofs.ListFacts.{each_join, each_right, none_element}
use Rattle.journal.specs.Commits.{IsCommitForm}
use Rattle.journal.specs.declared.commit.Commit.{Commit}
use Rattle.journal.specs.declared.commit.Commit.TheVariants.{Graph, Commands}
use Rattle.policy_meaning.specs.Typed.{AreTyped}
use Rattle.replica.specs.Fronts.{Admits, AreAdmitted, Front, Opening, Opens, all_added, behind_commit, front_of, no_front}
use Rattle.replica.specs.Kept.{any_tag, nothing_held}
use Rattle.replica.specs.working.Changes.{Change, Reruns}
use Rattle.replica.specs.working.Openings.{Adds, IsLedTo, is_added}
use Rattle.replica.proofs.Opens.{HaveOneAnswer}
use Rattle.transaction.specs.Applying.{graph_named}

-- ---- takes that add all, command by command

abbrev pub AllAdded : Criteria → Option (List ℕ) → List Command → List Command → Type 0
AllAdded criteria graph_id held list = EachAfter (λ front c. IsAdmission criteria graph_id front c Added) held list

module _ (criteria : Criteria) (graph_id : Option (List ℕ)) where
  module _ (held : List Command) where
    -- a take adds no more than there is
    added_within : (list : List Command) (before behind : Tally) → IsTakenOn criteria graph_id held before list behind → length behind.added ≤ length before.added + length list
    added_within [] before behind is = let same : length behind.added ≡ length before.added = ap (λ t. length t.added) is in omega (arith, same)
    added_within (c ∷ list) before behind is =
        let rest = added_within list (counted before c is.0) behind is.2 in
        let one = one_within before c is.0 in
        omega (arith, rest, one)
      where
        one_within : (tally : Tally) (c : Command) (answer : Admit) → length (counted tally c answer).added ≤ length tally.added + 1
        one_within tally c Added = let sum = length-append tally.added (c ∷ []) in omega (arith, sum)
        one_within tally c Repeat = omega arith
        one_within tally c (Refused why) = omega arith

    further : (done list : List Command) → AllAdded criteria graph_id (held ++ done) list → IsTakenOn criteria graph_id held (all_added done) list (all_added (done ++ list))
    further done [] is = ap all_added (append-nil done)
    further done (c ∷ list) is =
        let rest = further (done ++ c ∷ []) list (subst (λ l. AllAdded criteria graph_id l list) (append_assoc held done (c ∷ [])) is.1) in
        (Added, is.0, subst (λ l. IsTakenOn criteria graph_id held (all_added (done ++ c ∷ [])) list (all_added l)) (append_assoc done (c ∷ []) list) rest)

    back : (done list : List Command) → IsTakenOn criteria graph_id held (all_added done) list (all_added (done ++ list)) → AllAdded criteria graph_id (held ++ done) list
    back done [] is = tt
    back done (c ∷ list) is = by is.0 is.1 is.2 (back (done ++ c ∷ []) list)
      where
        less : (before : Tally) → before.added ≡ done → IsTakenOn criteria graph_id held before list (all_added (done ++ c ∷ list)) → ⊥
        less before same rest =
            let within = added_within list before (all_added (done ++ c ∷ list)) rest in
            let sum = length-append done (c ∷ list) in
            let size : length before.added ≡ length done = ap length same in
            omega (arith, within, sum, size)

        by : (answer : Admit) → IsAdmission criteria graph_id (held ++ done) c answer → IsTakenOn criteria graph_id held (counted (all_added done) c answer) list (all_added (done ++ c ∷ list)) →
            (IsTakenOn criteria graph_id held (all_added (done ++ c ∷ [])) list (all_added ((done ++ c ∷ []) ++ list)) → AllAdded criteria graph_id (held ++ (done ++ c ∷ [])) list) →
            AllAdded criteria graph_id (held ++ done) (c ∷ list)
        by Added admission rest on = (
          admission,
          subst (λ l. AllAdded criteria graph_id l list) (sym (append_assoc held done (c ∷ [])))
              (on (subst (λ l. IsTakenOn criteria graph_id held (all_added (done ++ c ∷ [])) list (all_added l)) (sym (append_assoc done (c ∷ []) list)) rest)),
        )
        by Repeat admission rest on = absurd (less (counted (all_added done) c Repeat) refl rest)
        by (Refused why) admission rest on = absurd (less (counted (all_added done) c (Refused why)) refl rest)

    pub takes_all : (list : List Command) → AllAdded criteria graph_id held list → IsTake criteria graph_id held list (all_added list)
    takes_all list is = further [] list (subst (λ l. AllAdded criteria graph_id l list) (sym (append-nil held)) is)

    pub all_taken : (list : List Command) → IsTake criteria graph_id held list (all_added list) → AllAdded criteria graph_id held list
    all_taken list is = subst (λ l. AllAdded criteria graph_id l list) (append-nil held) (back [] list is)

  -- ---- one command

  pub admission_added : (held : List Command) (c : Command) (answer : Admit) → is_added answer ≡ true → IsAdmission criteria graph_id held c answer → IsAdmission criteria graph_id held c Added
  admission_added held c Added is admission = admission
  admission_added held c Repeat is admission = absurd cc
  admission_added held c (Refused why) is admission = absurd cc

  -- an added command
  pub one_added : (below added base new : List Command) (c : Command) (answer : Admit) → is_added answer ≡ true → IsAdmission criteria graph_id (below ++ added) c answer →
      IsStanding graph_id ((below ++ added) ++ c ∷ []) → base ≡ below → new ≡ added ++ c ∷ [] → Adds criteria graph_id (below ++ added) (c ∷ []) (base ++ new)
  one_added below added base new c answer is admission standing same_base same_new = record {
    take = takes_all (below ++ added) (c ∷ []) (admission_added (below ++ added) c answer is admission, tt);
    same_commands = same;
    standing = subst (IsStanding graph_id) (sym same) standing;
  }
    where
      same : base ++ new ≡ (below ++ added) ++ c ∷ []
      same = ap (λ l. l ++ new) same_base ∙ ap (λ l. below ++ l) same_new ∙ sym (append_assoc below added (c ∷ []))

  -- and one that isn't
  pub none_added : HaveOneAnswer → (held : List Command) (c : Command) (answer : Admit) → is_added answer ≡ false → IsStanding graph_id held → IsAdmission criteria graph_id held c answer →
      IsTake criteria graph_id held (c ∷ []) (all_added (c ∷ [])) → ⊥
  none_added answers held c answer not standing admission take =
      let same : Added ≡ answer = (answers criteria graph_id held c standing.closed).one Added answer (all_taken held (c ∷ []) take).0 admission in
      let added : is_added Added ≡ false = ap is_added same ∙ not in
      absurd cc

  -- ---- one command after another

  pub adds_none : (held : List Command) → IsStanding graph_id held → Adds criteria graph_id held [] held
  adds_none held standing = record { take = refl; same_commands = sym (append-nil held); standing = standing }

  pub adds_more : (held list mid new : List Command) (c : Command) → Adds criteria graph_id held list mid → Adds criteria graph_id mid (c ∷ []) new → Adds criteria graph_id held (list ++ c ∷ []) new
  adds_more held list mid new c so_far one = record {
    take =
        takes_all held (list ++ c ∷ [])
        (each_join (λ front c. IsAdmission criteria graph_id front c Added) held list (c ∷ []) (all_taken held list so_far.take)
        (subst (λ l. AllAdded criteria graph_id l (c ∷ [])) so_far.same_commands (all_taken mid (c ∷ []) one.take)));
    same_commands = one.same_commands ∙ ap (λ l. l ++ c ∷ []) so_far.same_commands ∙ append_assoc held list (c ∷ []);
    standing = one.standing;
  }

  pub stops_there : (held list mid rest : List Command) (c : Command) → Adds criteria graph_id held list mid → (IsTake criteria graph_id mid (c ∷ []) (all_added (c ∷ [])) → ⊥) →
      IsTake criteria graph_id held (list ++ c ∷ rest) (all_added (list ++ c ∷ rest)) → ⊥
  stops_there held list mid rest c so_far not whole =
      let right = each_right (λ front c. IsAdmission criteria graph_id front c Added) held list (c ∷ rest) (all_taken held (list ++ c ∷ rest) whole) in
      not (takes_all mid (c ∷ []) (subst (λ l. AllAdded criteria graph_id l (c ∷ [])) (sym so_far.same_commands) (right.0, tt)))

-- ---- commits

-- a graph without an id holds nothing, so it stands under every id
pub renamed : (id : Option (List ℕ)) (cs : List Command) → IsStanding None cs → IsStanding id cs
renamed id cs standing = record { closed = standing.closed; few = standing.few; one_init = by cs standing.one_init; in_line = standing.in_line }
  where
    by : (cs : List Command) → HasOneInit None cs → HasOneInit id cs
    by [] has = tt
    by (c ∷ cs) has = let none : None ≡ Some (command_id c) = has.1 in absurd cc

pub named_stands : (graph_id : Option (List ℕ)) (cs list : List Command) → IsStanding graph_id cs → IsStanding (graph_named graph_id list) cs
named_stands (Some id) cs list standing = standing
named_stands None cs list standing = renamed (graph_named None list) cs standing

module _ (criteria : Criteria) where
  -- what is admitted behind a part of the commits
  abbrev pub GoesOn : Front → List (ℕ × Commit) → Front → List (ℕ × Commit) → Type 0
  GoesOn start all front left = (opening : Opening) → Admits criteria front left opening → Admits criteria start all opening

-- ---- soundness

-- that an added command keeps a list sound is a law of admission
abbrev pub KeepSound : Type 0
KeepSound =
    (criteria : Criteria) (graph_id : Option (List ℕ)) (commands list : List Command) (tally : Tally) → AreSound criteria graph_id commands → All IsFormed list →
    IsTake criteria graph_id commands list tally → AreSound criteria graph_id (commands ++ tally.added)

pub nothing_sound : (criteria : Criteria) → AreSound criteria None []
nothing_sound criteria = record {
  standing = record { closed = tt; few = omega arith; one_init = tt; in_line = λ f g here there is also. absurd (none_element f here) };
  lawful = λ c inside. absurd (none_element c inside);
}

module _ (keeps : KeepSound) (criteria : Criteria) where
  commit_sound : (front : Front) (commit : Commit) → IsCommitForm commit → AreSound criteria front.graph_id front.commands → AreAdmitted criteria front commit →
      AreSound criteria (behind_commit front commit).graph_id (behind_commit front commit).commands
  commit_sound front (Graph id) form sound is =
      record { standing = renamed (Some id) front.commands (subst (λ i. IsStanding i front.commands) is.0 sound.standing); lawful = sound.lawful }
  commit_sound front (Commands list) form sound is =
      keeps criteria (graph_named front.graph_id list) front.commands list (all_added list) (record { standing = named_stands front.graph_id front.commands list sound.standing; lawful = sound.lawful }) form.1 is.1

  -- what admitted commits lead to is sound
  pub opened_sound : (items : List (ℕ × Commit)) (front new : Front) → AllByRecursion (λ item. IsCommitForm item.1) items → AreSound criteria front.graph_id front.commands → Admits criteria front items (Opens new) →
      AreSound criteria new.graph_id new.commands
  opened_sound [] front new forms sound is = let same : front ≡ new = cc in subst (λ (f : Front). AreSound criteria f.graph_id f.commands) same sound
  opened_sound (item ∷ items) front new forms sound (inl is) = opened_sound items (behind_commit front item.1) new forms.1 (commit_sound front item.1 forms.0 sound is.0) is.1
  opened_sound (item ∷ items) front new forms sound (inr is) = absurd cc

-- what is sound by a test of tags is so by a test that takes each
pub sound_for_any : (criteria : Criteria) (graph_id : Option (List ℕ)) (cs : List Command) → AreSound criteria graph_id cs → AreSound (record criteria { good = any_tag }) graph_id cs
sound_for_any criteria graph_id cs sound = record {
  standing = sound.standing;
  lawful = λ c inside plain. let is = sound.lawful c inside plain in record { digest = is.digest; tag = any_good c; kind = is.kind; passes = is.passes };
}
  where
    any_good : (c : Command) → HasGoodTag any_tag c
    any_good (command.Init cut digest author name payload tag) = refl
    any_good (command.Basic cut priority parent author name payload tag) = refl
    any_good (command.Finalize cut parent author name payload tag) = refl
    any_good (command.Merge cut left right) = tt

-- ---- the state that commits lead to

pub led_to : KeepSound → (criteria : Criteria) (items : List (ℕ × Commit)) (below_none added_none below added : List Command) (id : Option (List ℕ)) (olds : List Entry) (change : Change) (cut count : ℕ) (start held : Held) →
    AllByRecursion (λ item. IsCommitForm item.1) items → below_none ≡ [] → added_none ≡ [] → below ≡ below_none →
    Admits criteria (record { graph_id = None; commands = below_none ++ added_none }) items (Opens (record { graph_id = id; commands = below ++ added })) →
    Reruns criteria.policy below added olds change cut count → start ≡ record nothing_held { graph_id = id } → held ≡ extended start change.commands 0 change.rows change.entries → IsLedTo criteria items held
led_to keeps criteria items below_none added_none below added id olds change cut count start held forms no_below no_added same_below admits reruns same_start grown =
    record { opens = opens; sound = sound; replica = record { typed = subst (λ (h : Held). AreTyped criteria.policy h.rows) (sym same_held) reruns.typed; sound = any } }
  where
    same_held : held ≡ extended (record nothing_held { graph_id = id }) change.commands 0 change.rows change.entries
    same_held = grown ∙ ap (λ h. extended h change.commands 0 change.rows change.entries) same_start

    first : record { graph_id = None; commands = below_none ++ added_none } ≡ no_front
    first = ap (λ l. record { graph_id = None; commands = l ++ added_none }) no_below ∙ ap (λ l. record { graph_id = None; commands = l }) no_added

    whole : below ++ added ≡ change.commands
    whole = ap (λ l. l ++ added) (same_below ∙ no_below) ∙ sym reruns.same_added

    end : record { graph_id = id; commands = below ++ added } ≡ front_of held
    end = ap (λ l. record { graph_id = id; commands = l }) whole ∙ sym (ap front_of same_held)

    opens : Admits criteria no_front items (Opens (front_of held))
    opens = subst (λ f. Admits criteria no_front items (Opens f)) end (subst (λ f. Admits criteria f items (Opens (record { graph_id = id; commands = below ++ added }))) first admits)

    run : IsRunOf criteria.policy held.commands held.rows held.entries
    run =
        subst (λ (h : Held). IsRunOf criteria.policy h.commands h.rows h.entries) (sym same_held) (subst (λ l. IsRunOf criteria.policy l change.rows change.entries) whole reruns.run)

    sound : IsSound criteria held
    sound = record { commands = opened_sound keeps criteria items no_front (front_of held) forms (nothing_sound criteria) opens; run = run }

    any : IsSound (record { policy = criteria.policy; digest = criteria.digest; good = any_tag }) held
    any = record { commands = sound_for_any criteria held.graph_id held.commands sound.commands; run = run }
