-- What an action has made goes on from what is held, and a sound state stays sound.
use Rattle.std.proofs.Common.{◌≡◌, ℕ, inl, inr, true, false, not, IsTrue, List, [], ◌∷◌, ◌++◌, length, take, Option, Some, None, Ok, refl, sym, ap, subst, ◌∙◌, append_assoc, append-nil}
use Rattle.std.specs.List.{All}
use Rattle.std.proofs.Math.Seq.{take-length}
use Rattle.std.proofs.lemmas.List.Elements.{Contains-append_right, Contains-push_cases, filter-append}
use Rattle.braid_run.specs.Places.{AreAtPlace}
use Rattle.braid_run.specs.Published.{ArePublished, continued_run, without_merges}
use Rattle.braid_run.specs.RunOf.{IsRunOf}
use Rattle.braid_run.specs.Runs.{Run, entry_of, rows_behind, run_on}
use Rattle.braid_run.specs.Runs.{with_command as run_with}
use Rattle.braid_run.specs.Soundness.{AreLawful, Criteria, DoesPass, IsLawful, IsSound, IsSoundExtension}
use Rattle.braid_run.specs.States.{Held, IsStanding, extended}
use Rattle.braid_run.specs.declared.entry.Entry.{Entry}
use Rattle.braid_run.specs.declared.entry.Outcome.TheVariants as outcome
use Rattle.braid_run.proofs.PublishedFacts.{facts_behind_all, published_extends, runs_last}
use Rattle.braid_run.proofs.RunFacts.{run_append}
use Rattle.braid_run.proofs.SoundFacts.{lawful_on, sound_on}
use Rattle.command.specs.Closed.{IsClosed, IsNext}
use Rattle.command.specs.Kinds.{is_merge}
use Rattle.command.specs.Wire.{IsFormed, body, command_id}
use Rattle.command.specs.declared.command.Command.{Command}
use Rattle.command.specs.declared.command.Command.TheVariants as command
use Rattle.command.proofs.ClosedFacts.{parents_held}
use Rattle.command.proofs.ListFacts.{each_before, each_last, none_element}
use Rattle.fact_store.specs.declared.row.Row.{Row}
use Rattle.policy_ast.specs.declared.policy.PlacedItem.{PlacedItem}
use Rattle.policy_meaning.specs.Actions.{Brought}
use Rattle.policy_meaning.specs.Commands.{Pass, judged}
use Rattle.policy_meaning.specs.Desks.{Chain, Posting, brought}
use Rattle.policy_meaning.specs.Typed.{IsCommandOf}
use Rattle.policy_meaning.specs.declared.ends.Posted.{Posted}
use Rattle.policy_rules.specs.WellTyped.{IsWellTyped}
use Rattle.transaction.specs.Acting.{Acts, Made, Request}
use Rattle.transaction.specs.Applying.{IsPublishedOn, applied, graph_named}
use Rattle.transaction.specs.Drafts.{Basis, Draft, first_draft}
use Rattle.transaction.specs.Merging.{is_known, with_merge}
use Rattle.transaction.specs.Publishing.{Publication, IsTooLong, Refuses, Takes, declared_at, opened, parent_of, payload_of, with_command}
use Rattle.transaction.specs.Seals.{IsPublish, IsSealOf, Leaves}
use Rattle.transaction.proofs.MadeCalls.{content_made, digest_made, kind_is_declared, passes_made, tag_made}
use Rattle.transaction.proofs.Runs.{chain_keeps}
use Rattle.transaction.proofs.StandingFacts.{Joins, Stands, all_left, begun, command_stands, first_room, first_stands, is_plain, merge_joins, named_standing, taken_behind}
use Rattle.transaction.proofs.Tells.{IfTakes, IsTaken, merges_keep, opening_tells, tells, the_command}
use Rattle.transaction.proofs.Ticks.{done, opening_keeps}

-- ---- the commands that aren't merges

one_merge : (m : Command) → is_merge m ≡ true → without_merges (m ∷ []) ≡ []
one_merge m is = rw is refl

one_command : (c : Command) → is_merge c ≡ false → without_merges (c ∷ []) ≡ c ∷ []
one_command c is = rw is refl

merge_more : (cs : List Command) (m : Command) → is_merge m ≡ true → without_merges (cs ++ m ∷ []) ≡ without_merges cs
merge_more cs m is = filter-append (λ c. not (is_merge c)) cs (m ∷ []) ∙ ap (λ l. without_merges cs ++ l) (one_merge m is) ∙ append-nil (without_merges cs)

command_more : (cs : List Command) (c : Command) → is_merge c ≡ false → without_merges (cs ++ c ∷ []) ≡ without_merges cs ++ c ∷ []
command_more cs c is = filter-append (λ x. not (is_merge x)) cs (c ∷ []) ∙ ap (λ l. without_merges cs ++ l) (one_command c is)

-- the facts of a run don't depend on the entries so far
same_facts : (policy : List PlacedItem) (rows : List Row) (one other : List Entry) (ticks turns : ℕ) (cs : List Command)
    → (run_on policy (record { rows = rows; entries = one; ticks = ticks }) cs).rows ≡ (run_on policy (record { rows = rows; entries = other; ticks = turns }) cs).rows
same_facts policy rows one other ticks turns [] = refl
same_facts policy rows one other ticks turns (c ∷ cs) =
    let first = run_with policy (record { rows = rows; entries = one; ticks = ticks }) c in
    let second = run_with policy (record { rows = rows; entries = other; ticks = turns }) c in
    same_facts policy first.rows first.entries second.entries first.ticks second.ticks cs

-- ---- lawful commands

lawful_more : (criteria : Criteria) (held cs : List Command) (c : Command) → IsClosed (held ++ (cs ++ c ∷ [])) → AreLawful criteria (held ++ cs) cs → (is_merge c ≡ false → IsLawful criteria (held ++ cs) c)
    → AreLawful criteria (held ++ (cs ++ c ∷ [])) (cs ++ c ∷ [])
lawful_more criteria held cs c closed old new y inside plain =
    subst (λ l. IsLawful criteria l y) (append_assoc held cs (c ∷ []))
    (elim (Contains-push_cases cs c y inside) [
      | inl older ↦
          lawful_on criteria (held ++ cs) (c ∷ []) y longer (λ id link. parents_held (held ++ cs) (each_before IsNext (held ++ cs) c longer) y id (Contains-append_right held cs y older) link) (old y older plain)
      | inr last ↦
          subst (λ z. IsLawful criteria ((held ++ cs) ++ c ∷ []) z) last
          (lawful_on criteria (held ++ cs) (c ∷ []) c longer (λ id link. (each_last IsNext (held ++ cs) c longer).held id link) (new (subst (λ z. is_merge z ≡ false) (sym last) plain)))
    ])
  where
    longer : IsClosed ((held ++ cs) ++ c ∷ [])
    longer = subst IsClosed (sym (append_assoc held cs (c ∷ []))) closed

-- ---- what a draft goes on from

module _ (basis : Basis) (graph_id : Option (List ℕ)) (unnamed : basis.held ≡ [] → graph_id ≡ None) (typed : IsWellTyped basis.policy) (begin : List Row) (entries : List Entry) where
  abbrev criteria : Criteria
  criteria = record { policy = basis.policy; digest = basis.digest; good = basis.good }

  abbrev start : Run
  start = record { rows = begin; entries = []; ticks = 0 }

  pub record Ran (draft : Draft) (rows : List Row) : Type 0 where
    pub same_rows : (continued_run basis.policy begin [] draft.commands).rows ≡ rows
    pub same_entries : (continued_run basis.policy begin [] draft.commands).entries ≡ draft.entries

  abbrev AreLawfulOf : Draft → Type 0
  AreLawfulOf draft = IsRunOf basis.policy basis.held begin entries → AreLawful criteria (basis.held ++ draft.commands) draft.commands

  pub record Goes (draft : Draft) (rows : List Row) : Type 0 where
    pub stands : Stands graph_id basis.held draft
    pub ran : Ran draft rows
    pub lawful : AreLawfulOf draft

  abbrev Merged : List Row → Draft → Type 0
  Merged rows draft = Joins graph_id basis.held unnamed draft × Ran draft rows × (All IsFormed draft.commands → AreLawfulOf draft)

  merge_goes : (rows : List Row) (draft : Draft) (left right : List ℕ) (others : List (List ℕ)) → draft.heads ≡ left ∷ right ∷ others → is_known basis.held draft.commands (command_id (command.Merge None left right)) ≡ false
      → Merged rows draft → Merged rows (with_merge draft others (command.Merge None left right))
  merge_goes rows draft left right others two fresh merged =
      let next = merge_joins graph_id basis.held unnamed draft left right others two fresh merged.0 in
      let same = merge_more draft.commands (command.Merge None left right) refl in (
        next,
        record {
          same_rows = ap (λ l. (run_on basis.policy start l).rows) same ∙ merged.1.same_rows;
          same_entries = ap (λ l. (run_on basis.policy start l).entries) same ∙ merged.1.same_entries;
        },
        λ formed run. lawful_more criteria basis.held draft.commands (command.Merge None left right) (next.stands formed).standing.closed
            (merged.2 (all_left draft.commands (command.Merge None left right ∷ []) formed) run) (λ plain. absurd cc),
      )

  module _ (old : Draft) (rows : List Row) (b : Brought) (tag : Option (List ℕ)) (draft : Draft) (after : List Row) (t : IsTaken basis old rows b tag draft after) (is : IsCommandOf basis.policy b.command b.fields)
      (seal : IsSealOf basis (opened basis.held old (declared_at basis.policy b.command)) b tag) (before : All IsFormed old.commands → Goes old rows) (ran_before : Ran old rows) where
    abbrev the : Command
    the = the_command basis old rows b tag t.joined t.the_tag

    stands_before : All IsFormed old.commands → Stands graph_id basis.held old
    stands_before formed = (before formed).stands

    merged : Merged rows t.joined
    merged =
        let it = opening_tells basis.held old t.joined (declared_at basis.policy b.command) t.opens in
        merges_keep basis.held (Merged rows) (merge_goes rows) (length old.heads) old t.joined it.merged
        (record { stands = stands_before; room = first_room graph_id basis.held unnamed old it.room }, ran_before, λ formed. (before formed).lawful)

    is_judged : judged basis.policy rows the ≡ Pass after t.effects
    is_judged =
        passes_made basis.policy typed b.command b.fields is the basis.author rows after t.effects
        (content_made basis.digest basis.author (parent_of t.joined.heads) (declared_at basis.policy b.command).kind (declared_at basis.policy b.command).name (payload_of b) t.the_tag) t.passes

    judged_then : judged basis.policy (continued_run basis.policy begin [] t.joined.commands).rows the ≡ Pass after t.effects
    judged_then = ap (λ rs. judged basis.policy rs the) merged.1.same_rows ∙ is_judged

    continued : continued_run basis.policy begin [] (t.joined.commands ++ the ∷ []) ≡ run_with basis.policy (continued_run basis.policy begin [] t.joined.commands) the
    continued =
        ap (run_on basis.policy start) (command_more t.joined.commands the (is_plain basis graph_id unnamed old rows b tag draft after t stands_before))
        ∙ run_append basis.policy start (without_merges t.joined.commands) (the ∷ [])

    ran : Ran (with_command t.joined the t.effects) after
    ran = record {
      same_rows = ap (λ r. r.rows) continued ∙ ap (λ j. rows_behind j (continued_run basis.policy begin [] t.joined.commands).rows) judged_then;
      same_entries =
          ap (λ r. r.entries) continued
          ∙ ap (λ j. (continued_run basis.policy begin [] t.joined.commands).entries ++ entry_of (command_id the) j ∷ []) judged_then
          ∙ ap (λ es. es ++ (record { id = command_id the; outcome = outcome.Pass; effects = t.effects }) ∷ []) merged.1.same_entries;
    }

    good_tag : IsTrue (basis.good basis.author (body (the_command basis old rows b tag t.joined [])) t.the_tag)
    good_tag = (subst (λ o. IsSealOf basis (Ok t.joined) b o) t.tagged (subst (λ r. IsSealOf basis r b tag) t.opens seal)).0

    passes : All IsFormed t.joined.commands → IsRunOf basis.policy basis.held begin entries → (others : List Row) → AreAtPlace basis.policy (basis.held ++ t.joined.commands) the others → DoesPass (judged basis.policy others the)
    passes formed run others at =
        let stands = merged.0.stands formed in
        let closed = stands.standing.closed in
        let now = runs_last basis.policy basis.held t.joined.commands begin entries closed stands.published run in
        let same =
        facts_behind_all basis.policy (basis.held ++ t.joined.commands) the (continued_run basis.policy begin entries t.joined.commands).rows others (continued_run basis.policy begin entries t.joined.commands).entries closed
        (taken_behind basis graph_id unnamed old rows b tag draft after t stands_before formed) now at
        ∙ same_facts basis.policy begin entries [] 0 0 (without_merges t.joined.commands) in
        subst DoesPass (sym (ap (λ rs. judged basis.policy rs the) same ∙ judged_then)) tt

    lawful : All IsFormed (t.joined.commands ++ the ∷ []) → AreLawfulOf (with_command t.joined the t.effects)
    lawful formed run =
        let declared = declared_at basis.policy b.command in
        let joined_formed = all_left t.joined.commands (the ∷ []) formed in
        lawful_more criteria basis.held t.joined.commands the (command_stands basis graph_id unnamed old rows b tag draft after t stands_before formed).standing.closed (merged.2 joined_formed run)
        (λ plain. record {
          digest = digest_made basis.digest basis.author (parent_of t.joined.heads) declared.kind declared.name (payload_of b) t.the_tag;
          tag = tag_made basis.good basis.digest basis.author (parent_of t.joined.heads) declared.kind declared.name (payload_of b) t.the_tag good_tag;
          kind = kind_is_declared basis.policy typed b.command b.fields is basis.digest basis.author (parent_of t.joined.heads) (payload_of b) t.the_tag;
          passes = passes joined_formed run;
        })

    command_goes : All IsFormed (t.joined.commands ++ the ∷ []) → Goes (with_command t.joined the t.effects) after
    command_goes formed = record { stands = command_stands basis graph_id unnamed old rows b tag draft after t stands_before formed; ran = ran; lawful = lawful formed }

    pub taken_goes : (All IsFormed draft.commands → Goes draft after) × Ran draft after
    taken_goes = (
      λ formed. subst (λ d. Goes d after) (sym t.is) (command_goes (subst (λ d. All IsFormed d.commands) t.is formed)),
      subst (λ d. Ran d after) (sym t.is) ran,
    )

  abbrev Keeps : Draft → List Row → Type 0
  Keeps draft rows = draft.refusal ≡ None → (All IsFormed draft.commands → Goes draft rows) × Ran draft rows

  step_by : (old : Draft) (rows : List Row) (b : Brought) (tag : Option (List ℕ)) (q : Publication) → IsCommandOf basis.policy b.command b.fields
      → IsSealOf basis (opened basis.held old (declared_at basis.policy b.command)) b tag → IfTakes (IsTaken basis old rows b tag) q → (answer : Posted) (after : List Row) (ticks : ℕ) (new : Draft)
      → Leaves q old rows answer after ticks new → Keeps old rows → Keeps new after
  step_by old rows b tag (Takes draft last) is seal taken answer after ticks new leaves keeps none =
      let kept = opening_keeps basis old rows b tag draft last taken in
      let before : old.refusal ≡ None = sym kept.0 ∙ sym (ap (λ d. d.refusal) (leaves.3 ∙ taken.is)) ∙ none in
      let goes = taken_goes old rows b tag draft last taken is seal (keeps before).0 (keeps before).1 in
      subst (λ rs. (All IsFormed new.commands → Goes new rs) × Ran new rs) (sym leaves.1) (subst (λ d. (All IsFormed d.commands → Goes d last) × Ran d last) (sym leaves.3) goes)
  step_by old rows b tag IsTooLong is seal taken answer after ticks new leaves keeps none =
      subst (λ rs. (All IsFormed new.commands → Goes new rs) × Ran new rs) (sym leaves.1)
      (subst (λ d. d.refusal ≡ None → (All IsFormed d.commands → Goes d rows) × Ran d rows) (sym leaves.3) keeps none)
  step_by old rows b tag (Refuses why run) is seal taken answer after ticks new leaves keeps none = let both : Some why ≡ None = sym leaves.3 ∙ none in absurd cc

  step : (old : Draft) (rows : List Row) (p : Posting) (new : Draft) → IsPublish basis old rows p new → Keeps old rows → Keeps new p.rows
  step old rows p new is keeps = step_by old rows (brought p) is.tag _ is.declared is.seal (tells basis old rows (brought p) is.tag) p.posted p.rows p.ticks new is.leaves keeps

  first_goes : IsStanding graph_id basis.held → Keeps (first_draft basis.held) begin
  first_goes standing none =
      let ran : Ran (first_draft basis.held) begin = record { same_rows = refl; same_entries = refl } in
      (λ formed. record { stands = first_stands basis graph_id unnamed standing; ran = ran; lawful = λ run c inside plain. absurd (none_element c inside) }, ran)

  pub chain_goes : IsStanding graph_id basis.held → (postings : List Posting) (draft : Draft) (last : List Row) → Chain (IsPublish basis) (first_draft basis.held) begin postings draft last → draft.refusal ≡ None
      → All IsFormed draft.commands → Goes draft last
  chain_goes standing postings draft last chain none formed = (chain_keeps basis Keeps step (first_draft basis.held) begin postings draft last chain (first_goes standing) none).0 formed

-- ---- an action

-- what an action has made stands behind what is held, and is published on it
pub made_goes : (basis : Basis) (held : Held) → basis.held ≡ held.commands → (rows : List Row) → rows ≡ held.rows → (request : Request) (made : Made) (before now : ℕ) → Acts basis rows request (Ok made) before now
    → IsWellTyped basis.policy → IsStanding held.graph_id held.commands → (request.first ≡ true → held.graph_id ≡ None) → All IsFormed made.commands
    → IsStanding (graph_named held.graph_id made.commands) (held.commands ++ made.commands)
    × IsPublishedOn (record { policy = basis.policy; digest = basis.digest; good = basis.good }) held made
made_goes basis held is rows same_rows request made before now acts typed standing named formed =
    let all = done basis rows request made before now acts in
    let d = all.2 in
    let unnamed : basis.held ≡ [] → held.graph_id ≡ None = λ empty. named (begun request.first basis.held _ all.0 all.1 empty) in
    let goes =
    chain_goes basis held.graph_id unnamed typed rows held.entries (subst (IsStanding held.graph_id) (sym is) standing) d.postings d.draft d.last d.chain d.none
    (subst (All IsFormed) (ap (λ m. m.commands) d.is) formed) in
    subst (λ m. IsStanding (graph_named held.graph_id m.commands) (held.commands ++ m.commands) × IsPublishedOn (record { policy = basis.policy; digest = basis.digest; good = basis.good }) held m) (sym d.is) (
      subst (λ l. IsStanding (graph_named held.graph_id d.draft.commands) (l ++ d.draft.commands)) is goes.stands.standing,
      record {
        commands = subst (λ l. ArePublished l d.draft.commands) is goes.stands.published;
        same_rows = sym goes.ran.same_rows ∙ ap (λ rs. (continued_run basis.policy rs [] d.draft.commands).rows) same_rows;
        same_entries = sym goes.ran.same_entries ∙ ap (λ rs. (continued_run basis.policy rs [] d.draft.commands).entries) same_rows;
        lawful = λ sound. subst (λ l. AreLawful (record { policy = basis.policy; digest = basis.digest; good = basis.good }) (l ++ d.draft.commands) d.draft.commands) is
            (goes.lawful (subst (λ rs. IsRunOf basis.policy basis.held rs held.entries) (sym same_rows) (subst (λ l. IsRunOf basis.policy l held.rows held.entries) (sym is) sound.run)));
      },
    )

-- ---- applying

pub applied_sound : (criteria : Criteria) (held : Held) (made : Made) → IsStanding (graph_named held.graph_id made.commands) (held.commands ++ made.commands) → IsSound criteria held → IsPublishedOn criteria held made
    → IsSound criteria (applied held made)
applied_sound criteria held made standing sound on =
    let extends = published_extends criteria held made.commands standing.closed on.commands sound (on.lawful sound) in
    let extends_rows : IsSoundExtension criteria held.commands made.commands (length held.entries) made.rows (continued_run criteria.policy held.rows [] made.commands).entries =
    subst (λ rs. IsSoundExtension criteria held.commands made.commands (length held.entries) rs (continued_run criteria.policy held.rows [] made.commands).entries) (sym on.same_rows) extends in
    let extends_all : IsSoundExtension criteria held.commands made.commands (length held.entries) made.rows made.entries =
    subst (λ es. IsSoundExtension criteria held.commands made.commands (length held.entries) made.rows es) (sym on.same_entries) extends_rows in
    let named : Held = record { graph_id = graph_named held.graph_id made.commands; commands = held.commands; rows = held.rows; entries = held.entries } in
    let before : IsSound criteria named = record {
      commands = record { standing = named_standing held.graph_id held.commands made.commands sound.commands.standing; lawful = sound.commands.lawful };
      run = sound.run;
    } in
    subst (λ es. IsSound criteria (record { graph_id = graph_named held.graph_id made.commands; commands = held.commands ++ made.commands; rows = made.rows; entries = es ++ made.entries })) (take-length held.entries)
    (sound_on criteria named made.commands (length held.entries) made.rows made.entries standing before extends_all)

-- the same of the state that is extended once it has its name
pub stays_sound : (criteria : Criteria) (held : Held) (made : Made) (named new : Held) (cut : ℕ) → named ≡ record held { graph_id = graph_named held.graph_id made.commands } → cut ≡ length named.entries
    → new ≡ extended named made.commands cut made.rows made.entries → IsStanding (graph_named held.graph_id made.commands) (held.commands ++ made.commands) → IsSound criteria held → IsPublishedOn criteria held made
    → IsSound criteria new
stays_sound criteria held made named new cut names cuts is standing sound on =
    let same : new ≡ record { graph_id = graph_named held.graph_id made.commands; commands = held.commands ++ made.commands; rows = made.rows; entries = take (length held.entries) held.entries ++ made.entries } =
    is ∙ ap (λ n. extended named made.commands n made.rows made.entries) cuts ∙ ap (λ h. extended h made.commands (length h.entries) made.rows made.entries) names in
    subst (IsSound criteria)
    (sym (same ∙ ap (λ es. record { graph_id = graph_named held.graph_id made.commands; commands = held.commands ++ made.commands; rows = made.rows; entries = es ++ made.entries }) (take-length held.entries)))
    (applied_sound criteria held made standing sound on)
