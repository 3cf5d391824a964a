-- Takes, command by command.
use Rattle.std.proofs.Common.{◌≡◌, ℕ, ◌+◌, ◌-◌, ◌<◌, ◌≤◌, List, [], ◌∷◌, ◌++◌, Option, length, map, take, slice_get, Some, None, refl, sym, ap, subst, ◌∙◌, arith, append_assoc, append-nil}
use Rattle.std.specs.List.{All}
use Rattle.accept.specs.Admission.{IsAdmission}
use Rattle.accept.specs.Takes.{IsTake, IsTakenOn, Refusal, Tally, counted, no_tally}
use Rattle.accept.specs.declared.answer.Admit.{Admit}
use Rattle.accept.specs.declared.answer.Admit.TheVariants.{Added, Repeat, Refused}
use Rattle.braid.specs.Braids.{IsBraid}
use Rattle.braid_run.specs.RunOf.{IsRunOf}
use Rattle.braid_run.specs.Runs.{run_of}
use Rattle.braid_run.specs.declared.entry.Entry.{Entry}
use Rattle.braid_run.specs.Soundness.{AreSound, Criteria}
use Rattle.braid_run.specs.States.{Held, IsStanding, extended}
use Rattle.command.specs.Wire.{IsFormed, command_id}
use Rattle.command.specs.declared.command.Command.{Command}
use Rattle.command.proofs.PlaceFacts.{take_one_more}
use Rattle.policy_ast.specs.declared.policy.PlacedItem.{PlacedItem}
use Rattle.policy_meaning.specs.Typed.{AreTyped}
use Rattle.replica.proofs.FrontFacts.{all_shared, batch_of}
use Rattle.replica.proofs.KeptFacts.{KeepsSound, replica_taken}
use Rattle.replica.specs.Kept.{IsReplica}
use Rattle.replica.specs.Takes.{Takes}
use Rattle.replica.specs.declared.counts.Taken.{Taken}
use Rattle.replica.specs.working.Changes.{Change, CountsOne, IsReady, Reruns}
use Rattle.sync_codec.specs.declared.response.Response.{Response}

module _ (criteria : Criteria) (graph_id : Option (List ℕ)) (below : List Command) where
  -- a take with one command more
  pub taken_further : (list : List Command) (c : Command) (before mid behind : Tally) → IsTakenOn criteria graph_id below before list mid → CountsOne criteria graph_id below c mid behind →
      IsTakenOn criteria graph_id below before (list ++ c ∷ []) behind
  taken_further [] c before mid behind so_far one = (
    one.answer,
    subst (λ t. IsAdmission criteria graph_id (below ++ t.added) c one.answer) so_far one.admission,
    one.same_tally ∙ ap (λ t. counted t c one.answer) so_far,
  )
  taken_further (x ∷ list) c before mid behind so_far one =
      let rest : IsTakenOn criteria graph_id below (counted before x so_far.0) list mid = so_far.2 in
      (so_far.0, so_far.1, taken_further list c (counted before x so_far.0) mid behind rest one)

  pub taken_next : (list : List Command) (i : ℕ) (c : Command) (mid behind : Tally) → slice_get list i ≡ Some c → IsTakenOn criteria graph_id below no_tally (take i list) mid → CountsOne criteria graph_id below c mid behind →
      IsTakenOn criteria graph_id below no_tally (take (i + 1) list) behind
  taken_next list i c mid behind at so_far one =
      subst (λ l. IsTakenOn criteria graph_id below no_tally l behind) (sym (take_one_more list i c at)) (taken_further (take i list) c no_tally mid behind so_far one)

  -- what is held stands, whatever becomes of a command
  pub still_standing : (c : Command) (old new : Tally) → IsStanding graph_id (below ++ old.added) →
      ((answer : Admit) → answer ≡ Added → IsAdmission criteria graph_id (below ++ old.added) c answer → IsStanding graph_id ((below ++ old.added) ++ c ∷ [])) →
      CountsOne criteria graph_id below c old new → IsStanding graph_id (below ++ new.added)
  still_standing c old new standing adds one = subst (λ t. IsStanding graph_id (below ++ t.added)) (sym one.same_tally) (by one.answer one.admission)
    where
      by : (answer : Admit) → IsAdmission criteria graph_id (below ++ old.added) c answer → IsStanding graph_id (below ++ (counted old c answer).added)
      by Added admission = subst (λ l. IsStanding graph_id l) (append_assoc below old.added (c ∷ [])) (adds Added refl admission)
      by Repeat admission = standing
      by (Refused why) admission = standing

-- one more at most is a repeat
pub few_repeats : (criteria : Criteria) (graph_id : Option (List ℕ)) (below : List Command) (c : Command) (old new : Tally) → CountsOne criteria graph_id below c old new → new.repeats ≤ old.repeats + 1
few_repeats criteria graph_id below c old new one = by one.answer one.same_tally
  where
    by : (answer : Admit) → new ≡ counted old c answer → new.repeats ≤ old.repeats + 1
    by Added is = let same : new.repeats ≡ old.repeats = ap (λ t. t.repeats) is in omega (arith, same)
    by Repeat is = let same : new.repeats ≡ old.repeats + 1 = ap (λ t. t.repeats) is in omega (arith, same)
    by (Refused why) is = let same : new.repeats ≡ old.repeats = ap (λ t. t.repeats) is in omega (arith, same)

-- that a take keeps a list sound is a law of admission
abbrev pub KeepsTakes : Type 0
KeepsTakes =
    (criteria : Criteria) (graph_id : Option (List ℕ)) (commands list : List Command) (tally : Tally) → AreSound criteria graph_id commands → All IsFormed list → IsTake criteria graph_id commands list tally →
    AreSound criteria graph_id (commands ++ tally.added)

module _ (sound : KeepsSound) (criteria : Criteria) (held : Held) (response : Response) (taken : Taken) (added : List Command) (repeats : ℕ) (refused : List Refusal) (formed : All IsFormed response.commands)
    (standing : IsStanding held.graph_id (held.commands ++ added)) (is : IsReplica criteria.policy criteria.digest held)
    (names : (xs : List Command) → map (λ e. e.id) (run_of criteria.policy xs).entries ≡ map command_id xs)
    (take : IsTake criteria held.graph_id held.commands response.commands (record { added = added; repeats = repeats; refused = refused })) (keeps : KeepsTakes) where
  run : IsRunOf criteria.policy held.commands held.rows held.entries
  run = is.sound.run

  kept : (new : Held) → Takes criteria held response taken new → AreTyped criteria.policy new.rows → IsReplica criteria.policy criteria.digest new
  kept new takes typed = replica_taken sound criteria.policy criteria.digest criteria.good held response taken new formed is takes typed

  stays : (id : Option (List ℕ)) (cs : List Command) → id ≡ held.graph_id → cs ≡ held.commands ++ added → AreSound criteria held.graph_id held.commands → AreSound criteria id cs
  stays id cs same_id same_cs sound =
      subst (λ g. AreSound criteria g cs) (sym same_id)
      (subst (λ l. AreSound criteria held.graph_id l) (sym same_cs)
      (keeps criteria held.graph_id held.commands response.commands (record { added = added; repeats = repeats; refused = refused }) sound formed take))

  -- nothing is added
  pub ready_unchanged : added ≡ [] → taken ≡ record { added = 0; repeats = repeats; refused = refused; more = response.more; cut = length held.entries; entries = 0 } → IsReady criteria held response taken None
  ready_unchanged none told = record { takes = takes; may_change = tt; replica = kept held takes is.typed; sound = λ sound. sound }
    where
      same : held.commands ≡ held.commands ++ added
      same = sym (append-nil held.commands) ∙ ap (λ l. held.commands ++ l) (sym none)

      takes : Takes criteria held response taken held
      takes = record {
        tally = record { added = added; repeats = repeats; refused = refused };
        take = take;
        told = record {
          added = ap (λ t. t.added) told ∙ sym (ap length none);
          repeats = ap (λ t. t.repeats) told;
          refused = ap (λ t. t.refused) told;
          more = ap (λ t. t.more) told;
          batch =
              batch_of criteria.policy held.commands added run.braid run.braid held.entries held.entries taken.cut taken.entries standing.closed run.is (subst (λ l. IsBraid l run.braid) same run.is) names run.same_entries
              run.same_entries (ap (λ t. t.cut) told ∙ sym (all_shared held.entries))
              (let cut : taken.cut ≡ length held.entries = ap (λ t. t.cut) told in let count : taken.entries ≡ 0 = ap (λ t. t.entries) told in omega (arith, cut, count));
        };
        graph_id = refl;
        commands = same;
        run = run;
      }

  -- the run behind what was added
  pub ready_changed : 0 < length added → (change : Change) (cut entries : ℕ) → Reruns criteria.policy held.commands added held.entries change cut entries →
      taken ≡ record { added = length change.commands; repeats = repeats; refused = refused; more = response.more; cut = cut; entries = entries } → IsReady criteria held response taken (Some change)
  ready_changed some change cut entries reruns told = record {
    takes = takes;
    may_change = (subst (λ l. 0 < length l) (sym reruns.same_added) some, subst (λ l. IsStanding held.graph_id (held.commands ++ l)) (sym reruns.same_added) standing, reruns.typed);
    replica = kept (extended held change.commands 0 change.rows change.entries) takes reruns.typed;
    sound = stays held.graph_id (held.commands ++ change.commands) refl (ap (λ l. held.commands ++ l) reruns.same_added);
  }
    where
      takes : Takes criteria held response taken (extended held change.commands 0 change.rows change.entries)
      takes = record {
        tally = record { added = added; repeats = repeats; refused = refused };
        take = take;
        told = record {
          added = ap (λ t. t.added) told ∙ ap length reruns.same_added;
          repeats = ap (λ t. t.repeats) told;
          refused = ap (λ t. t.refused) told;
          more = ap (λ t. t.more) told;
          batch =
              batch_of criteria.policy held.commands added run.braid reruns.run.braid held.entries change.entries taken.cut taken.entries standing.closed run.is reruns.run.is names run.same_entries reruns.run.same_entries
              (ap (λ t. t.cut) told ∙ reruns.shared) (ap (λ t. t.entries) told ∙ reruns.left ∙ ap (λ n. length change.entries - n) (sym (ap (λ t. t.cut) told)));
        };
        graph_id = refl;
        commands = ap (λ l. held.commands ++ l) reruns.same_added;
        run = subst (λ l. IsRunOf criteria.policy (held.commands ++ l) change.rows change.entries) (sym reruns.same_added) reruns.run;
      }

-- the same of equal things
pub take_of : (criteria : Criteria) (tally : Tally) (id graph_id : Option (List ℕ)) (cs held list commands : List Command) → id ≡ graph_id → cs ≡ held → list ≡ commands → IsTake criteria id cs list tally →
    IsTake criteria graph_id held commands tally
take_of criteria tally id graph_id cs held list commands same_id same_held same_list is =
    subst (λ g. IsTake criteria g held commands tally) same_id (subst (λ l. IsTake criteria id l commands tally) same_held (subst (λ l. IsTake criteria id cs l tally) same_list is))

pub standing_of : (id graph_id : Option (List ℕ)) (cs held added : List Command) → id ≡ graph_id → cs ≡ held → IsStanding id (cs ++ added) → IsStanding graph_id (held ++ added)
standing_of id graph_id cs held added same_id same_held is = subst (λ g. IsStanding g (held ++ added)) same_id (subst (λ l. IsStanding id (l ++ added)) same_held is)

pub reruns_of : (policy : List PlacedItem) (cs held added : List Command) (olds entries : List Entry) (change : Change) (cut count : ℕ) → cs ≡ held → olds ≡ entries → Reruns policy cs added olds change cut count →
    Reruns policy held added entries change cut count
reruns_of policy cs held added olds entries change cut count same_held same_entries is =
    subst (λ l. Reruns policy l added entries change cut count) same_held (subst (λ es. Reruns policy cs added es change cut count) same_entries is)
