-- What the functions that look for reasons have found.
use Rattle.std.proofs.Common.{◌≡◌, ℕ, ◌+◌, Bool, true, false, not, ◌&&◌, cond, List, [], ◌∷◌, find, Option, Some, None, Result, Ok, Err, IfOk, option_map, refl, sym, ap, ◌∙◌, arith}
use Rattle.std.specs.List.{Contains}
use Rattle.std.specs.Option.{is_some}
use Rattle.accept.specs.Admission.{IsFirstBeside, IsReason, bad_envelope, early_reasons, first_of, full, has_good_tag, ill_formed, late_reasons, missing_parent, new_ticks, not_allowed, other_init, parallel_finalize, reason_by, wrong_cut}
use Rattle.accept.specs.declared.answer.Reason.{Reason}
use Rattle.accept.specs.declared.answer.Reason.TheVariants as reason
use Rattle.accept.proofs.AddedFacts.{all_held, no_map}
use Rattle.accept.proofs.AnswerFacts.{first_before, first_behind, first_none, last_one}
use Rattle.accept.proofs.ParallelFacts.{one_first}
use Rattle.braid_run.specs.Places.{AreAtPlace, IsBehind}
use Rattle.braid_run.specs.Runs.{run_of}
use Rattle.braid_run.specs.Soundness.{Criteria}
use Rattle.command.specs.Closed.{IsHeld, has_id}
use Rattle.command.specs.Kinds.{is_finalize, parents_of}
use Rattle.command.specs.declared.command.Command.{Command}
use Rattle.fact_store.specs.declared.row.Row.{Row}
use Rattle.policy_ast.specs.declared.policy.PlacedItem.{PlacedItem}
use Rattle.policy_meaning.specs.Commands.{call_of}
use Rattle.policy_meaning.specs.declared.call.Call.{Call}
use Rattle.policy_meaning.specs.declared.ends.Why.{Why}

-- ---- the reasons that need no facts

pub is_held_parent : (cs : List Command) (c : Command) → missing_parent cs c ≡ None → (id : List ℕ) → Contains (parents_of c) id → IsHeld cs id
is_held_parent cs c none = all_held cs (parents_of c) (no_map (λ id. reason.MissingParent id) (find (λ id. not (has_id cs id)) (parents_of c)) none)

module _ (criteria : Criteria) (graph_id : Option (List ℕ)) (cs : List Command) (c : Command) where
  abbrev place_reasons : List (Option Reason)
  place_reasons = other_init criteria.digest graph_id c ∷ missing_parent cs c ∷ wrong_cut cs c ∷ []

  abbrev form_reason : Option Reason
  form_reason = option_map (λ cause. reason.Policy cause) (ill_formed criteria.policy c)

  pub early_place : (cause : Reason) → first_of place_reasons ≡ Some cause → first_of (early_reasons criteria graph_id cs c) ≡ Some cause
  early_place cause is = first_before place_reasons (bad_envelope criteria.good c ∷ form_reason ∷ []) cause is

  behind_place : first_of place_reasons ≡ None → first_of (early_reasons criteria graph_id cs c) ≡ first_of (bad_envelope criteria.good c ∷ form_reason ∷ [])
  behind_place none = first_behind place_reasons (bad_envelope criteria.good c ∷ form_reason ∷ []) none

  pub early_tag : first_of place_reasons ≡ None → has_good_tag criteria.good c ≡ false → first_of (early_reasons criteria graph_id cs c) ≡ Some reason.BadEnvelope
  early_tag none bad = behind_place none ∙ ap (λ b. first_of (cond b None (Some reason.BadEnvelope) ∷ form_reason ∷ [])) bad

  behind_tag : first_of place_reasons ≡ None → has_good_tag criteria.good c ≡ true → first_of (early_reasons criteria graph_id cs c) ≡ form_reason
  behind_tag none good = behind_place none ∙ ap (λ b. first_of (cond b None (Some reason.BadEnvelope) ∷ form_reason ∷ [])) good ∙ sym (last_one form_reason)

  pub early_form : first_of place_reasons ≡ None → has_good_tag criteria.good c ≡ true → (cause : Why) → ill_formed criteria.policy c ≡ Some cause
      → first_of (early_reasons criteria graph_id cs c) ≡ Some (reason.Policy cause)
  early_form none good cause is = behind_tag none good ∙ ap (option_map (λ cause. reason.Policy cause)) is

  pub early_clear : first_of place_reasons ≡ None → has_good_tag criteria.good c ≡ true → ill_formed criteria.policy c ≡ None → first_of (early_reasons criteria graph_id cs c) ≡ None
  early_clear none good is = behind_tag none good ∙ ap (option_map (λ cause. reason.Policy cause)) is

  -- where none applies, the parents are held
  pub early_held : first_of (early_reasons criteria graph_id cs c) ≡ None → missing_parent cs c ≡ None
  early_held none =
      (first_none (missing_parent cs c) (wrong_cut cs c ∷ bad_envelope criteria.good c ∷ form_reason ∷ [])
      (first_none (other_init criteria.digest graph_id c) (missing_parent cs c ∷ wrong_cut cs c ∷ bad_envelope criteria.good c ∷ form_reason ∷ []) none).1).0

  -- ---- all reasons

  pub all_early : (cause : Reason) → first_of (early_reasons criteria graph_id cs c) ≡ Some cause → (rows : List Row) (beside : Option (List ℕ)) → Some cause ≡ reason_by criteria graph_id cs c rows beside
  all_early cause is rows beside = sym (first_before (early_reasons criteria graph_id cs c) (late_reasons criteria.policy cs c rows beside) cause is)

  pub all_late : first_of (early_reasons criteria graph_id cs c) ≡ None → (rows : List Row) (beside : Option (List ℕ)) (found : Option Reason)
      → found ≡ first_of (late_reasons criteria.policy cs c rows beside) → found ≡ reason_by criteria graph_id cs c rows beside
  all_late none rows beside found is = is ∙ sym (first_behind (early_reasons criteria graph_id cs c) (late_reasons criteria.policy cs c rows beside) none)

  pub late_reason : {E : Type 0} → first_of (early_reasons criteria graph_id cs c) ≡ None → (r : Result (Option Reason) E)
      → IfOk r (λ found. (rows : List Row) (beside : Option (List ℕ)) → AreAtPlace criteria.policy cs c rows → IsFirstBeside cs c beside → found ≡ first_of (late_reasons criteria.policy cs c rows beside))
      → IfOk r (IsReason criteria graph_id cs c)
  late_reason none (Ok found) is = λ rows beside there first. all_late none rows beside found (is rows beside there first)
  late_reason none (Err e) is = tt

  -- ---- the blocks that are run

  pub early_ticks : (cause : Reason) → first_of (early_reasons criteria graph_id cs c) ≡ Some cause → (now : ℕ) (braid : List Command) → now ≡ now + new_ticks criteria graph_id cs c braid
  early_ticks cause is now braid =
      let none : new_ticks criteria graph_id cs c braid ≡ 0 = ap (λ o. cond (not (is_some o) && is_some (call_of criteria.policy c)) ((run_of criteria.policy braid).ticks + 1) 0) is in
      omega (arith, none)

  pub merge_ticks : call_of criteria.policy c ≡ None → (now : ℕ) (braid : List Command) → now ≡ now + new_ticks criteria graph_id cs c braid
  merge_ticks is now braid = omega (arith, by (not (is_some (first_of (early_reasons criteria graph_id cs c)))) (call_of criteria.policy c) is)
    where
      by : (b : Bool) (called : Option Call) → called ≡ None → cond (b && is_some called) ((run_of criteria.policy braid).ticks + 1) 0 ≡ 0
      by true None is = refl
      by false None is = refl
      by b (Some call) is = absurd cc

  pub call_ticks : first_of (early_reasons criteria graph_id cs c) ≡ None → (call : Call) → call_of criteria.policy c ≡ Some call → (before now : ℕ) (braid : List Command)
      → now ≡ before + ((run_of criteria.policy braid).ticks + 1) → now ≡ before + new_ticks criteria graph_id cs c braid
  call_ticks none call is before now braid counted =
      counted
      ∙ ap (λ n. before + n)
      (sym (ap (λ o. cond (not (is_some o) && is_some (call_of criteria.policy c)) ((run_of criteria.policy braid).ticks + 1) 0) none
      ∙ ap (λ o. cond (is_some o) ((run_of criteria.policy braid).ticks + 1) 0) is))

-- ---- the reasons that need facts

pub late_refused : (policy : List PlacedItem) (cs : List Command) (c : Command) (call : Call) → call_of policy c ≡ Some call → (rows : List Row) (beside : Option (List ℕ)) (cause : Why)
    → Some cause ≡ not_allowed policy rows (Some call) → Some (reason.Policy cause) ≡ first_of (late_reasons policy cs c rows beside)
late_refused policy cs c call is rows beside cause refused =
    ap (λ o. first_of (option_map (λ cause. reason.Policy cause) o ∷ parallel_finalize c beside ∷ full cs ∷ [])) (refused ∙ ap (not_allowed policy rows) (sym is))

late_by : (policy : List PlacedItem) (cs : List Command) (c : Command) (rows : List Row) (beside : Option (List ℕ)) (found : Option Reason) → None ≡ not_allowed policy rows (call_of policy c)
    → found ≡ first_of (parallel_finalize c beside ∷ full cs ∷ []) → found ≡ first_of (late_reasons policy cs c rows beside)
late_by policy cs c rows beside found none is =
    is ∙ ap (λ o. first_of (option_map (λ cause. reason.Policy cause) o ∷ parallel_finalize c beside ∷ full cs ∷ [])) none

pub late_allowed : (policy : List PlacedItem) (cs : List Command) (c : Command) (call : Call) → call_of policy c ≡ Some call → (rows : List Row) (beside : Option (List ℕ)) (found : Option Reason)
    → None ≡ not_allowed policy rows (Some call) → found ≡ first_of (parallel_finalize c beside ∷ full cs ∷ []) → found ≡ first_of (late_reasons policy cs c rows beside)
late_allowed policy cs c call is rows beside found allowed rest = late_by policy cs c rows beside found (allowed ∙ ap (not_allowed policy rows) (sym is)) rest

pub late_merge : (policy : List PlacedItem) (cs : List Command) (c : Command) → call_of policy c ≡ None → (rows : List Row) (beside : Option (List ℕ)) (found : Option Reason)
    → found ≡ first_of (parallel_finalize c beside ∷ full cs ∷ []) → found ≡ first_of (late_reasons policy cs c rows beside)
late_merge policy cs c is rows beside found rest = late_by policy cs c rows beside found (ap (not_allowed policy rows) (sym is)) rest

-- what is found beside a finalize, and of another command nothing
module _ (cs : List Command) (c : Command) where
  last_by : (o : Option Reason) → o ≡ None → full cs ≡ first_of (o ∷ full cs ∷ [])
  last_by None is = last_one (full cs)
  last_by (Some cause) is = absurd cc

  parallel_by : is_finalize c ≡ true → (first beside : Option (List ℕ)) → IsFirstBeside cs c first → IsFirstBeside cs c beside
      → parallel_finalize c beside ≡ option_map (λ id. reason.ParallelFinalize id) first
  parallel_by final first beside one other =
      ap (λ b. cond b (option_map (λ id. reason.ParallelFinalize id) beside) None) final
      ∙ ap (option_map (λ id. reason.ParallelFinalize id)) (one_first (IsBehind cs c) cs beside first other one)

  pub unplaced_beside : is_finalize c ≡ true → (id : List ℕ) → IsFirstBeside cs c (Some id) → (beside : Option (List ℕ)) → IsFirstBeside cs c beside
      → Some (reason.ParallelFinalize id) ≡ first_of (parallel_finalize c beside ∷ full cs ∷ [])
  unplaced_beside final id one beside other = sym (ap (λ o. first_of (o ∷ full cs ∷ [])) (parallel_by final (Some id) beside one other))

  pub unplaced_line : is_finalize c ≡ true → IsFirstBeside cs c None → (beside : Option (List ℕ)) → IsFirstBeside cs c beside → full cs ≡ first_of (parallel_finalize c beside ∷ full cs ∷ [])
  unplaced_line final one beside other = last_by (parallel_finalize c beside) (parallel_by final None beside one other)

  pub unplaced_other : is_finalize c ≡ false → (beside : Option (List ℕ)) → full cs ≡ first_of (parallel_finalize c beside ∷ full cs ∷ [])
  unplaced_other none beside = last_by (parallel_finalize c beside) (ap (λ b. cond b (option_map (λ id. reason.ParallelFinalize id) beside) None) none)
