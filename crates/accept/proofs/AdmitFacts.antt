-- The answer of admission, by what stands under the command's id and by the first reason against it.
use Rattle.std.proofs.Common.{◌≡◌, ℕ, ◌+◌, ◌≤◌, cond, List, Option, Some, None, sym, ap, subst, ◌∙◌, arith}
use Rattle.std.specs.Option.{is_some}
use Rattle.accept.specs.Admission.{IsAdmission, IsReason, admission_ticks, by_held, by_reason, held_with, met, new_ticks, reason_by}
use Rattle.accept.specs.declared.answer.Admit.{Admit}
use Rattle.accept.specs.declared.answer.Reason.{Reason}
use Rattle.accept.proofs.AnswerFacts.{held_at, not_held}
use Rattle.braid_run.specs.Soundness.{Criteria}
use Rattle.command.specs.Ancestors.{IsAt}
use Rattle.command.specs.Closed.{IsClosed, place_of}
use Rattle.command.specs.Wire.{command_id}
use Rattle.command.specs.declared.command.Command.{Command}
use Rattle.command.proofs.PlaceFacts.{place_at}

-- the look-up of an id that is the command's
pub looked_up : (cs : List Command) (c : Command) (id : List ℕ) → id ≡ command_id c → (found : Option ℕ) → found ≡ place_of cs id → (place : Option ℕ) → found ≡ place
    → place_of cs (command_id c) ≡ place
looked_up cs c id named found is place same = sym (ap (place_of cs) named) ∙ sym is ∙ same

module _ (criteria : Criteria) (graph_id : Option (List ℕ)) (cs : List Command) (closed : IsClosed cs) (c : Command) where
  -- a command stands under its id
  module _ (place : ℕ) (is : place_of cs (command_id c) ≡ Some place) where
    abbrev found : (x : Command) × IsAt cs place x × (command_id x ≡ command_id c)
    found = place_at cs (command_id c) place is

    there : held_with cs (command_id c) ≡ Some found.0
    there = held_at cs (command_id c) place found.0 closed is found.1

    pub met_is : (answer : Admit) → ((held : Command) → IsAt cs place held → answer ≡ met held c) → IsAdmission criteria graph_id cs c answer
    met_is answer as_met rows beside at first =
        as_met found.0 found.1 ∙ sym (ap (λ o. by_held c o (by_reason (reason_by criteria graph_id cs c rows beside))) there)

    pub met_ticks : (now : ℕ) (braid : List Command) → now ≡ now + admission_ticks criteria graph_id cs c braid
    met_ticks now braid =
        let none : admission_ticks criteria graph_id cs c braid ≡ 0 = ap (λ o. cond (is_some o) 0 (new_ticks criteria graph_id cs c braid)) there in omega (arith, none)

  -- none does
  module _ (none : place_of cs (command_id c) ≡ None) where
    pub new_is : (why : Option Reason) → IsReason criteria graph_id cs c why → IsAdmission criteria graph_id cs c (by_reason why)
    new_is why is rows beside at first =
        ap by_reason (is rows beside at first)
        ∙ sym (ap (λ o. by_held c o (by_reason (reason_by criteria graph_id cs c rows beside))) (not_held cs (command_id c) none))

    pub new_ticks_are : (before now : ℕ) (braid : List Command) → now ≡ before + new_ticks criteria graph_id cs c braid → now ≡ before + admission_ticks criteria graph_id cs c braid
    new_ticks_are before now braid counted =
        counted ∙ sym (ap (λ o. before + cond (is_some o) 0 (new_ticks criteria graph_id cs c braid)) (not_held cs (command_id c) none))

    pub new_ticks_within : (before now : ℕ) (braid : List Command) → now ≤ before + new_ticks criteria graph_id cs c braid → now ≤ before + admission_ticks criteria graph_id cs c braid
    new_ticks_within before now braid bound =
        subst (λ o. now ≤ before + cond (is_some o) 0 (new_ticks criteria graph_id cs c braid)) (sym (not_held cs (command_id c) none)) bound
