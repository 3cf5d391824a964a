-- The definitions at small examples: each computes.
use Rattle.std.proofs.Common.{◌≡◌, ℕ, Bool, List, [], ◌∷◌, Some, None, refl}
use Rattle.accept.specs.Admission.{bad_envelope, by_reason, first_of, form_by, missing_parent, other_init, parallel_finalize, wrong_cut}
use Rattle.accept.specs.Takes.{counted, no_tally}
use Rattle.accept.specs.declared.answer.Admit.TheVariants.{Added, Repeat, Refused}
use Rattle.accept.specs.declared.answer.Reason.TheVariants as reason
use Rattle.command.specs.declared.command.Command.TheVariants.{Init, Basic, Finalize, Merge}
use Rattle.policy_meaning.specs.declared.call.Call.{Call}
use Rattle.policy_meaning.specs.declared.ends.Why.TheVariants as why
use Rattle.policy_rules.specs.Commands.{CommandKind}
use Rattle.policy_rules.specs.Commands as kinds

module _ (author parent name payload tag left right : List ℕ) (good : List ℕ → List ℕ → List ℕ → Bool) (call : Call) where
  an_init_where_no_graph_is_known_is_another_one : other_init [] None (Init None [] author name payload tag) ≡ Some reason.OtherInit
  an_init_where_no_graph_is_known_is_another_one = refl

  the_left_parent_is_missed_first : missing_parent [] (Merge None left right) ≡ Some (reason.MissingParent left)
  the_left_parent_is_missed_first = refl

  the_cut_of_an_init_is_0 : wrong_cut [] (Init (Some 5) [] author name payload tag) ≡ Some (reason.WrongCut 5 0)
  the_cut_of_an_init_is_0 = refl

  a_right_cut_is_taken : wrong_cut [] (Init (Some 0) [] author name payload tag) ≡ None
  a_right_cut_is_taken = refl

  no_cut_is_looked_for_where_none_is_stated : wrong_cut [] (Basic None 10 parent author name payload tag) ≡ None
  no_cut_is_looked_for_where_none_is_stated = refl

  a_merge_has_no_tag : bad_envelope good (Merge None left right) ≡ None
  a_merge_has_no_tag = refl

  a_priority_is_compared : form_by (Some (kinds.Basic 10)) (Basic None 11 parent author name payload tag) (Some call) ≡ Some why.WrongKind
  a_priority_is_compared = refl

  the_kind_comes_before_the_payload : form_by (Some (kinds.Basic 10)) (Finalize None parent author name payload tag) None ≡ Some why.WrongKind
  the_kind_comes_before_the_payload = refl

  a_payload_is_no_value_of_the_fields : form_by (Some (kinds.Basic 10)) (Basic None 10 parent author name payload tag) None ≡ Some why.Payload
  a_payload_is_no_value_of_the_fields = refl

  a_basic_command_is_parallel_to_none : parallel_finalize (Basic None 10 parent author name payload tag) (Some left) ≡ None
  a_basic_command_is_parallel_to_none = refl

  the_first_reason_is_told : by_reason (first_of (None ∷ Some reason.BadEnvelope ∷ Some reason.Full ∷ [])) ≡ Refused reason.BadEnvelope
  the_first_reason_is_told = refl

  a_repeat_is_counted : (counted (counted no_tally (Merge None left right) Added) (Merge None left right) Repeat).repeats ≡ 1
  a_repeat_is_counted = refl
