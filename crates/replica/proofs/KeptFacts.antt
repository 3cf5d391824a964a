-- What is true of every replica stays true of it.
use Rattle.std.proofs.Common.{◌≡◌, ℕ, Bool, true, if◌then◌else◌, List, [], ◌∷◌, ◌++◌, Option, Some, None, refl, sym, ap, subst, append_assoc, append-nil}
use Rattle.std.specs.List.{All, Contains}
use Rattle.accept.specs.Admission.{IsAdmission, bad_envelope, by_held, by_reason, first_of, has_good_tag, held_with, ill_formed, late_reasons, missing_parent, other_init, wrong_cut}
use Rattle.accept.specs.Takes.{IsTake, IsTakenOn, Tally, counted, no_tally}
use Rattle.accept.specs.declared.answer.Admit.{Admit}
use Rattle.accept.specs.declared.answer.Admit.TheVariants.{Added, Repeat, Refused}
use Rattle.accept.specs.declared.answer.Reason.{Reason}
use Rattle.accept.specs.declared.answer.Reason.TheVariants as reason
use Rattle.braid_run.specs.Soundness.{AreSound, Criteria}
use Rattle.braid_run.specs.States.{Held}
use Rattle.command.specs.Wire.{IsFormed, command_id}
use Rattle.command.specs.declared.command.Command.{Command}
use Rattle.command.specs.declared.command.Command.TheVariants as command
use Rattle.command.proofs.ListFacts.{at_head, behind_head}
use Rattle.policy_ast.specs.declared.policy.PlacedItem.{PlacedItem}
use Rattle.policy_meaning.specs.Typed.{AreTyped}
use Rattle.replica.specs.Kept.{IsReplica, any_tag}
use Rattle.replica.specs.Takes.{Takes}
use Rattle.replica.specs.declared.counts.Taken.{Taken}
use Rattle.std.specs.Prelude.{option_map}
use Rattle.sync_codec.specs.declared.response.Response.{Response}

-- a command that is added with its tag tested is added with every tag
without_test : (c : Command) (held : Option Command) (a b w e : Option Reason) (more : List (Option Reason)) → Added ≡ by_held c held (by_reason (first_of (a ∷ b ∷ w ∷ e ∷ more))) →
    Added ≡ by_held c held (by_reason (first_of (a ∷ b ∷ w ∷ None ∷ more)))
without_test c (Some x) a b w e more is = is
without_test c None (Some why) b w e more is = is
without_test c None None (Some why) w e more is = is
without_test c None None None (Some why) e more is = is
without_test c None None None None None more is = is
without_test c None None None None (Some why) more is = absurd cc

good_tag : (c : Command) → has_good_tag any_tag c ≡ true
good_tag (command.Init cut digest author name payload tag) = refl
good_tag (command.Basic cut priority parent author name payload tag) = refl
good_tag (command.Finalize cut parent author name payload tag) = refl
good_tag (command.Merge cut left right) = refl

-- that an added command keeps a list sound is a law of admission
abbrev pub KeepsSound : Type 0
KeepsSound =
    (criteria : Criteria) (graph_id : Option (List ℕ)) (commands : List Command) (command : Command) → AreSound criteria graph_id commands → IsFormed command → IsAdmission criteria graph_id commands command Added →
    AreSound criteria graph_id (commands ++ command ∷ [])

module _ (sound : KeepsSound) (policy : List PlacedItem) (digest : List ℕ) (good : List ℕ → List ℕ → List ℕ → Bool) (graph_id : Option (List ℕ)) where
  abbrev own : Criteria
  own = record { policy = policy; digest = digest; good = good }

  abbrev any : Criteria
  any = record { policy = policy; digest = digest; good = any_tag }

  any_admission : (cs : List Command) (c : Command) → IsAdmission own graph_id cs c Added → IsAdmission any graph_id cs c Added
  any_admission cs c is rows beside at first =
      let early : List (Option Reason) = option_map (λ cause. reason.Policy cause) (ill_formed policy c) ∷ late_reasons policy cs c rows beside in
      let tag : bad_envelope any_tag c ≡ None = ap (λ b. if b then None else Some reason.BadEnvelope) (good_tag c) in
      subst (λ o. Added ≡ by_held c (held_with cs (command_id c)) (by_reason (first_of (other_init digest graph_id c ∷ missing_parent cs c ∷ wrong_cut cs c ∷ o ∷ early)))) (sym tag)
      (without_test c (held_with cs (command_id c)) (other_init digest graph_id c) (missing_parent cs c) (wrong_cut cs c) (bad_envelope good c) early (is rows beside at first))

  module _ (cs : List Command) where
    sound_on : (list : List Command) (before behind : Tally) → ((c : Command) → Contains list c → IsFormed c) → AreSound any graph_id (cs ++ before.added) → IsTakenOn own graph_id cs before list behind →
        AreSound any graph_id (cs ++ behind.added)
    sound_on [] before behind formed is taken = subst (λ t. AreSound any graph_id (cs ++ t.added)) (sym taken) is
    sound_on (c ∷ list) before behind formed is taken = sound_on list (counted before c taken.0) behind (λ x inside. formed x (behind_head c list x inside)) (by taken.0 taken.1) taken.2
      where
        by : (answer : Admit) → IsAdmission own graph_id (cs ++ before.added) c answer → AreSound any graph_id (cs ++ (counted before c answer).added)
        by Added admission =
            subst (λ l. AreSound any graph_id l) (append_assoc cs before.added (c ∷ [])) (sound any graph_id (cs ++ before.added) c is (formed c (at_head c list)) (any_admission (cs ++ before.added) c admission))
        by Repeat admission = is
        by (Refused why) admission = is

    pub take_keeps : (list : List Command) (tally : Tally) → All IsFormed list → AreSound any graph_id cs → IsTake own graph_id cs list tally → AreSound any graph_id (cs ++ tally.added)
    take_keeps list tally formed is taken =
        sound_on list no_tally tally (λ c inside. subst IsFormed inside.2 (formed inside.0 c inside.1)) (subst (λ l. AreSound any graph_id l) (sym (append-nil cs)) is) taken

pub replica_taken : KeepsSound → (policy : List PlacedItem) (digest : List ℕ) (good : List ℕ → List ℕ → List ℕ → Bool) (old : Held) (response : Response) (taken : Taken) (new : Held) → All IsFormed response.commands →
    IsReplica policy digest old → Takes (record { policy = policy; digest = digest; good = good }) old response taken new → AreTyped policy new.rows → IsReplica policy digest new
replica_taken sound policy digest good old response taken new formed is takes typed = record {
  typed = typed;
  sound = record {
    commands =
        subst (λ id. AreSound (record { policy = policy; digest = digest; good = any_tag }) id new.commands) (sym takes.graph_id)
        (subst (λ l. AreSound (record { policy = policy; digest = digest; good = any_tag }) old.graph_id l) (sym takes.commands)
        (take_keeps sound policy digest good old.graph_id old.commands response.commands takes.tally formed is.sound.commands takes.take));
    run = takes.run;
  };
}
