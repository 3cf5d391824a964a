-- The cut that a command states: it is right where the command is added, and a sound one's is right elsewhere too.
use Rattle.std.proofs.Common.{◌≡◌, ℕ, ◌==◌, Bool, true, false, cond, List, [], ◌∷◌, ◌++◌, Option, Some, None, option_and_then, refl, sym, ap, subst, ◌∙◌, inl, inr}
use Rattle.std.specs.List.{Contains}
use Rattle.std.proofs.lemmas.Bool.{eq-eqb, eqb-true}
use Rattle.std.proofs.lemmas.List.Elements.{Contains-push_cases}
use Rattle.accept.specs.Admission.{cut_by, wrong_cut}
use Rattle.accept.specs.declared.answer.Reason.{Reason}
use Rattle.accept.specs.declared.answer.Reason.TheVariants as reason
use Rattle.braid_run.specs.Places.{AgreeOnIds}
use Rattle.command.specs.Closed.{IsClosed, IsHeld, IsNext}
use Rattle.command.specs.Cuts.{cut_behind, cut_of_id}
use Rattle.command.specs.Kinds.{carried, parents_of}
use Rattle.command.specs.declared.command.Command.{Command}
use Rattle.command.proofs.ClosedFacts.{held_command, parents_held}
use Rattle.command.proofs.CutFacts.{cut_agrees, cut_kept, one_above_same}
use Rattle.command.proofs.ListFacts.{each_before, each_last, from_end, none_element}

-- where no wrong cut is found, a stated one is the real one
equal_unless : (stated real : ℕ) → cut_by real stated ≡ None → stated ≡ real
equal_unless stated real none = eqb-true stated real (by (stated == real) none)
  where
    by : (b : Bool) → cond b None (Some (reason.WrongCut stated real)) ≡ None → b ≡ true
    by true is = refl
    by false is = absurd cc

pub right_cut : (cs : List Command) (c : Command) → wrong_cut cs c ≡ None → (stated : ℕ) → carried c ≡ Some stated → stated ≡ cut_behind cs c
right_cut cs c none stated told = equal_unless stated (cut_behind cs c) (sym (ap (option_and_then (cut_by (cut_behind cs c))) told) ∙ none)

-- what a command of a closed list states is its cut in that list
states_own : (cs : List Command) → IsClosed cs → (x : Command) → Contains cs x → (stated : ℕ) → carried x ≡ Some stated → stated ≡ cut_behind cs x
states_own = from_end (λ cs. IsClosed cs → (x : Command) → Contains cs x → (stated : ℕ) → carried x ≡ Some stated → stated ≡ cut_behind cs x)
    (λ closed x inside. absurd (none_element x inside))
    (λ cs c before closed x inside stated told.
    let old = each_before IsNext cs c closed in
    let next = each_last IsNext cs c closed in
    elim (Contains-push_cases cs c x inside) [
      | inl older ↦
          before old x older stated told
          ∙ one_above_same (cut_of_id cs) (cut_of_id (cs ++ c ∷ [])) (parents_of x) (λ id link. sym (cut_kept cs c closed id (parents_held cs old x id older link)))
      | inr same ↦
          subst (λ z. carried z ≡ Some stated → stated ≡ cut_behind (cs ++ c ∷ []) z) same
          (λ is. next.cut stated is ∙ one_above_same (cut_of_id cs) (cut_of_id (cs ++ c ∷ [])) (parents_of c) (λ id link. sym (cut_kept cs c closed id (next.held id link))))
          told
    ])

module _ (cs sound : List Command) (closed : IsClosed cs) (also : IsClosed sound) (agree : AgreeOnIds cs sound) (c : Command) (inside : Contains sound c)
    (held : (id : List ℕ) → Contains (parents_of c) id → IsHeld cs id) where
  -- it has the same cut where its parents are held
  same_behind : cut_behind sound c ≡ cut_behind cs c
  same_behind = one_above_same (cut_of_id sound) (cut_of_id cs) (parents_of c) (λ id link.
      let x = held_command cs id (held id link) in
      let y = held_command sound id (parents_held sound also c id inside link) in
      let one : x.0 ≡ y.0 = agree x.0 y.0 x.1 y.1 (x.2 ∙ sym y.2) in
      ap (cut_of_id sound) (sym y.2) ∙ sym (cut_agrees sound also cs closed agree y.0 (subst (λ z. Contains cs z) one x.1) y.1) ∙ ap (cut_of_id cs) y.2)

  pub no_wrong_cut : wrong_cut cs c ≡ None
  no_wrong_cut = by (carried c) refl
    where
      by : (o : Option ℕ) → carried c ≡ o → option_and_then (cut_by (cut_behind cs c)) o ≡ None
      by None is = refl
      by (Some stated) is =
          ap (λ b. cond b None (Some (reason.WrongCut stated (cut_behind cs c)))) (eq-eqb stated (cut_behind cs c) (states_own sound also c inside stated is ∙ same_behind))
