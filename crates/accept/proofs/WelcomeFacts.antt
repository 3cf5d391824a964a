-- What becomes of a command of a sound list elsewhere: nothing is against it but what is held there.
use Rattle.std.proofs.Common.{◌≡◌, ℕ, ◌≤◌, inl, inr, Bool, true, false, not, ◌&&◌, ◌==◌, cond, List, [], ◌∷◌, ◌++◌, find, length, nat_le, Option, Some, None, option_and_then, option_map, refl, sym, ap, subst, ◌∙◌}
use Rattle.std.specs.List.{All, Contains}
use Rattle.std.specs.Option.{is_some}
use Rattle.std.specs.Str.{bytes_eq}
use Rattle.std.proofs.lemmas.Bool.{eq-eqb, leb-true}
use Rattle.std.proofs.lemmas.List.Elements.{All-contains}
use Rattle.std.proofs.lemmas.Option.{same_Some}
use Rattle.accept.specs.Admission.{IsAdmission, IsFirstBeside, IsFirstFinalizeWithout, answer_by, bad_envelope, by_held, by_reason, first_of, form_by, form_of, full, held_with, ill_formed, is_graph_id, is_of_kind, late_reasons, met, missing_parent, not_allowed, not_passed, other_init, parallel_finalize, reason_by, wrong_cut}
use Rattle.accept.specs.Laws.{IsHindered, IsWelcome}
use Rattle.accept.specs.declared.answer.Admit.{Admit}
use Rattle.accept.specs.declared.answer.Admit.TheVariants.{Added, Repeat, Refused}
use Rattle.accept.specs.declared.answer.Reason.{Reason}
use Rattle.accept.specs.declared.answer.Reason.TheVariants as reason
use Rattle.accept.proofs.AddedFacts.{all_held, no_map}
use Rattle.accept.proofs.AnswerFacts.{held_with_is, no_id}
use Rattle.accept.proofs.CutFacts.{no_wrong_cut}
use Rattle.accept.proofs.ParallelFacts.{some_beside}
use Rattle.braid_run.specs.Places.{AgreeOnIds, AreAtPlace, IsBehind}
use Rattle.braid_run.specs.Soundness.{AreSound, Criteria, DoesPass, HasDigest, HasGoodTag, IsLawful, declared_kind, kind_of}
use Rattle.braid_run.specs.States.{HasOneInit}
use Rattle.braid_run.proofs.PlacedFacts.{has_place_facts, place_across}
use Rattle.command.specs.Closed.{IsClosed, IsHeld, has_id, max_commands}
use Rattle.command.specs.Kinds.{is_finalize, is_init, is_merge, parents_of}
use Rattle.command.specs.Wire.{command_id, wire}
use Rattle.command.specs.declared.command.Command.{Command}
use Rattle.command.specs.declared.command.Command.TheVariants as command
use Rattle.command.proofs.ClosedFacts.{bytes_of_same, parents_held}
use Rattle.command.proofs.ListFacts.{at_head, behind_head, head_cases, none_element}
use Rattle.fact_store.specs.declared.row.Row.{Row}
use Rattle.policy_ast.specs.declared.policy.PlacedItem.{PlacedItem}
use Rattle.policy_meaning.specs.Applying.{Ended, Passes, Checks, Faults, Sticks}
use Rattle.policy_meaning.specs.Blocks.{policy_block, recall_block}
use Rattle.policy_meaning.specs.Commands.{call_judged, call_of, content_of, judged, judged_by}
use Rattle.policy_meaning.specs.declared.call.Call.{Call}
use Rattle.policy_meaning.specs.declared.ends.Why.{Why}
use Rattle.policy_meaning.specs.declared.ends.Why.TheVariants as why
use Rattle.policy_rules.specs.Commands.{CommandKind, Basic, Finalize, Init}

-- ---- nothing is against its form

init_is_named : (graph_id : Option (List ℕ)) (cs : List Command) (c : Command) → HasOneInit graph_id cs → Contains cs c → is_init c ≡ true → graph_id ≡ Some (command_id c)
init_is_named graph_id [] c has inside is = absurd (none_element c inside)
init_is_named graph_id (x ∷ xs) c has inside is =
    elim (head_cases x xs c inside) [
      | inl same ↦ subst (λ z. graph_id ≡ Some (command_id z)) same has.1
      | inr behind ↦ let other : is_init c ≡ false = All-contains (λ z. is_init z ≡ false) xs c has.2 behind in let no : false ≡ true = sym other ∙ is in absurd cc
    ]

own_id : (graph_id : Option (List ℕ)) (id : List ℕ) → graph_id ≡ Some id → is_graph_id graph_id id ≡ true
own_id graph_id id is = ap (λ o. is_graph_id o id) is ∙ bytes_of_same id id refl

both_so : (a b : Bool) → a ≡ true → b ≡ true → cond (not (a && b)) (Some reason.OtherInit) None ≡ None
both_so a b one other = ap (λ x. cond (not (x && b)) (Some reason.OtherInit) None) one ∙ ap (λ x. cond (not x) (Some reason.OtherInit) None) other

no_other_init : (digest : List ℕ) (graph_id : Option (List ℕ)) (c : Command) → (is_merge c ≡ false → HasDigest digest c) → (is_init c ≡ true → graph_id ≡ Some (command_id c))
    → other_init digest graph_id c ≡ None
no_other_init digest graph_id (command.Init cut own author name payload tag) has named =
    both_so (is_graph_id graph_id (command_id (command.Init cut own author name payload tag))) (bytes_eq own digest)
    (own_id graph_id (command_id (command.Init cut own author name payload tag)) (named refl)) (bytes_of_same own digest (has refl))
no_other_init digest graph_id (command.Basic cut priority parent author name payload tag) has named = refl
no_other_init digest graph_id (command.Finalize cut parent author name payload tag) has named = refl
no_other_init digest graph_id (command.Merge cut left right) has named = refl

no_bad_envelope : (good : List ℕ → List ℕ → List ℕ → Bool) (c : Command) → (is_merge c ≡ false → HasGoodTag good c) → bad_envelope good c ≡ None
no_bad_envelope good (command.Init cut digest author name payload tag) has = ap (λ b. cond b None (Some reason.BadEnvelope)) (has refl)
no_bad_envelope good (command.Basic cut priority parent author name payload tag) has = ap (λ b. cond b None (Some reason.BadEnvelope)) (has refl)
no_bad_envelope good (command.Finalize cut parent author name payload tag) has = ap (λ b. cond b None (Some reason.BadEnvelope)) (has refl)
no_bad_envelope good (command.Merge cut left right) has = refl

-- what passes is a call, and its policy block passes
is_called : (policy : List PlacedItem) (rows : List Row) (called : Option Call) → DoesPass (call_judged policy rows called) → is_some called ≡ true
is_called policy rows None pass = absurd pass
is_called policy rows (Some call) pass = refl

block_passes : (block recall : Ended) → DoesPass (judged_by block recall) → not_passed block ≡ None
block_passes (Passes rows effects) recall pass = refl
block_passes (Checks asked) (Passes rows effects) pass = absurd pass
block_passes (Checks asked) (Checks more) pass = absurd pass
block_passes (Checks asked) (Faults kind) pass = absurd pass
block_passes (Checks asked) Sticks pass = absurd pass
block_passes (Faults kind) recall pass = absurd pass
block_passes Sticks recall pass = absurd pass

call_is_allowed : (policy : List PlacedItem) (rows : List Row) (called : Option Call) → DoesPass (call_judged policy rows called) → not_allowed policy rows called ≡ None
call_is_allowed policy rows None pass = refl
call_is_allowed policy rows (Some call) pass = block_passes (policy_block policy call rows) (recall_block policy call rows) pass

of_kind_kind : (c : Command) (kind : CommandKind) → kind_of c ≡ Some kind → is_of_kind kind c ≡ true
of_kind_kind (command.Init cut digest author name payload tag) kind is = let same : Init ≡ kind = same_Some Init kind is in subst (λ k. is_of_kind k (command.Init cut digest author name payload tag) ≡ true) same refl
of_kind_kind (command.Basic cut priority parent author name payload tag) kind is =
    let same : Basic priority ≡ kind = same_Some (Basic priority) kind is in subst (λ k. is_of_kind k (command.Basic cut priority parent author name payload tag) ≡ true) same (eq-eqb priority priority refl)
of_kind_kind (command.Finalize cut parent author name payload tag) kind is = let same : Finalize ≡ kind = same_Some Finalize kind is in subst (λ k. is_of_kind k (command.Finalize cut parent author name payload tag) ≡ true) same refl
of_kind_kind (command.Merge cut left right) kind is = absurd cc

form_is_none : (declared : Option CommandKind) (c : Command) (kind : CommandKind) (called : Option Call) → declared ≡ Some kind → is_of_kind kind c ≡ true → is_some called ≡ true
    → form_by declared c called ≡ None
form_is_none declared c kind called is of_kind calls =
    ap (λ k. form_by k c called) is
    ∙ ap (λ b. cond b (cond (is_some called) None (Some why.Payload)) (Some why.WrongKind)) of_kind
    ∙ ap (λ b. cond b None (Some why.Payload)) calls

well_formed_by : (policy : List PlacedItem) (c : Command) (kind : CommandKind) → kind_of c ≡ Some kind → option_and_then (λ content. declared_kind policy content.name) (content_of c) ≡ kind_of c
    → is_some (call_of policy c) ≡ true → ill_formed policy c ≡ None
well_formed_by policy (command.Init cut digest author name payload tag) kind is declared calls =
    let c = command.Init cut digest author name payload tag in form_is_none (declared_kind policy name) c kind (call_of policy c) (declared ∙ is) (of_kind_kind c kind is) calls
well_formed_by policy (command.Basic cut priority parent author name payload tag) kind is declared calls =
    let c = command.Basic cut priority parent author name payload tag in form_is_none (declared_kind policy name) c kind (call_of policy c) (declared ∙ is) (of_kind_kind c kind is) calls
well_formed_by policy (command.Finalize cut parent author name payload tag) kind is declared calls =
    let c = command.Finalize cut parent author name payload tag in form_is_none (declared_kind policy name) c kind (call_of policy c) (declared ∙ is) (of_kind_kind c kind is) calls
well_formed_by policy (command.Merge cut left right) kind is declared calls = absurd cc

no_ill_form : (policy : List PlacedItem) (c : Command) → (is_merge c ≡ false → option_and_then (λ content. declared_kind policy content.name) (content_of c) ≡ kind_of c)
    → (is_merge c ≡ false → is_some (call_of policy c) ≡ true) → ill_formed policy c ≡ None
no_ill_form policy (command.Init cut digest author name payload tag) declared calls = well_formed_by policy (command.Init cut digest author name payload tag) Init refl (declared refl) (calls refl)
no_ill_form policy (command.Basic cut priority parent author name payload tag) declared calls = well_formed_by policy (command.Basic cut priority parent author name payload tag) (Basic priority) refl (declared refl) (calls refl)
no_ill_form policy (command.Finalize cut parent author name payload tag) declared calls = well_formed_by policy (command.Finalize cut parent author name payload tag) Finalize refl (declared refl) (calls refl)
no_ill_form policy (command.Merge cut left right) declared calls = refl

merge_is_allowed : (policy : List PlacedItem) (rows : List Row) (c : Command) → is_merge c ≡ true → not_allowed policy rows (call_of policy c) ≡ None
unfolding call_of
merge_is_allowed policy rows (command.Init cut digest author name payload tag) is = absurd cc
merge_is_allowed policy rows (command.Basic cut priority parent author name payload tag) is = absurd cc
merge_is_allowed policy rows (command.Finalize cut parent author name payload tag) is = absurd cc
merge_is_allowed policy rows (command.Merge cut left right) is = refl

-- ---- the first reason, test by test

-- a first reason that isn't there is passed over
past : (o : Option Reason) (more : List (Option Reason)) → o ≡ None → first_of more ≡ first_of (o ∷ more)
past o more none = sym (ap (λ p. first_of (p ∷ more)) none)

module _ (P : Option Reason → Type 0) where
  -- the reasons in their order, where the first and those of the form are none
  by_order : (init parent cut tag form passes line room : Option Reason) → init ≡ None → ((cause : Reason) → parent ≡ Some cause → P (Some cause))
      → (parent ≡ None → (cut ≡ None) × (tag ≡ None) × (form ≡ None) × (passes ≡ None)) → ((cause : Reason) → line ≡ Some cause → P (Some cause)) → ((cause : Reason) → room ≡ Some cause → P (Some cause)) → P None
      → P (first_of (init ∷ parent ∷ cut ∷ tag ∷ form ∷ passes ∷ line ∷ room ∷ []))
  by_order init parent cut tag form passes line room no_init missing rest beside no_room none = subst P (past init (parent ∷ cut ∷ tag ∷ form ∷ passes ∷ line ∷ room ∷ []) no_init) (by parent refl)
    where
      last : (o : Option Reason) → room ≡ o → P (first_of (o ∷ []))
      last None is = none
      last (Some cause) is = no_room cause is

      in_line : (o : Option Reason) → line ≡ o → P (first_of (o ∷ room ∷ []))
      in_line None is = last room refl
      in_line (Some cause) is = beside cause is

      by : (o : Option Reason) → parent ≡ o → P (first_of (o ∷ cut ∷ tag ∷ form ∷ passes ∷ line ∷ room ∷ []))
      by (Some cause) is = missing cause is
      by None is =
          let clear = rest is in
          subst P (past cut (tag ∷ form ∷ passes ∷ line ∷ room ∷ []) clear.0)
          (subst P (past tag (form ∷ passes ∷ line ∷ room ∷ []) clear.1)
          (subst P (past form (passes ∷ line ∷ room ∷ []) clear.2) (subst P (past passes (line ∷ room ∷ []) clear.3) (in_line line refl))))

-- ---- the reasons that are left

-- the parent that is missing
lacking : (cs : List Command) (ids : List (List ℕ)) (id : List ℕ) → find (λ id. not (has_id cs id)) ids ≡ Some id → Contains ids id × (IsHeld cs id → ⊥)
lacking cs [] id is = absurd cc
lacking cs (i ∷ ids) id is = by (has_id cs i) refl is (lacking cs ids id)
  where
    by : (b : Bool) → has_id cs i ≡ b → cond (not b) (Some i) (find (λ id. not (has_id cs id)) ids) ≡ Some id
        → (find (λ id. not (has_id cs id)) ids ≡ Some id → Contains ids id × (IsHeld cs id → ⊥)) → Contains (i ∷ ids) id × (IsHeld cs id → ⊥)
    by true held later rest = let r = rest later in (behind_head i ids id r.0, r.1)
    by false none here rest =
        let same : i ≡ id = same_Some i id here in
        (subst (λ z. Contains (i ∷ ids) z) same (at_head i ids), (λ held. let also : has_id cs i ≡ true = subst (λ z. IsHeld cs z) (sym same) held in let no : false ≡ true = sym none ∙ also in absurd cc))

missing_hinders : (cs : List Command) (c : Command) (found : Option (List ℕ)) → find (λ id. not (has_id cs id)) (parents_of c) ≡ found → (cause : Reason)
    → option_map (λ id. reason.MissingParent id) found ≡ Some cause → IsHindered cs c cause
missing_hinders cs c None is cause same = absurd cc
missing_hinders cs c (Some id) is cause same = let one : reason.MissingParent id ≡ cause = same_Some (reason.MissingParent id) cause same in subst (IsHindered cs c) one (lacking cs (parents_of c) id is)

-- the finalize beside
first_beside : (P : Command → Type 0) (fs : List Command) (id : List ℕ) → IsFirstFinalizeWithout P fs (Some id)
    → (f : Command) × Contains fs f × (is_finalize f ≡ true) × (command_id f ≡ id) × (P f → ⊥)
first_beside P [] id is = let no : Some id ≡ None = is in absurd cc
first_beside P (g ∷ fs) id is =
    elim is [
      | inl met ↦ let r = first_beside P fs id met.1 in (r.0, behind_head g fs r.0 r.1, r.2, r.3, r.4)
      | inr found ↦ let same : Some id ≡ Some (command_id g) = found.2 in let one : command_id g ≡ id = sym (same_Some id (command_id g) same) in (g, at_head g fs, found.0, one, found.1)
    ]

beside_hinders : (cs : List Command) (c : Command) (beside : Option (List ℕ)) → IsFirstBeside cs c beside → (final : Bool) → is_finalize c ≡ final → (cause : Reason)
    → cond final (option_map (λ id. reason.ParallelFinalize id) beside) None ≡ Some cause → IsHindered cs c cause
beside_hinders cs c beside first false is cause same = absurd cc
beside_hinders cs c None first true is cause same = absurd cc
beside_hinders cs c (Some id) first true is cause same =
    let one : reason.ParallelFinalize id ≡ cause = same_Some (reason.ParallelFinalize id) cause same in subst (IsHindered cs c) one (is, first_beside (IsBehind cs c) cs id first)

full_hinders : (cs : List Command) (c : Command) (b : Bool) → nat_le max_commands (length cs) ≡ b → (cause : Reason) → cond b (Some reason.Full) None ≡ Some cause → IsHindered cs c cause
full_hinders cs c false is cause same = absurd cc
full_hinders cs c true is cause same = let one : reason.Full ≡ cause = same_Some reason.Full cause same in subst (IsHindered cs c) one (leb-true max_commands (length cs) is)

-- ---- the answer

module _ (criteria : Criteria) (graph_id : Option (List ℕ)) (cs sound : List Command) (c : Command) (closed : IsClosed cs) (are : AreSound criteria graph_id sound)
    (agree : AgreeOnIds cs sound) (inside : Contains sound c) where
  lawful : is_merge c ≡ false → IsLawful criteria sound c
  lawful none = are.lawful c inside none

  is_call : is_merge c ≡ false → is_some (call_of criteria.policy c) ≡ true
  is_call none =
      let place = (has_place_facts sound are.standing.closed c criteria.policy).some in is_called criteria.policy place.0 (call_of criteria.policy c) ((lawful none).passes place.0 place.1)

  module _ (rows : List Row) (at : AreAtPlace criteria.policy cs c rows) (parents : (id : List ℕ) → Contains (parents_of c) id → IsHeld cs id) where
    is_allowed : (b : Bool) → is_merge c ≡ b → not_allowed criteria.policy rows (call_of criteria.policy c) ≡ None
    is_allowed true is = merge_is_allowed criteria.policy rows c is
    is_allowed false is =
        call_is_allowed criteria.policy rows (call_of criteria.policy c)
        ((lawful is).passes rows
        (place_across criteria.policy cs sound c rows closed are.standing.closed agree (λ id link. (parents id link, parents_held sound are.standing.closed c id inside link)) at))

  new_welcome : (IsHeld cs (command_id c) → ⊥) → (rows : List Row) (beside : Option (List ℕ)) → AreAtPlace criteria.policy cs c rows → IsFirstBeside cs c beside
      → IsWelcome cs c (by_reason (reason_by criteria graph_id cs c rows beside))
  new_welcome fresh rows beside at first =
      by_order (λ o. IsWelcome cs c (by_reason o)) (other_init criteria.digest graph_id c) (missing_parent cs c) (wrong_cut cs c) (bad_envelope criteria.good c)
      (option_map (λ cause. reason.Policy cause) (ill_formed criteria.policy c)) (option_map (λ cause. reason.Policy cause) (not_allowed criteria.policy rows (call_of criteria.policy c)))
      (parallel_finalize c beside) (full cs)
      (no_other_init criteria.digest graph_id c (λ none. (lawful none).digest) (λ init. init_is_named graph_id sound c are.standing.one_init inside init))
      (λ cause is. (fresh, missing_hinders cs c (find (λ id. not (has_id cs id)) (parents_of c)) refl cause is))
      (λ held. (
        no_wrong_cut cs sound closed are.standing.closed agree c inside (all_held cs (parents_of c) (no_map (λ id. reason.MissingParent id) (find (λ id. not (has_id cs id)) (parents_of c)) held)),
        no_bad_envelope criteria.good c (λ none. (lawful none).tag),
        ap (option_map (λ cause. reason.Policy cause)) (no_ill_form criteria.policy c (λ none. (lawful none).kind) is_call),
        ap (option_map (λ cause. reason.Policy cause))
            (is_allowed rows at (all_held cs (parents_of c) (no_map (λ id. reason.MissingParent id) (find (λ id. not (has_id cs id)) (parents_of c)) held)) (is_merge c) refl),
      ))
      (λ cause is. (fresh, beside_hinders cs c beside first (is_finalize c) refl cause is))
      (λ cause is. (fresh, full_hinders cs c (nat_le max_commands (length cs)) refl cause is))
      tt

  met_welcome : (x : Command) → held_with cs (command_id c) ≡ Some x → IsWelcome cs c (met x c)
  met_welcome x is =
      let held = held_with_is cs (command_id c) x is in
      let same : x ≡ c = agree x c held.0 inside held.1 in
      let there : Contains cs c = subst (λ z. Contains cs z) same held.0 in
      subst (λ z. IsWelcome cs c (met z c)) (sym same) (subst (λ b. IsWelcome cs c (cond b Repeat (Refused (reason.Collision (command_id c) (wire c))))) (sym (bytes_of_same (wire c) (wire c) refl)) there)

  welcome_by : (rows : List Row) (beside : Option (List ℕ)) → AreAtPlace criteria.policy cs c rows → IsFirstBeside cs c beside → IsWelcome cs c (answer_by criteria graph_id cs c rows beside)
  welcome_by rows beside at first = by (held_with cs (command_id c)) refl
    where
      by : (o : Option Command) → held_with cs (command_id c) ≡ o → IsWelcome cs c (by_held c o (by_reason (reason_by criteria graph_id cs c rows beside)))
      by (Some x) is = met_welcome x is
      by None is = new_welcome (λ held. let no : false ≡ true = sym (no_id cs (command_id c) is) ∙ held in absurd cc) rows beside at first

pub welcome : (criteria : Criteria) (graph_id : Option (List ℕ)) (cs sound : List Command) (c : Command) (answer : Admit) → IsClosed cs → AreSound criteria graph_id sound → AgreeOnIds cs sound
    → Contains sound c → IsAdmission criteria graph_id cs c answer → IsWelcome cs c answer
welcome criteria graph_id cs sound c answer closed are agree inside is =
    let place = (has_place_facts cs closed c criteria.policy).some in
    let beside = some_beside cs c closed in
    subst (IsWelcome cs c) (sym (is place.0 beside.0 place.1 beside.1)) (welcome_by criteria graph_id cs sound c closed are agree inside place.0 beside.0 place.1 beside.1)
