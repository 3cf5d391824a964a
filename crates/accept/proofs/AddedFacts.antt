-- What is known of a command that is added.
use Rattle.std.proofs.Common.{◌≡◌, ℕ, ◌<◌, inl, inr, Bool, true, false, not, ◌&&◌, cond, List, [], ◌∷◌, ◌++◌, find, length, nat_le, Option, Some, None, option_and_then, option_map, refl, sym, ap, subst, ◌∙◌}
use Rattle.std.specs.List.{Contains}
use Rattle.std.specs.Option.{is_some}
use Rattle.std.specs.Str.{bytes_eq}
use Rattle.std.proofs.lemmas.Bool.{eqb-true, leb-false}
use Rattle.std.proofs.lemmas.List.Elements.{Contains-push_cases}
use Rattle.accept.specs.Admission.{IsAdmission, IsFirstBeside, IsFirstFinalizeWithout, answer_by, bad_envelope, by_held, by_reason, form_by, full, held_with, ill_formed, is_graph_id, is_of_kind, met, missing_parent, not_allowed, not_passed, other_init, parallel_finalize, reason_by, wrong_cut}
use Rattle.accept.specs.declared.answer.Admit.TheVariants.{Added, Repeat, Refused}
use Rattle.accept.specs.declared.answer.Reason.{Reason}
use Rattle.accept.specs.declared.answer.Reason.TheVariants as reason
use Rattle.accept.proofs.AnswerFacts.{first_none, no_id}
use Rattle.accept.proofs.CutFacts.{right_cut}
use Rattle.accept.proofs.ParallelFacts.{some_beside}
use Rattle.braid_run.specs.Places.{AreAtPlace, IsBehind}
use Rattle.braid_run.specs.Soundness.{AreSound, Criteria, DoesPass, HasDigest, HasGoodTag, IsLawful, declared_kind, kind_of}
use Rattle.braid_run.specs.States.{HasOneInit, IsStanding, MayFollow}
use Rattle.braid_run.proofs.PlacedFacts.{has_place_facts}
use Rattle.braid_run.proofs.SoundFacts.{lawful_on}
use Rattle.braid_run.proofs.StandingFacts.{one_more}
use Rattle.command.specs.Closed.{IsClosed, IsHeld, has_id, max_commands}
use Rattle.command.specs.Kinds.{is_finalize, is_init, is_merge, parents_of}
use Rattle.command.specs.Wire.{IsFormed, command_id, wire}
use Rattle.command.specs.declared.command.Command.{Command}
use Rattle.command.specs.declared.command.Command.TheVariants as command
use Rattle.command.proofs.ClosedFacts.{held_by, parents_held, same_bytes}
use Rattle.command.proofs.ListFacts.{at_head, head_cases, none_element}
use Rattle.fact_store.specs.declared.row.Row.{Row}
use Rattle.policy_ast.specs.declared.policy.PlacedItem.{PlacedItem}
use Rattle.policy_meaning.specs.Applying.{Ended, Passes, Checks, Faults, Sticks}
use Rattle.policy_meaning.specs.Blocks.{policy_block, recall_block}
use Rattle.policy_meaning.specs.Commands.{call_judged, call_of, content_of, judged_by}
use Rattle.policy_meaning.specs.declared.call.Call.{Call}
use Rattle.policy_meaning.specs.declared.ends.Why.TheVariants as why
use Rattle.policy_rules.specs.Commands.{CommandKind, Basic, Finalize, Init}

-- ---- the answer and the reasons

-- what Added says of the held command and of the first reason
-- what is met isn't added
not_added : (b : Bool) (cause : Reason) → Added ≡ cond b Repeat (Refused cause) → ⊥
not_added true cause is = absurd cc
not_added false cause is = absurd cc

new_without : (c : Command) (held : Option Command) (found : Option Reason) → Added ≡ by_held c held (by_reason found) → (held ≡ None) × (found ≡ None)
new_without c (Some x) found is = absurd (not_added (bytes_eq (wire x) (wire c)) (reason.Collision (command_id c) (wire x)) is)
new_without c None (Some cause) is = absurd cc
new_without c None None is = (refl, refl)

-- nothing is against the command
pub record IsClear (criteria : Criteria) (graph_id : Option (List ℕ)) (cs : List Command) (c : Command) (rows : List Row) (beside : Option (List ℕ)) : Type 0 where
  pub fresh : held_with cs (command_id c) ≡ None
  pub init : other_init criteria.digest graph_id c ≡ None
  pub parents : missing_parent cs c ≡ None
  pub cut : wrong_cut cs c ≡ None
  pub tag : bad_envelope criteria.good c ≡ None
  pub form : option_map (λ cause. reason.Policy cause) (ill_formed criteria.policy c) ≡ None
  pub passes : option_map (λ cause. reason.Policy cause) (not_allowed criteria.policy rows (call_of criteria.policy c)) ≡ None
  pub line : parallel_finalize c beside ≡ None
  pub room : full cs ≡ None

clear : (criteria : Criteria) (graph_id : Option (List ℕ)) (cs : List Command) (c : Command) (rows : List Row) (beside : Option (List ℕ))
    → Added ≡ answer_by criteria graph_id cs c rows beside → IsClear criteria graph_id cs c rows beside
clear criteria graph_id cs c rows beside is =
    let new = new_without c (held_with cs (command_id c)) (reason_by criteria graph_id cs c rows beside) is in
    let a = first_none (other_init criteria.digest graph_id c) _ new.1 in
    let b = first_none (missing_parent cs c) _ a.1 in
    let w = first_none (wrong_cut cs c) _ b.1 in
    let d = first_none (bad_envelope criteria.good c) _ w.1 in
    let e = first_none (option_map (λ cause. reason.Policy cause) (ill_formed criteria.policy c)) _ d.1 in
    let f = first_none (option_map (λ cause. reason.Policy cause) (not_allowed criteria.policy rows (call_of criteria.policy c))) _ e.1 in
    let g = first_none (parallel_finalize c beside) _ f.1 in
    let h = first_none (full cs) [] g.1 in
    record { fresh = new.0; init = a.0; parents = b.0; cut = w.0; tag = d.0; form = e.0; passes = f.0; line = g.0; room = h.0 }

-- ---- what each says

none_if : {X : Type 0} (b : Bool) (x : X) → cond b (Some x) None ≡ None → b ≡ false
none_if true x is = absurd cc
none_if false x is = refl

some_unless : {X : Type 0} (b : Bool) (x : X) → cond b None (Some x) ≡ None → b ≡ true
some_unless true x is = refl
some_unless false x is = absurd cc

pub no_map : {X Y : Type 0} (f : X → Y) (o : Option X) → option_map f o ≡ None → o ≡ None
no_map f None is = refl
no_map f (Some x) is = absurd cc

not_both : (a b : Bool) → not (a && b) ≡ false → (a ≡ true) × (b ≡ true)
not_both true true is = (refl, refl)
not_both true false is = absurd cc
not_both false b is = absurd cc

pub all_held : (cs : List Command) (ids : List (List ℕ)) → find (λ id. not (has_id cs id)) ids ≡ None → (id : List ℕ) → Contains ids id → IsHeld cs id
all_held cs [] none id inside = absurd (none_element id inside)
all_held cs (i ∷ ids) none id inside = by (has_id cs i) refl none (λ later. all_held cs ids later id)
  where
    by : (b : Bool) → has_id cs i ≡ b → cond (not b) (Some i) (find (λ id. not (has_id cs id)) ids) ≡ None
        → (find (λ id. not (has_id cs id)) ids ≡ None → Contains ids id → IsHeld cs id) → IsHeld cs id
    by false is never rest = absurd cc
    by true is later rest = elim (head_cases i ids id inside) [ inl same ↦ subst (λ k. IsHeld cs k) same is | inr behind ↦ rest later behind ]

named : (graph_id : Option (List ℕ)) (id : List ℕ) → is_graph_id graph_id id ≡ true → graph_id ≡ Some id
named (Some own) id is = ap Some (same_bytes own id is)
named None id is = absurd cc

-- the init of the graph, under the policy's digest
own_init : (criteria : Criteria) (graph_id : Option (List ℕ)) (c : Command) → other_init criteria.digest graph_id c ≡ None
    → HasDigest criteria.digest c × (is_init c ≡ true → graph_id ≡ Some (command_id c))
own_init criteria graph_id (command.Init cut own author name payload tag) none =
    let both = not_both (is_graph_id graph_id (command_id (command.Init cut own author name payload tag))) (bytes_eq own criteria.digest) (none_if _ reason.OtherInit none) in
    (same_bytes own criteria.digest both.1, (λ h. named graph_id _ both.0))
own_init criteria graph_id (command.Basic cut priority parent author name payload tag) none = (tt, (λ h. absurd cc))
own_init criteria graph_id (command.Finalize cut parent author name payload tag) none = (tt, (λ h. absurd cc))
own_init criteria graph_id (command.Merge cut left right) none = (tt, (λ h. absurd cc))

tag_is_good : (good : List ℕ → List ℕ → List ℕ → Bool) (c : Command) → bad_envelope good c ≡ None → HasGoodTag good c
tag_is_good good (command.Init cut digest author name payload tag) none = some_unless _ reason.BadEnvelope none
tag_is_good good (command.Basic cut priority parent author name payload tag) none = some_unless _ reason.BadEnvelope none
tag_is_good good (command.Finalize cut parent author name payload tag) none = some_unless _ reason.BadEnvelope none
tag_is_good good (command.Merge cut left right) none = tt

kind_is : (kind : CommandKind) (c : Command) → is_of_kind kind c ≡ true → Some kind ≡ kind_of c
kind_is Init (command.Init cut digest author name payload tag) is = refl
kind_is (Basic declared) (command.Basic cut priority parent author name payload tag) is = ap (λ n. Some (Basic n)) (eqb-true declared priority is)
kind_is Finalize (command.Finalize cut parent author name payload tag) is = refl
kind_is Init (command.Basic cut priority parent author name payload tag) is = absurd cc
kind_is Init (command.Finalize cut parent author name payload tag) is = absurd cc
kind_is Init (command.Merge cut left right) is = absurd cc
kind_is (Basic declared) (command.Init cut digest author name payload tag) is = absurd cc
kind_is (Basic declared) (command.Finalize cut parent author name payload tag) is = absurd cc
kind_is (Basic declared) (command.Merge cut left right) is = absurd cc
kind_is Finalize (command.Init cut digest author name payload tag) is = absurd cc
kind_is Finalize (command.Basic cut priority parent author name payload tag) is = absurd cc
kind_is Finalize (command.Merge cut left right) is = absurd cc

form_says : (kind : Option CommandKind) (c : Command) (called : Option Call) → form_by kind c called ≡ None → (kind ≡ kind_of c) × (is_some called ≡ true)
form_says None c called is = absurd cc
form_says (Some kind) c called is = by (is_of_kind kind c) refl is
  where
    by : (b : Bool) → is_of_kind kind c ≡ b → cond b (cond (is_some called) None (Some why.Payload)) (Some why.WrongKind) ≡ None → (Some kind ≡ kind_of c) × (is_some called ≡ true)
    by true same rest = (kind_is kind c same, some_unless (is_some called) why.Payload rest)
    by false differs never = absurd cc

-- the declared kind, and that it is a call
well_formed : (policy : List PlacedItem) (c : Command) → is_merge c ≡ false → ill_formed policy c ≡ None
    → (option_and_then (λ content. declared_kind policy content.name) (content_of c) ≡ kind_of c) × (is_some (call_of policy c) ≡ true)
well_formed policy (command.Init cut digest author name payload tag) none is = form_says _ _ _ is
well_formed policy (command.Basic cut priority parent author name payload tag) none is = form_says _ _ _ is
well_formed policy (command.Finalize cut parent author name payload tag) none is = form_says _ _ _ is
well_formed policy (command.Merge cut left right) none is = absurd cc

passes_by : (block recall : Ended) → not_passed block ≡ None → DoesPass (judged_by block recall)
passes_by (Passes rows effects) recall is = tt
passes_by (Checks asked) recall is = absurd cc
passes_by (Faults kind) recall is = absurd cc
passes_by Sticks recall is = absurd cc

call_passes : (policy : List PlacedItem) (rows : List Row) (called : Option Call) → is_some called ≡ true → not_allowed policy rows called ≡ None → DoesPass (call_judged policy rows called)
call_passes policy rows None some is = absurd cc
call_passes policy rows (Some call) some is = passes_by (policy_block policy call rows) (recall_block policy call rows) is

all_behind : (P : Command → Type 0) (fs : List Command) → IsFirstFinalizeWithout P fs None → (f : Command) → Contains fs f → is_finalize f ≡ true → P f
all_behind P [] is f inside final = absurd (none_element f inside)
all_behind P (g ∷ fs) is f inside final =
    elim is [
      | inl met ↦ elim (head_cases g fs f inside) [ inl same ↦ subst P same (met.0 (subst (λ z. is_finalize z ≡ true) (sym same) final)) | inr behind ↦ all_behind P fs met.1 f behind final ]
      | inr found ↦ let no : None ≡ Some (command_id g) = found.2 in absurd cc
    ]

in_line : (cs : List Command) (c : Command) (beside : Option (List ℕ)) → IsFirstBeside cs c beside → parallel_finalize c beside ≡ None → is_finalize c ≡ true
    → (f : Command) → Contains cs f → is_finalize f ≡ true → IsBehind cs c f
in_line cs c None first none final = all_behind (IsBehind cs c) cs first
in_line cs c (Some id) first none final = by (is_finalize c) final none
  where
    by : (b : Bool) → b ≡ true → cond b (Some (reason.ParallelFinalize id)) None ≡ None → (f : Command) → Contains cs f → is_finalize f ≡ true → IsBehind cs c f
    by true is never = absurd cc
    by false is never = absurd cc

no_commands : (graph_id : Option (List ℕ)) (cs : List Command) (id : List ℕ) → HasOneInit graph_id cs → graph_id ≡ Some id → (IsHeld cs id → ⊥) → cs ≡ []
no_commands graph_id [] id has is fresh = refl
no_commands graph_id (x ∷ xs) id has is fresh =
    let same : Some id ≡ Some (command_id x) = sym is ∙ has.1 in
    absurd (fresh (subst (λ i. IsHeld (x ∷ xs) i) (sym (let one : id ≡ command_id x = cc in one)) (held_by (x ∷ xs) x (at_head x xs))))

-- ---- an added command

module _ (criteria : Criteria) (graph_id : Option (List ℕ)) (cs : List Command) (c : Command) (closed : IsClosed cs) (formed : IsFormed c)
    (added : IsAdmission criteria graph_id cs c Added) where
  over : (rows : List Row) → AreAtPlace criteria.policy cs c rows → IsClear criteria graph_id cs c rows (some_beside cs c closed).0
  over rows at = clear criteria graph_id cs c rows (some_beside cs c closed).0 (added rows (some_beside cs c closed).0 at (some_beside cs c closed).1)

  at : (rows : List Row) × IsClear criteria graph_id cs c rows (some_beside cs c closed).0
  at = let place = (has_place_facts cs closed c criteria.policy).some in (place.0, over place.0 place.1)

  parents_are_held : (id : List ℕ) → Contains (parents_of c) id → IsHeld cs id
  parents_are_held = all_held cs (parents_of c) (no_map (λ id. reason.MissingParent id) (find (λ id. not (has_id cs id)) (parents_of c)) at.1.parents)

  is_fresh : IsHeld cs (command_id c) → ⊥
  is_fresh held = let no : false ≡ true = sym (no_id cs (command_id c) at.1.fresh) ∙ held in absurd cc

  pub follows : IsStanding graph_id cs → MayFollow graph_id cs c
  follows standing = record {
    next = record { formed = formed; fresh = is_fresh; held = parents_are_held; cut = right_cut cs c at.1.cut };
    few = few (nat_le max_commands (length cs)) refl at.1.room;
    init = λ init. let own = (own_init criteria graph_id c at.1.init).1 init in (no_commands graph_id cs (command_id c) standing.one_init own is_fresh, own);
    in_line = in_line cs c (some_beside cs c closed).0 (some_beside cs c closed).1 at.1.line;
  }
    where
      few : (b : Bool) → nat_le max_commands (length cs) ≡ b → cond b (Some reason.Full) None ≡ None → length cs < max_commands
      few true is never = absurd cc
      few false is never = leb-false max_commands (length cs) is

  pub lawful : is_merge c ≡ false → IsLawful criteria cs c
  lawful none =
      let form = well_formed criteria.policy c none (no_map (λ cause. reason.Policy cause) (ill_formed criteria.policy c) at.1.form) in
      record {
        digest = (own_init criteria graph_id c at.1.init).0;
        tag = tag_is_good criteria.good c at.1.tag;
        kind = form.0;
        passes = λ rows there.
            call_passes criteria.policy rows (call_of criteria.policy c) form.1
            (no_map (λ cause. reason.Policy cause) (not_allowed criteria.policy rows (call_of criteria.policy c)) (over rows there).passes);
      }

  pub sound : AreSound criteria graph_id cs → AreSound criteria graph_id (cs ++ c ∷ [])
  sound before =
      let standing : IsStanding graph_id (cs ++ c ∷ []) = one_more graph_id cs c before.standing (follows before.standing) in
      record {
        standing = standing;
        lawful = λ y inside none. elim (Contains-push_cases cs c y inside) [
          | inl older ↦ lawful_on criteria cs (c ∷ []) y standing.closed (λ id link. parents_held cs closed y id older link) (before.lawful y older none)
          | inr last ↦
              subst (λ z. IsLawful criteria (cs ++ c ∷ []) z) last
              (lawful_on criteria cs (c ∷ []) c standing.closed parents_are_held (lawful (subst (λ z. is_merge z ≡ false) (sym last) none)))
        ];
      }
