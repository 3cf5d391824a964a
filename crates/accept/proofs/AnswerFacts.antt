-- Ids that are held, the first of several reasons, and what is against a command that a function has looked at.
use Rattle.std.proofs.Common.{◌≡◌, ℕ, Bool, true, false, ◌||◌, cond, List, [], ◌∷◌, ◌++◌, Option, Some, None, refl, sym, ap, subst, ◌∙◌}
use Rattle.std.specs.List.{Contains}
use Rattle.std.specs.Str.{bytes_eq}
use Rattle.std.proofs.lemmas.Option.{same_Some}
use Rattle.accept.specs.Admission.{first_of, held_with}
use Rattle.accept.specs.declared.answer.Reason.{Reason}
use Rattle.command.specs.Ancestors.{IsAt}
use Rattle.command.specs.Closed.{IsClosed, IsHeld, has_id, place_of}
use Rattle.command.specs.Wire.{command_id}
use Rattle.command.specs.declared.command.Command.{Command}
use Rattle.command.proofs.ClosedFacts.{held_by, same_by_id, same_bytes}
use Rattle.command.proofs.ListFacts.{at_head, behind_head}
use Rattle.command.proofs.PlaceFacts.{held_place, inside_at, place_at, place_held}

-- ---- ids that are held

-- the held command of an id is held, and has it
pub held_with_is : (cs : List Command) (id : List ℕ) (y : Command) → held_with cs id ≡ Some y → Contains cs y × (command_id y ≡ id)
held_with_is [] id y is = absurd cc
held_with_is (x ∷ cs) id y is = by (bytes_eq id (command_id x)) refl is (held_with_is cs id y)
  where
    by : (b : Bool) → bytes_eq id (command_id x) ≡ b → cond b (Some x) (held_with cs id) ≡ Some y → (held_with cs id ≡ Some y → Contains cs y × (command_id y ≡ id))
        → Contains (x ∷ cs) y × (command_id y ≡ id)
    by true same here rest =
        let one : x ≡ y = same_Some x y here in
        (subst (λ z. Contains (x ∷ cs) z) one (at_head x cs), sym (same_bytes id (command_id x) same ∙ ap command_id one))
    by false differs later rest = let found = rest later in (behind_head x cs y found.0, found.1)

pub not_held : (cs : List Command) (id : List ℕ) → place_of cs id ≡ None → held_with cs id ≡ None
not_held cs id none = by (held_with cs id) refl
  where
    by : (o : Option Command) → held_with cs id ≡ o → o ≡ None
    by None is = refl
    by (Some y) is =
        let found = held_with_is cs id y is in
        let place = held_place cs id (subst (λ i. IsHeld cs i) found.1 (held_by cs y found.0)) in
        let no : None ≡ Some place.0 = sym none ∙ place.1 in absurd cc

pub no_id : (cs : List Command) (id : List ℕ) → held_with cs id ≡ None → has_id cs id ≡ false
no_id [] id none = refl
no_id (x ∷ cs) id none = by (bytes_eq id (command_id x)) none (no_id cs id)
  where
    by : (b : Bool) → cond b (Some x) (held_with cs id) ≡ None → (held_with cs id ≡ None → has_id cs id ≡ false) → (b || has_id cs id) ≡ false
    by true never rest = absurd cc
    by false later rest = rest later

pub held_at : (cs : List Command) (id : List ℕ) (place : ℕ) (x : Command) → IsClosed cs → place_of cs id ≡ Some place → IsAt cs place x → held_with cs id ≡ Some x
held_at cs id place x closed is there = by (held_with cs id) refl
  where
    by : (o : Option Command) → held_with cs id ≡ o → o ≡ Some x
    by None none = let held = place_held cs id place is in let no : false ≡ true = sym (no_id cs id none) ∙ held in absurd cc
    by (Some y) found =
        let held = held_with_is cs id y found in
        let at = place_at cs id place is in
        let same : at.0 ≡ x = same_Some at.0 x (sym at.1 ∙ there) in
        ap Some (same_by_id cs closed y x held.0 (inside_at cs place x there) (held.1 ∙ sym at.2 ∙ ap command_id same))

-- whether an id has a place
pub has_place : (cs : List Command) (id : List ℕ) (place : ℕ) → place_of cs id ≡ Some place → true ≡ has_id cs id
has_place cs id place is = sym (place_held cs id place is)

pub has_no_place : (cs : List Command) (id : List ℕ) → place_of cs id ≡ None → false ≡ has_id cs id
has_no_place cs id none = sym (no_id cs id (not_held cs id none))

-- ---- the first reason

pub first_none : (o : Option Reason) (more : List (Option Reason)) → first_of (o ∷ more) ≡ None → (o ≡ None) × (first_of more ≡ None)
first_none None more is = (refl, is)
first_none (Some cause) more is = absurd cc

pub last_one : (o : Option Reason) → o ≡ first_of (o ∷ [])
last_one None = refl
last_one (Some cause) = refl

-- the first of some is the first of all
pub first_before : (es ls : List (Option Reason)) (cause : Reason) → first_of es ≡ Some cause → first_of (es ++ ls) ≡ Some cause
first_before [] ls cause is = absurd cc
first_before (Some other ∷ es) ls cause is = is
first_before (None ∷ es) ls cause is = first_before es ls cause is

-- and where there is none of them, that of the others is
pub first_behind : (es ls : List (Option Reason)) → first_of es ≡ None → first_of (es ++ ls) ≡ first_of ls
first_behind [] ls is = refl
first_behind (Some other ∷ es) ls is = absurd cc
first_behind (None ∷ es) ls is = first_behind es ls is
