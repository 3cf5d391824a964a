-- Parents and heads, as the loops gather them.
use Rattle.std.proofs.Common.{◌≡◌, ℕ, suc, ◌+◌, ◌≤◌, Bool, true, false, ◌||◌, if◌then◌else◌, List, [], ◌∷◌, ◌++◌, length, take, drop, slice_get, Option, Some, None, option_map, refl, sym, ap, ◌∙◌, add-one, append_assoc, append-nil, drop-cons}
use Rattle.std.specs.List.{list_any}
use Rattle.std.specs.Str.{bytes_eq}
use Rattle.std.proofs.lemmas.List.{drop_all}
use Rattle.std.proofs.lemmas.List.Folds.{list_any-append}
use Rattle.std.proofs.lemmas.Option.{get_or_from_slice_get, slice_get_within}
use Rattle.command.specs.declared.command.Command.{Command}
use Rattle.command.specs.Ancestors.{is_parent, places_without}
use Rattle.command.specs.Kinds.{parents_of}
use Rattle.command.specs.Wire.{command_id}
use Rattle.command.proofs.PlaceFacts.{take_one_more}

-- the thing that a name was taken of
pub named : {A B : Type 0} (f : A → B) (o : Option A) (y : B) → option_map f o ≡ Some y → (x : A) × (o ≡ Some x) × (f x ≡ y)
named f None y is = absurd cc
named f (Some x) y is = (x, refl, cc)

or_false : (b : Bool) → (b || false) ≡ b
or_false true = refl
or_false false = refl

-- one command more, and its parents
pub one_more : (cs : List Command) (place : ℕ) (c : Command) (id : List ℕ) → slice_get cs place ≡ Some c → (is_parent (take place cs) id || list_any (bytes_eq id) (parents_of c)) ≡ is_parent (take (place + 1) cs) id
one_more cs place c id is =
    let test : Command → Bool = λ y. list_any (bytes_eq id) (parents_of y) in
    sym (ap (λ l. is_parent l id) (take_one_more cs place c is)
    ∙ list_any-append test (take place cs) (c ∷ [])
    ∙ ap (λ b. is_parent (take place cs) id || b) (or_false (list_any (bytes_eq id) (parents_of c))))

module _ (cs : List Command) (test : List ℕ → Bool) where
  -- the heads from a place on
  abbrev pub from_place : ℕ → List ℕ
  from_place place = places_without test place (drop place cs)

  at_place : (place : ℕ) (c : Command) → slice_get cs place ≡ Some c → from_place place ≡ (if test (command_id c) then [] else place ∷ []) ++ from_place (place + 1)
  at_place place c is =
      ap (places_without test place) (drop-cons cs place c (slice_get_within cs place c is) ∙ ap (λ y. y ∷ drop (suc place) cs) (get_or_from_slice_get cs place c c is))
      ∙ ap (λ k. (if test (command_id c) then [] else place ∷ []) ++ places_without test (place + 1) (drop k cs)) (sym (add-one place))

  pub next_place : (found next : List ℕ) (place : ℕ) (id : List ℕ) (all : List ℕ) → option_map command_id (slice_get cs place) ≡ Some id → found ++ from_place place ≡ all →
      next ≡ found ++ (if test id then [] else place ∷ []) → next ++ from_place (place + 1) ≡ all
  next_place found next place id all is so_far more =
      let c = named command_id (slice_get cs place) id is in
      ap (λ l. l ++ from_place (place + 1)) (more ∙ ap (λ i. found ++ (if test i then [] else place ∷ [])) (sym c.2))
      ∙ append_assoc found (if test (command_id c.0) then [] else place ∷ []) (from_place (place + 1))
      ∙ ap (λ l. found ++ l) (sym (at_place place c.0 c.1))
      ∙ so_far

  pub last_place : (found : List ℕ) (place : ℕ) (all : List ℕ) → length cs ≤ place → found ++ from_place place ≡ all → found ≡ all
  last_place found place all over so_far = sym (ap (λ l. found ++ places_without test place l) (drop_all place cs over) ∙ append-nil found) ∙ so_far
