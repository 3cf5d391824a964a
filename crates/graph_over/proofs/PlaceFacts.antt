-- Places in a graph and in what stands behind it.
use Rattle.std.proofs.Common.{◌≡◌, ℕ, zero, suc, ◌+◌, ◌-◌, ◌<◌, ◌≤◌, inl, inr, Bool, true, false, ◌||◌, List, [], ◌∷◌, ◌++◌, length, map, take, drop, get_or, slice_get, Option, Some, None, option_map, refl, sym, ap, subst, ◌∙◌, arith, append_assoc, length-append}
use Rattle.std.specs.List.{list_any, position}
use Rattle.std.specs.Str.{bytes_eq}
use Rattle.std.proofs.lemmas.List.{map-append}
use Rattle.std.proofs.lemmas.List.Elements.{Contains-append_right, Contains-append_cases}
use Rattle.std.proofs.lemmas.Option.{slice_get-get_or, slice_get-map, slice_get_within}
use Rattle.command.specs.declared.command.Command.{Command}
use Rattle.command.specs.Ancestors.{Ancestor, IsAt}
use Rattle.command.specs.Closed.{IsClosed, IsHeld, IsNext, has_id, max_commands, place_of}
use Rattle.command.specs.Wire.{command_id}
use Rattle.command.proofs.AncestorFacts.{was}
use Rattle.command.proofs.ClosedFacts.{held_by, held_command}
use Rattle.command.proofs.ListFacts.{each_cut, each_more}
use Rattle.command.proofs.PlaceFacts.{cut_at, held_place, inside_at, place_at, place_held, place_is}
use Rattle.graph_set.proofs.Entries.{position-map}
use Rattle.graph_over.specs.working.Added.{IsOver}

-- what stands at a place of the front
pub at_front : {X : Type 0} (xs ys : List X) (i : ℕ) → i < length xs → slice_get (xs ++ ys) i ≡ slice_get xs i
at_front [] ys i lt = absurd (omega (arith, lt))
at_front (x ∷ xs) ys zero lt = refl
at_front (x ∷ xs) ys (suc i) lt = at_front xs ys i (omega (arith, lt))

-- and behind it
pub at_behind : {X : Type 0} (xs ys : List X) (i k : ℕ) → length xs + k ≡ i → slice_get (xs ++ ys) i ≡ slice_get ys k
at_behind [] ys i k sum = let e : i ≡ k = omega (arith, sum) in ap (λ n. slice_get ys n) e
at_behind (x ∷ xs) ys zero k sum = absurd (omega (arith, sum))
at_behind (x ∷ xs) ys (suc i) k sum = at_behind xs ys i k (omega (arith, sum))

module _ (below added : List Command) where
  pub command_below : (place : ℕ) (x : Command) → place < length below → IsAt below place x → IsAt (below ++ added) place x
  command_below place x lt at = at_front below added place lt ∙ at

  pub command_added : (place : ℕ) (x : Command) → length below ≤ place → place - length below < length added → x ≡ get_or added (place - length below) x → IsAt (below ++ added) place x
  command_added place x le lt is = at_behind below added place (place - length below) (omega (arith, le)) ∙ slice_get-get_or added (place - length below) x lt ∙ ap Some (sym is)

  pub id_below : (place : ℕ) (id : List ℕ) → place < length below → option_map command_id (slice_get below place) ≡ Some id → option_map command_id (slice_get (below ++ added) place) ≡ Some id
  id_below place id lt is = ap (λ o. option_map command_id o) (at_front below added place lt) ∙ is

  pub id_added : (place : ℕ) (ids : List (List ℕ)) (id : List ℕ) → ids ≡ map command_id added → length below ≤ place → Some id ≡ slice_get ids (place - length below) → option_map command_id (slice_get (below ++ added) place) ≡ Some id
  id_added place ids id named le is =
      ap (λ o. option_map command_id o) (at_behind below added place (place - length below) (omega (arith, le)))
      ∙ sym (slice_get-map command_id added (place - length below))
      ∙ ap (λ l. slice_get l (place - length below)) (sym named)
      ∙ sym is

  -- the place that an id leads to
  pub place_below : IsClosed (below ++ added) → (id : List ℕ) (place : ℕ) → place_of below id ≡ Some place → place_of (below ++ added) id ≡ Some place
  place_below closed id place is =
      let found = place_at below id place is in
      let lt = slice_get_within below place found.0 found.1 in
      ap (λ i. place_of (below ++ added) i) (sym found.2) ∙ place_is (below ++ added) closed place found.0 (command_below place found.0 lt found.1)

  pub place_added : IsClosed (below ++ added) → (ids : List (List ℕ)) → ids ≡ map command_id added → (id : List ℕ) (k : ℕ) → Some k ≡ position (bytes_eq id) ids → place_of (below ++ added) id ≡ Some (length below + k)
  place_added closed ids named id k is =
      let found = place_at added id k (sym (is ∙ ap (position (bytes_eq id)) named ∙ position-map (bytes_eq id) command_id added)) in
      ap (λ i. place_of (below ++ added) i) (sym found.2) ∙ place_is (below ++ added) closed (length below + k) found.0 (at_behind below added (length below + k) k refl ∙ found.1)

  pub place_none : (ids : List (List ℕ)) → ids ≡ map command_id added → (id : List ℕ) → place_of below id ≡ None → None ≡ position (bytes_eq id) ids → place_of (below ++ added) id ≡ None
  place_none ids named id none empty = by (place_of (below ++ added) id) refl
    where
      nowhere : place_of added id ≡ None
      nowhere = sym (empty ∙ ap (position (bytes_eq id)) named ∙ position-map (bytes_eq id) command_id added)

      no_place : (o : Option ℕ) (place : ℕ) → o ≡ None → o ≡ Some place → ⊥
      no_place None place is there = absurd cc
      no_place (Some n) place is there = absurd cc

      by : (o : Option ℕ) → place_of (below ++ added) id ≡ o → o ≡ None
      by None is = refl
      by (Some place) is =
          let held = held_command (below ++ added) id (place_held (below ++ added) id place is) in
          elim (Contains-append_cases below added held.0 held.1) [
            | inl older ↦ let there = held_place below id (subst (λ i. IsHeld below i) held.2 (held_by below held.0 older)) in absurd (no_place (place_of below id) there.0 none there.1)
            | inr newer ↦ let there = held_place added id (subst (λ i. IsHeld added i) held.2 (held_by added held.0 newer)) in absurd (no_place (place_of added id) there.0 nowhere there.1)
          ]

  -- ancestors of a command below are those that it has there
  pub ancestor_below : IsClosed (below ++ added) → (place : ℕ) (x y : Command) → place < length below → IsAt (below ++ added) place y → Ancestor (below ++ added) x y → Ancestor below x y
  ancestor_below closed place x y lt at a = was below added closed x y (inside_at below place y (sym (at_front below added place lt) ∙ at)) a

  -- what a closed list says of an added command
  pub next_added : IsClosed (below ++ added) → (i : ℕ) (x : Command) → slice_get added i ≡ Some x → IsNext (below ++ take i added) x
  next_added closed i x at =
      each_cut IsNext (below ++ take i added) x (drop (i + 1) added)
      (subst IsClosed (ap (λ l. below ++ l) (cut_at added i x at) ∙ sym (append_assoc below (take i added) (x ∷ drop (i + 1) added))) closed)

  -- one more command
  pub over_more : (ids : List (List ℕ)) (c : Command) (id : List ℕ) → IsOver below ids added → IsNext (below ++ added) c → length (below ++ added) < max_commands → id ≡ command_id c → IsOver below (ids ++ id ∷ []) (added ++ c ∷ [])
  over_more ids c id over next few is = record {
    named = ap (λ l. l ++ id ∷ []) over.named ∙ ap (λ i. map command_id added ++ i ∷ []) is ∙ sym (map-append command_id added (c ∷ []));
    closed = subst IsClosed (append_assoc below added (c ∷ [])) (each_more IsNext (below ++ added) c over.closed next);
    few = subst (λ l. length l ≤ max_commands) (append_assoc below added (c ∷ [])) (omega (arith, few, length-append (below ++ added) (c ∷ [])));
  }

-- an id that no command has isn't among their ids
ids_of : (cs : List Command) (id : List ℕ) → list_any (bytes_eq id) (map command_id cs) ≡ has_id cs id
ids_of [] id = refl
ids_of (c ∷ cs) id = ap (λ b. bytes_eq id (command_id c) || b) (ids_of cs id)

pub fresh_id : (below added : List Command) (ids : List (List ℕ)) (id : List ℕ) → ids ≡ map command_id added → (IsHeld (below ++ added) id → ⊥) → list_any (bytes_eq id) ids ≡ false
fresh_id below added ids id named fresh = ap (list_any (bytes_eq id)) named ∙ ids_of added id ∙ by (has_id added id) refl
  where
    held_behind : IsHeld added id → IsHeld (below ++ added) id
    held_behind h = let r = held_command added id h in subst (λ i. IsHeld (below ++ added) i) r.2 (held_by (below ++ added) r.0 (Contains-append_right below added r.0 r.1))

    by : (b : Bool) → has_id added id ≡ b → b ≡ false
    by true is = absurd (fresh (held_behind is))
    by false is = refl
