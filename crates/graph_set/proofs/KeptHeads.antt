-- The heads once a command is added: those before but for its parents, and its own place.
use Rattle.std.proofs.Common.{◌≡◌, ℕ, ◌+◌, ◌≤◌, Bool, true, false, IsTrue, ◌||◌, cond, not, if◌then◌else◌, List, [], ◌∷◌, ◌++◌, filter, length, slice_get, Option, Some, None, option_map, refl, sym, ap, subst, ◌∙◌, append_assoc, arith, length-append}
use Rattle.std.specs.List.{Contains, list_any}
use Rattle.std.specs.Str.{bytes_eq}
use Rattle.std.proofs.lemmas.List.Elements.{filter-append}
use Rattle.std.proofs.lemmas.Slice.Eq.{bytes_eq-Decides}
use Rattle.std.proofs.lemmas.List.Folds.{list_any-append}
use Rattle.command.specs.Ancestors.{heads, is_parent, places_without}
use Rattle.command.specs.Closed.{IsClosed, IsHeld}
use Rattle.command.specs.Kinds.{parents_of}
use Rattle.command.specs.Wire.{command_id}
use Rattle.command.specs.declared.command.Command.{Command}
use Rattle.command.proofs.ClosedFacts.{parents_held, same_bytes}
use Rattle.command.proofs.ReachFacts.{any_found}
use Rattle.graph_set.specs.working.Heads.{has_none_of, is_other}

or_false : (b : Bool) → (b || false) ≡ b
or_false true = refl
or_false false = refl

-- two tests that agree find the same places
same_test : (cs : List Command) (place : ℕ) (one other : List ℕ → Bool) → ((id : List ℕ) → one id ≡ other id) → places_without one place cs ≡ places_without other place cs
same_test [] place one other same = refl
same_test (c ∷ cs) place one other same =
    ap (λ b. (if b then [] else place ∷ []) ++ places_without one (place + 1) cs) (same (command_id c))
    ∙ ap (λ l. (if other (command_id c) then [] else place ∷ []) ++ l) (same_test cs (place + 1) one other same)

at_front : (front : List Command) (c : Command) (cs : List Command) → slice_get (front ++ c ∷ cs) (length front) ≡ Some c
at_front [] c cs = refl
at_front (x ∷ front) c cs = at_front front c cs

one_place : (t u : Bool) (q : ℕ → Bool) (place : ℕ) → q place ≡ not u → filter q (cond t [] (place ∷ [])) ≡ cond (t || u) [] (place ∷ [])
one_place true u q place is = refl
one_place false true q place is = rw is refl
one_place false false q place is = rw is refl

module _ (all : List Command) (ids : List (List ℕ)) (test : List ℕ → Bool) where
  abbrev with_ids : List ℕ → Bool
  with_ids id = test id || list_any (bytes_eq id) ids

  filtered : (front cs : List Command) → all ≡ front ++ cs → filter (is_other all ids) (places_without test (length front) cs) ≡ places_without with_ids (length front) cs
  filtered front [] is = refl
  filtered front (c ∷ cs) is =
      let place = length front in
      let t = test (command_id c) in
      let u = list_any (bytes_eq (command_id c)) ids in
      let there : slice_get all place ≡ Some c = ap (λ l. slice_get l place) is ∙ at_front front c cs in
      let asked : is_other all ids place ≡ not u = ap (has_none_of ids) there in
      let grown : length (front ++ c ∷ []) ≡ place + 1 = length-append front (c ∷ []) in
      let rest = filtered (front ++ c ∷ []) cs (is ∙ sym (append_assoc front (c ∷ []) cs)) in
      filter-append (is_other all ids) (cond t [] (place ∷ [])) (places_without test (place + 1) cs)
      ∙ ap (λ l. l ++ filter (is_other all ids) (places_without test (place + 1) cs)) (one_place t u (is_other all ids) place asked)
      ∙ ap (λ l. cond (t || u) [] (place ∷ []) ++ l) (subst (λ k. filter (is_other all ids) (places_without test k cs) ≡ places_without with_ids k cs) grown rest)

split_places : (test : List ℕ → Bool) (place : ℕ) (cs : List Command) (c : Command) → test (command_id c) ≡ false
    → places_without test place (cs ++ c ∷ []) ≡ places_without test place cs ++ (place + length cs) ∷ []
split_places test place [] c fresh = rw fresh (ap (λ k. k ∷ []) (omega (arith)))
split_places test place (x ∷ cs) c fresh =
    ap (λ l. cond (test (command_id x)) [] (place ∷ []) ++ l) (split_places test (place + 1) cs c fresh)
    ∙ sym (append_assoc (cond (test (command_id x)) [] (place ∷ [])) (places_without test (place + 1) cs) ((place + 1 + length cs) ∷ []))
    ∙ ap (λ k. (cond (test (command_id x)) [] (place ∷ []) ++ places_without test (place + 1) cs) ++ k ∷ []) (omega (arith))

module _ (cs : List Command) (c : Command) where
  grown_parents : (id : List ℕ) → is_parent (cs ++ c ∷ []) id ≡ (is_parent cs id || list_any (bytes_eq id) (parents_of c))
  grown_parents id =
      list_any-append (λ y. list_any (bytes_eq id) (parents_of y)) cs (c ∷ []) ∙ ap (λ b. is_parent cs id || b) (or_false (list_any (bytes_eq id) (parents_of c)))

  -- a fresh command is no parent
  no_parent : IsClosed cs → (IsHeld cs (command_id c) → ⊥) → ((id : List ℕ) → Contains (parents_of c) id → IsHeld cs id) → (is_parent cs (command_id c) || list_any (bytes_eq (command_id c)) (parents_of c)) ≡ false
  no_parent closed fresh held = by (is_parent cs (command_id c)) refl (list_any (bytes_eq (command_id c)) (parents_of c)) refl
    where
      own : list_any (bytes_eq (command_id c)) (parents_of c) ≡ true → ⊥
      own is =
          let found = any_found (bytes_eq (command_id c)) (parents_of c) (subst IsTrue (sym is) refl) in
          fresh (subst (λ i. IsHeld cs i) (sym (same_bytes (command_id c) found.0 found.2)) (held found.0 found.1))

      older : is_parent cs (command_id c) ≡ true → ⊥
      older is =
          let found = any_found (λ y. list_any (bytes_eq (command_id c)) (parents_of y)) cs (subst IsTrue (sym is) refl) in
          let id = any_found (bytes_eq (command_id c)) (parents_of found.0) found.2 in
          fresh (subst (λ i. IsHeld cs i) (sym (same_bytes (command_id c) id.0 id.2)) (parents_held cs closed found.0 id.0 found.1 id.1))

      by : (a : Bool) → is_parent cs (command_id c) ≡ a → (b : Bool) → list_any (bytes_eq (command_id c)) (parents_of c) ≡ b → (a || b) ≡ false
      by true is b there = absurd (older is)
      by false is true there = absurd (own there)
      by false is false there = refl

  pub heads_more : IsClosed cs → (IsHeld cs (command_id c) → ⊥) → ((id : List ℕ) → Contains (parents_of c) id → IsHeld cs id) → heads (cs ++ c ∷ []) ≡ filter (is_other cs (parents_of c)) (heads cs) ++ length cs ∷ []
  heads_more closed fresh held =
      let both : List ℕ → Bool = λ id. is_parent cs id || list_any (bytes_eq id) (parents_of c) in
      let zero : 0 + length cs ≡ length cs = omega (arith) in
      same_test (cs ++ c ∷ []) 0 (is_parent (cs ++ c ∷ [])) both grown_parents
      ∙ split_places both 0 cs c (no_parent closed fresh held)
      ∙ ap (λ k. places_without both 0 cs ++ k ∷ []) zero
      ∙ ap (λ l. l ++ length cs ∷ []) (sym (filtered cs (parents_of c) (is_parent cs) [] cs refl))

-- what is said of the command at a place, by its id
pub other_there : (ids : List (List ℕ)) (o : Option Command) (id : List ℕ) → option_map command_id o ≡ Some id → has_none_of ids o ≡ not (list_any (bytes_eq id) ids)
other_there ids None id is = absurd cc
other_there ids (Some c) id is = let same : command_id c ≡ id = cc in ap (λ i. not (list_any (bytes_eq i) ids)) same

-- the test of equal bytes, either way round
same_both : (a b : List ℕ) → bytes_eq a b ≡ bytes_eq b a
same_both a b = by (bytes_eq a b) (bytes_eq b a) refl refl
  where
    by : (p q : Bool) → bytes_eq a b ≡ p → bytes_eq b a ≡ q → p ≡ q
    by true true is other = refl
    by false false is other = refl
    by true false is other = sym ((bytes_eq-Decides b a).1 (sym ((bytes_eq-Decides a b).0 is))) ∙ other
    by false true is other = sym is ∙ (bytes_eq-Decides a b).1 (sym ((bytes_eq-Decides b a).0 other))

pub any_either : (id : List ℕ) (ids : List (List ℕ)) → list_any (λ y. bytes_eq y id) ids ≡ list_any (bytes_eq id) ids
any_either id [] = refl
any_either id (x ∷ ids) = ap (λ b. b || list_any (λ y. bytes_eq y id) ids) (same_both x id) ∙ ap (λ b. bytes_eq id x || b) (any_either id ids)

pub other_nowhere : (ids : List (List ℕ)) (o : Option Command) → o ≡ None → has_none_of ids o ≡ true
other_nowhere ids o is = ap (has_none_of ids) is

-- the places of the heads stay few
filter_shorter : (q : ℕ → Bool) (xs : List ℕ) → length (filter q xs) ≤ length xs
filter_shorter q [] = omega (arith)
filter_shorter q (x ∷ xs) = by (filter_shorter q xs) (q x) refl
  where
    by : length (filter q xs) ≤ length xs → (b : Bool) → q x ≡ b → length (filter q (x ∷ xs)) ≤ length (x ∷ xs)
    by rest true is = let kept : filter q (x ∷ xs) ≡ x ∷ filter q xs = rw is refl in omega (arith, ap length kept, rest)
    by rest false is = let left : filter q (x ∷ xs) ≡ filter q xs = rw is refl in omega (arith, ap length left, rest)

pub kept_shorter : (q : ℕ → Bool) (xs ys : List ℕ) → ys ≡ filter q xs → length ys ≤ length xs
kept_shorter q xs ys is = omega (arith, ap length is, filter_shorter q xs)
