-- Parameters whose names differ, introduced one by one.
use Rattle.std.proofs.Common.{◌≡◌, ℕ, ◌+◌, ◌<◌, Bool, true, false, not, ◌||◌, [], ◌∷◌, ◌++◌, length, drop, get_or, None, refl, sym, ap, ◌∙◌}
use Rattle.std.proofs.lemmas.Bool.{false≢true}
use Rattle.std.proofs.lemmas.List.{append_assoc}
use Rattle.std.specs.Str.{bytes_eq}
use Rattle.base_bytes.proofs.Bools.{and_then}
use Rattle.policy_infer.proofs.FieldFacts.{left_at, same_both}
use Rattle.policy_rules.specs.FieldLists.{are_distinct}
use Rattle.policy_rules.specs.Names.{is_among}
use Rattle.policy_rules.specs.Scopes.{Scope, names_in, type_in}
use Rattle.policy_rules.specs.declared.types.Named.{Named}

not_among : (b : Bool) (names : Bool) → not (b || names) ≡ true → (b ≡ false) × (names ≡ false)
not_among true names is = absurd (false≢true is)
not_among false true is = absurd (false≢true is)
not_among false false is = (refl, refl)

-- a name behind others that all differ is none of them
absent : (front : Scope) (n : Named) (rest : Scope) → are_distinct (names_in (front ++ n ∷ rest)) ≡ true → type_in front n.name ≡ None
absent [] n rest is = refl
absent (f ∷ front) n rest is =
    and_then (not (is_among f.name (names_in (front ++ n ∷ rest)))) (are_distinct (names_in (front ++ n ∷ rest))) is
    (λ apart later. rw (same_both n.name f.name ∙ differs f front n rest apart) (absent front n rest later))
  where
    differs : (f : Named) (front : Scope) (n : Named) (rest : Scope) → not (is_among f.name (names_in (front ++ n ∷ rest))) ≡ true → bytes_eq f.name n.name ≡ false
    differs f [] n rest is = (not_among (bytes_eq f.name n.name) (is_among f.name (names_in rest)) is).0
    differs f (g ∷ front) n rest is =
        differs f front n rest (ap not (not_among (bytes_eq f.name g.name) (is_among f.name (names_in (front ++ n ∷ rest))) is).1)

pub free_at : (scope all : Scope) (i : ℕ) (n : Named) → are_distinct (names_in all) ≡ true → scope ++ drop i all ≡ all → i < length all → n ≡ get_or all i n → type_in scope n.name ≡ None
free_at scope all i n distinct so_far lt is =
    absent scope n (drop (i + 1) all) (ap (λ all. are_distinct (names_in all)) (ap (λ rest. scope ++ rest) (sym (left_at all i n lt is)) ∙ so_far) ∙ distinct)

pub scope_more : (scope all : Scope) (i : ℕ) (n : Named) → scope ++ drop i all ≡ all → i < length all → n ≡ get_or all i n → (scope ++ n ∷ []) ++ drop (i + 1) all ≡ all
scope_more scope all i n so_far lt is = append_assoc scope (n ∷ []) (drop (i + 1) all) ∙ ap (λ rest. scope ++ rest) (sym (left_at all i n lt is)) ∙ so_far
