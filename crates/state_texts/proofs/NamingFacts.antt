-- Values and names side by side, one pair after another.
use Rattle.std.proofs.Common.{◌≡◌, ◌⊎◌, inl, inr, ℕ, ◌+◌, ◌<◌, ◌≤◌, List, [], ◌∷◌, ◌++◌, Some, None, drop, get_or, length, slice_get, refl, sym, ap, ◌∙◌}
use Rattle.std.proofs.lemmas.List.{append_assoc, append-nil, at_drop_more, drop_all}
use Rattle.std.proofs.lemmas.Option.{none-some, slice_get_cases}
use Rattle.base_bytes.specs.declared.arg.Arg.{Arg}
use Rattle.base_bytes.specs.declared.value.Value.{Value}
use Rattle.policy_ast.specs.declared.item.Item.{Item}
use Rattle.policy_rules.specs.Names.{Name}
use Rattle.state_texts.specs.Naming.{named, named_values}
use Rattle.state_texts.proofs.Behind.{behind}

-- One pair more.
pub pair_more : (items : List Item) (names : List Name) (values : List Value) (i : ℕ) (name : Name) (v : Value) (text : Name) (arg : Arg) (all total : List (Name × Arg))
    → slice_get names i ≡ Some name → i < length values → v ≡ get_or values i v → text ≡ name → arg ≡ named items v
    → all ++ named_values items (drop i names) (drop i values) ≡ total
    → (all ++ (text, arg) ∷ []) ++ named_values items (drop (i + 1) names) (drop (i + 1) values) ≡ total
pair_more items names values i name v text arg all total at lt is same gives so_far =
    append_assoc all ((text, arg) ∷ []) (named_values items (drop (i + 1) names) (drop (i + 1) values))
    ∙ (λ j. all ++ (same j, (gives ∙ ap (named items) is) j) ∷ named_values items (drop (i + 1) names) (drop (i + 1) values))
    ∙ ap (λ vs. all ++ named_values items (name ∷ drop (i + 1) names) vs) (sym (at_drop_more (λ l. l) values i v lt))
    ∙ ap (λ ns. all ++ named_values items ns (drop i values)) (sym (behind names i name at))
    ∙ so_far

-- No name is left.
pub names_done : (items : List Item) (names : List Name) (values : List Value) (i : ℕ) (all total : List (Name × Arg)) → slice_get names i ≡ None
    → all ++ named_values items (drop i names) (drop i values) ≡ total → all ≡ total
names_done items names values i all total none so_far =
    sym (append-nil all) ∙ ap (λ ns. all ++ named_values items ns (drop i values)) (sym (drop_all i names (past (slice_get_cases names i).1))) ∙ so_far
  where
    past : ((x : Name) × (i < length names) × (slice_get names i ≡ Some x) × (get_or names i x ≡ x)) ⊎ ((length names ≤ i) × (slice_get names i ≡ None)) → length names ≤ i
    past (inl found) = absurd (none-some found.0 (sym none ∙ found.2))
    past (inr gone) = gone.0

no_values : (items : List Item) (names : List Name) → named_values items names [] ≡ []
no_values items [] = refl
no_values items (name ∷ names) = refl

-- No value is left.
pub values_done : (items : List Item) (names : List Name) (values : List Value) (i : ℕ) (all total : List (Name × Arg)) → length values ≤ i
    → all ++ named_values items (drop i names) (drop i values) ≡ total → all ≡ total
values_done items names values i all total past so_far =
    sym (append-nil all) ∙ ap (λ vs. all ++ vs) (sym (no_values items (drop i names))) ∙ ap (λ vs. all ++ named_values items (drop i names) vs) (sym (drop_all i values past)) ∙ so_far
