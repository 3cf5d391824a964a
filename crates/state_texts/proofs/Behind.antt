-- What stands at a place of a list, and behind it.
use Rattle.std.proofs.Common.{◌≡◌, ℕ, ◌+◌, List, ◌∷◌, ◌++◌, Some, drop, flat_map, slice_get, sym, ap, ◌∙◌}
use Rattle.std.proofs.lemmas.List.{append_assoc, at_drop_more}
use Rattle.std.proofs.lemmas.Option.{get_or_from_slice_get, slice_get_within}

-- The element at a place stands in front of those behind it.
pub behind : {X : Type 0} (xs : List X) (i : ℕ) (x : X) → slice_get xs i ≡ Some x → drop i xs ≡ x ∷ drop (i + 1) xs
behind xs i x is = at_drop_more (λ l. l) xs i x (slice_get_within xs i x is) ∙ ap (λ y. y ∷ drop (i + 1) xs) (get_or_from_slice_get xs i x x is)

-- A text that goes on with the line of the element at a place.
pub line_behind : {X : Type 0} (line : X → List ℕ) (xs : List X) (i : ℕ) (x : X) (before text total : List ℕ) → slice_get xs i ≡ Some x → text ≡ line x
    → before ++ flat_map line (drop i xs) ≡ total → (before ++ text) ++ flat_map line (drop (i + 1) xs) ≡ total
line_behind line xs i x before text total is gives so_far =
    let front : flat_map line (drop i xs) ≡ line x ++ flat_map line (drop (i + 1) xs) = ap (flat_map line) (behind xs i x is) in
    append_assoc before text (flat_map line (drop (i + 1) xs)) ∙ ap (λ t. before ++ (t ++ flat_map line (drop (i + 1) xs))) gives
    ∙ ap (λ t. before ++ t) (sym front) ∙ so_far
