-- Commands that are written one by one.
use Rattle.std.proofs.Common.{◌≡◌, ℕ, ◌+◌, ◌<◌, List, ◌∷◌, ◌++◌, length, get_or, drop, map, refl, sym, ap, subst, ◌∙◌, append_assoc, below_more}
use Rattle.std.specs.List.{concat}
use Rattle.std.proofs.lemmas.List.{at_drop_more, get_or_read_under}

-- what is written so far, and what is left to write
pub written_more : {X : Type 0} (spelled : X → List ℕ) (xs : List X) (i : ℕ) (x : X) (before total : List ℕ) → i < length xs → x ≡ get_or xs i x → before ++ concat (map spelled (drop i xs)) ≡ total
    → (before ++ spelled x) ++ concat (map spelled (drop (i + 1) xs)) ≡ total
written_more spelled xs i x before total within is so_far =
    append_assoc before (spelled x) (concat (map spelled (drop (i + 1) xs)))
    ∙ ap (λ it. before ++ concat (map spelled (it ∷ drop (i + 1) xs))) is
    ∙ sym (at_drop_more (λ left. before ++ concat (map spelled left)) xs i x within) ∙ so_far

-- what holds of each so far
pub holds_more : {X : Type 0} (Holds : X → Type 0) (xs : List X) (i : ℕ) (x : X) → i < length xs → x ≡ get_or xs i x → Holds x → ((d : X) (k : ℕ) → k < i → Holds (get_or xs k d)) → (d : X) (k : ℕ) → k < i + 1 → Holds (get_or xs k d)
holds_more Holds xs i x within is here before d = below_more (λ k. Holds (get_or xs k d)) i (before d) (subst Holds (get_or_read_under xs i (length xs) x d is within refl) here)
