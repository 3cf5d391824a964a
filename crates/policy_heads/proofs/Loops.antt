-- One turn of a loop that makes a list of what is made of each element.
use Rattle.std.proofs.Common.{◌≡◌, ℕ, ◌+◌, ◌<◌, List, [], ◌∷◌, ◌++◌, length, drop, get_or, sym, ap, ◌∙◌}
use Rattle.std.proofs.lemmas.List.{append_assoc, at_drop_more}

module _ {A B : Type 0} (made : List A → List B) (one : A → B) (step : (x : A) (xs : List A) → made (x ∷ xs) ≡ one x ∷ made xs) where
  pub made_more : (front : List B) (all : List A) (i : ℕ) (x : A) (y : B) (total : List B) → i < length all → x ≡ get_or all i x → y ≡ one x
      → front ++ made (drop i all) ≡ total → (front ++ y ∷ []) ++ made (drop (i + 1) all) ≡ total
  made_more front all i x y total lt is gives so_far =
      append_assoc front (y ∷ []) (made (drop (i + 1) all))
      ∙ ap (λ z. front ++ z ∷ made (drop (i + 1) all)) (gives ∙ ap one is)
      ∙ ap (λ rest. front ++ rest) (sym (step (get_or all i x) (drop (i + 1) all)) ∙ sym (at_drop_more made all i x lt))
      ∙ so_far
