-- The rows after one commit more, and a list that is folded into itself.
use Rattle.std.proofs.Common.{◌≡◌, ℕ, zero, suc, ◌+◌, replicate, arith, List, [], ◌∷◌, ◌++◌, fold, refl, sym, ap, ◌∙◌, append_assoc, Result, Ok, Err, MatchResult, Option, Some, None}
use Rattle.std.specs.Option.{option_to_list}
use Rattle.std.proofs.lemmas.List.{append-nil}
use Rattle.std.proofs.lemmas.List.Sums.{fold-append}
use Rattle.fact_readers.specs.declared.change.RowChange.{RowChange}
use Rattle.fact_readers.specs.working.Book.{IsLaid}
use Rattle.fact_readers.specs.Writers.{IsPlain}
use Rattle.fact_readers.specs.Changes.{committed, version}

pub version-more : (commits : List (List RowChange)) (commit : List RowChange) → version (commits ++ commit ∷ []) ≡ committed (version commits) commit
version-more commits commit = fold-append committed [] commits (commit ∷ [])

module _ (state : List (List RowChange) → List (List RowChange)) (applied : List (List RowChange) → List RowChange → List (List RowChange)) (plain : IsPlain state applied) where
  pub folded : (xs ys : List (List RowChange)) → fold applied xs ys ≡ xs ++ ys
  folded xs [] = sym (append-nil xs)
  folded xs (y ∷ ys) = folded (applied xs y) ys ∙ (ap (λ zs. zs ++ ys) (plain.1 xs y) ∙ append_assoc xs (y ∷ []) ys)

  -- what a publish says, over lists of commits
  pub shows : {A B : Type 0} (result : Result A B) (old new pending left : List (List RowChange))
      → MatchResult result (λ _. (state new ≡ fold applied (state old) pending) × (left ≡ [])) (λ _. (new ≡ old) × (left ≡ pending))
      → MatchResult result (λ _. (new ≡ old ++ pending) × (left ≡ [])) (λ _. (new ≡ old) × (left ≡ pending))
  shows (Ok done) old new pending left says = (sym (plain.0 new) ∙ (says.0 ∙ (folded (state old) pending ∙ ap (λ zs. zs ++ pending) (plain.0 old))), says.1)
  shows (Err why) old new pending left says = says

-- what is held goes to the log
pub laid_handed : (front shown log log' : List (List RowChange)) (held : Option (List RowChange)) → IsLaid front shown log held → log' ≡ log ++ option_to_list held → IsLaid front shown log' None
laid_handed front shown log log' held laid is = laid ∙ ap (λ zs. shown ++ zs) (sym (append-nil log' ∙ is))

-- the next one is laid, and held
pub laid_next : (front front' shown log : List (List RowChange)) (commit : List RowChange) → IsLaid front shown log None → front' ≡ front ++ commit ∷ [] → IsLaid front' shown log (Some commit)
laid_next front front' shown log commit laid is =
    is ∙ (ap (λ zs. zs ++ commit ∷ []) (laid ∙ ap (λ zs. shown ++ zs) (append-nil log)) ∙ append_assoc shown log (commit ∷ []))

begins_or_ends : {A : Type 0} (n : ℕ) (x : A) → x ∷ replicate n x ≡ replicate n x ++ x ∷ []
begins_or_ends zero x = refl
begins_or_ends (suc n) x = ap (λ xs. x ∷ xs) (begins_or_ends n x)

pub replicate_more : {A : Type 0} (n : ℕ) (x : A) → replicate (n + 1) x ≡ replicate n x ++ x ∷ []
replicate_more n x = let next : n + 1 ≡ suc n = omega arith in ap (λ k. replicate k x) next ∙ begins_or_ends n x
