-- Texts that are written a piece at a time.
use Rattle.std.proofs.Common.{◌≡◌, ℕ, ◌-◌, List, [], ◌∷◌, ◌++◌, Option, Some, None, length, take, drop, refl, sym, ap, ◌∙◌, arith, append_assoc, append-nil, length-drop}
use Rattle.std.proofs.lemmas.List.{take-append-drop, take_all}
use Rattle.std.specs.Io.KnownBytes.{append_known}
use Rattle.std.specs.List.{concat}
use Rattle.aranyad.specs.Written.{WritesBut}

-- two pieces, one after the other, are the one piece that they make
pub append_known-append : (known : Option (List ℕ)) (a b : List ℕ) → append_known (append_known known a) b ≡ append_known known (a ++ b)
append_known-append None a b = refl
append_known-append (Some xs) a b = ap Some (append_assoc xs a b)

-- one piece more of what was left
pub wrote_more : (text rest taken behind : List ℕ) (old mid new : Option (List ℕ)) → taken ++ behind ≡ rest → WritesBut text rest old mid → new ≡ append_known mid taken → WritesBut text behind old new
wrote_more text rest taken behind old mid new parts so_far more = record {
  part = so_far.part ++ taken;
  whole = append_assoc so_far.part taken behind ∙ ap (λ l. so_far.part ++ l) parts ∙ so_far.whole;
  added = more ∙ ap (λ known. append_known known taken) so_far.added ∙ append_known-append old so_far.part taken;
}

-- the front of a slice and what stands behind it
pub take-behind : (n m : ℕ) (xs : List ℕ) → m ≡ length xs - n → take n xs ++ take m (drop n xs) ≡ xs
take-behind n m xs is = ap (λ l. take n xs ++ l) (take_all m (drop n xs) (omega (arith, length-drop n xs))) ∙ take-append-drop n xs

-- nothing was added
pub append_none : (old : Option (List ℕ)) → append_known old [] ≡ old
append_none None = refl
append_none (Some xs) = ap Some (append-nil xs)

-- the pieces joined, and one more behind them
pub concat-append : (done left : List (List ℕ)) → concat (done ++ left) ≡ concat done ++ concat left
concat-append [] left = refl
concat-append (p ∷ done) left = ap (λ l. p ++ l) (concat-append done left) ∙ sym (append_assoc p (concat done) (concat left))

pub concat-one : (piece : List ℕ) → concat (piece ∷ []) ≡ piece
concat-one piece = append-nil piece

pub concat-more : (done : List (List ℕ)) (piece : List ℕ) → concat done ++ piece ≡ concat (done ++ piece ∷ [])
concat-more done piece = ap (λ l. concat done ++ l) (sym (concat-one piece)) ∙ sym (concat-append done (piece ∷ []))

-- a piece behind those that were written
pub wrote_piece : (done : List (List ℕ)) (piece : List ℕ) (old mid new : Option (List ℕ)) → mid ≡ append_known old (concat done) → new ≡ append_known mid piece →
    new ≡ append_known old (concat (done ++ piece ∷ []))
wrote_piece done piece old mid new so_far more =
    more ∙ ap (λ known. append_known known piece) so_far ∙ append_known-append old (concat done) piece ∙ ap (append_known old) (concat-more done piece)
