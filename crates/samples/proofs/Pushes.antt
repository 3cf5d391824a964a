-- One turn more.
use Rattle.std.proofs.Common.{◌≡◌, ℕ, Bool, ◌&&◌, true, false, eqb, eq-eqb, List, [], ◌∷◌, ◌++◌, refl, ap, ◌∙◌}
use Rattle.std.proofs.lemmas.Bool.{false≢true}
use Rattle.samples.specs.declared.turn.Turn.{Turn}
use Rattle.samples.specs.Tallies.{counted, is_legal, plus}

and_parts : (a b : Bool) → (a && b) ≡ true → (a ≡ true) × (b ≡ true)
and_parts true b e = (refl, e)
and_parts false b e = absurd (false≢true e)

pub counted_push : (start : ℕ) (ts : List Turn) (t : Turn) → counted start (ts ++ t ∷ []) ≡ plus (counted start ts) t.amount
counted_push start [] t = refl
counted_push start (x ∷ xs) t = counted_push (plus start x.amount) xs t

pub legal_push : (start : ℕ) (ts : List Turn) (t : Turn) → is_legal start ts ≡ true → t.reply ≡ plus (counted start ts) t.amount → is_legal start (ts ++ t ∷ []) ≡ true
legal_push start [] t legal is = ap (λ b. b && true) (eq-eqb t.reply (plus start t.amount) is)
legal_push start (x ∷ xs) t legal is = let both = and_parts (eqb x.reply (plus start x.amount)) (is_legal (plus start x.amount) xs) legal in
    ap (λ b. b && is_legal (plus start x.amount) (xs ++ t ∷ [])) both.0 ∙ legal_push (plus start x.amount) xs t both.1 is
