-- What stands at the end of a list.
use Rattle.std.proofs.Common.{◌≡◌, ℕ, suc, ◌-◌, ◌<◌, ◌≤◌, List, ◌∷◌, drop, length, refl, ap, sym, ◌∙◌, arith}
use Rattle.policy_ast.specs.declared.token.TokenKind.{TokenKind}
use Rattle.policy_ast.specs.grammar.Parts.{Kinds}

-- the second is what is left of the first behind some kinds
pub data IsTail : Kinds → Kinds → Type 0 where
  all : {ts : Kinds} → IsTail ts ts
  behind : {t : TokenKind} {ts rest : Kinds} → IsTail ts rest → IsTail (t ∷ ts) rest

pub tail_of_tail : {ts mid rest : Kinds} → IsTail ts mid → IsTail mid rest → IsTail ts rest
tail_of_tail IsTail.all also = also
tail_of_tail (IsTail.behind tail) also = IsTail.behind (tail_of_tail tail also)

pub tail_next : {ts rest : Kinds} {t : TokenKind} → IsTail ts (t ∷ rest) → IsTail ts rest
tail_next tail = tail_of_tail tail (IsTail.behind IsTail.all)

pub tail_length : {ts rest : Kinds} → IsTail ts rest → length rest ≤ length ts
tail_length IsTail.all = omega arith
tail_length (IsTail.behind tail) = let p = tail_length tail in omega (arith, p)

-- a tail is known by its length
tail_is_drop : (ts rest : Kinds) → IsTail ts rest → rest ≡ drop (length ts - length rest) ts
tail_is_drop ts rest IsTail.all = let e : length ts - length ts ≡ 0 = omega arith in rw e refl
tail_is_drop ts rest (IsTail.behind {t = t} {ts = inner} tail) =
    let p = tail_length tail in
    let e : length (t ∷ inner) - length rest ≡ suc (length inner - length rest) = omega (arith, p) in
    tail_is_drop inner rest tail ∙ ap (λ n. drop n (t ∷ inner)) (sym e)

-- a tail that leaves out the first
pub shorter_tail : (t : TokenKind) (ts rest : Kinds) → IsTail (t ∷ ts) rest → length rest < length (t ∷ ts) → rest ≡ drop (length ts - length rest) ts
shorter_tail t ts rest IsTail.all less = absurd (omega (arith, less))
shorter_tail t ts rest (IsTail.behind tail) less = tail_is_drop ts rest tail
