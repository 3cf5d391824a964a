-- The end of a comment, byte by byte.
use Rattle.std.proofs.Common.{◌≡◌, ℕ, ◌+◌, ◌<◌, ◌≤◌, true, false, nat_eq, List, [], ◌∷◌, length, drop, refl, ap, sym, ◌∙◌, arith, codes, Option, Some, None, option_map, length-drop}
use Rattle.std.proofs.lemmas.List.{drop-drop}
use Rattle.std.specs.List.{starts_with}
use Rattle.policy_ast.specs.TokenForms.{comment_end}

-- so many bytes more
abbrev pub with_more : ℕ → Option ℕ → Option ℕ
with_more n found = option_map (λ size. size + n) found

ends_here : (bytes : List ℕ) → 0 < length bytes → starts_with nat_eq bytes (codes "*/") ≡ true → comment_end bytes ≡ Some 2
unfolding comment_end
ends_here [] some is = absurd (omega (arith, some))
ends_here (c ∷ bytes) some is = rw is refl

ends_later : (bytes : List ℕ) → 0 < length bytes → starts_with nat_eq bytes (codes "*/") ≡ false → comment_end bytes ≡ with_more 1 (comment_end (drop 1 bytes))
unfolding comment_end
ends_later [] some is = absurd (omega (arith, some))
ends_later (c ∷ bytes) some is = rw is refl

ends_nowhere : (bytes : List ℕ) → length bytes ≡ 0 → comment_end bytes ≡ None
unfolding comment_end
ends_nowhere [] empty = refl
ends_nowhere (c ∷ bytes) empty = absurd (omega (arith, empty))

with_one_more : (n : ℕ) (found : Option ℕ) → with_more (n + 1) found ≡ with_more n (with_more 1 found)
with_one_more n None = refl
with_one_more n (Some size) = ap Some (omega arith)

-- where the comment ends at a place
pub comment_ended : (bytes : List ℕ) (i : ℕ) → i < length bytes → starts_with nat_eq (drop i bytes) (codes "*/") ≡ true → with_more i (comment_end (drop i bytes)) ≡ Some (2 + i)
comment_ended bytes i within is = ap (with_more i) (ends_here (drop i bytes) (omega (arith, length-drop {A = ℕ})) is)

-- where it does not
pub comment_passed : (bytes : List ℕ) (i : ℕ) → i < length bytes → starts_with nat_eq (drop i bytes) (codes "*/") ≡ false
    → with_more (i + 1) (comment_end (drop (i + 1) bytes)) ≡ with_more i (comment_end (drop i bytes))
comment_passed bytes i within is =
    with_one_more i (comment_end (drop (i + 1) bytes))
    ∙ ap (with_more i) (ap (λ rest. with_more 1 (comment_end rest)) (sym (drop-drop 1 i bytes)) ∙ sym (ends_later (drop i bytes) (omega (arith, length-drop {A = ℕ})) is))

-- where nothing is left
pub comment_left_open : (bytes : List ℕ) (i : ℕ) → length bytes ≤ i → with_more i (comment_end (drop i bytes)) ≡ None
comment_left_open bytes i past = ap (with_more i) (ends_nowhere (drop i bytes) (omega (arith, length-drop {A = ℕ})))
