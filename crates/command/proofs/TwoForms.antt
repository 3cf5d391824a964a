-- Records of commits of which the first few are written in the old form, and all others in the new one, which says how many
-- commands stand before.
use Rattle.std.proofs.Common.{◌≡◌, ℕ, zero, suc, ◌+◌, ◌≤◌, List, [], ◌∷◌, ◌++◌, length, refl, sym, ap, ◌∙◌, append_assoc, append-nil, arith}

module _ {C : Type 0} (old_record : C → List ℕ) (new_record : ℕ → C → List ℕ) (count : C → ℕ) where
  abbrev pub records_from : ℕ → ℕ → List C → List ℕ
  records_from old held [] = []
  records_from zero held (c ∷ cs) = new_record held c ++ records_from zero (held + count c) cs
  records_from (suc old) held (c ∷ cs) = old_record c ++ records_from old (held + count c) cs

  abbrev pub counts : List C → ℕ
  counts [] = 0
  counts (c ∷ cs) = count c + counts cs

  -- a commit more, in the new form
  pub push_new : (old held : ℕ) (cs : List C) (c : C) → old ≤ length cs → records_from old held (cs ++ c ∷ []) ≡ records_from old held cs ++ new_record (held + counts cs) c
  push_new zero held [] c le = append-nil (new_record held c) ∙ ap (λ n. new_record n c) (omega arith)
  push_new (suc old) held [] c le = absurd (omega (arith, le))
  push_new zero held (x ∷ cs) c le =
      ap (λ l. new_record held x ++ l) (push_new zero (held + count x) cs c (omega arith))
      ∙ sym (append_assoc (new_record held x) (records_from zero (held + count x) cs) (new_record (held + count x + counts cs) c))
      ∙ ap (λ n. (new_record held x ++ records_from zero (held + count x) cs) ++ new_record n c) (omega arith)
  push_new (suc old) held (x ∷ cs) c le =
      ap (λ l. old_record x ++ l) (push_new old (held + count x) cs c (omega (arith, le)))
      ∙ sym (append_assoc (old_record x) (records_from old (held + count x) cs) (new_record (held + count x + counts cs) c))
      ∙ ap (λ n. (old_record x ++ records_from old (held + count x) cs) ++ new_record n c) (omega arith)

  -- and in the old form, where all are
  pub push_old : (held : ℕ) (cs : List C) (c : C) → records_from (length cs + 1) held (cs ++ c ∷ []) ≡ records_from (length cs) held cs ++ old_record c
  push_old held [] c = append-nil (old_record c)
  push_old held (x ∷ cs) c =
      ap (λ n. records_from n held (x ∷ cs ++ c ∷ [])) (grown (length cs))
      ∙ ap (λ l. old_record x ++ l) (push_old (held + count x) cs c)
      ∙ sym (append_assoc (old_record x) (records_from (length cs) (held + count x) cs) (old_record c))
    where
      grown : (n : ℕ) → suc n + 1 ≡ suc (n + 1)
      grown n = omega arith
