-- What is inferred of an expression, by what was inferred of its parts one after the other.
use Rattle.std.proofs.Common.{◌≡◌, ℕ, List, length, take, Option, Result, refl, sym, ap, subst, ◌∙◌}
use Rattle.policy_infer.specs.declared.refusal.Refusal.{Refusal}
use Rattle.policy_infer.specs.working.Answers.{Infers, InfersEach, InfersWithin, Judges}
use Rattle.policy_rules.specs.Scopes.{Scope}

module _ {A : Type 0} (found : Scope → Option A) (before : Scope) where
  -- no part
  pub by_none : {o : Option A} {r : Result A Refusal} → found before ≡ o → Judges r o → Infers r found before before
  by_none {r = r} is judged = record { judged = subst (λ o. Judges r o) (sym is) judged; kept = refl }

  -- one part
  pub by_one : {B : Type 0} {first : Result B Refusal} {one : Scope → Option B} {after : Scope} {r : Result A Refusal} (of : Option B → Option A)
      → found before ≡ of (one before) → Infers first one before after → ((o : Option B) → Judges first o → Judges r (of o)) → Infers r found before after
  by_one {one = one} {r = r} of is p then' = record { judged = subst (λ o. Judges r o) (sym is) (then' (one before) p.judged); kept = p.kept }

  -- two parts
  pub by_two : {B C : Type 0} {first : Result B Refusal} {second : Result C Refusal} {one : Scope → Option B} {two : Scope → Option C} {middle after : Scope} {r : Result A Refusal}
      (of : Option B → Option C → Option A) → found before ≡ of (one before) (two before) → Infers first one before middle → Infers second two middle after
      → ((o : Option B) (p : Option C) → Judges first o → Judges second p → Judges r (of o p)) → Infers r found before after
  by_two {second = second} {one = one} {two = two} {r = r} of is p q then' =
      record {
        judged = subst (λ o. Judges r o) (sym is) (then' (one before) (two before) p.judged (subst (λ scope. Judges second (two scope)) p.kept q.judged));
        kept = q.kept ∙ p.kept;
      }

  -- three parts
  pub by_three : {B C D : Type 0} {first : Result B Refusal} {second : Result C Refusal} {third : Result D Refusal} {one : Scope → Option B} {two : Scope → Option C} {three : Scope → Option D}
      {middle later after : Scope} {r : Result A Refusal} (of : Option B → Option C → Option D → Option A) → found before ≡ of (one before) (two before) (three before)
      → Infers first one before middle → Infers second two middle later → Infers third three later after
      → ((o : Option B) (p : Option C) (q : Option D) → Judges first o → Judges second p → Judges third q → Judges r (of o p q)) → Infers r found before after
  by_three {second = second} {third = third} {one = one} {two = two} {three = three} {r = r} of is p q s then' =
      record {
        judged =
            subst (λ o. Judges r o) (sym is)
            (then' (one before) (two before) (three before) p.judged (subst (λ scope. Judges second (two scope)) p.kept q.judged)
            (subst (λ scope. Judges third (three scope)) (q.kept ∙ p.kept) s.judged));
        kept = s.kept ∙ q.kept ∙ p.kept;
      }

pub each : {A : Type 0} {r : Result (List A) Refusal} {found : Scope → Option (List A)} {before after : Scope} {n : ℕ} → InfersEach r found before after n → Infers r found before after
each p = record { judged = p.judged; kept = p.kept }

-- names that a block put behind the scope are taken off
pub within : {A : Type 0} {r : Result A Refusal} {found : Scope → Option A} {before after last : Scope} → InfersWithin r found before after → (n : ℕ) → n ≡ length before
    → last ≡ take n after → Infers r found before last
within {before = before} {after = after} p n is taken = record { judged = p.judged; kept = taken ∙ ap (λ n. take n after) is ∙ p.kept }
