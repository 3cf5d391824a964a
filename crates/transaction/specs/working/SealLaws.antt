-- The laws that the desk owes of what it keeps: nothing rises by itself, and one rise after another is one. They stand here since the desk cites them.
use Rattle.std.proofs.Common.{◌≡◌, ℕ, ◌≤◌, ◌⊎◌, inl, inr, Option, Some, ◌∙◌, refl, sym, subst, le_refl, le_trans, arith}
use Rattle.outside.specs.Causes.{Rose}
use Rattle.transaction.specs.declared.fault.ActFault.{ActFault}
use Rattle.transaction.specs.declared.fault.ActFault.TheVariants as fault
use Rattle.transaction.specs.working.Sealing.{HasSealCause, SealRose}

pub rose_later : (a b c : ℕ) → Rose a b → b ≤ c → Rose a c
rose_later a b c rose later = omega (arith, rose, later)

pub rose_before : (a b c : ℕ) → a ≤ b → Rose b c → Rose a c
rose_before a b c before rose = omega (arith, rose, before)

-- the same refusal has the same cause
pub seal_stays : (old new : Option ActFault) (before now : ℕ) → new ≡ old → SealRose old new before now
seal_stays old new before now is = subst (λ z. SealRose old z before now) (sym is) (by old)
  where
    by : (o : Option ActFault) → SealRose o o before now
    by (Some fault.SealFault) = inl refl
    by other = tt

pub cause_itself : (old : Option ActFault) (count : ℕ) → HasSealCause old old count count
cause_itself old count = record { later = le_refl count; failed = seal_stays old old count count refl; same = λ none. (none, refl) }

pub cause_on : (a b c : Option ActFault) (first second third : ℕ) → HasSealCause a b first second → HasSealCause b c second third → HasSealCause a c first third
cause_on a b c first second third one two = record {
  later = le_trans one.later two.later;
  failed = by c two.failed;
  same = λ none. let last = two.same none in let front = one.same last.0 in (front.0, last.1 ∙ front.1);
}
  where
    from : (o : Option ActFault) → o ≡ Some fault.SealFault → SealRose a o first second → (a ≡ Some fault.SealFault) ⊎ Rose first third
    from o is rose =
        elim (subst (λ z. SealRose a z first second) is rose) [
          | inl before ↦ inl before
          | inr here ↦ inr (rose_later first second third here two.later)
        ]

    by : (c : Option ActFault) → SealRose b c second third → SealRose a c first third
    by (Some fault.SealFault) (inl before) = from b before one.failed
    by (Some fault.SealFault) (inr here) = inr (rose_before first second third one.later here)
    by other rose = tt
