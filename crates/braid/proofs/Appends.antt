-- The braid of a closure after an append.
use Rattle.std.proofs.Common.{◌≡◌, ℕ, zero, suc, ◌<◌, ◌↔◌, inl, inr, List, [], ◌∷◌, ◌++◌, length, slice_get, refl, sym, subst, ◌∙◌, arith}
use Rattle.std.specs.List.{All, Contains}
use Rattle.std.proofs.lemmas.List.Elements.{All-contains, Contains-append_left}
use Rattle.command.specs.declared.command.Command.{Command}
use Rattle.command.specs.Ancestors.{IsUnder, IsUpTo}
use Rattle.command.specs.Closed.{IsClosed}
use Rattle.command.proofs.AncestorFacts.{kept, older_inside, was}
use Rattle.command.proofs.PlaceFacts.{inside_at}
use Rattle.braid.specs.Agreeing.{Stays, StaysUnder}
use Rattle.braid.specs.Braids.{IsBraidOf}
use Rattle.braid.proofs.Agreement.{one_braid}
use Rattle.braid.proofs.Carrying.{same_braids}

-- what stands in the front stands there in the whole
front_at : (cs more : List Command) (place : ℕ) → place < length cs → slice_get (cs ++ more) place ≡ slice_get cs place
front_at [] more place lt = absurd (omega (arith, lt))
front_at (c ∷ cs) more zero lt = refl
front_at (c ∷ cs) more (suc place) lt = front_at cs more place (omega (arith, lt))

module _ (cs more : List Command) (longer : IsClosed (cs ++ more)) where
  -- commands that meet a condition before the append and another after it, all of them before it
  unmoved : (P Q : Command → Type 0) → ((x : Command) → P x → Contains cs x) → ((x : Command) → P x ↔ Q x) → (l : List Command) → IsBraidOf cs P l ↔ IsBraidOf (cs ++ more) Q l
  unmoved P Q inside same =
      same_braids cs (cs ++ more) P Q
      (record {
        same = λ x. (
          (λ h. (Contains-append_left cs more x h.0, (same x).0 h.1)),
          (λ h. let that = (same x).1 h.1 in (inside x that, that)),
        );
        agree = λ x y h k. (kept cs more x y, was cs more longer x y k.0);
      })

  up_same : (tip x : Command) → Contains cs tip → IsUpTo cs tip x ↔ IsUpTo (cs ++ more) tip x
  up_same tip x inside = (
    (λ up. elim up [ inl same ↦ inl same | inr above ↦ inr (kept cs more x tip above) ]),
    (λ up. elim up [ inl same ↦ inl same | inr above ↦ inr (was cs more longer x tip inside above) ]),
  )

  under_same : (tips : List ℕ) (x : Command) → All (λ place. place < length cs) tips → IsUnder cs tips x ↔ IsUnder (cs ++ more) tips x
  under_same tips x within = (
    (λ u. let at = front_at cs more u.0 (All-contains (λ place. place < length cs) tips u.0 within u.1) ∙ u.2.1 in
        (u.0, u.1, (u.2.0, at, (up_same u.2.0 x (inside_at cs u.0 u.2.0 u.2.1)).0 u.2.2))),
    (λ u. let at = sym (front_at cs more u.0 (All-contains (λ place. place < length cs) tips u.0 within u.1)) ∙ u.2.1 in
        (u.0, u.1, (u.2.0, at, (up_same u.2.0 x (inside_at cs u.0 u.2.0 at)).1 u.2.2))),
  )

up_inside : (cs : List Command) (tip x : Command) → Contains cs tip → IsUpTo cs tip x → Contains cs x
up_inside cs tip x inside up = elim up [ inl same ↦ subst (λ z. Contains cs z) (sym same) inside | inr above ↦ older_inside cs x tip above ]

pub stays : (cs : List Command) (f : Command) → IsClosed cs → Contains cs f → Stays cs f
stays cs f closed inside = record {
  one = λ a b. one_braid cs closed (IsUpTo cs f) a b;
  kept = λ more braid longer. unmoved cs more longer (IsUpTo cs f) (IsUpTo (cs ++ more) f) (λ x. up_inside cs f x inside) (λ x. up_same cs more longer f x inside) braid;
}

pub stays_under : (cs : List Command) (tips : List ℕ) → All (λ place. place < length cs) tips → StaysUnder cs tips
stays_under cs tips within = λ more braid longer.
    unmoved cs more longer (IsUnder cs tips) (IsUnder (cs ++ more) tips)
    (λ x u. up_inside cs u.2.0 x (inside_at cs u.0 u.2.0 u.2.1) u.2.2)
    (λ x. under_same cs more longer tips x within) braid
