-- Whether a command is of a closure can be found out.
use Rattle.std.proofs.Common.{◌≡◌, ℕ, inl, inr, List, [], ◌∷◌, slice_get, Option, Some, None, refl, sym, subst, ◌∙◌}
use Rattle.std.specs.List.{Contains}
use Rattle.std.proofs.lemmas.Option.{same_Some}
use Rattle.command.specs.declared.command.Command.{Command}
use Rattle.command.specs.Ancestors.{IsAt, IsUnder, IsUpTo}
use Rattle.command.specs.Closed.{IsClosed}
use Rattle.command.proofs.KnownAncestors.{Known, ancestor_known, known_same}
use Rattle.command.proofs.ListFacts.{at_head, behind_head, head_cases, none_element}
use Rattle.command.proofs.PlaceFacts.{inside_at}

module _ (cs : List Command) (closed : IsClosed cs) where
  pub up_known : (tip x : Command) → Contains cs tip → Contains cs x → Known (IsUpTo cs tip x)
  up_known tip x there inside =
      elim (known_same cs closed x tip inside there) [
        | inl same ↦ inl (inl same)
        | inr other ↦
            elim (ancestor_known cs closed x tip inside there) [
              | inl above ↦ inl (inr above)
              | inr not_above ↦ inr (λ up. elim up [ inl same ↦ other same | inr above ↦ not_above above ])
            ]
      ]

  abbrev IsUnderPlace : ℕ → Command → Type 0
  IsUnderPlace place x = (tip : Command) × IsAt cs place tip × IsUpTo cs tip x

  place_known : (place : ℕ) (x : Command) → Contains cs x → Known (IsUnderPlace place x)
  place_known place x inside = by (slice_get cs place) refl
    where
      by : (o : Option Command) → slice_get cs place ≡ o → Known (IsUnderPlace place x)
      by None is = inr (λ t. let both : None ≡ Some t.0 = sym is ∙ t.1 in absurd cc)
      by (Some tip) is =
          elim (up_known tip x (inside_at cs place tip is) inside) [
            | inl up ↦ inl (tip, is, up)
            | inr not_up ↦ inr (λ t. not_up (subst (λ z. IsUpTo cs z x) (same_Some t.0 tip (sym t.1 ∙ is)) t.2))
          ]

  pub under_known : (tips : List ℕ) (x : Command) → Contains cs x → Known (IsUnder cs tips x)
  under_known [] x inside = inr (λ u. none_element u.0 u.1)
  under_known (place ∷ tips) x inside =
      elim (place_known place x inside) [
        | inl here ↦ inl (place, at_head place tips, here)
        | inr not_here ↦
            elim (under_known tips x inside) [
              | inl later ↦ inl (later.0, behind_head place tips later.0 later.1, later.2)
              | inr not_later ↦
                  inr
                  (λ u. elim (head_cases place tips u.0 u.1) [
                    | inl same ↦ not_here (subst (λ p. IsUnderPlace p x) (sym same) u.2)
                    | inr behind ↦ not_later (u.0, behind, u.2)
                  ])
            ]
      ]
