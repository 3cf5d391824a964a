-- Places without one, and the commands at places.
use Rattle.std.proofs.Common.{◌≡◌, ℕ, ◌⊎◌, inl, inr, Bool, true, false, ◌==◌, cond, not, List, [], ◌∷◌, ◌++◌, reverse, slice_get, Option, None, Some, refl, sym, ap, subst, ◌∙◌}
use Rattle.std.specs.List.{All, Contains}
use Rattle.std.proofs.lemmas.List.Sorted.{All-permutation, IsPermutation-reverse}
use Rattle.std.proofs.lemmas.Bool.Decides.{Decides-eqb}
use Rattle.std.proofs.lemmas.List.{reverse-append}
use Rattle.command.specs.declared.command.Command.{Command}
use Rattle.command.specs.Ancestors.{IsAt}
use Rattle.command.proofs.ListFacts.{at_head, behind_head, head_cases, none_element}
use Rattle.braid.specs.Braids.{picked}
use Rattle.braid.specs.working.Links.{left_of}
use Rattle.braid.specs.working.Placing.{IsAmong, struck}

kept_or_not : (b : Bool) (p q : ℕ) (more : List ℕ) → Contains (cond (not b) (p ∷ more) more) q → ((b ≡ false) × (p ≡ q)) ⊎ Contains more q
kept_or_not true p q more h = inr h
kept_or_not false p q more h = elim (head_cases p more q h) [ inl same ↦ inl (refl, same) | inr later ↦ inr later ]

kept_if_not : (b : Bool) (p : ℕ) (more : List ℕ) → b ≡ false → Contains (cond (not b) (p ∷ more) more) p
kept_if_not true p more is = absurd cc
kept_if_not false p more is = at_head p more

kept_behind : (b : Bool) (p q : ℕ) (more : List ℕ) → Contains more q → Contains (cond (not b) (p ∷ more) more) q
kept_behind true p q more h = h
kept_behind false p q more h = behind_head p more q h

is_not : (b : Bool) → (b ≡ true → ⊥) → b ≡ false
is_not true h = absurd (h refl)
is_not false h = refl

pub struck_was : (place : ℕ) (places : List ℕ) (q : ℕ) → Contains (struck place places) q → Contains places q × (q ≡ place → ⊥)
struck_was place [] q h = absurd (none_element q h)
struck_was place (p ∷ places) q h =
    elim (kept_or_not (p == place) p q (struck place places) h) [
      | inl here ↦ (subst (λ k. Contains (p ∷ places) k) here.1 (at_head p places), (λ same. let holds = (Decides-eqb p place).1 (here.1 ∙ same) in let fails = here.0 in absurd cc))
      | inr later ↦ let r = struck_was place places q later in (behind_head p places q r.0, r.1)
    ]

pub struck_has : (place : ℕ) (places : List ℕ) (q : ℕ) → Contains places q → (q ≡ place → ⊥) → Contains (struck place places) q
struck_has place [] q h differs = h
struck_has place (p ∷ places) q h differs =
    elim (head_cases p places q h) [
      | inl same ↦
          subst (λ k. Contains (struck place (p ∷ places)) k) same
          (kept_if_not (p == place) p (struck place places) (is_not (p == place) (λ holds. differs (sym same ∙ (Decides-eqb p place).0 holds))))
      | inr later ↦ kept_behind (p == place) p q (struck place places) (struck_has place places q later differs)
    ]

-- the command at the first place
pub picked_more : (cs : List Command) (place : ℕ) (places : List ℕ) (x : Command) → IsAt cs place x → picked cs (place ∷ places) ≡ x ∷ picked cs places
picked_more cs place places x at = rw at refl

picked_none : (cs : List Command) (place : ℕ) (places : List ℕ) → slice_get cs place ≡ None → picked cs (place ∷ places) ≡ picked cs places
picked_none cs place places is = rw is refl

-- what stands at places
pub picked_among : (cs : List Command) (places : List ℕ) (z : Command) → Contains (picked cs places) z → IsAmong cs places z
picked_among cs [] z h = absurd (none_element z h)
picked_among cs (place ∷ places) z h = by (λ k. picked_among cs places z k) (slice_get cs place) refl
  where
    later : IsAmong cs places z → IsAmong cs (place ∷ places) z
    later r = (r.0, behind_head place places r.0 r.1, r.2)

    by : (Contains (picked cs places) z → IsAmong cs places z) → (o : Option Command) → slice_get cs place ≡ o → IsAmong cs (place ∷ places) z
    by rest None is = later (rest (subst (λ l. Contains l z) (picked_none cs place places is) h))
    by rest (Some x) is =
        elim (head_cases x (picked cs places) z (subst (λ l. Contains l z) (picked_more cs place places x is) h)) [
          | inl same ↦ (place, at_head place places, is ∙ ap Some same)
          | inr behind ↦ later (rest behind)
        ]

pub among_picked : (cs : List Command) (places : List ℕ) (z : Command) → IsAmong cs places z → Contains (picked cs places) z
among_picked cs [] z h = absurd (none_element h.0 h.1)
among_picked cs (place ∷ places) z h = by (λ k. among_picked cs places z k) (slice_get cs place) refl
  where
    by : (IsAmong cs places z → Contains (picked cs places) z) → (o : Option Command) → slice_get cs place ≡ o → Contains (picked cs (place ∷ places)) z
    by rest None is =
        elim (head_cases place places h.0 h.1) [
          | inl same ↦ let there = h.2 in let both : None ≡ Some z = sym is ∙ ap (slice_get cs) same ∙ there in absurd cc
          | inr later ↦ subst (λ l. Contains l z) (sym (picked_none cs place places is)) (rest (h.0, later, h.2))
        ]
    by rest (Some x) is =
        elim (head_cases place places h.0 h.1) [
          | inl same ↦
              let both : Some x ≡ Some z = sym is ∙ ap (slice_get cs) same ∙ h.2 in
              let one : x ≡ z = cc in
              subst (λ l. Contains l z) (sym (picked_more cs place places x is)) (subst (λ w. Contains (x ∷ picked cs places) w) one (at_head x (picked cs places)))
          | inr later ↦ subst (λ l. Contains l z) (sym (picked_more cs place places x is)) (behind_head x (picked cs places) z (rest (h.0, later, h.2)))
        ]

-- a place that is put behind the others comes first when they are turned round
pub reverse_more : (places : List ℕ) (place : ℕ) → reverse (places ++ place ∷ []) ≡ place ∷ reverse places
reverse_more places place = reverse-append places (place ∷ [])

pub reversed_all : (P : ℕ → Type 0) (places : List ℕ) → All P places → All P (reverse places)
reversed_all P places all = All-permutation P places (reverse places) (IsPermutation-reverse places) all

-- ---- places that a test leaves

pub left_out : (skip : ℕ → Bool) (p : ℕ) (ps : List ℕ) → skip p ≡ true → left_of skip (p ∷ ps) ≡ left_of skip ps
left_out skip p ps is = rw is refl

pub left_in : (skip : ℕ → Bool) (p : ℕ) (ps : List ℕ) → skip p ≡ false → left_of skip (p ∷ ps) ≡ p ∷ left_of skip ps
left_in skip p ps is = rw is refl

pub tested : (b : Bool) → (b ≡ true) ⊎ (b ≡ false)
tested true = inl refl
tested false = inr refl

pub left_was : (skip : ℕ → Bool) (ps : List ℕ) (q : ℕ) → Contains (left_of skip ps) q → Contains ps q × (skip q ≡ false)
left_was skip [] q h = absurd (none_element q h)
left_was skip (p ∷ ps) q h =
    elim (tested (skip p)) [
      | inl out ↦ let r = left_was skip ps q (subst (λ l. Contains l q) (left_out skip p ps out) h) in (behind_head p ps q r.0, r.1)
      | inr stays ↦
          elim (head_cases p (left_of skip ps) q (subst (λ l. Contains l q) (left_in skip p ps stays) h)) [
            | inl same ↦ subst (λ k. Contains (p ∷ ps) k × (skip k ≡ false)) same (at_head p ps, stays)
            | inr later ↦ let r = left_was skip ps q later in (behind_head p ps q r.0, r.1)
          ]
    ]

pub left_has : (skip : ℕ → Bool) (ps : List ℕ) (q : ℕ) → Contains ps q → skip q ≡ false → Contains (left_of skip ps) q
left_has skip [] q h is = absurd (none_element q h)
left_has skip (p ∷ ps) q h is =
    elim (head_cases p ps q h) [
      | inl same ↦
          subst (λ l. Contains l q) (sym (left_in skip p ps (ap skip same ∙ is))) (subst (λ k. Contains (p ∷ left_of skip ps) k) same (at_head p (left_of skip ps)))
      | inr later ↦
          elim (tested (skip p)) [
            | inl out ↦ subst (λ l. Contains l q) (sym (left_out skip p ps out)) (left_has skip ps q later is)
            | inr stays ↦ subst (λ l. Contains l q) (sym (left_in skip p ps stays)) (behind_head p (left_of skip ps) q (left_has skip ps q later is))
          ]
    ]

pub left_append : (skip : ℕ → Bool) (ps qs : List ℕ) → left_of skip (ps ++ qs) ≡ left_of skip ps ++ left_of skip qs
left_append skip [] qs = refl
left_append skip (p ∷ ps) qs =
    elim (tested (skip p)) [
      | inl out ↦ left_out skip p (ps ++ qs) out ∙ left_append skip ps qs ∙ ap (λ l. l ++ left_of skip qs) (sym (left_out skip p ps out))
      | inr stays ↦ left_in skip p (ps ++ qs) stays ∙ ap (λ l. p ∷ l) (left_append skip ps qs) ∙ ap (λ l. l ++ left_of skip qs) (sym (left_in skip p ps stays))
    ]
