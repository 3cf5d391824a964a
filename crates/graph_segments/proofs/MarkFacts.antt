-- Marks, step by step.
use Rattle.std.proofs.Common.{◌≡◌, ℕ, ◌+◌, ◌<◌, ◌≤◌, ◌⊎◌, inl, inr, Bool, true, false, List, [], ◌∷◌, ◌++◌, length, take, get_or, set, slice_get, Some, None, refl, sym, ap, subst, ◌∙◌, arith}
use Rattle.std.specs.List.{Contains}
use Rattle.std.proofs.lemmas.List.Elements.{Contains-append_left, Contains-push, Contains-push_cases}
use Rattle.command.specs.declared.command.Command.{Command}
use Rattle.command.specs.Ancestors.{IsAt}
use Rattle.command.specs.Closed.{place_of}
use Rattle.command.specs.Kinds.{parents_of}
use Rattle.command.proofs.ListFacts.{at_head, one_element}
use Rattle.command.proofs.PlaceFacts.{take_one_more}
use Rattle.command.specs.Cuts.{cuts}
use Rattle.graph_segments.specs.Segments.{locations, segments}
use Rattle.graph_segments.specs.working.Search.{IsFirst, IsLooked, IsMarked, IsMet, IsMetBy, Marks}
use Rattle.graph_segments.specs.declared.tables.Location.{Location}
use Rattle.graph_segments.specs.declared.tables.Segment.{Segment}
use Rattle.graph_segments.proofs.Slots.{one_slot}

pub marks_none : (P : ℕ → Type 0) (marks : List Bool) → ((k : ℕ) → P k → IsMarked marks k) → Marks P marks marks
marks_none P marks known = record { size = refl; kept = λ k h. h; has = known; only = λ k h. inl h }

pub marks_as : (P Q : ℕ → Type 0) (marks next : List Bool) → ((k : ℕ) → P k → Q k) → ((k : ℕ) → Q k → P k) → Marks P marks next → Marks Q marks next
marks_as P Q marks next to from m = record {
  size = m.size;
  kept = m.kept;
  has = λ k q. m.has k (from k q);
  only = λ k h. elim (m.only k h) [ inl before ↦ inl before | inr new ↦ inr (to k new) ];
}

pub marks_both : (P Q R : ℕ → Type 0) (marks mid next : List Bool) → ((k : ℕ) → R k → P k ⊎ Q k) → ((k : ℕ) → P k → R k) → ((k : ℕ) → Q k → R k) → Marks P marks mid → Marks Q mid next → Marks R marks next
marks_both P Q R marks mid next parts left right first second = record {
  size = second.size ∙ first.size;
  kept = λ k h. second.kept k (first.kept k h);
  has = λ k r. elim (parts k r) [ inl p ↦ second.kept k (first.has k p) | inr q ↦ second.has k q ];
  only = λ k h. elim (second.only k h) [ inl before ↦ elim (first.only k before) [ inl old ↦ inl old | inr new ↦ inr (left k new) ] | inr new ↦ inr (right k new) ];
}

module _ (cs : List Command) (old : Location) where
  met_as : (ids more : List (List ℕ)) (k : ℕ) (met : IsMetBy cs old ids k) → Contains more met.id → IsMetBy cs old more k
  met_as ids more k met inside = record { id = met.id; inside = inside; place = met.place; there = met.there; at = met.at; located = met.located; met = met.met }

  pub more_ids : (ids : List (List ℕ)) (i : ℕ) (id : List ℕ) → slice_get ids i ≡ Some id → (marks mid next : List Bool) →
      Marks (IsMetBy cs old (take i ids)) marks mid → Marks (IsMetBy cs old (id ∷ [])) mid next → Marks (IsMetBy cs old (take (i + 1) ids)) marks next
  more_ids ids i id at marks mid next first second =
      marks_both (IsMetBy cs old (take i ids)) (IsMetBy cs old (id ∷ [])) (IsMetBy cs old (take (i + 1) ids)) marks mid next
      (λ k met. elim (Contains-push_cases (take i ids) id met.id (subst (λ l. Contains l met.id) same met.inside)) [
        | inl before ↦ inl (met_as (take (i + 1) ids) (take i ids) k met before)
        | inr last ↦ inr (met_as (take (i + 1) ids) (id ∷ []) k met (subst (λ j. Contains (id ∷ []) j) last (at_head id [])))
      ])
      (λ k met. met_as (take i ids) (take (i + 1) ids) k met (subst (λ l. Contains l met.id) (sym same) (Contains-append_left (take i ids) (id ∷ []) met.id met.inside)))
      (λ k met. met_as (id ∷ []) (take (i + 1) ids) k met (subst (λ l. Contains l met.id) (sym same) (subst (λ j. Contains (take i ids ++ id ∷ []) j) (one_element id met.id met.inside) (Contains-push (take i ids) id))))
      first second
    where
      same : take (i + 1) ids ≡ take i ids ++ id ∷ []
      same = take_one_more ids i id at

  -- the one id
  pub reached : (id : List ℕ) (place : ℕ) (at : Location) (marks next : List Bool) → place_of cs id ≡ Some place → slice_get (locations cs) place ≡ Some at → Marks (IsMet old at) marks next → Marks (IsMetBy cs old (id ∷ [])) marks next
  reached id place at marks next there is m =
      marks_as (IsMet old at) (IsMetBy cs old (id ∷ [])) marks next
      (λ k met. record { id = id; inside = at_head id []; place = place; there = there; at = at; located = is; met = met })
      (λ k met.
      let same = one_element id met.id met.inside in
      let both : Some place ≡ Some met.place = sym there ∙ ap (place_of cs) same ∙ met.there in
      let one : place ≡ met.place = cc in
      let here : at ≡ met.at = one_slot (locations cs) place at met.at is (ap (slice_get (locations cs)) one ∙ met.located) in
      subst (λ a. IsMet old a k) (sym here) met.met)
      m

  pub reached_none : (id : List ℕ) (marks : List Bool) → place_of cs id ≡ None → Marks (IsMetBy cs old (id ∷ [])) marks marks
  reached_none id marks none = marks_none (IsMetBy cs old (id ∷ [])) marks (λ k met.
      let both : None ≡ Some met.place = sym none ∙ ap (place_of cs) (one_element id met.id met.inside) ∙ met.there in absurd cc)

  -- a segment that isn't marked, one whose first command's cut is too low, and one that is looked into
  pub unmarked : (limit number : ℕ) (marks : List Bool) → get_or marks number false ≡ false → IsLooked cs old limit number marks marks
  unmarked limit number marks is = record {
    size = refl;
    kept = λ k h. h;
    only = λ k h. inl h;
    done = λ marked seg x first. let both : true ≡ false = sym marked ∙ is in absurd cc;
  }

  pub too_low : (limit number : ℕ) (marks : List Bool) (seg : Segment) → slice_get (segments cs) (old.segment + number) ≡ Some seg → get_or (cuts cs) seg.first 0 ≤ limit → IsLooked cs old limit number marks marks
  too_low limit number marks seg is low = record {
    size = refl;
    kept = λ k h. h;
    only = λ k h. inl h;
    done = λ marked g x first. inl (subst (λ s. get_or (cuts cs) s.first 0 ≤ limit) (one_slot (segments cs) (old.segment + number) seg g is first.segment) low);
  }

  pub looked_into : (limit number : ℕ) (marks next : List Bool) (seg : Segment) (x : Command) → IsFirst cs (old.segment + number) seg x → IsMarked marks number → Marks (IsMetBy cs old (parents_of x)) marks next → IsLooked cs old limit number marks next
  looked_into limit number marks next seg x first marked m = record {
    size = m.size;
    kept = m.kept;
    only = λ k h. elim (m.only k h) [ inl before ↦ inl before | inr new ↦ inr (marked, (seg, x, first, new)) ];
    done = λ own g y other. inr (λ k met.
        let same : seg ≡ g = one_slot (segments cs) (old.segment + number) seg g first.segment other.segment in
        let one : x ≡ y = one_slot cs seg.first x y first.at (ap (λ (s : Segment). slice_get cs s.first) same ∙ other.at) in
        m.has k (subst (λ z. IsMetBy cs old (parents_of z) k) (sym one) met));
  }

-- what stands at a location, marked or not
module _ (old at : Location) (marks : List Bool) where
  pub below_none : at.segment < old.segment → Marks (IsMet old at) marks marks
  below_none lt = marks_none (IsMet old at) marks (λ k met. let sum = met.segment in absurd (omega (arith, sum, lt)))

  pub beside_none : at.segment ≡ old.segment → at.index < old.index → Marks (IsMet old at) marks marks
  beside_none same less = marks_none (IsMet old at) marks (λ k met.
      let sum = met.segment in
      let none : k ≡ 0 = omega (arith, sum, same) in
      let le = met.index none in
      absurd (omega (arith, le, less)))

  pub met_one : (next : List Bool) (number : ℕ) → at.segment ≡ old.segment + number → (number ≡ 0 → old.index ≤ at.index) → Marks (λ k. k ≡ number) marks next → Marks (IsMet old at) marks next
  met_one next number sum le m =
      marks_as (λ k. k ≡ number) (IsMet old at) marks next
      (λ k is. record { segment = sum ∙ ap (λ n. old.segment + n) (sym is); index = λ zero. le (sym is ∙ zero) })
      (λ k met. let other = met.segment in omega (arith, other, sum))
      m
