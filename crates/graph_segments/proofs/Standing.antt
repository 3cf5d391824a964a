-- The tables of a closed list.
use Rattle.std.proofs.Common.{◌≡◌, ℕ, ◌+◌, ◌<◌, inl, inr, List, [], ◌∷◌, ◌++◌, length, get_or, slice_get, Some, refl, sym, ap, subst, ◌∙◌, append_assoc, append-nil, arith}
use Rattle.std.proofs.lemmas.Option.{slice_get_within, slice_get-get_or}
use Rattle.std.specs.List.{Contains}
use Rattle.command.specs.declared.command.Command.{Command}
use Rattle.command.specs.Ancestors.{IsAt, IsParent}
use Rattle.command.specs.Ancestors.Ancestor.{Parent}
use Rattle.command.specs.Closed.{IsClosed, IsNext, place_of}
use Rattle.command.specs.Kinds.{parents_of}
use Rattle.command.specs.Wire.{command_id}
use Rattle.command.proofs.ListFacts.{each_before, each_last, from_end}
use Rattle.command.proofs.PlaceFacts.{inside_at, place_is, stands_before}
use Rattle.command.specs.Cuts.{cuts, number_at}
use Rattle.graph_segments.specs.Segments.{Tables, located, locations, tables, tables_from, with_next}
use Rattle.graph_segments.specs.working.Tables.{AreTables}
use Rattle.graph_segments.specs.declared.tables.Location.{Location}
use Rattle.graph_segments.proofs.CutFacts.{cut_end, cut_left, one_above_each}
use Rattle.graph_segments.proofs.Grown.{next_stands}
use Rattle.graph_segments.proofs.Slots.{slot_cases}

tables_behind : (front : List Command) (t : Tables) (cs : List Command) (c : Command) → tables_from front t (cs ++ c ∷ []) ≡ with_next (front ++ cs) (tables_from front t cs) (parents_of c)
tables_behind front t [] c = ap (λ l. with_next l t (parents_of c)) (sym (append-nil front))
tables_behind front t (x ∷ cs) c =
    let more = with_next front t (parents_of x) in
    tables_behind (front ++ x ∷ []) more cs c ∙ ap (λ l. with_next l (tables_from (front ++ x ∷ []) more cs) (parents_of c)) (append_assoc front (x ∷ []) cs)

pub tables_more : (cs : List Command) (c : Command) → tables (cs ++ c ∷ []) ≡ with_next cs (tables cs) (parents_of c)
tables_more cs c = tables_behind [] (record { locations = []; segments = [] }) cs c

pub tables_stand : (cs : List Command) → IsClosed cs → AreTables cs (tables cs)
tables_stand = from_end (λ cs. IsClosed cs → AreTables cs (tables cs))
    (λ closed. record {
      located = refl;
      few = omega arith;
      placed = λ place at is. absurd cc;
      segment = λ number seg is. absurd cc;
      linked = λ i j x m at parent there. absurd cc;
      chained = λ i j x z at older there. absurd cc;
    })
    (λ cs c before closed.
    let old = each_before IsNext cs c closed in
    subst (λ t. AreTables (cs ++ c ∷ []) t) (sym (tables_more cs c)) (next_stands cs old c (each_last IsNext cs c closed) (tables cs) (before old)))

-- where a command stands
pub location_at : (cs : List Command) → IsClosed cs → (p : ℕ) → p < length cs → (at : Location) × (slice_get (locations cs) p ≡ Some at)
location_at cs closed p lt =
    let size = (tables_stand cs closed).located in
    (get_or (locations cs) p (located 0 0), slice_get-get_or (locations cs) p (located 0 0) (omega (arith, size, lt)))

-- a parent's cut is lower
pub cut_lower : (cs : List Command) → IsClosed cs → (p q : ℕ) (x m : Command) → IsAt cs p x → IsAt cs q m → IsParent cs m x → get_or (cuts cs) q 0 < get_or (cuts cs) p 0
cut_lower = from_end (λ cs. IsClosed cs → (p q : ℕ) (x m : Command) → IsAt cs p x → IsAt cs q m → IsParent cs m x → get_or (cuts cs) q 0 < get_or (cuts cs) p 0)
    (λ closed p q x m at. absurd cc)
    (λ cs c before closed p q x m at there e.
    let old = each_before IsNext cs c closed in
    let less = stands_before (cs ++ c ∷ []) closed q p m x there at (Parent e) in
    elim (slot_cases cs c q m there) [
      | inr last ↦ absurd (omega (arith, last.0, less, inside cs c p x at))
      | inl under ↦
          let left = cut_left cs c q under.0 in
          elim (slot_cases cs c p x at) [
            | inl known ↦
                let same = cut_left cs c p known.0 in
                let lower = before old p q x m known.1 under.1 (record { older = inside_at cs q m under.1; newer = inside_at cs p x known.1; link = e.link }) in
                omega (arith, left, same, lower)
            | inr new ↦
                let link = subst (λ z. Contains (parents_of z) (command_id m)) (sym new.1) e.link in
                let above = one_above_each (λ id. number_at (cuts cs) (place_of cs id)) (parents_of c) (command_id m) link in
                let number : number_at (cuts cs) (place_of cs (command_id m)) ≡ get_or (cuts cs) q 0 = ap (number_at (cuts cs)) (place_is cs old q m under.1) in
                let own : get_or (cuts (cs ++ c ∷ [])) p 0 ≡ get_or (cuts (cs ++ c ∷ [])) (length cs) 0 = ap (λ k. get_or (cuts (cs ++ c ∷ [])) k 0) new.0 in
                let end = cut_end cs c in
                omega (arith, left, own, end, number, above)
          ]
    ])
  where
    inside : (cs : List Command) (c : Command) (p : ℕ) (x : Command) → IsAt (cs ++ c ∷ []) p x → p < length cs + 1
    inside cs c p x at = elim (slot_cases cs c p x at) [ inl known ↦ let lt = known.0 in omega (arith, lt) | inr new ↦ let same = new.0 in omega (arith, same) ]
