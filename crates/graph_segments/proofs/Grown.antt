-- The tables once a command is added.
use Rattle.std.proofs.Common.{◌≡◌, ℕ, ◌+◌, ◌<◌, ◌≤◌, ◌⊎◌, inl, inr, Bool, true, false, ◌||◌, max, List, [], ◌∷◌, ◌++◌, length, map, get_or, set, slice_get, Option, Some, None, refl, sym, ap, subst, ◌∙◌, arith, length-append, length-set}
use Rattle.std.specs.List.{Contains}
use Rattle.std.proofs.lemmas.Bool.{cases_eq}
use Rattle.std.proofs.lemmas.List.Elements.{Contains-append_left, Contains-push}
use Rattle.std.proofs.lemmas.Option.{get_or_from_slice_get, slice_get_within, slice_get-get_or}
use Rattle.command.specs.declared.command.Command.{Command}
use Rattle.command.specs.Ancestors.{Ancestor, IsAt, IsParent, IsUpTo}
use Rattle.command.specs.Ancestors.Ancestor.{Parent, Further}
use Rattle.command.specs.Closed.{IsClosed, IsHeld, IsNext, place_of}
use Rattle.command.specs.Kinds.{parents_of}
use Rattle.command.specs.Wire.{command_id}
use Rattle.command.proofs.AncestorFacts.{kept}
use Rattle.command.proofs.ClosedFacts.{bytes_of_same, by_left, by_right, held_by}
use Rattle.command.proofs.ListFacts.{at_head, each_more, from_end, one_element}
use Rattle.command.proofs.PlaceFacts.{held_place, inside_at, one_place, place_at, place_is, stands_before}
use Rattle.command.specs.Cuts.{cuts, next_cut, number_at, one_above}
use Rattle.graph_segments.specs.Segments.{Tables, begun, behind, goes_on, is_only, follows, located, longer, one_more, segment_of, tables, tables_from, with_next}
use Rattle.graph_segments.specs.working.Tables.{AreTables, IsLinked, IsPlaced, IsSegment}
use Rattle.graph_segments.specs.declared.tables.Location.{Location}
use Rattle.graph_segments.specs.declared.tables.Segment.{Segment}
use Rattle.graph_segments.proofs.CutFacts.{cut_end, cut_left, one_above_few}
use Rattle.graph_segments.proofs.Following.{IsBehind, goes_on_more, newest_ends, none_follows, only_one, some_follows}
use Rattle.graph_segments.proofs.Slots.{one_slot, slot_cases, slot_end, slot_left, slot_set_cases, slot_set_other, slot_set_same}

-- the cut of a command that is held
pub cut_few : (cs : List Command) (t : Tables) → AreTables cs t → (p : ℕ) → p < length cs → get_or (cuts cs) p 0 < length cs
cut_few cs t now p lt =
    let size = now.located in
    let at = slice_get-get_or t.locations p (located 0 0) (omega (arith, size, lt)) in
    let there = now.placed p (get_or t.locations p (located 0 0)) at in
    let seg = now.segment (get_or t.locations p (located 0 0)).segment there.0 there.1 in
    omega (arith, there.2.inside, there.2.cut, seg.cut)

module _ (cs : List Command) (closed : IsClosed cs) (c : Command) (next : IsNext cs c) (t : Tables) (now : AreTables cs t) where
  abbrev all : List Command
  all = cs ++ c ∷ []

  abbrev n : ℕ
  n = length cs

  abbrev cut : ℕ
  cut = next_cut cs (cuts cs) (parents_of c)

  whole : IsClosed all
  whole = each_more IsNext cs c closed next

  grown : length all ≡ n + 1
  grown = length-append cs (c ∷ [])

  -- its cut
  pub next_few : cut ≤ n
  next_few = one_above_few (λ id. number_at (cuts cs) (place_of cs id)) (parents_of c) n (λ id link.
      let p = held_place cs id (next.held id link) in
      let m = place_at cs id p.0 p.1 in
      let few = cut_few cs t now p.0 (slice_get_within cs p.0 m.0 m.1) in
      subst (λ o. number_at (cuts cs) o < n) (sym p.1) few)

  -- what stands at a place before it
  was_at : (p : ℕ) (x : Command) → p < n → IsAt all p x → IsAt cs p x
  was_at p x lt at = elim (slot_cases cs c p x at) [ inl old ↦ old.1 | inr new ↦ absurd (omega (arith, new.0, lt)) ]

  is_new : (p : ℕ) (x : Command) → p ≡ n → IsAt all p x → c ≡ x
  is_new p x same at = elim (slot_cases cs c p x at) [ inl old ↦ absurd (omega (arith, old.0, same)) | inr new ↦ new.1 ]

  old_link : (p q : ℕ) (x m : Command) → p < n → q < n → IsAt all p x → IsAt all q m → IsParent all m x → IsParent cs m x
  old_link p q x m lt less at there e = record { older = inside_at cs q m (was_at q m less there); newer = inside_at cs p x (was_at p x lt at); link = e.link }

  link_before : (p q : ℕ) (x m : Command) → IsAt all p x → IsAt all q m → IsParent all m x → q < p
  link_before p q x m at there e = stands_before all whole q p m x there at (Parent e)

  up_kept : (x z : Command) → IsUpTo cs x z → IsUpTo all x z
  up_kept x z up = elim up [ inl same ↦ inl same | inr above ↦ inr (kept cs (c ∷ []) z x above) ]

  -- a command goes on where it did
  still_on : (id : List ℕ) → goes_on cs id ≡ true → goes_on all id ≡ true
  still_on id on = goes_on_more cs c id ∙ by_left (goes_on cs id) (is_only id (parents_of c)) on

  -- and else where it is the parent of the new one
  not_on : (id : List ℕ) → goes_on cs id ≡ false → is_only id (parents_of c) ≡ false → goes_on all id ≡ false
  not_on id off other = goes_on_more cs c id ∙ ap (λ b. b || is_only id (parents_of c)) off ∙ other

  newest_off : (p : ℕ) (x : Command) → p ≡ n → IsAt all p x → goes_on all (command_id x) ≡ false
  newest_off p x same at = subst (λ z. goes_on all (command_id z) ≡ false) (is_new p x same at) (newest_ends cs c closed next)

  location_within : (p : ℕ) (at : Location) → slice_get t.locations p ≡ Some at → p < n
  location_within p at is = let lt = slice_get_within t.locations p at is in omega (arith, lt, now.located)

  segment_within : (p : ℕ) (at : Location) → slice_get t.locations p ≡ Some at → at.segment < length t.segments
  segment_within p at is = let there = now.placed p at is in slice_get_within t.segments at.segment there.0 there.1

  -- it begins a segment
  module _ (none : follows cs (parents_of c) ≡ None) where
    abbrev t' : Tables
    t' = begun t n cut

    abbrev own : Location
    own = located (length t.segments) 0

    begun_off : (x : Command) → Contains cs x → goes_on cs (command_id x) ≡ false → goes_on all (command_id x) ≡ false
    begun_off x inside off = not_on (command_id x) off (by (is_only (command_id x) (parents_of c)) refl)
      where
        by : (b : Bool) → is_only (command_id x) (parents_of c) ≡ b → is_only (command_id x) (parents_of c) ≡ false
        by false is = is
        by true is = let on = none_follows cs (parents_of c) (command_id x) none is (held_by cs x inside) in let both : true ≡ false = sym on ∙ off in absurd cc

    pub begun_stands : AreTables all t'
    begun_stands = record {
      located = length-append t.locations (own ∷ []) ∙ ap (λ k. k + 1) now.located ∙ sym grown;
      few = omega (arith, length-append t.segments (segment_of n n 1 cut ∷ []), now.few, grown);
      placed = λ p at is. elim (slot_cases t.locations own p at is) [
        | inl old ↦
            let there = now.placed p at old.1 in
            let lt = location_within p at old.1 in (
              there.0,
              slot_left t.segments (segment_of n n 1 cut ∷ []) at.segment there.0 there.1,
              record {
                inside = there.2.inside;
                first = there.2.first;
                ends = there.2.ends;
                cut = ap (λ k. k + there.0.len) (cut_left cs c p lt) ∙ there.2.cut;
                last = λ x here ends. begun_off x (inside_at cs p x (was_at p x lt here)) (there.2.last x (was_at p x lt here) ends);
                passed = λ x here passed. still_on (command_id x) (there.2.passed x (was_at p x lt here) passed);
              },
            )
        | inr new ↦
            let here : p ≡ n = new.0 ∙ now.located in
            subst (λ a. (seg : Segment) × (slice_get t'.segments a.segment ≡ Some seg) × IsPlaced all p a seg) new.1 (
              segment_of n n 1 cut,
              slot_end t.segments (segment_of n n 1 cut),
              record {
                inside = omega arith;
                first = λ zero. sym here;
                ends = λ same. refl;
                cut = ap (λ k. get_or (cuts all) k 0 + 1) here ∙ ap (λ k. k + 1) (cut_end cs c) ∙ omega arith;
                last = λ x at ends. newest_off p x here at;
                passed = λ x at passed. absurd (passed (sym here));
              },
            )
      ];
      segment = λ s seg is. elim (slot_cases t.segments (segment_of n n 1 cut) s seg is) [
        | inl old ↦
            let was = now.segment s seg old.1 in
            record { first = slot_left t.locations (own ∷ []) seg.first (located s 0) was.first; len = omega (arith, was.len, grown); cut = omega (arith, was.cut, grown) }
        | inr new ↦
            subst (λ g. IsSegment (length all) s t'.locations g) new.1
            (record {
              first = ap (λ k. slice_get t'.locations k) (sym now.located) ∙ slot_end t.locations own ∙ ap (λ k. Some (located k 0)) (sym new.0);
              len = omega (arith, grown);
              cut = omega (arith, grown, next_few);
            })
      ];
      linked = λ p q x m at parent here there e is other.
          let before = link_before p q x m here there e in
          elim (slot_cases t.locations own p at is) [
            | inl old ↦
                let lt = location_within p at old.1 in
                elim (slot_cases t.locations own q parent other) [
                  | inl known ↦ now.linked p q x m at parent (was_at p x lt here) (was_at q m (location_within q parent known.1) there) (old_link p q x m lt (location_within q parent known.1) here there e) old.1 known.1
                  | inr new ↦ absurd (omega (arith, new.0, now.located, before, lt))
                ]
            | inr new ↦
                elim (slot_cases t.locations own q parent other) [
                  | inl known ↦
                      subst (λ a. IsLinked a parent) new.1
                      (record { out = λ zero. segment_within q parent known.1; inside = λ more. absurd (more refl); lower = λ more. absurd (more refl) })
                  | inr last ↦ absurd (omega (arith, new.0, last.0, before))
                ]
          ];
      chained = λ p q x z at older here there is other same le. elim (slot_cases t.locations own p at is) [
        | inl old ↦
            elim (slot_cases t.locations own q older other) [
              | inl known ↦ up_kept x z (now.chained p q x z at older (was_at p x (location_within p at old.1) here) (was_at q z (location_within q older known.1) there) old.1 known.1 same le)
              | inr new ↦
                  let number : length t.segments ≡ older.segment = ap (λ (a : Location). a.segment) new.1 in
                  let less = segment_within p at old.1 in
                  absurd (omega (arith, number, less, same))
            ]
        | inr new ↦
            elim (slot_cases t.locations own q older other) [
              | inl known ↦
                  let number : length t.segments ≡ at.segment = ap (λ (a : Location). a.segment) new.1 in
                  let less = segment_within q older known.1 in
                  absurd (omega (arith, number, less, same))
              | inr last ↦ inl (sym (is_new q z (last.0 ∙ now.located) there) ∙ is_new p x (new.0 ∙ now.located) here)
            ]
      ];
    }

  -- it stands behind the last one of a segment
  module _ (parent : ℕ) (some : follows cs (parents_of c) ≡ Some parent) where
    pub follow : IsBehind cs (parents_of c) parent
    follow = some_follows cs (parents_of c) parent some

    pub up : (m : Command) × IsAt cs parent m × (command_id m ≡ follow.id)
    up = place_at cs follow.id parent follow.there

    abbrev m : Command
    m = up.0

    below : parent < n
    below = slice_get_within cs parent m up.1

    abbrev there : Location
    there = get_or t.locations parent (located 0 0)

    at_there : slice_get t.locations parent ≡ Some there
    at_there = slice_get-get_or t.locations parent (located 0 0) (let size = now.located in omega (arith, size, below))

    pub known : (seg : Segment) × (slice_get t.segments there.segment ≡ Some seg) × IsPlaced cs parent there seg
    known = now.placed parent there at_there

    abbrev old : Segment
    old = known.0

    is_old : get_or t.segments there.segment (segment_of 0 0 0 0) ≡ old
    is_old = get_or_from_slice_get t.segments there.segment old (segment_of 0 0 0 0) known.1

    own_id : goes_on cs (command_id m) ≡ false
    own_id = ap (goes_on cs) up.2 ∙ follow.first

    -- the parent is the last of its segment
    pub is_last : old.last ≡ parent
    is_last = elim (cases_eq old.last parent) [ inl same ↦ same | inr differs ↦ let both : true ≡ false = sym (known.2.passed m up.1 differs) ∙ own_id in absurd cc ]

    full : there.index + 1 ≡ old.len
    full = known.2.ends is_last

    -- the cut of the parent is that of its segment, and this one's is one more
    last_cut : get_or (cuts cs) parent 0 ≡ old.cut
    last_cut = let sum = known.2.cut in omega (arith, sum, full)

    pub next_is : cut ≡ old.cut + 1
    next_is =
        ap (λ l. one_above (map (λ id. number_at (cuts cs) (place_of cs id)) l)) follow.one
        ∙ ap (λ o. one_above (number_at (cuts cs) o ∷ [])) follow.there
        ∙ ap (λ k. one_above (k ∷ [])) last_cut
        ∙ omega arith

    abbrev made : Segment
    made = longer n cut old

    abbrev step : Location
    step = located there.segment (there.index + 1)

    abbrev longest : Tables
    longest = record { locations = t.locations ++ step ∷ []; segments = set t.segments there.segment made }

    same_as : behind t n cut there ≡ longest
    same_as = ap (λ g. record { locations = t.locations ++ step ∷ []; segments = set t.segments there.segment (longer n cut g) }) is_old

    link : IsParent all m c
    link = record {
      older = Contains-append_left cs (c ∷ []) m (inside_at cs parent m up.1);
      newer = Contains-push cs c;
      link = subst (λ i. Contains (parents_of c) i) (sym up.2) (subst (λ l. Contains l follow.id) (sym follow.one) (at_head follow.id []));
    }

    -- a command elsewhere has no child more
    behind_off : (p : ℕ) (x : Command) → IsAt cs p x → (p ≡ parent → ⊥) → goes_on cs (command_id x) ≡ false → goes_on all (command_id x) ≡ false
    behind_off p x at other off = not_on (command_id x) off (by (is_only (command_id x) (parents_of c)) refl)
      where
        by : (b : Bool) → is_only (command_id x) (parents_of c) ≡ b → is_only (command_id x) (parents_of c) ≡ false
        by false is = is
        by true is =
            let ids : command_id x ∷ [] ≡ follow.id ∷ [] = sym (only_one (command_id x) (parents_of c) is) ∙ follow.one in
            let id : command_id x ≡ follow.id = cc in
            let place : Some p ≡ Some parent = sym (place_is cs closed p x at) ∙ ap (place_of cs) id ∙ follow.there in
            let same : p ≡ parent = cc in
            absurd (other same)

    parent_on : (x : Command) → IsAt cs parent x → goes_on all (command_id x) ≡ true
    parent_on x at =
        let same : m ≡ x = one_slot cs parent m x up.1 at in
        let id : is_only (command_id x) (parents_of c) ≡ true = ap (is_only (command_id x)) follow.one ∙ bytes_of_same (command_id x) follow.id (ap command_id (sym same) ∙ up.2) in
        goes_on_more cs c (command_id x) ∙ by_right (goes_on cs (command_id x)) (is_only (command_id x) (parents_of c)) id

    in_made : (p : ℕ) (at : Location) → slice_get t.locations p ≡ Some at → at.segment ≡ there.segment → IsPlaced cs p at old
    in_made p at is same =
        let seg = now.placed p at is in
        let one : seg.0 ≡ old = one_slot t.segments there.segment seg.0 old (ap (slice_get t.segments) (sym same) ∙ seg.1) known.1 in
        subst (λ g. IsPlaced cs p at g) one seg.2

    placed_old : (p : ℕ) (at : Location) → slice_get t.locations p ≡ Some at → (seg : Segment) × (slice_get longest.segments at.segment ≡ Some seg) × IsPlaced all p at seg
    placed_old p at is =
        let lt = location_within p at is in
        elim (cases_eq at.segment there.segment) [
          | inl same ↦
              let was = in_made p at is same in
              let sum = was.cut in
              let inside = was.inside in (
                made,
                ap (slice_get longest.segments) same ∙ slot_set_same t.segments there.segment old made known.1,
                record {
                  inside = omega (arith, inside);
                  first = was.first;
                  ends = λ ends. absurd (omega (arith, ends, lt));
                  cut = ap (λ k. k + (old.len + 1)) (cut_left cs c p lt) ∙ omega (arith, sum, next_is);
                  last = λ x here ends. absurd (omega (arith, ends, lt));
                  passed = λ x here passed. elim (cases_eq p parent) [
                    | inl own_place ↦ parent_on x (subst (λ k. IsAt cs k x) own_place (was_at p x lt here))
                    | inr other ↦ still_on (command_id x) (was.passed x (was_at p x lt here) (λ last. other (sym last ∙ is_last)))
                  ];
                },
              )
          | inr differs ↦
              let seg = now.placed p at is in (
                seg.0,
                slot_set_other t.segments there.segment at.segment seg.0 made differs seg.1,
                record {
                  inside = seg.2.inside;
                  first = seg.2.first;
                  ends = seg.2.ends;
                  cut = ap (λ k. k + seg.0.len) (cut_left cs c p lt) ∙ seg.2.cut;
                  last = λ x here ends. behind_off p x (was_at p x lt here) (λ same. differs (ap (λ (a : Location). a.segment) (one_slot t.locations parent at there (ap (slice_get t.locations) (sym same) ∙ is) at_there))) (seg.2.last x (was_at p x lt here) ends);
                  passed = λ x here passed. still_on (command_id x) (seg.2.passed x (was_at p x lt here) passed);
                },
              )
        ]

    behind_stands' : AreTables all longest
    behind_stands' = record {
      located = length-append t.locations (step ∷ []) ∙ ap (λ k. k + 1) now.located ∙ sym grown;
      few = omega (arith, length-set t.segments there.segment made, now.few, grown);
      placed = λ p at is. elim (slot_cases t.locations step p at is) [
        | inl before ↦ placed_old p at before.1
        | inr new ↦
            let here : p ≡ n = new.0 ∙ now.located in
            let inside = known.2.inside in
            subst (λ a. (seg : Segment) × (slice_get longest.segments a.segment ≡ Some seg) × IsPlaced all p a seg) new.1 (
              made,
              slot_set_same t.segments there.segment old made known.1,
              record {
                inside = omega (arith, inside);
                first = λ zero. absurd (omega (arith, zero));
                ends = λ same. omega (arith, full);
                cut = ap (λ k. get_or (cuts all) k 0 + (old.len + 1)) here ∙ ap (λ k. k + (old.len + 1)) (cut_end cs c) ∙ omega (arith, full);
                last = λ x at ends. newest_off p x here at;
                passed = λ x at passed. absurd (passed (sym here));
              },
            )
      ];
      segment = λ s seg is. elim (slot_set_cases t.segments there.segment s seg made is) [
        | inl here ↦
            let was = now.segment there.segment old known.1 in
            subst (λ g. IsSegment (length all) s longest.locations g) here.1
            (record {
              first = slot_left t.locations (step ∷ []) old.first (located there.segment 0) was.first ∙ ap (λ k. Some (located k 0)) (sym here.0);
              len = omega (arith, was.len, grown);
              cut = omega (arith, grown, next_few);
            })
        | inr other ↦
            let was = now.segment s seg other.1 in
            record { first = slot_left t.locations (step ∷ []) seg.first (located s 0) was.first; len = omega (arith, was.len, grown); cut = omega (arith, was.cut, grown) }
      ];
      linked = λ p q x z at other here place e is is_other.
          let before = link_before p q x z here place e in
          elim (slot_cases t.locations step p at is) [
            | inl was ↦
                let lt = location_within p at was.1 in
                elim (slot_cases t.locations step q other is_other) [
                  | inl old_one ↦ now.linked p q x z at other (was_at p x lt here) (was_at q z (location_within q other old_one.1) place) (old_link p q x z lt (location_within q other old_one.1) here place e) was.1 old_one.1
                  | inr new ↦ absurd (omega (arith, new.0, now.located, before, lt))
                ]
            | inr new ↦
                elim (slot_cases t.locations step q other is_other) [
                  | inl old_one ↦
                      let lt = location_within q other old_one.1 in
                      let newest : c ≡ x = is_new p x (new.0 ∙ now.located) here in
                      let id : follow.id ≡ command_id z = one_element follow.id (command_id z) (subst (λ l. Contains l (command_id z)) (ap parents_of (sym newest) ∙ follow.one) e.link) in
                      let both : Some q ≡ Some parent = sym (place_is cs closed q z (was_at q z lt place)) ∙ ap (place_of cs) (sym id) ∙ follow.there in
                      let same : q ≡ parent = cc in
                      let one : other ≡ there = one_slot t.locations parent other there (ap (slice_get t.locations) (sym same) ∙ old_one.1) at_there in
                      subst (λ a. IsLinked a other) new.1
                      (record {
                        out = λ zero. absurd (omega (arith, zero));
                        inside = λ more. ap (λ (a : Location). a.segment) one;
                        lower = λ more. let index : other.index ≡ there.index = ap (λ (a : Location). a.index) one in omega (arith, index);
                      })
                  | inr last ↦ absurd (omega (arith, new.0, last.0, before))
                ]
          ];
      chained = λ p q x z at older here place is is_older same le. elim (slot_cases t.locations step p at is) [
        | inl was ↦
            elim (slot_cases t.locations step q older is_older) [
              | inl old_one ↦ up_kept x z (now.chained p q x z at older (was_at p x (location_within p at was.1) here) (was_at q z (location_within q older old_one.1) place) was.1 old_one.1 same le)
              | inr new ↦
                  let segment : there.segment ≡ older.segment = ap (λ (a : Location). a.segment) new.1 in
                  let index : there.index + 1 ≡ older.index = ap (λ (a : Location). a.index) new.1 in
                  let inside = (in_made p at was.1 (same ∙ sym segment)).inside in
                  absurd (omega (arith, index, inside, le, full))
            ]
        | inr new ↦
            let newest : c ≡ x = is_new p x (new.0 ∙ now.located) here in
            elim (slot_cases t.locations step q older is_older) [
              | inl old_one ↦
                  let segment : there.segment ≡ at.segment = ap (λ (a : Location). a.segment) new.1 in
                  let inside = (in_made q older old_one.1 (sym same ∙ sym segment)).inside in
                  let lt = location_within q older old_one.1 in
                  let above = now.chained parent q m z there older up.1 (was_at q z lt place) at_there old_one.1 (segment ∙ same) (omega (arith, inside, full)) in
                  subst (λ y. IsUpTo all y z) newest
                  (elim above [
                    | inl one ↦ inr (Parent (subst (λ y. IsParent all y c) (sym one) link))
                    | inr further ↦ inr (Further (kept cs (c ∷ []) z m further) link)
                  ])
              | inr last ↦ inl (sym (is_new q z (last.0 ∙ now.located) place) ∙ newest)
            ]
      ];
    }

    pub behind_stands : AreTables all (behind t n cut there)
    behind_stands = subst (λ u. AreTables all u) (sym same_as) behind_stands'

  pub next_stands : AreTables all (with_next cs t (parents_of c))
  next_stands = by (follows cs (parents_of c)) refl
    where
      by : (o : Option ℕ) → follows cs (parents_of c) ≡ o → AreTables all (one_more t n cut (follows cs (parents_of c)))
      by None is = subst (λ o. AreTables all (one_more t n cut o)) (sym is) (begun_stands is)
      by (Some parent) is = subst (λ o. AreTables all (one_more t n cut o)) (sym is) (behind_stands parent is)
