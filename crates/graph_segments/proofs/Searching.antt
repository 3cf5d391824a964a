-- The search down the segments: its start, its steps and its end.
use Rattle.std.proofs.Common.{◌≡◌, ℕ, ◌+◌, ◌-◌, ◌<◌, ◌≤◌, ◌⊎◌, inl, inr, Bool, true, false, List, [], ◌∷◌, ◌++◌, length, get_or, set, slice_get, Some, refl, sym, ap, subst, ◌∙◌, arith}
use Rattle.std.specs.List.{Contains}
use Rattle.std.proofs.lemmas.Bool.{cases_eq, cases_lt}
use Rattle.std.proofs.lemmas.Option.{slice_get_within, slice_get-get_or}
use Rattle.command.specs.declared.command.Command.{Command}
use Rattle.command.specs.Ancestors.{Ancestor, IsAt, IsParent, IsUpTo}
use Rattle.command.specs.Ancestors.Ancestor.{Parent}
use Rattle.command.specs.Closed.{IsClosed, place_of}
use Rattle.command.specs.Kinds.{parents_of}
use Rattle.command.specs.Wire.{command_id}
use Rattle.command.proofs.AncestorFacts.{inside_down, trans}
use Rattle.command.proofs.PlaceFacts.{inside_at, older_first, one_place, place_at, place_is}
use Rattle.command.specs.Cuts.{cuts}
use Rattle.graph_segments.specs.Segments.{located, locations, segments, tables}
use Rattle.graph_segments.specs.working.Tables.{AreTables}
use Rattle.graph_segments.specs.working.Search.{IsFirst, IsLooked, IsMarked, IsMet, IsMetBy, IsSearched}
use Rattle.graph_segments.specs.declared.tables.Location.{Location}
use Rattle.graph_segments.specs.declared.tables.Segment.{Segment}
use Rattle.graph_segments.proofs.Slots.{one_slot}
use Rattle.graph_segments.proofs.Standing.{cut_lower, location_at, tables_stand}

-- the parents of the first command of a segment stand in earlier ones
pub parents_within : (cs : List Command) → IsClosed cs → (number : ℕ) (seg : Segment) (x : Command) → IsFirst cs number seg x → (id : List ℕ) (place : ℕ) (at : Location) → Contains (parents_of x) id → place_of cs id ≡ Some place →
    slice_get (locations cs) place ≡ Some at → at.segment < number
parents_within cs closed number seg x first id place at link there is =
    let stand = tables_stand cs closed in
    let found = place_at cs id place there in
    let e : IsParent cs found.0 x = record { older = inside_at cs place found.0 found.1; newer = inside_at cs seg.first x first.at; link = subst (λ i. Contains (parents_of x) i) (sym found.2) link } in
    (stand.linked seg.first place x found.0 (located number 0) at first.at found.1 e (stand.segment number seg first.segment).first is).out refl

module _ (cs : List Command) (closed : IsClosed cs) (old : Location) (older newer : ℕ) (last : ℕ) where
  abbrev limit : ℕ
  limit = get_or (cuts cs) older 0

  stand : AreTables cs (tables cs)
  stand = tables_stand cs closed

  -- a parent by its id
  parent_at : (p q : ℕ) (x : Command) (id : List ℕ) → IsAt cs p x → Contains (parents_of x) id → place_of cs id ≡ Some q → (m : Command) × IsAt cs q m × IsParent cs m x
  parent_at p q x id at link is =
      let found = place_at cs id q is in
      (found.0, found.1, record { older = inside_at cs q found.0 found.1; newer = inside_at cs p x at; link = subst (λ i. Contains (parents_of x) i) (sym found.2) link })

  above : (y m z : Command) → IsParent cs m z → IsUpTo cs y z → IsUpTo cs y m
  above y m z e up = elim up [ inl same ↦ inr (Parent (subst (λ w. IsParent cs m w) same e)) | inr further ↦ inr (trans cs m z y (Parent e) further) ]

  -- what is in a segment is at or behind its first command
  first_below : (number : ℕ) (seg : Segment) (x : Command) → IsFirst cs number seg x → (p : ℕ) (z : Command) (at : Location) → IsAt cs p z → slice_get (locations cs) p ≡ Some at → at.segment ≡ number → IsUpTo cs z x
  first_below number seg x first p z at here is same =
      let there = (stand.segment number seg first.segment).first in
      stand.chained p seg.first z x at (located number 0) here first.at is there same (omega arith)

  -- one segment is looked at
  pub stepped : (number : ℕ) (marks next : List Bool) → 0 < number → IsSearched cs old limit newer last number marks → IsLooked cs old limit number marks next → IsSearched cs old limit newer last (number - 1) next
  stepped number marks next lt now look = record {
    size = look.size ∙ now.size;
    within = omega (arith, now.within);
    own = look.kept last now.own;
    up = λ k y marked newest. elim (look.only k marked) [
      | inl before ↦ now.up k y before newest
      | inr new ↦
          let seg = new.1.0 in
          let x = new.1.1 in
          let first = new.1.2 in
          let met = new.1.3 in
          let reached = now.up number y new.0 newest in
          let z = reached.1 in
          let same : reached.2.segment ≡ old.segment + number = reached.5.segment in
          let below = first_below (old.segment + number) seg x first reached.0 z reached.2 reached.3 reached.4 same in
          let up : IsUpTo cs y x = elim below [ inl one ↦ subst (λ w. IsUpTo cs y w) (sym one) reached.6 | inr a ↦ elim reached.6 [ inl one ↦ inr (subst (λ w. Ancestor cs x w) one a) | inr b ↦ inr (trans cs x z y a b) ] ] in
          let m = parent_at seg.first met.place x met.id first.at met.inside met.there in
          (met.place, m.0, met.at, m.1, met.located, met.met, above y m.0 x m.2 up)
    ];
    done = λ k seg x above_it marked first. elim (cases_eq k number) [
      | inl same ↦
          let here : IsFirst cs (old.segment + number) seg x = subst (λ n. IsFirst cs (old.segment + n) seg x) same first in
          elim (look.only k marked) [
            | inl before ↦ look.done (subst (λ n. IsMarked marks n) same before) seg x here
            | inr new ↦ look.done new.0 seg x here
          ]
      | inr differs ↦
          elim (look.only k marked) [
            | inl before ↦
                elim (now.done k seg x (omega (arith, above_it, differs, lt)) before first) [
                  | inl low ↦ inl low
                  | inr all ↦ inr (λ j met. look.kept j (all j met))
                ]
            | inr new ↦
                let met = new.1.3 in
                let link = parent_at new.1.0.first met.place new.1.1 met.id new.1.2.at met.inside met.there in
                let head = (stand.segment (old.segment + number) new.1.0 new.1.2.segment).first in
                let linked = stand.linked new.1.0.first met.place new.1.1 link.0 (located (old.segment + number) 0) met.at new.1.2.at link.1 link.2 head met.located in
                let less = linked.out refl in
                let is = met.met.segment in
                absurd (omega (arith, less, is, above_it, differs, lt))
          ]
    ];
  }

  -- what is found is an ancestor
  pub found : (number : ℕ) (marks : List Bool) (x y : Command) → older < newer → IsSearched cs old limit newer last number marks → IsAt cs older x → IsAt cs newer y → slice_get (locations cs) older ≡ Some old → IsMarked marks 0 → Ancestor cs x y
  found number marks x y lt now at there is marked =
      let reached = now.up 0 y marked there in
      let segment : reached.2.segment ≡ old.segment = let sum = reached.5.segment in omega (arith, sum) in
      let up : IsUpTo cs reached.1 x = stand.chained reached.0 older reached.1 x reached.2 old reached.3 at reached.4 is segment (reached.5.index refl) in
      let whole : IsUpTo cs y x = elim up [ inl one ↦ subst (λ w. IsUpTo cs y w) (sym one) reached.6 | inr a ↦ elim reached.6 [ inl one ↦ inr (subst (λ w. Ancestor cs x w) one a) | inr b ↦ inr (trans cs x reached.1 y a b) ] ] in
      elim whole [
        | inl same ↦ let both = one_place cs closed older newer y (subst (λ w. IsAt cs older w) same at) there in absurd (omega (arith, both, lt))
        | inr a ↦ a
      ]

  -- what can't have the older one as an ancestor, or is in a segment that is marked
  pub record IsPast (marks : List Bool) (z : Command) : Type 0 where
    pub place : ℕ
    pub at : Location
    pub here : IsAt cs place z
    pub is : slice_get (locations cs) place ≡ Some at
    pub which : (get_or (cuts cs) place 0 < limit) ⊎ ((at.segment < old.segment) ⊎ (((at.segment ≡ old.segment) × (at.index < old.index)) ⊎ ((k : ℕ) × (at.segment ≡ old.segment + k) × (0 < k) × IsMarked marks k)))

  past_down : (marks : List Bool) → IsSearched cs old limit newer last 0 marks → (IsMarked marks 0 → ⊥) → (m z : Command) → IsParent cs m z → IsPast marks z → IsPast marks m
  past_down marks now unmet m z e past =
      let q = e.older.0 in
      let there : IsAt cs q m = slice_get-get_or cs q m e.older.1 ∙ ap Some e.older.2 in
      let found = location_at cs closed q e.older.1 in
      let lower = cut_lower cs closed past.place q z m past.here there e in
      let linked = stand.linked past.place q z m past.at found.0 past.here there e past.is found.1 in
      let here : ((get_or (cuts cs) q 0 < limit) ⊎ ((found.0.segment < old.segment) ⊎ (((found.0.segment ≡ old.segment) × (found.0.index < old.index)) ⊎ ((k : ℕ) × (found.0.segment ≡ old.segment + k) × (0 < k) × IsMarked marks k)))) → IsPast marks m =
      λ w. record { place = q; at = found.0; here = there; is = found.1; which = w }
      in
      elim past.which [
        | inl low ↦ here (inl (omega (arith, low, lower)))
        | inr rest ↦ elim rest [
          | inl below ↦
              elim (cases_eq past.at.index 0) [
                | inl zero ↦ let out = linked.out zero in here (inr (inl (omega (arith, out, below))))
                | inr more ↦ let same = linked.inside more in here (inr (inl (omega (arith, same, below))))
              ]
          | inr rest ↦ elim rest [
            | inl beside ↦
                elim (cases_eq past.at.index 0) [
                  | inl zero ↦ let out = linked.out zero in let same = beside.0 in here (inr (inl (omega (arith, out, same))))
                  | inr more ↦ let index = linked.lower more in let less = beside.1 in here (inr (inr (inl (linked.inside more ∙ beside.0, omega (arith, index, less)))))
                ]
            | inr reached ↦
                elim (cases_eq past.at.index 0) [
                  | inr more ↦ here (inr (inr (inr (reached.0, linked.inside more ∙ reached.1, reached.2, reached.3))))
                  | inl zero ↦
                      let placed = stand.placed past.place past.at past.is in
                      let seg = placed.0 in
                      let first : IsFirst cs (old.segment + reached.0) seg z = record {
                        segment = ap (slice_get (segments cs)) (sym reached.1) ∙ placed.1;
                        at = ap (slice_get cs) (placed.2.first zero) ∙ past.here;
                      } in
                      elim (now.done reached.0 seg z reached.2 reached.3 first) [
                        | inl low ↦
                            let same : get_or (cuts cs) seg.first 0 ≡ get_or (cuts cs) past.place 0 = ap (λ k. get_or (cuts cs) k 0) (placed.2.first zero) in
                            here (inl (omega (arith, low, same, lower)))
                        | inr all ↦
                            let met : (k : ℕ) → IsMet old found.0 k → IsMarked marks k = λ k meets. all k (record {
                              id = command_id m;
                              inside = e.link;
                              place = q;
                              there = place_is cs closed q m there;
                              at = found.0;
                              located = found.1;
                              met = meets;
                            }) in
                            elim (cases_lt found.0.segment old.segment) [
                              | inl below ↦ here (inr (inl below))
                              | inr ge ↦
                                  elim (cases_eq found.0.segment old.segment) [
                                    | inl same ↦
                                        elim (cases_lt found.0.index old.index) [
                                          | inl less ↦ here (inr (inr (inl (same, less))))
                                          | inr at_least ↦ absurd (unmet (met 0 (record { segment = omega (arith, same); index = λ none. at_least })))
                                        ]
                                    | inr differs ↦
                                        let k = found.0.segment - old.segment in
                                        let sum : found.0.segment ≡ old.segment + k = omega (arith, ge) in
                                        let some : 0 < k = omega (arith, ge, differs) in
                                        here (inr (inr (inr (k, sum, some, met k (record { segment = sum; index = λ none. absurd (omega (arith, none, some)) })))))
                                  ]
                            ]
                      ]
                ]
          ]
        ]
      ]

  -- and at the end an ancestor is found
  never_past : (marks : List Bool) (x : Command) → IsAt cs older x → slice_get (locations cs) older ≡ Some old → IsPast marks x → ⊥
  never_past marks x at is past =
      let same = one_place cs closed past.place older x past.here at in
      let one : past.at ≡ old = one_slot (locations cs) older past.at old (ap (slice_get (locations cs)) (sym same) ∙ past.is) is in
      let segment : past.at.segment ≡ old.segment = ap (λ (a : Location). a.segment) one in
      let index : past.at.index ≡ old.index = ap (λ (a : Location). a.index) one in
      elim past.which [
        | inl low ↦ let cut : get_or (cuts cs) past.place 0 ≡ limit = ap (λ k. get_or (cuts cs) k 0) same in omega (arith, low, cut)
        | inr rest ↦ elim rest [
          | inl below ↦ omega (arith, below, segment)
          | inr rest ↦ elim rest [
            | inl beside ↦ let less = beside.1 in omega (arith, less, index)
            | inr reached ↦ let sum = reached.1 in let some = reached.2 in omega (arith, sum, some, segment)
          ]
        ]
      ]

  pub ended : (marks : List Bool) (x y : Command) (at : Location) → IsSearched cs old limit newer last 0 marks → IsAt cs older x → IsAt cs newer y → slice_get (locations cs) older ≡ Some old → slice_get (locations cs) newer ≡ Some at →
      at.segment ≡ old.segment + last → 0 < last → Ancestor cs x y → IsMarked marks 0
  ended marks x y at now there here is newest sum some a = by (get_or marks 0 false) refl
    where
      by : (b : Bool) → get_or marks 0 false ≡ b → get_or marks 0 false ≡ true
      by true met = met
      by false unmet =
          let past = inside_down cs (IsPast marks) (past_down marks now (λ met. let both : true ≡ false = sym met ∙ unmet in absurd cc)) x y a
          (record { place = newer; at = at; here = here; is = newest; which = inr (inr (inr (last, sum, some, now.own))) })
          in
          absurd (never_past marks x there is past)

  -- the start: the newer one's own segment
  pub begun : (marks : List Bool) (at : Location) → length marks ≡ last + 1 → ((k : ℕ) → IsMarked marks k → k ≡ last) → IsMarked marks last → slice_get (locations cs) newer ≡ Some at → at.segment ≡ old.segment + last → 0 < last →
      IsSearched cs old limit newer last last marks
  begun marks at size only own is sum some = record {
    size = size;
    within = omega arith;
    own = own;
    up = λ k y marked there. (newer, y, at, there, is, subst (λ n. IsMet old at n) (sym (only k marked)) (record { segment = sum; index = λ none. absurd (omega (arith, none, some)) }), inl refl);
    done = λ k seg x above_it marked. let same = only k marked in absurd (omega (arith, same, above_it));
  }

  -- what stands in an older segment
  abbrev IsOlder : Command → Type 0
  IsOlder z = (p : ℕ) × (at : Location) × IsAt cs p z × (slice_get (locations cs) p ≡ Some at) × (at.segment < old.segment)

  older_down : (m z : Command) → IsParent cs m z → IsOlder z → IsOlder m
  older_down m z e below =
      let q = e.older.0 in
      let there : IsAt cs q m = slice_get-get_or cs q m e.older.1 ∙ ap Some e.older.2 in
      let found = location_at cs closed q e.older.1 in
      let linked = stand.linked below.0 q z m below.1 found.0 below.2 there e below.3 found.1 in
      let less = below.4 in
      elim (cases_eq below.1.index 0) [
        | inl zero ↦ let out = linked.out zero in (q, found.0, there, found.1, omega (arith, out, less))
        | inr more ↦ let same = linked.inside more in (q, found.0, there, found.1, omega (arith, same, less))
      ]

  pub apart : (x y : Command) (at : Location) → IsAt cs older x → IsAt cs newer y → slice_get (locations cs) older ≡ Some old → slice_get (locations cs) newer ≡ Some at → at.segment < old.segment → Ancestor cs x y → ⊥
  apart x y at there here is newest less a =
      let below = inside_down cs IsOlder older_down x y a (newer, at, here, newest, less) in
      let same = one_place cs closed below.0 older x below.2 there in
      let one : below.1 ≡ old = one_slot (locations cs) older below.1 old (ap (slice_get (locations cs)) (sym same) ∙ below.3) is in
      let segment : below.1.segment ≡ old.segment = ap (λ (a : Location). a.segment) one in
      let lt = below.4 in
      omega (arith, lt, segment)

  -- a newer command in the same segment
  pub together : (x y : Command) (at : Location) → older < newer → IsAt cs older x → IsAt cs newer y → slice_get (locations cs) older ≡ Some old → slice_get (locations cs) newer ≡ Some at → at.segment ≡ old.segment → Ancestor cs x y
  together x y at lt there here is newest same =
      elim (cases_lt at.index old.index) [
        | inr le ↦
            elim (stand.chained newer older y x at old here there newest is same le) [
              | inl one ↦ let both = one_place cs closed older newer y (subst (λ w. IsAt cs older w) one there) here in absurd (omega (arith, both, lt))
              | inr a ↦ a
            ]
        | inl less ↦
            elim (stand.chained older newer x y old at there here is newest (sym same) (omega (arith, less))) [
              | inl one ↦ let both = one_place cs closed older newer y (subst (λ w. IsAt cs older w) (sym one) there) here in absurd (omega (arith, both, lt))
              | inr a ↦ absurd (older_first cs closed newer older y x here there (omega (arith, lt)) a)
            ]
      ]
