-- Gathering a closure, place by place.
use Rattle.std.proofs.Common.{◌≡◌, ℕ, ◌+◌, ◌<◌, ◌≤◌, ◌⊎◌, ◌↔◌, inl, inr, Bool, true, false, List, [], ◌∷◌, ◌++◌, length, take, get_or, slice_get, Option, Some, None, refl, sym, ap, subst, ◌∙◌, arith, eqb, add-one, length-append}
use Rattle.std.specs.List.{All, Contains, IsDistinct}
use Rattle.std.specs.Str.{bytes_eq}
use Rattle.std.proofs.Math.Seq.{take-suc}
use Rattle.std.proofs.lemmas.Bool.{cases_lt}
use Rattle.std.proofs.lemmas.List.{take-append-le, take_all}
use Rattle.std.proofs.lemmas.List.Elements.{All-contains, Contains-append_left, Contains-append_cases, Contains-get_or, Contains-push_cases}
use Rattle.std.proofs.lemmas.Map.Steps.{length-le_from_distinct_below}
use Rattle.std.proofs.lemmas.Option.{slice_get-get_or, slice_get_within}
use Rattle.command.specs.declared.command.Command.{Command}
use Rattle.command.specs.Ancestors.{Ancestor, IsAt, IsParent, IsUnder}
use Rattle.command.specs.Ancestors.Ancestor.{Parent, Further}
use Rattle.command.specs.Closed.{IsClosed, place_of}
use Rattle.command.specs.Kinds.{parents_of}
use Rattle.command.specs.Wire.{command_id}
use Rattle.command.proofs.AncestorFacts.{under_down}
use Rattle.command.proofs.PlaceFacts.{inside_at, place_at, position_of, take_one_more}
use Rattle.command.proofs.ClosedFacts.{bytes_of_same, same_by_id}
use Rattle.command.proofs.ListFacts.{none_element}
use Rattle.braid.specs.Bases.{IsRest}
use Rattle.braid.specs.working.Links.{IsLeftId, Skips}
use Rattle.braid.specs.working.Placing.{AddsWhere, IsAmong}
use Rattle.braid.proofs.Places.{tested}
use Rattle.command.proofs.KnownAncestors.{Known}
use Rattle.braid.proofs.UnderFacts.{under_known}
use Rattle.std.proofs.lemmas.Option.{same_Some}
use Rattle.braid.proofs.Additions.{found_place}
use Rattle.braid.proofs.PickOrder.{one_at}

pub past : (xs : List ℕ) (k : ℕ) → slice_get xs k ≡ None → length xs ≤ k
past xs k none = elim (cases_lt k (length xs)) [
  | inl lt ↦ let here = slice_get-get_or xs k 0 lt in let both : Some (get_or xs k 0) ≡ None = sym here ∙ none in absurd cc
  | inr ge ↦ ge
]

-- the places hold the tips and nothing outside of their closure, and with each of the first ones the parents
pub record Gathered (cs : List Command) (skip : ℕ → Bool) (bases tips : List ℕ) (seen : ℕ) (places : List ℕ) : Type 0 where
  pub begins : (p : ℕ) → Contains tips p → skip p ≡ false → Contains places p
  pub under : (p : ℕ) (z : Command) → Contains places p → IsAt cs p z → IsRest cs bases tips z
  pub within : (p : ℕ) → Contains places p → p < length cs
  pub parents : (p : ℕ) (m z : Command) → Contains (take seen places) p → IsAt cs p z → IsParent cs m z → ¬ IsUnder cs bases m → IsAmong cs places m
  pub few : seen ≤ length places

-- all elements, from each element
pub all_of : {X : Type 0} (P : X → Type 0) (xs : List X) → ((x : X) → Contains xs x → P x) → All P xs
all_of P xs each = λ k d lt. each (get_or xs k d) (Contains-get_or xs k d lt)

-- a command of a closed list has a place
pub place_of_member : (cs : List Command) → IsClosed cs → (m : Command) → Contains cs m → (p : ℕ) × IsAt cs p m × (place_of cs (command_id m) ≡ Some p)
place_of_member cs closed m inside =
    let found = position_of (λ c. bytes_eq (command_id m) (command_id c)) cs m inside (bytes_of_same (command_id m) (command_id m) refl) in
    let there = place_at cs (command_id m) found.0 found.1 in
    (found.0, subst (λ z. IsAt cs found.0 z) (same_by_id cs closed there.0 m (inside_at cs found.0 there.0 there.1) inside there.2) there.1, found.1)

-- elements of a list with one more of another
pub take_next : (xs : List ℕ) (k : ℕ) → k < length xs → take (k + 1) xs ≡ take k xs ++ get_or xs k 0 ∷ []
take_next xs k lt = rw add-one (take-suc xs k 0 lt)

-- a place that the test leaves holds a command under no base, and the other way round
pub left_under : (cs : List Command) (bases : List ℕ) (skip : ℕ → Bool) → Skips cs bases skip → (p : ℕ) (z : Command) → IsAt cs p z → skip p ≡ false → ¬ IsUnder cs bases z
left_under cs bases skip skips p z at left under = let out = (skips p z at).1 under in absurd cc

pub left_place : (cs : List Command) (bases : List ℕ) (skip : ℕ → Bool) → Skips cs bases skip → (p : ℕ) (z : Command) → IsAt cs p z → ¬ IsUnder cs bases z → skip p ≡ false
left_place cs bases skip skips p z at other = elim (tested (skip p)) [ inl out ↦ absurd (other ((skips p z at).0 out)) | inr left ↦ left ]

pub start : (cs : List Command) (skip : ℕ → Bool) (bases tips places : List ℕ) → Skips cs bases skip → All (λ p. p < length cs) tips → ((p : ℕ) → Contains places p ↔ (Contains tips p × (skip p ≡ false)))
    → Gathered cs skip bases tips 0 places
start cs skip bases tips places skips within same = record {
  begins = λ p h left. (same p).1 (h, left);
  under = λ p z h at. let both = (same p).0 h in ((p, both.0, (z, at, inl refl)), left_under cs bases skip skips p z at both.1);
  within = λ p h. All-contains (λ q. q < length cs) tips p within ((same p).0 h).0;
  parents = λ p m z h at e. absurd (none_element p h);
  few = omega arith;
}

-- distinct places of a list are no more than its commands
pub bounded : (cs : List Command) (places : List ℕ) → IsDistinct eqb places → ((p : ℕ) → Contains places p → p < length cs) → length places ≤ length cs
bounded cs places distinct within = length-le_from_distinct_below places (length cs) distinct (λ q h. within q (found_place places q h))

module _ (cs : List Command) (closed : IsClosed cs) (skip : ℕ → Bool) (bases tips : List ℕ) (skips : Skips cs bases skip) (seen : ℕ) (old : List ℕ) (now : Gathered cs skip bases tips seen old) where
  -- the parents of one place more
  pub further : (place : ℕ) (z : Command) (new : List ℕ) → slice_get old seen ≡ Some place → IsAt cs place z → AddsWhere (IsLeftId cs skip) cs (parents_of z) old new → Gathered cs skip bases tips (seen + 1) new
  further place z new here at adds = record {
    begins = λ p h left. grows p (now.begins p h left);
    under = λ p w h there. elim (cases p h) [
      | inl before ↦ now.under p w before there
      | inr after ↦
          let m = parent p after in
          subst (λ v. IsRest cs bases tips v) (one_at cs p m.0 w m.1 there) (under_down cs tips m.0 z (Parent m.2) (now.under place z inside at).0, left_under cs bases skip skips p m.0 m.1 m.3)
    ];
    within = λ p h. elim (cases p h) [
      | inl before ↦ now.within p before
      | inr after ↦ let m = parent p after in slice_get_within cs p m.0 m.1
    ];
    parents = λ p m w h there e left. elim (Contains-push_cases (take seen old) place p (subst (λ l. Contains l p) front h)) [
      | inl before ↦ let among = now.parents p m w before there e left in (among.0, grows among.0 among.1, among.2)
      | inr last ↦
          let spot = place_of_member cs closed m e.older in
          let same : w ≡ z = one_at cs place w z (subst (λ k. IsAt cs k w) (sym last) there) at in (
            spot.0,
            adds.has (command_id m) spot.0 (subst (λ v. Contains (parents_of v) (command_id m)) same e.link)
                (λ q is. let both : Some spot.0 ≡ Some q = sym spot.2 ∙ is in let one : spot.0 ≡ q = cc in subst (λ k. skip k ≡ false) one (left_place cs bases skip skips spot.0 m spot.1 left)) spot.2,
            spot.1,
          )
    ];
    few = longer;
  }
    where
      inside : Contains old place
      inside = inside_at old seen place here

      grows : (p : ℕ) → Contains old p → Contains new p
      grows p h = subst (λ l. Contains l p) (sym adds.grown) (Contains-append_left old adds.more p h)

      cases : (p : ℕ) → Contains new p → Contains old p ⊎ Contains adds.more p
      cases p h = Contains-append_cases old adds.more p (subst (λ l. Contains l p) adds.grown h)

      parent : (p : ℕ) → Contains adds.more p → (m : Command) × IsAt cs p m × IsParent cs m z × (skip p ≡ false)
      parent p h =
          let found = adds.only p h in
          let m = place_at cs found.0 p found.3 in
          (m.0, m.1, record { older = inside_at cs p m.0 m.1; newer = inside_at cs place z at; link = subst (λ i. Contains (parents_of z) i) (sym m.2) found.1 }, found.2 p found.3)

      room : seen < length old
      room = slice_get_within old seen place here

      front : take (seen + 1) new ≡ take seen old ++ place ∷ []
      front = ap (take (seen + 1)) adds.grown ∙ take-append-le (seen + 1) old adds.more (omega (arith, room)) ∙ take_one_more old seen place here

      longer : seen + 1 ≤ length new
      longer = subst (λ l. seen + 1 ≤ length l) (sym adds.grown) (omega (arith, room, length-append old adds.more))

  -- at the end they are the closure
  pub gathered : slice_get old seen ≡ None → (z : Command) → IsAmong cs old z ↔ IsRest cs bases tips z
  gathered none z = ((λ h. now.under h.0 z h.1 h.2), back)
    where
      all : take seen old ≡ old
      all = take_all seen old (past old seen none)

      down : (m w : Command) → IsParent cs m w → IsAmong cs old w → ¬ IsUnder cs bases m → IsAmong cs old m
      down m w e among left = now.parents among.0 m w (subst (λ l. Contains l among.0) (sym all) among.1) among.2 e left

      -- from a command down to z, which is left, all are left
      walk : (z w : Command) → Ancestor cs z w → ¬ IsUnder cs bases z → IsAmong cs old w → IsAmong cs old z
      walk z w (Parent e) left among = down z w e among left
      walk z w (Further {m = m} a e) left among = walk z m a left (down m w e among (λ u. left (under_down cs bases z m a u)))

      tip : (h : IsUnder cs tips z) → ¬ IsUnder cs bases h.2.0 → IsAmong cs old h.2.0
      tip h left = (h.0, now.begins h.0 h.1 (left_place cs bases skip skips h.0 h.2.0 h.2.1 left), h.2.1)

      back : IsRest cs bases tips z → IsAmong cs old z
      back r = let h = r.0 in elim h.2.2 [
        | inl same ↦ subst (λ v. IsAmong cs old v) (sym same) (tip h (λ u. r.1 (subst (λ v. IsUnder cs bases v) (sym same) u)))
        | inr above ↦ walk z h.2.0 above r.1 (tip h (λ u. r.1 (under_down cs bases z h.2.0 above u)))
      ]

-- there is such a test
pub some_skip : (cs : List Command) → IsClosed cs → (bases : List ℕ) → (skip : ℕ → Bool) × Skips cs bases skip
some_skip cs closed bases = ((λ place. test place), tells)
  where
    by : (o : Option Command) → ((x : Command) → o ≡ Some x → Known (IsUnder cs bases x)) → Bool
    by None known = false
    by (Some x) known = elim (known x refl) [ inl under ↦ true | inr other ↦ false ]

    known_at : (place : ℕ) (x : Command) → IsAt cs place x → Known (IsUnder cs bases x)
    known_at place x at = under_known cs closed bases x (inside_at cs place x at)

    test : ℕ → Bool
    test place = by (slice_get cs place) (known_at place)

    chosen : (x : Command) (k : Known (IsUnder cs bases x)) → (elim k [ inl under ↦ true | inr other ↦ false ] ≡ true) ↔ IsUnder cs bases x
    chosen x (inl under) = ((λ h. under), (λ h. refl))
    chosen x (inr other) = ((λ h. absurd cc), (λ h. absurd (other h)))

    by_tells : (o : Option Command) (known : (x : Command) → o ≡ Some x → Known (IsUnder cs bases x)) (x : Command) → o ≡ Some x → (by o known ≡ true) ↔ IsUnder cs bases x
    by_tells None known x is = absurd cc
    by_tells (Some y) known x is = subst (λ z. (by (Some y) known ≡ true) ↔ IsUnder cs bases z) (same_Some y x is) (chosen y (known y refl))

    tells : Skips cs bases (λ place. test place)
    tells place x at = by_tells (slice_get cs place) (known_at place) x at
