-- The heap of the commands that may come next: the start, one command more, and its links.
use Rattle.std.proofs.Common.{◌≡◌, ℕ, ◌+◌, ◌<◌, ◌≤◌, ◌↔◌, inl, inr, Bool, true, false, ◌==◌, if◌then◌else◌, List, [], ◌∷◌, ◌++◌, length, take, slice_get, get_or, Option, None, Some, refl, sym, ap, subst, ◌∙◌, arith, append-nil}
use Rattle.std.specs.List.{All, Contains}
use Rattle.std.specs.List.Sorted.{IsPermutation}
use Rattle.std.specs.Option.{IfSome}
use Rattle.std.proofs.lemmas.Bool.{cases_lt}
use Rattle.std.proofs.lemmas.List.Elements.{All-cons, All-contains, All-head, All-nil, All-push, All-tail}
use Rattle.std.proofs.lemmas.Option.{slice_get_within}
use Rattle.std.proofs.lemmas.List.Sorted.{All-permutation, IsPermutation-map, length_permutation}
use Rattle.command.specs.declared.command.Command.{Command}
use Rattle.command.specs.Ancestors.{IsAt, IsParent}
use Rattle.command.specs.Ancestors.Ancestor.{Parent}
use Rattle.command.specs.Closed.{IsClosed, place_of}
use Rattle.command.specs.Kinds.{is_finalize, is_merge, parents_of, priority_of}
use Rattle.command.specs.Wire.{command_id}
use Rattle.command.proofs.AncestorFacts.{not_itself}
use Rattle.command.proofs.ListFacts.{at_head, behind_head, head_cases, none_element}
use Rattle.command.proofs.PlaceFacts.{inside_at, one_place, place_at, place_is, take_one_more}
use Rattle.braid.specs.declared.closure.Links.{Links}
use Rattle.braid.specs.declared.turns.Turn.{Turn}
use Rattle.braid.specs.working.Links.{AreNumbers, IsClosureWith, Skips, left_of, listed, listed_links, parent_places, parents_left, parents_at, sum_of, times}
use Rattle.braid.specs.working.Placing.{IsBefore, IsFirst, IsFree, Placing, struck}
use Rattle.braid.specs.working.Turns.{IsSooner, IsTurn, Offers, Standing, spots, waiting}
use Rattle.braid.proofs.Additions.{is_parent_of, parent_is}
use Rattle.braid.proofs.Counts.{in_times, known_place, map_found, map_has, one_number, other_place, same_place, struck_none, struck_same, sum_found, sum_some, sum_struck, times_append, times_here, times_in, times_later, times_permutation}
use Rattle.braid.proofs.Numbers.{linked_sum, numbers_split}
use Rattle.braid.proofs.PickOrder.{command_at, not_before_itself, one_at}
use Rattle.braid.proofs.Gathering.{left_place, left_under}
use Rattle.braid.proofs.Places.{left_has, left_was, struck_has, struck_was}
use Rattle.braid.proofs.Progress.{began, take_merge, take_plain, whole}

-- a test of a count, as it comes out
if_zero : (w n : ℕ) → w ≡ 0 → (if w == 0 then n else 0) ≡ n
if_zero w n is = rw (same_place w 0 is) refl

if_some : (w n : ℕ) → (w ≡ 0 → ⊥) → (if w == 0 then n else 0) ≡ 0
if_some w n is = rw (other_place w 0 is) refl

either_zero : (b : Bool) (m n : ℕ) → m ≡ 0 → n ≡ 0 → m ≡ (if b then n else 0)
either_zero true m n e k = e ∙ sym k
either_zero false m n e k = e

one_put : (b : Bool) (t h r : ℕ) → t ≡ r → h ≡ 0 → (if b then t else 0) + h ≡ (if b then r else 0)
one_put true t h r e k = omega (arith, e, k)
one_put false t h r e k = omega (arith, k)

none_put : (b : Bool) (t h : ℕ) → t ≡ 0 → (if b then t else 0) + h ≡ h
none_put true t h e = omega (arith, e)
none_put false t h e = omega arith

both_put : (b : Bool) (t h n : ℕ) → h ≡ (if b then n else 0) → (if b then t else 0) + h ≡ (if b then n + t else 0)
both_put true t h n e = omega (arith, e)
both_put false t h n e = omega (arith, e)

more_put : (b : Bool) (h n t : ℕ) → t ≡ 0 → h ≡ (if b then n else 0) → h ≡ (if b then n + t else 0)
more_put true h n t none e = omega (arith, none, e)
more_put false h n t none e = e

-- the turn of a spot
turn_at : (turns : List Turn) (p : ℕ) → Contains (spots turns) p → (turn : Turn) × Contains turns turn × (turn.place ≡ p)
turn_at [] p h = absurd (none_element p h)
turn_at (turn ∷ turns) p h =
    elim (head_cases turn.place (spots turns) p h) [
      | inl same ↦ (turn, at_head turn turns, same)
      | inr later ↦ let r = turn_at turns p later in (r.0, behind_head turn turns r.0 r.1, r.2)
    ]

module _ (cs : List Command) (closed : IsClosed cs) (skip : ℕ → Bool) where
  -- links between places
  link_found : (q p : ℕ) → Contains (parents_left cs skip q) p → (y : Command) × (m : Command) × IsAt cs q y × IsAt cs p m × Contains (parents_of y) (command_id m) × (skip p ≡ false)
  link_found q p left = by (slice_get cs q) refl
    where
      h : Contains (parents_at cs q) p
      h = (left_was skip (parents_at cs q) p left).0

      by : (o : Option Command) → slice_get cs q ≡ o → (y : Command) × (m : Command) × IsAt cs q y × IsAt cs p m × Contains (parents_of y) (command_id m) × (skip p ≡ false)
      by None is = absurd (none_element p (subst (λ o. Contains (parent_places cs o) p) is h))
      by (Some y) is =
          let r = map_found (place_of cs) (parents_of y) p (subst (λ o. Contains (parent_places cs o) p) is h) in
          let m = place_at cs r.0 p r.2 in
          (y, m.0, is, m.1, subst (λ i. Contains (parents_of y) i) (sym m.2) r.1, (left_was skip (parents_at cs q) p left).1)

  link_has : (q p : ℕ) (y m : Command) → IsAt cs q y → IsAt cs p m → Contains (parents_of y) (command_id m) → skip p ≡ false → Contains (parents_left cs skip q) p
  link_has q p y m at there link left =
      left_has skip (parents_at cs q) p (subst (λ o. Contains (parent_places cs o) p) (sym at) (map_has (place_of cs) (parents_of y) (command_id m) p link (place_is cs closed p m there))) left

  -- where no link leads to a place, its command is free, and the other way round
  free_of : (remaining : List ℕ) (p : ℕ) → skip p ≡ false → waiting cs skip [] remaining p ≡ 0 → IsFree cs remaining p
  free_of remaining p left none z at child =
      let link = link_has child.1.0 p child.0 z child.1.2 at (is_parent_of (command_id z) child.0 child.2) left in
      let some = sum_some (λ q. times p (parents_left cs skip q)) remaining child.1.0 child.1.1 (in_times p (parents_left cs skip child.1.0) link) in
      absurd (omega (arith, none, some))

  of_free : (remaining : List ℕ) (p : ℕ) → IsFree cs remaining p → waiting cs skip [] remaining p ≡ 0
  of_free remaining p free =
      elim (cases_lt 0 (sum_of (λ q. times p (parents_left cs skip q)) remaining)) [
        | inl some ↦
            let found = sum_found (λ q. times p (parents_left cs skip q)) remaining some in
            let link = link_found found.0 p (times_in p (parents_left cs skip found.0) found.2) in
            absurd (free link.1 link.3 (link.0, (found.0, found.1, link.2), parent_is (command_id link.1) link.0 link.4))
        | inr few ↦ omega (arith, few)
      ]

  pub ready_free : (places children : List ℕ) (heap : List Turn) (remaining : List ℕ) → Standing cs skip places children heap [] remaining → (p : ℕ) → Contains (spots heap) p ↔ (Contains remaining p × IsFree cs remaining p)
  ready_free places children heap remaining now p = (to, fro)
    where
      to : Contains (spots heap) p → Contains remaining p × IsFree cs remaining p
      to h = elim (known_place (waiting cs skip [] remaining p) 0) [
        | inl none ↦
            let there = times_in p remaining (subst (λ n. 0 < n) (now.ready p ∙ if_zero (waiting cs skip [] remaining p) (times p remaining) none) (in_times p (spots heap) h)) in
            (there, free_of remaining p (now.left p there) none)
        | inr some ↦ absurd (omega (arith, in_times p (spots heap) h, now.ready p ∙ if_some (waiting cs skip [] remaining p) (times p remaining) some))
      ]

      fro : Contains remaining p × IsFree cs remaining p → Contains (spots heap) p
      fro h = times_in p (spots heap) (subst (λ n. 0 < n) (sym (now.ready p ∙ if_zero (waiting cs skip [] remaining p) (times p remaining) (of_free remaining p h.1))) (in_times p remaining h.0))

  -- one more of the commands of the closure was offered
  pub topped : (places children : List ℕ) (heap after : List Turn) (i place : ℕ) → slice_get places i ≡ Some place → get_or children i 0 ≡ waiting cs skip [] places place → Offers cs places i (get_or children i 0) heap after →
      ((p : ℕ) → times p (spots heap) ≡ (if waiting cs skip [] places p == 0 then times p (take i places) else 0)) → (p : ℕ) → times p (spots after) ≡ (if waiting cs skip [] places p == 0 then times p (take (i + 1) places) else 0)
  topped places children heap after i place at counted offers ready p =
      elim (known_place p place) [
        | inl same ↦
            let count : get_or children i 0 ≡ waiting cs skip [] places p = counted ∙ ap (waiting cs skip [] places) (sym same) in
            put ∙ ap (λ n. (if n == 0 then times p (place ∷ []) else 0) + times p (spots heap)) count
            ∙ both_put (waiting cs skip [] places p == 0) (times p (place ∷ [])) (times p (spots heap)) (times p (take i places)) (ready p) ∙ ap (λ n. if waiting cs skip [] places p == 0 then n else 0) (sym next)
        | inr differs ↦
            let none = times_later p place [] differs in
            put ∙ none_put (get_or children i 0 == 0) (times p (place ∷ [])) (times p (spots heap)) none
            ∙ more_put (waiting cs skip [] places p == 0) (times p (spots heap)) (times p (take i places)) (times p (place ∷ [])) none (ready p) ∙ ap (λ n. if waiting cs skip [] places p == 0 then n else 0) (sym next)
      ]
    where
      put : times p (spots after) ≡ (if get_or children i 0 == 0 then times p (place ∷ []) else 0) + times p (spots heap)
      put = offers.put place at p

      next : times p (take (i + 1) places) ≡ times p (take i places) + times p (place ∷ [])
      next = ap (times p) (take_one_more places i place at) ∙ times_append p (take i places) (place ∷ [])

  -- one child less of a parent, which was offered
  module _ (places children less : List ℕ) (heap after : List Turn) (number p : ℕ) (due remaining : List ℕ) (places_once : (q : ℕ) → times q places ≤ 1) (once : (q : ℕ) → times q remaining ≤ 1) (at : slice_get places number ≡ Some p) where
    pub released : ((k : ℕ) → (k ≡ number → ⊥) → get_or less k 0 ≡ get_or children k 0) → get_or less number 0 + 1 ≡ get_or children number 0 → Offers cs places number (get_or less number 0) heap after →
        Standing cs skip places children heap (p ∷ due) remaining → Standing cs skip places less after due remaining
    released kept fewer offers now = record {
      counted = λ k q there. elim (known_place k number) [
        | inl same ↦
            let both : Some q ≡ Some p = sym there ∙ ap (slice_get places) same ∙ at in
            let is : q ≡ p = cc in
            ap (λ n. get_or less n 0) same ∙ count ∙ ap (waiting cs skip due remaining) (sym is)
        | inr differs ↦ kept k differs ∙ now.counted k q there ∙ later q (λ e. differs (one_number places places_once k number q there (at ∙ ap Some (sym e))))
      ];
      ready = λ q. elim (known_place q p) [
        | inl same ↦ subst (λ r. times r (spots after) ≡ (if waiting cs skip due remaining r == 0 then times r remaining else 0)) (sym same) here
        | inr differs ↦
            offers.put p at q ∙ none_put (get_or less number 0 == 0) (times q (p ∷ [])) (times q (spots heap)) (times_later q p [] differs) ∙ now.ready q
            ∙ ap (λ n. if n == 0 then times q remaining else 0) (later q differs)
      ];
      turns = offers.turns now.turns;
      remain = λ q h. now.remain q (behind_head p due q h);
      left = now.left;
    }
      where
        count : get_or less number 0 ≡ waiting cs skip due remaining p
        count = omega (arith, fewer, now.counted number p at, times_here p p due refl)

        later : (q : ℕ) → (q ≡ p → ⊥) → waiting cs skip (p ∷ due) remaining q ≡ waiting cs skip due remaining q
        later q differs = ap (λ n. n + sum_of (λ r. times q (parents_left cs skip r)) remaining) (times_later q p due differs)

        waits : waiting cs skip (p ∷ due) remaining p ≡ 0 → ⊥
        waits none = omega (arith, none, times_here p p due refl)

        one : times p remaining ≡ 1
        one = let some = in_times p remaining (now.remain p (at_head p due)) in let most = once p in omega (arith, some, most)

        here : times p (spots after) ≡ (if waiting cs skip due remaining p == 0 then times p remaining else 0)
        here =
            offers.put p at p ∙ ap (λ n. (if n == 0 then times p (p ∷ []) else 0) + times p (spots heap)) count
            ∙ one_put (waiting cs skip due remaining p == 0) (times p (p ∷ [])) (times p (spots heap)) (times p remaining) (times_here p p [] refl ∙ sym one) (now.ready p ∙ if_some (waiting cs skip (p ∷ due) remaining p) (times p remaining) waits)

-- the turn of a command is put to the others
pub offered : (cs : List Command) (places : List ℕ) (number children : ℕ) (heap after : List Turn) (turn : Turn) → IsTurn cs places turn → turn.number ≡ number → children ≡ 0 → IsPermutation (turn ∷ heap) after → Offers cs places number children heap after
offered cs places number children heap after turn its is none more = record {
  turns = λ all. All-permutation (IsTurn cs places) (turn ∷ heap) after more (All-cons (IsTurn cs places) turn heap its all);
  put = λ place at p.
      let both : Some turn.place ≡ Some place = sym its.number ∙ ap (slice_get places) is ∙ at in
      let same : turn.place ≡ place = cc in
      sym (times_permutation p (spots (turn ∷ heap)) (spots after) (IsPermutation-map (λ t. t.place) (turn ∷ heap) after more))
      ∙ ap (λ q. times p (q ∷ spots heap)) same ∙ times_append p (place ∷ []) (spots heap) ∙ ap (λ n. n + times p (spots heap)) (sym (if_zero children (times p (place ∷ [])) none));
  length = let same = length_permutation (turn ∷ heap) after more in let one = if_zero children 1 none in omega (arith, same, one);
}

-- some commands remain, of which those in the heap may come next
pub record Going (cs : List Command) (skip : ℕ → Bool) (bases tips places children : List ℕ) (heap : List Turn) (placed : List ℕ) : Type 0 where
  pub remaining : List ℕ
  pub standing : Standing cs skip places children heap [] remaining
  pub placing : Placing cs bases tips remaining (spots heap) placed
  pub once : (p : ℕ) → times p remaining ≤ 1

module _ (cs : List Command) (closed : IsClosed cs) (skip : ℕ → Bool) (bases tips places children : List ℕ) (skips : Skips cs bases skip) (heap : List Turn) (placed : List ℕ) (now : Going cs skip bases tips places children heap placed) where
  -- where no turn is in the heap, the braid is whole
  pub ended : length heap ≡ 0 → spots heap ≡ []
  ended none = empty heap none
    where
      empty : (turns : List Turn) → length turns ≡ 0 → spots turns ≡ []
      empty [] is = refl
      empty (turn ∷ turns) is = absurd (omega (arith, is))

  module _ (turn : Turn) (after : List Turn) (taken : IsPermutation heap (turn ∷ after)) where
    place : ℕ
    place = turn.place

    pub its_turn : IsTurn cs places turn
    its_turn = All-head (IsTurn cs places) turn after (All-permutation (IsTurn cs places) heap (turn ∷ after) taken now.standing.turns)

    counts : (p : ℕ) → times p (spots heap) ≡ times p (turn.place ∷ spots after)
    counts p = times_permutation p (spots heap) (turn.place ∷ spots after) (IsPermutation-map (λ t. t.place) heap (turn ∷ after) taken)

    among : Contains (spots heap) turn.place
    among = times_in turn.place (spots heap) (omega (arith, counts turn.place, times_here turn.place turn.place (spots after) refl))

    remains : Contains now.remaining turn.place × IsFree cs now.remaining turn.place
    remains = (ready_free cs closed skip places children heap now.remaining now.standing turn.place).0 among

    one : times turn.place now.remaining ≡ 1
    one = let some = in_times turn.place now.remaining remains.0 in let most = now.once turn.place in omega (arith, some, most)

    its_command : (y : Command) × IsAt cs turn.place y
    its_command = command_at cs turn.place (now.placing.within turn.place remains.0)

    parents_remain : (p : ℕ) → Contains (parents_left cs skip turn.place) p → Contains (struck turn.place now.remaining) p
    parents_remain p h =
        let link = link_found cs closed skip turn.place p h in
        let e : IsParent cs link.1 link.0 = record { older = inside_at cs p link.1 link.3; newer = inside_at cs turn.place link.0 link.2; link = link.4 } in
        let there = now.placing.down link.1 link.0 e (turn.place, remains.0, link.2) (left_under cs bases skip skips p link.1 link.3 link.5) in
        struck_has turn.place now.remaining p (subst (λ k. Contains now.remaining k) (one_place cs closed there.0 p link.1 there.2 link.3) there.1)
        (λ same. not_itself cs closed link.0 (Parent (subst (λ z. IsParent cs z link.0) (one_at cs turn.place link.1 link.0 (subst (λ k. IsAt cs k link.1) same link.3) link.2) e)))

    waits_same : (p : ℕ) → waiting cs skip [] now.remaining p ≡ waiting cs skip (parents_left cs skip turn.place) (struck turn.place now.remaining) p
    waits_same p = let split = sum_struck (λ q. times p (parents_left cs skip q)) turn.place now.remaining one in omega (arith, split)

    -- the turn is out of the heap, and its links are to be taken off
    pub popped : Standing cs skip places children after (parents_left cs skip turn.place) (struck turn.place now.remaining)
    popped = record {
      counted = λ k p at. now.standing.counted k p at ∙ waits_same p;
      ready = λ p. elim (known_place p turn.place) [
        | inl same ↦
            subst (λ q. times q (spots after) ≡ (if waiting cs skip (parents_left cs skip turn.place) (struck turn.place now.remaining) q == 0 then times q (struck turn.place now.remaining) else 0)) (sym same)
            (either_zero (waiting cs skip (parents_left cs skip turn.place) (struck turn.place now.remaining) turn.place == 0) (times turn.place (spots after)) (times turn.place (struck turn.place now.remaining)) gone (struck_none turn.place now.remaining))
        | inr differs ↦
            sym (times_later p turn.place (spots after) differs) ∙ sym (counts p) ∙ now.standing.ready p ∙ ap (λ n. if n == 0 then times p now.remaining else 0) (waits_same p)
            ∙ ap (λ n. if waiting cs skip (parents_left cs skip turn.place) (struck turn.place now.remaining) p == 0 then n else 0) (sym (struck_same p turn.place now.remaining differs))
      ];
      turns = All-tail (IsTurn cs places) turn after (All-permutation (IsTurn cs places) heap (turn ∷ after) taken now.standing.turns);
      remain = parents_remain;
      left = λ p h. now.standing.left p (struck_was turn.place now.remaining p h).0;
    }
      where
        gone : times turn.place (spots after) ≡ 0
        gone =
            let here = counts turn.place ∙ times_here turn.place turn.place (spots after) refl in
            let free = of_free cs closed skip now.remaining turn.place remains.1 in
            let all = now.standing.ready turn.place ∙ if_zero (waiting cs skip [] now.remaining turn.place) (times turn.place now.remaining) free in
            omega (arith, here, all, one)

    pub struck_once : (p : ℕ) → times p (struck turn.place now.remaining) ≤ 1
    struck_once p = elim (known_place p turn.place) [
      | inl same ↦ subst (λ q. times q (struck turn.place now.remaining) ≤ 1) (sym same) (omega (arith, struck_none turn.place now.remaining))
      | inr differs ↦ omega (arith, struck_same p turn.place now.remaining differs, now.once p)
    ]

    is_first : All (λ other. IsSooner other turn → ⊥) after → IsFirst cs (spots heap) turn.place
    is_first lowest = record {
      among = among;
      lowest = λ x y there here h.
          elim (head_cases turn.place (spots after) there.0 (times_in there.0 (turn.place ∷ spots after) (subst (λ n. 0 < n) (counts there.0) (in_times there.0 (spots heap) there.1)))) [
            | inl same ↦ not_before_itself x (subst (λ z. IsBefore x z) (one_at cs turn.place y x here (subst (λ k. IsAt cs k x) (sym same) there.2)) h)
            | inr later ↦
                let t = turn_at after there.0 later in
                let its = All-contains (IsTurn cs places) after t.0 (All-tail (IsTurn cs places) turn after (All-permutation (IsTurn cs places) heap (turn ∷ after) taken now.standing.turns)) t.1 in
                let at : IsAt cs t.0.place x = subst (λ k. IsAt cs k x) (sym t.2) there.2 in
                All-contains (λ other. IsSooner other turn → ⊥) after t.0 lowest t.1 (sooner t.0 x y (its.merge x at) (its.finalize x at) (its.priority x at) (its.id x at) here h)
          ];
    }
      where
        sooner : (t : Turn) (x y : Command) → t.is_merge ≡ is_merge x → t.is_finalize.0 ≡ is_finalize x → t.priority.0 ≡ priority_of x → t.id ≡ command_id x → IsAt cs turn.place y → IsBefore x y → IsSooner t turn
        sooner t x y m f p i here h = rw (m, f, p, i, its_turn.merge y here, its_turn.finalize y here, its_turn.priority y here, its_turn.id y here) h

    -- its links are taken off
    pub gone : All (λ other. IsSooner other turn → ⊥) after → (less : List ℕ) (last : List Turn) (then_placed : List ℕ) → Standing cs skip places less last [] (struck turn.place now.remaining) →
        then_placed ≡ (if turn.is_merge then placed else placed ++ turn.place ∷ []) → Going cs skip bases tips places less last then_placed
    gone lowest less last then_placed standing put = record {
      remaining = struck turn.place now.remaining;
      standing = standing;
      placing = by turn.is_merge refl;
      once = struck_once;
    }
      where
        free : (p : ℕ) → Contains (spots last) p ↔ (Contains (struck turn.place now.remaining) p × IsFree cs (struck turn.place now.remaining) p)
        free = ready_free cs closed skip places less last (struck turn.place now.remaining) standing

        by : (b : Bool) → turn.is_merge ≡ b → Placing cs bases tips (struck turn.place now.remaining) (spots last) then_placed
        by true is =
            subst (λ l. Placing cs bases tips (struck turn.place now.remaining) (spots last) l) (sym (put ∙ rw is refl))
            (take_merge cs closed bases tips now.remaining (spots heap) placed now.placing turn.place (is_first lowest) its_command.0 its_command.1 (sym (its_turn.merge its_command.0 its_command.1) ∙ is) (spots last) free)
        by false is =
            let grown : then_placed ≡ placed ++ turn.place ∷ [] = put ∙ rw is refl in
            take_plain cs closed bases tips now.remaining (spots heap) placed now.placing turn.place (is_first lowest) its_command.0 its_command.1 (sym (its_turn.merge its_command.0 its_command.1) ∙ is) (spots last) then_placed free grown
            (subst (λ l. All (λ p. p < length cs) l) (sym grown) (All-push (λ p. p < length cs) placed turn.place now.placing.done (now.placing.within turn.place remains.0)))

-- at the start all of the closure remains
pub started : (cs : List Command) → IsClosed cs → (skip : ℕ → Bool) (bases tips places : List ℕ) → Skips cs bases skip → (links : List Links) (children : List ℕ) (heap : List Turn) (placed : List ℕ) → IsClosureWith cs skip bases tips places links →
    ((k : ℕ) → get_or children k 0 ≡ sum_of (λ them. times k (listed_links them)) links) → (((k p : ℕ) → slice_get places k ≡ Some p → get_or children k 0 ≡ waiting cs skip [] places p) → ((p : ℕ) → Contains places p → skip p ≡ false) → Standing cs skip places children heap [] places) → placed ≡ [] →
    Going cs skip bases tips places children heap placed
started cs closed skip bases tips places skips links children heap placed whole counted tops none =
    subst (λ l. Going cs skip bases tips places children heap l) (sym none)
    (record {
      remaining = places;
      standing = standing;
      placing = began cs bases tips places (spots heap) (λ p h. All-contains (λ q. q < length cs) places p whole.within h) whole.under (ready_free cs closed skip places children heap places standing) (All-nil (λ q. q < length cs));
      once = whole.once;
    })
  where
    counts : (k p : ℕ) → slice_get places k ≡ Some p → get_or children k 0 ≡ waiting cs skip [] places p
    counts k p at = let both = linked_sum places whole.once k p at cs skip links places whole.linked in omega (arith, counted k, both)

    lefts : (p : ℕ) → Contains places p → skip p ≡ false
    lefts p h = let z = command_at cs p (All-contains (λ q. q < length cs) places p whole.within h) in left_place cs bases skip skips p z.0 z.1 ((whole.under z.0).0 (p, h, z.1)).1

    standing : Standing cs skip places children heap [] places
    standing = tops counts lefts

-- what taking off a link asks
pub asked : (cs : List Command) (skip : ℕ → Bool) (places children : List ℕ) (heap : List Turn) (due remaining : List ℕ) (number : Option ℕ) (ps : List ℕ) → AreNumbers places (listed number) ps → Standing cs skip places children heap (ps ++ due) remaining →
    IfSome number (λ k. (k < length places) × (0 < get_or children k 0))
asked cs skip places children heap due remaining None ps numbers now = tt
asked cs skip places children heap due remaining (Some k) [] numbers now = absurd numbers
asked cs skip places children heap due remaining (Some k) (p ∷ ps) numbers now =
    (slice_get_within places k p numbers.0, omega (arith, now.counted k p numbers.0, times_here p p (ps ++ due) refl))

-- a turn is taken, placed unless it is a merge's, and its links are taken off
pub stepped : (cs : List Command) → IsClosed cs → (skip : ℕ → Bool) (bases tips places children : List ℕ) → Skips cs bases skip → (heap : List Turn) (placed : List ℕ) → (now : Going cs skip bases tips places children heap placed) → ((q : ℕ) → times q places ≤ 1) → (turn : Turn) (after : List Turn) → (taken : IsPermutation heap (turn ∷ after)) →
    All (λ other. IsSooner other turn → ⊥) after → (them : Links) → AreNumbers places (listed_links them) (parents_left cs skip turn.place) → (mid less : List ℕ) (then_heap last : List Turn) (then_placed : List ℕ) →
    ((parents due remaining : List ℕ) → AreNumbers places (listed them.left) parents → ((q : ℕ) → times q places ≤ 1) → ((q : ℕ) → times q remaining ≤ 1) → Standing cs skip places children after (parents ++ due) remaining → Standing cs skip places mid then_heap due remaining) →
    ((parents due remaining : List ℕ) → AreNumbers places (listed them.right) parents → ((q : ℕ) → times q places ≤ 1) → ((q : ℕ) → times q remaining ≤ 1) → Standing cs skip places mid then_heap (parents ++ due) remaining → Standing cs skip places less last due remaining) →
    then_placed ≡ (if turn.is_merge then placed else placed ++ turn.place ∷ []) → Going cs skip bases tips places less last then_placed
stepped cs closed skip bases tips places children skips heap placed now places_once turn after taken lowest them numbers mid less then_heap last then_placed left right put =
    let split = numbers_split places (listed them.left) (listed them.right) (parents_left cs skip turn.place) numbers in
    let rest = struck turn.place now.remaining in
    let once = struck_once cs closed skip bases tips places children skips heap placed now turn after taken in
    let start = subst (λ l. Standing cs skip places children after l rest) split.2 (popped cs closed skip bases tips places children skips heap placed now turn after taken) in
    let half = left split.0 split.1 rest split.3 places_once once start in
    let end = right split.1 [] rest split.4 places_once once (subst (λ l. Standing cs skip places mid then_heap l rest) (sym (append-nil split.1)) half) in
    gone cs closed skip bases tips places children skips heap placed now turn after taken lowest less last then_placed end put

-- the number is the only one of a list
pub released_one : (cs : List Command) → IsClosed cs → (skip : ℕ → Bool) (places children less : List ℕ) (heap after : List Turn) (number : ℕ) (parents due remaining : List ℕ) → AreNumbers places (number ∷ []) parents → ((q : ℕ) → times q places ≤ 1) → ((q : ℕ) → times q remaining ≤ 1) →
    ((k : ℕ) → (k ≡ number → ⊥) → get_or less k 0 ≡ get_or children k 0) → get_or less number 0 + 1 ≡ get_or children number 0 → Offers cs places number (get_or less number 0) heap after →
    Standing cs skip places children heap (parents ++ due) remaining → Standing cs skip places less after due remaining
released_one cs closed skip places children less heap after number [] due remaining numbers places_once once kept fewer offers now = absurd numbers
released_one cs closed skip places children less heap after number (p ∷ []) due remaining numbers places_once once kept fewer offers now =
    released cs closed skip places children less heap after number p due remaining places_once once numbers.0 kept fewer offers now
released_one cs closed skip places children less heap after number (p ∷ q ∷ parents) due remaining numbers places_once once kept fewer offers now = absurd numbers.1
