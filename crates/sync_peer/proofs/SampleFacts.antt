-- Samples: how many ids they have, that each is held, and that none stands twice.
use Rattle.std.proofs.Common.{◌≡◌, ℕ, zero, suc, ◌+◌, ◌-◌, ◌<◌, ◌≤◌, inl, inr, Bool, true, false, List, [], ◌∷◌, ◌++◌, filter, length, map, nat_eq, nat_le, Option, Some, None, option_map, slice_get, refl, sym, ap, subst, ◌∙◌, arith, length-append}
use Rattle.std.specs.List.{All, Contains, cons_option, filter_map, list_any}
use Rattle.std.proofs.lemmas.Bool.{leb-true}
use Rattle.std.proofs.lemmas.List.{length-map}
use Rattle.std.proofs.lemmas.List.Elements.{All-cons, All-nil, Contains-push_cases, filter-append}
use Rattle.std.proofs.lemmas.List.Sums.{count_by-le-length, length-filter}
use Rattle.command.specs.Ancestors.{IsAt}
use Rattle.command.specs.Closed.{IsClosed, IsHeld, max_commands}
use Rattle.command.specs.Wire.{command_id}
use Rattle.command.specs.declared.command.Command.{Command}
use Rattle.command.proofs.ClosedFacts.{held_by, same_by_id}
use Rattle.command.proofs.ListFacts.{at_head, behind_head, head_cases, none_element}
use Rattle.command.proofs.PlaceFacts.{inside_at, one_place}
use Rattle.command.proofs.ReachFacts.{any_of}
use Rattle.sync_peer.specs.Laws.{AreDistinct, IsSmallSample}
use Rattle.sync_peer.specs.Samples.{distances, doubled, ids_at, last_places, sample_places, with_first}

-- ---- each id is held

id_held : (cs : List Command) (o : Option Command) → ((c : Command) → o ≡ Some c → IsHeld cs (command_id c)) → (ids : List (List ℕ)) → All (IsHeld cs) ids →
    All (IsHeld cs) (cons_option (option_map command_id o) ids)
id_held cs None held ids all = all
id_held cs (Some c) held ids all = All-cons (IsHeld cs) (command_id c) ids (held c refl) all

pub ids_held : (cs : List Command) (places : List ℕ) → All (IsHeld cs) (ids_at cs places)
ids_held cs [] = All-nil (IsHeld cs)
ids_held cs (place ∷ places) = id_held cs (slice_get cs place) (λ c is. held_by cs c (inside_at cs place c is)) (ids_at cs places) (ids_held cs places)

-- ---- there are few

option_few : {X : Type 0} (o : Option X) (xs : List X) (n : ℕ) → length xs ≤ n → length (cons_option o xs) ≤ n + 1
option_few None xs n few = omega (arith, few)
option_few (Some x) xs n few = omega (arith, few)

pub map_few : {X Y : Type 0} (h : X → Option Y) (xs : List X) → length (filter_map h xs) ≤ length xs
map_few h [] = omega arith
map_few h (x ∷ xs) = let one = option_few (h x) (filter_map h xs) (length xs) (map_few h xs) in omega (arith, one)

pub filter_few : {X : Type 0} (p : X → Bool) (xs : List X) → length (filter p xs) ≤ length xs
filter_few p xs = omega (arith, length-filter p xs, count_by-le-length p xs)

-- all of the distances but the last
near : List ℕ
near = doubled 16 1

module _ (n : ℕ) where
  -- the furthest is no longer than what is held only where as many are held
  near_few : nat_le 65536 n ≡ false → length (last_places n) ≤ 16
  unfolding distances near
  near_few far =
      let front : filter (λ distance. nat_le distance n) distances ≡ filter (λ distance. nat_le distance n) near ++ filter (λ distance. nat_le distance n) (65536 ∷ []) = filter-append (λ distance. nat_le distance n) near (65536 ∷ []) in
      let none : filter (λ distance. nat_le distance n) (65536 ∷ []) ≡ [] = rw far refl in
      let size : length (last_places n) ≡ length (filter (λ distance. nat_le distance n) distances) = length-map _ _ in
      let cut : length (filter (λ distance. nat_le distance n) distances) ≡ length (filter (λ distance. nat_le distance n) near) + 0 =
      ap length front ∙ length-append _ _ ∙ ap (λ l. length (filter (λ distance. nat_le distance n) near) + length l) none in
      let few : length (filter (λ distance. nat_le distance n) near) ≤ 16 = filter_few (λ distance. nat_le distance n) near in
      omega (arith, size, cut, few)

one_more_few : (places : List ℕ) (most : ℕ) → length places ≤ most → length (with_first places) ≤ most + 1
one_more_few places most few = by (list_any (nat_eq 0) places) refl
  where
    by : (b : Bool) → list_any (nat_eq 0) places ≡ b → length (with_first places) ≤ most + 1
    by true is = let same : with_first places ≡ places = rw is refl in omega (arith, few, ap length same)
    by false is = let same : with_first places ≡ places ++ 0 ∷ [] = rw is refl in omega (arith, few, ap length same, length-append places (0 ∷ []))

whole_sample : length (with_first (last_places 65536)) ≡ 17
unfolding distances
whole_sample = refl

few_places : (n : ℕ) → n ≤ 65536 → length (with_first (last_places n)) ≤ 17
few_places n most = by (nat_le 65536 n) refl
  where
    by : (b : Bool) → nat_le 65536 n ≡ b → length (with_first (last_places n)) ≤ 17
    by true is =
        let all : n ≡ 65536 = omega (arith, most, leb-true 65536 n is) in
        omega (arith, whole_sample, ap (λ k. length (with_first (last_places k))) all)
    by false is = one_more_few (last_places n) 16 (near_few n is)

few_of : (n : ℕ) → n ≤ 65536 → length (sample_places n) ≤ 17
few_of n most = by (nat_eq n 0) refl
  where
    by : (b : Bool) → nat_eq n 0 ≡ b → length (sample_places n) ≤ 17
    by true is = let same : sample_places n ≡ [] = rw is refl in omega (arith, ap length same)
    by false is = let same : sample_places n ≡ with_first (last_places n) = rw is refl in omega (arith, ap length same, few_places n most)

-- ---- none stands twice

distinct_push : {X : Type 0} (xs : List X) (y : X) → AreDistinct xs → (Contains xs y → ⊥) → AreDistinct (xs ++ y ∷ [])
distinct_push [] y distinct fresh = (none_element y, tt)
distinct_push (x ∷ xs) y distinct fresh = (
  (λ inside. elim (Contains-push_cases xs y x inside) [ inl before ↦ distinct.0 before | inr same ↦ fresh (subst (Contains (x ∷ xs)) (sym same) (at_head x xs)) ]),
  distinct_push xs y distinct.1 (λ h. fresh (behind_head x xs y h)),
)

-- the places at the distances from some one on, each double the one before
abbrev stepped : ℕ → ℕ → ℕ → List ℕ
stepped n k one = map (λ distance. n - distance) (filter (λ distance. nat_le distance n) (doubled k one))

-- they descend
stepped_apart : (n k one : ℕ) → 0 < one → AreDistinct (stepped n k one) × ((p : ℕ) → Contains (stepped n k one) p → p + one ≤ n)
stepped_apart n zero one some = (tt, λ p inside. absurd (none_element p inside))
stepped_apart n (suc k) one some = by (stepped_apart n k (one + one) (omega (arith, some))) (nat_le one n) refl
  where
    by : (AreDistinct (stepped n k (one + one)) × ((p : ℕ) → Contains (stepped n k (one + one)) p → p + (one + one) ≤ n)) → (b : Bool) → nat_le one n ≡ b →
        AreDistinct (stepped n (suc k) one) × ((p : ℕ) → Contains (stepped n (suc k) one) p → p + one ≤ n)
    by rest true is =
        let within : one ≤ n = leb-true one n is in
        let same : stepped n (suc k) one ≡ (n - one) ∷ stepped n k (one + one) = rw is refl in
        let apart : Contains (stepped n k (one + one)) (n - one) → ⊥ = λ inside. let below = rest.1 (n - one) inside in omega (arith, some, within, below) in
        let near : (p : ℕ) → Contains ((n - one) ∷ stepped n k (one + one)) p → p + one ≤ n = λ p inside.
        elim (head_cases (n - one) (stepped n k (one + one)) p inside) [ inl first ↦ omega (arith, within, first) | inr later ↦ let below = rest.1 p later in omega (arith, below) ] in
        subst (λ l. AreDistinct l × ((p : ℕ) → Contains l p → p + one ≤ n)) (sym same) ((apart, rest.0), near)
    by rest false is =
        let same : stepped n (suc k) one ≡ stepped n k (one + one) = rw is refl in
        subst (λ l. AreDistinct l × ((p : ℕ) → Contains l p → p + one ≤ n)) (sym same) (rest.0, λ p inside. let below = rest.1 p inside in omega (arith, below))

last_distinct : (n : ℕ) → AreDistinct (last_places n)
unfolding distances
last_distinct n = (stepped_apart n 17 1 (omega arith)).0

first_distinct : (places : List ℕ) → AreDistinct places → AreDistinct (with_first places)
first_distinct places distinct = by (list_any (nat_eq 0) places) refl
  where
    by : (b : Bool) → list_any (nat_eq 0) places ≡ b → AreDistinct (with_first places)
    by true is = let same : with_first places ≡ places = rw is refl in subst AreDistinct (sym same) distinct
    by false is =
        let same : with_first places ≡ places ++ 0 ∷ [] = rw is refl in
        let fresh : Contains places 0 → ⊥ = λ inside. let found = any_of (nat_eq 0) places 0 inside refl in absurd cc in
        subst AreDistinct (sym same) (distinct_push places 0 distinct fresh)

places_distinct : (n : ℕ) → AreDistinct (sample_places n)
places_distinct n = by (nat_eq n 0) refl
  where
    by : (b : Bool) → nat_eq n 0 ≡ b → AreDistinct (sample_places n)
    by true is = let same : sample_places n ≡ [] = rw is refl in subst AreDistinct (sym same) tt
    by false is = let same : sample_places n ≡ with_first (last_places n) = rw is refl in subst AreDistinct (sym same) (first_distinct (last_places n) (last_distinct n))

module _ (cs : List Command) (closed : IsClosed cs) where
  -- an id of the list is that of the command at one of the places
  id_at : (places : List ℕ) (id : List ℕ) → Contains (ids_at cs places) id → (place : ℕ) × Contains places place × (c : Command) × IsAt cs place c × (command_id c ≡ id)
  id_at [] id inside = absurd (none_element id inside)
  id_at (place ∷ places) id inside = by (id_at places id) (slice_get cs place) refl
    where
      by : (Contains (ids_at cs places) id → (q : ℕ) × Contains places q × (c : Command) × IsAt cs q c × (command_id c ≡ id)) → (o : Option Command) → slice_get cs place ≡ o →
          (q : ℕ) × Contains (place ∷ places) q × (c : Command) × IsAt cs q c × (command_id c ≡ id)
      by rest None is =
          let same : ids_at cs (place ∷ places) ≡ ids_at cs places = rw is refl in
          let found = rest (subst (λ l. Contains l id) same inside) in
          (found.0, behind_head place places found.0 found.1, found.2, found.3, found.4)
      by rest (Some c) is =
          let same : ids_at cs (place ∷ places) ≡ command_id c ∷ ids_at cs places = rw is refl in
          elim (head_cases (command_id c) (ids_at cs places) id (subst (λ l. Contains l id) same inside)) [
            | inl first ↦ (place, at_head place places, c, is, first)
            | inr among ↦ let found = rest among in (found.0, behind_head place places found.0 found.1, found.2, found.3, found.4)
          ]

  -- the id of the command at a place is none of those at other places
  id_apart : (place : ℕ) (places : List ℕ) → (Contains places place → ⊥) → (c : Command) → IsAt cs place c → Contains (ids_at cs places) (command_id c) → ⊥
  id_apart place places fresh c at inside =
      let found = id_at places (command_id c) inside in
      let one = same_by_id cs closed found.2 c (inside_at cs found.0 found.2 found.3) (inside_at cs place c at) found.4 in
      let there : IsAt cs found.0 c = subst (IsAt cs found.0) one found.3 in
      fresh (subst (Contains places) (one_place cs closed found.0 place c there at) found.1)

  ids_distinct : (places : List ℕ) → AreDistinct places → AreDistinct (ids_at cs places)
  ids_distinct [] distinct = tt
  ids_distinct (place ∷ places) distinct = by (ids_distinct places distinct.1) (slice_get cs place) refl
    where
      by : AreDistinct (ids_at cs places) → (o : Option Command) → slice_get cs place ≡ o → AreDistinct (ids_at cs (place ∷ places))
      by rest None is = let same : ids_at cs (place ∷ places) ≡ ids_at cs places = rw is refl in subst AreDistinct (sym same) rest
      by rest (Some c) is =
          let same : ids_at cs (place ∷ places) ≡ command_id c ∷ ids_at cs places = rw is refl in
          subst AreDistinct (sym same) (id_apart place places distinct.0 c is, rest)

pub small_sample : (cs : List Command) → length cs ≤ max_commands → IsSmallSample cs
small_sample cs most = record {
  few = let places = map_few (λ place. option_map command_id (slice_get cs place)) (sample_places (length cs)) in omega (arith, places, few_of (length cs) most);
  held = ids_held cs (sample_places (length cs));
  once = λ closed. ids_distinct cs closed (sample_places (length cs)) (places_distinct (length cs));
}
