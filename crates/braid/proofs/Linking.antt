-- Gathering a closure with the links of its commands, and counting the children.
use Rattle.std.proofs.Common.{◌≡◌, ℕ, ◌+◌, ◌*◌, ◌<◌, ◌≤◌, inl, inr, Bool, false, List, [], ◌∷◌, ◌++◌, length, take, drop, slice_get, get_or, Option, None, Some, refl, sym, ap, subst, ◌∙◌, arith, eqb, add-one, length-append, length-take, drop_of_length-le}
use Rattle.std.specs.List.{All, AllByRecursion, Contains, IsDistinct}
use Rattle.std.proofs.Math.Seq.{take-suc}
use Rattle.std.proofs.lemmas.List.{take-append-le, take_all}
use Rattle.std.proofs.lemmas.List.Elements.{All-cons, All-head, All-nil, All-tail, filter_map-append}
use Rattle.std.proofs.lemmas.Map.Keys.{IsDistinct-head, IsDistinct-tail}
use Rattle.std.proofs.lemmas.Option.{slice_get_within}
use Rattle.command.specs.declared.command.Command.{Command}
use Rattle.command.specs.Ancestors.{IsAt}
use Rattle.command.specs.Closed.{IsClosed, place_of}
use Rattle.command.specs.Kinds.{parents_of}
use Rattle.command.proofs.ListFacts.{head_cases, none_element}
use Rattle.command.proofs.PlaceFacts.{take_one_more}
use Rattle.braid.specs.declared.closure.Links.{Links}
use Rattle.braid.specs.working.Links.{AreLinked, AreNumbers, IsClosureWith, IsLeftId, Skips, left_of, listed, listed_links, parent_places, parents_left, places_of, sum_of, times}
use Rattle.braid.specs.working.Placing.{AddsWhere}
use Rattle.braid.proofs.Additions.{adds_both, adds_none}
use Rattle.braid.proofs.Counts.{known_place, not_in, same_place, times_append, times_here, times_later}
use Rattle.braid.proofs.Gathering.{Gathered, all_of, bounded, further, gathered, past}
use Rattle.braid.proofs.Places.{left_append}
use Rattle.braid.proofs.Numbers.{linked_kept, linked_more, numbers_join, numbers_kept}

-- distinct places stand there once
none_again : (p : ℕ) (xs : List ℕ) → AllByRecursion (λ y. eqb p y ≡ false) xs → Contains xs p → ⊥
none_again p [] h there = none_element p there
none_again p (x ∷ xs) h there =
    elim (head_cases x xs p there) [
      | inl same ↦ let is = same_place p x (sym same) in let other = h.0 in absurd cc
      | inr later ↦ none_again p xs h.1 later
    ]

pub distinct_once : (xs : List ℕ) → IsDistinct eqb xs → (p : ℕ) → times p xs ≤ 1
distinct_once [] d p = omega arith
distinct_once (x ∷ xs) d p =
    elim (known_place p x) [
      | inl same ↦
          let none = not_in x xs (none_again x xs (IsDistinct-head eqb x xs d)) in
          subst (λ q. times q (x ∷ xs) ≤ 1) (sym same) (omega (arith, none, times_here x x xs refl))
      | inr differs ↦ let more = distinct_once xs (IsDistinct-tail eqb x xs d) p in omega (arith, more, times_later p x xs differs)
    ]

-- nothing is added where there are not so many ids
pub past_nth : (ids : List (List ℕ)) (nth : ℕ) → length ids ≤ nth → take 1 (drop nth ids) ≡ []
past_nth ids nth le = ap (take 1) (drop_of_length-le ids le)

pub none_past : (P : List ℕ → Type 0) (cs : List Command) (ids : List (List ℕ)) (nth : ℕ) (places : List ℕ) → length ids ≤ nth → AddsWhere P cs (take 1 (drop nth ids)) places places
none_past P cs ids nth places le = subst (λ l. AddsWhere P cs l places places) (sym (past_nth ids nth le)) (adds_none P cs places)

-- two ids at most
pub two_ids : (ids : List (List ℕ)) → length ids ≤ 2 → ids ≡ take 1 (drop 0 ids) ++ take 1 (drop 1 ids)
two_ids [] few = refl
two_ids (id ∷ []) few = refl
two_ids (id ∷ other ∷ []) few = refl
two_ids (id ∷ other ∷ third ∷ more) few = absurd (omega (arith, few))

pub both_adds : (P : List ℕ → Type 0) (cs : List Command) (ids : List (List ℕ)) (old mid new : List ℕ) → length ids ≤ 2 → AddsWhere P cs (take 1 (drop 0 ids)) old mid → AddsWhere P cs (take 1 (drop 1 ids)) mid new →
    AddsWhere P cs ids old new
both_adds P cs ids old mid new few first second =
    subst (λ l. AddsWhere P cs l old new) (sym (two_ids ids few)) (adds_both P cs (take 1 (drop 0 ids)) (take 1 (drop 1 ids)) old mid new first second)

pub both_numbers : (P : List ℕ → Type 0) (cs : List Command) (skip : ℕ → Bool) (ids : List (List ℕ)) (mid new : List ℕ) (left right : Option ℕ) → length ids ≤ 2 → AddsWhere P cs (take 1 (drop 1 ids)) mid new →
    AreNumbers mid (listed left) (left_of skip (places_of cs (take 1 (drop 0 ids)))) → AreNumbers new (listed right) (left_of skip (places_of cs (take 1 (drop 1 ids)))) → AreNumbers new (listed left ++ listed right) (left_of skip (places_of cs ids))
both_numbers P cs skip ids mid new left right few adds first second =
    let one = places_of cs (take 1 (drop 0 ids)) in
    let two = places_of cs (take 1 (drop 1 ids)) in
    let whole : places_of cs ids ≡ one ++ two = ap (places_of cs) (two_ids ids few) ∙ filter_map-append (place_of cs) (take 1 (drop 0 ids)) (take 1 (drop 1 ids)) in
    subst (λ l. AreNumbers new (listed left ++ listed right) l) (sym (ap (left_of skip) whole ∙ left_append skip one two))
    (numbers_join new (listed left) (left_of skip one) (listed right) (left_of skip two)
    (subst (λ l. AreNumbers l (listed left) (left_of skip one)) (sym adds.grown) (numbers_kept mid adds.more (listed left) (left_of skip one) first)) second)

-- the first commands of the closure have their parents in it, and their links
pub record Linked (cs : List Command) (skip : ℕ → Bool) (bases tips : List ℕ) (links : List Links) (places : List ℕ) : Type 0 where
  pub gathered : Gathered cs skip bases tips (length links) places
  pub linked : AreLinked cs skip places links (take (length links) places)

pub linked_further : (cs : List Command) → IsClosed cs → (skip : ℕ → Bool) (bases tips : List ℕ) → Skips cs bases skip → (links then_links : List Links) (old new : List ℕ) (place : ℕ) (z : Command) (them : Links) → Linked cs skip bases tips links old → slice_get old (length links) ≡ Some place → IsAt cs place z →
    AddsWhere (IsLeftId cs skip) cs (parents_of z) old new → AreNumbers new (listed_links them) (left_of skip (places_of cs (parents_of z))) → then_links ≡ links ++ them ∷ [] → Linked cs skip bases tips then_links new
linked_further cs closed skip bases tips skips links then_links old new place z them now here at adds numbers pushed = subst (λ l. Linked cs skip bases tips l new) (sym pushed) grown
  where
    size : length (links ++ them ∷ []) ≡ length links + 1
    size = length-append links (them ∷ [])

    room : length links < length old
    room = slice_get_within old (length links) place here

    front : take (length links + 1) new ≡ take (length links) old ++ place ∷ []
    front = ap (take (length links + 1)) adds.grown ∙ take-append-le (length links + 1) old adds.more (omega (arith, room)) ∙ take_one_more old (length links) place here

    its : AreNumbers new (listed_links them) (parents_left cs skip place)
    its = subst (λ o. AreNumbers new (listed_links them) (left_of skip (parent_places cs o))) (sym at) numbers

    kept : AreLinked cs skip new links (take (length links) old)
    kept = subst (λ l. AreLinked cs skip l links (take (length links) old)) (sym adds.grown) (linked_kept cs skip old adds.more links (take (length links) old) now.linked)

    grown : Linked cs skip bases tips (links ++ them ∷ []) new
    grown = record {
      gathered = subst (λ n. Gathered cs skip bases tips n new) (sym size) (further cs closed skip bases tips skips (length links) old now.gathered place z new here at adds);
      linked = subst (λ l. AreLinked cs skip new (links ++ them ∷ []) l) (sym (ap (λ n. take n new) size ∙ front)) (linked_more cs skip new links (take (length links) old) them place kept its);
    }

-- at the end the closure is whole
pub linked_whole : (cs : List Command) → IsClosed cs → (skip : ℕ → Bool) (bases tips : List ℕ) → Skips cs bases skip → (links : List Links) (places : List ℕ) → Linked cs skip bases tips links places → IsDistinct eqb places → slice_get places (length links) ≡ None → IsClosureWith cs skip bases tips places links
linked_whole cs closed skip bases tips skips links places now distinct none = record {
  once = distinct_once places distinct;
  within = all_of (λ p. p < length cs) places now.gathered.within;
  under = gathered cs closed skip bases tips skips (length links) places now.gathered none;
  linked = subst (λ l. AreLinked cs skip places links l) (take_all (length links) places (past places (length links) none)) now.linked;
  few = bounded cs places distinct now.gathered.within;
}

-- counting children: no command has more than two parents
links_few : (k : ℕ) (number : Option ℕ) → times k (listed number) ≤ 1
links_few k None = omega arith
links_few k (Some number) = elim (known_place k number) [ inl same ↦ omega (arith, times_here k number [] same) | inr differs ↦ omega (arith, times_later k number [] differs) ]

pub count_few : (k : ℕ) (links : List Links) → sum_of (λ them. times k (listed_links them)) links ≤ length links * 2
count_few k [] = omega arith
count_few k (them ∷ links) =
    let more = count_few k links in let left = links_few k them.left in let right = links_few k them.right in
    omega (arith, more, left, right, times_append k (listed them.left) (listed them.right))

pub sum_push : {X : Type 0} (f : X → ℕ) (xs : List X) (x : X) → sum_of f (xs ++ x ∷ []) ≡ sum_of f xs + f x
sum_push f [] x = omega arith
sum_push f (y ∷ xs) x = let more = sum_push f xs x in omega (arith, more)

-- the one and the other number of links that are within
left_all : (P : ℕ → Type 0) (one other : Option ℕ) → All P (listed one ++ listed other) → All P (listed one)
left_all P None other h = All-nil P
left_all P (Some n) other h = All-cons P n [] (All-head P n (listed other) h) (All-nil P)

right_all : (P : ℕ → Type 0) (one other : Option ℕ) → All P (listed one ++ listed other) → All P (listed other)
right_all P None other h = h
right_all P (Some n) other h = All-tail P n (listed other) h

pub left_within : (n : ℕ) (them : Links) → All (λ k. k < n) (listed_links them) → All (λ k. k < n) (listed them.left)
left_within n them h = left_all (λ k. k < n) them.left them.right h

pub right_within : (n : ℕ) (them : Links) → All (λ k. k < n) (listed_links them) → All (λ k. k < n) (listed them.right)
right_within n them h = right_all (λ k. k < n) them.left them.right h

pub also : (P Q : ℕ → Type 0) (xs : List ℕ) → All P xs → ((k : ℕ) → Q k) → All (λ k. P k × Q k) xs
also P Q xs all each = λ k d lt. (all k d lt, each (get_or xs k d))

pub counted_more : (links : List Links) (i : ℕ) (d : Links) → i < length links → (k a b c : ℕ) → a ≡ sum_of (λ them. times k (listed_links them)) (take i links) → b ≡ times k (listed (get_or links i d).left) + a →
    c ≡ times k (listed (get_or links i d).right) + b → c ≡ sum_of (λ them. times k (listed_links them)) (take (i + 1) links)
counted_more links i d lt k a b c so_far one other =
    let next : take (i + 1) links ≡ take i links ++ get_or links i d ∷ [] = rw add-one (take-suc links i d lt) in
    let more = ap (sum_of (λ them. times k (listed_links them))) next ∙ sum_push (λ them. times k (listed_links them)) (take i links) (get_or links i d) in
    omega (arith, so_far, one, other, more, times_append k (listed (get_or links i d).left) (listed (get_or links i d).right))

-- a count is small
pub count_small : (links : List Links) (i : ℕ) → length links < 2147483648 → (k a : ℕ) → a ≡ sum_of (λ them. times k (listed_links them)) (take i links) → a ≤ 4294967294
count_small links i few k a so_far = let most = count_few k (take i links) in let front = length-take i links in omega (arith, few, so_far, most, front)

pub one_few : (k a b : ℕ) (number : Option ℕ) → a ≤ 4294967294 → b ≡ times k (listed number) + a → b < 4294967296
one_few k a b number small is = let few = links_few k number in omega (arith, small, is, few)
