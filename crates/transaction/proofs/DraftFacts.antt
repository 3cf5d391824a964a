-- Small facts of drafts that are opened.
use Rattle.std.proofs.Common.{◌≡◌, ℕ, suc, ◌<◌, Bool, true, false, List, [], ◌∷◌, length, map, nat_lt, ◌||◌, option_map, slice_get, get_or, drop, ◌+◌, ◌<◌, drop-cons, add-one, refl, sym, ap, subst, ◌∙◌, arith, Option, Some, None, ◌++◌, if◌then◌else◌}
use Rattle.std.specs.List.{list_any}
use Rattle.std.specs.Str.{bytes_eq}
use Rattle.std.proofs.lemmas.Bool.{false≢true, lt-ltb}
use Rattle.std.specs.List.{All}
use Rattle.std.specs.Option.{is_some}
use Rattle.std.proofs.lemmas.List.{map-append}
use Rattle.std.proofs.lemmas.List.Elements.{All-push}
use Rattle.indexmap.specs.IndexSet.{insert_key}
use Rattle.std.proofs.lemmas.List.{drop_all}
use Rattle.braid_run.proofs.PublishedFacts.{heads_within}
use Rattle.command.specs.Ancestors.{heads}
use Rattle.command.specs.Closed.{IsClosed, IsNext, has_id, place_of}
use Rattle.command.proofs.ListFacts.{each_right}
use Rattle.transaction.specs.Drafts.{with_head, with_id, with_places}
use Rattle.command.proofs.PlaceFacts.{held_place, place_held}
use Rattle.transaction.specs.Merging.{is_known}
use Rattle.command.specs.Wire.{IsFormed, IsInForm, command_id}
use Rattle.command.specs.declared.command.Command.{Command}
use Rattle.transaction.specs.Publishing.{added_commands, has_head}

pub headed : (heads : List (List ℕ)) → nat_lt 0 (length heads) ≡ has_head heads
headed [] = refl
headed (id ∷ ids) = lt-ltb 0 (length (id ∷ ids)) (omega arith)

pub adds_merges : (heads : List (List ℕ)) → has_head heads ≡ true → length heads ≡ added_commands heads
adds_merges [] is = absurd (false≢true is)
adds_merges (id ∷ ids) is = refl

pub adds_one : (heads : List (List ℕ)) → has_head heads ≡ false → 1 ≡ added_commands heads
adds_one [] is = refl
adds_one (id ∷ ids) is = absurd cc

-- an id stands among the ids exactly where it is that of a command
pub among_ids : (cs : List Command) (ids : List (List ℕ)) (id : List ℕ) → ids ≡ map command_id cs → list_any (bytes_eq id) ids ≡ has_id cs id
among_ids cs ids id is = ap (list_any (bytes_eq id)) is ∙ go cs
  where
    go : (cs : List Command) → list_any (bytes_eq id) (map command_id cs) ≡ has_id cs id
    go [] = refl
    go (c ∷ cs) = ap (λ b. bytes_eq id (command_id c) || b) (go cs)

-- one more command with its id
pub pushed : (cs all : List Command) (c : Command) (id : List ℕ) (ids new : List (List ℕ)) → ids ≡ map command_id cs → All IsFormed cs → id ≡ command_id c → IsFormed c → has_id cs id ≡ false
    → new ≡ insert_key bytes_eq ids id → all ≡ cs ++ c ∷ [] → (new ≡ map command_id all) × All IsFormed all
pushed cs all c id ids new named formed own form fresh added more = (
  added ∙ ap (λ b. if b then ids else ids ++ id ∷ []) (among_ids cs ids id named ∙ fresh)
      ∙ ap (λ l. l ++ id ∷ []) named ∙ ap (λ i. map command_id cs ++ i ∷ []) own ∙ sym (map-append command_id cs (c ∷ [])) ∙ ap (map command_id) (sym more),
  subst (All IsFormed) (sym more) (All-push IsFormed cs c formed form),
)

-- an id has a place exactly where it is held
pub in_graph : (cs : List Command) (id : List ℕ) → is_some (place_of cs id) ≡ has_id cs id
in_graph cs id = by (place_of cs id) refl
  where
    absent : (b : Bool) → has_id cs id ≡ b → place_of cs id ≡ None → false ≡ b
    absent true held none = let there = held_place cs id held in let both : Some there.0 ≡ None = sym there.1 ∙ none in absurd cc
    absent false held none = refl

    by : (o : Option ℕ) → place_of cs id ≡ o → is_some o ≡ has_id cs id
    by (Some place) is = sym (place_held cs id place is)
    by None is = absent (has_id cs id) refl is

pub known_first : (held made : List Command) (id : List ℕ) (b : Bool) → b ≡ has_id held id → b ≡ true → b ≡ is_known held made id
known_first held made id b is holds = holds ∙ ap (λ x. x || has_id made id) (sym holds ∙ is)

pub known_later : (held made : List Command) (id : List ℕ) (b : Bool) → has_id held id ≡ false → b ≡ has_id made id → b ≡ is_known held made id
known_later held made id b none is = is ∙ ap (λ x. x || has_id made id) (sym none)

-- one head more, by the id at its place
pub head_is : (ids : List (List ℕ)) (o : Option Command) (id : List ℕ) → option_map command_id o ≡ Some id → with_head ids o ≡ with_id ids id
head_is ids None id is = absurd cc
head_is ids (Some c) id is = let same : command_id c ≡ id = cc in ap (with_id ids) same

pub left_at : {X : Type 0} (xs : List X) (i : ℕ) (x : X) → i < length xs → x ≡ get_or xs i x → drop i xs ≡ x ∷ drop (i + 1) xs
left_at xs i x within is = drop-cons xs i x within ∙ ap (λ y. y ∷ drop (suc i) xs) (sym is) ∙ rw add-one refl

pub one_place : (cs : List Command) (ids : List (List ℕ)) (places : List ℕ) (i place : ℕ) (id : List ℕ) (whole : List (List ℕ)) → i < length places → place ≡ get_or places i place
    → option_map command_id (slice_get cs place) ≡ Some id → with_places cs ids (drop i places) ≡ whole → with_places cs (with_id ids id) (drop (i + 1) places) ≡ whole
one_place cs ids places i place id whole within is at so_far =
    ap (λ l. with_places cs l (drop (i + 1) places)) (sym (head_is ids (slice_get cs place) id at)) ∙ sym (ap (with_places cs ids) (left_at places i place within is)) ∙ so_far

pub inside_heads : (cs : List Command) (places : List ℕ) (i place : ℕ) → places ≡ heads cs → i < length places → place ≡ get_or places i place → place < length cs
inside_heads cs places i place are within is = subst (λ p. p < length cs) (sym is) (subst (All (λ p. p < length cs)) (sym are) (heads_within cs) i place within)

pub no_place : (cs : List Command) (ids whole : List (List ℕ)) (places : List ℕ) (i : ℕ) → (i < length places → ⊥) → with_places cs ids (drop i places) ≡ whole → ids ≡ whole
no_place cs ids whole places i over so_far = sym (ap (with_places cs ids) (drop_all i places (omega (arith, over)))) ∙ so_far

-- the first of the commands behind those held is in the wire form
pub first_formed : (held cs : List Command) (c : Command) → IsClosed (held ++ cs) → slice_get cs 0 ≡ Some c → IsInForm c
first_formed held [] c closed is = absurd cc
first_formed held (x ∷ cs) c closed is =
    let same : x ≡ c = cc in subst IsInForm same (each_right IsNext [] held (x ∷ cs) closed).0.formed.in_form
