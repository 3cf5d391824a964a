-- Heads of a graph and of what stands behind it.
use Rattle.std.proofs.Common.{◌≡◌, ℕ, ◌+◌, ◌<◌, ◌≤◌, Bool, true, false, ◌||◌, if◌then◌else◌, List, [], ◌∷◌, ◌++◌, length, slice_get, Some, option_map, refl, sym, ap, subst, ◌∙◌, arith, append_assoc, append-nil, length-append}
use Rattle.std.specs.List.{All, list_any}
use Rattle.std.specs.Str.{bytes_eq}
use Rattle.std.proofs.lemmas.List.Elements.{All-nil, All-cons}
use Rattle.std.proofs.lemmas.List.Folds.{list_any-append}
use Rattle.command.specs.declared.command.Command.{Command}
use Rattle.command.specs.Ancestors.{heads, is_parent, places_without}
use Rattle.command.specs.Closed.{IsClosed, IsHeld, IsNext}
use Rattle.command.specs.Each.{EachAfter}
use Rattle.command.specs.Kinds.{parents_of}
use Rattle.command.specs.Wire.{command_id}
use Rattle.command.proofs.ClosedFacts.{held_more, parents_held, same_bytes}
use Rattle.command.proofs.ListFacts.{each_left, each_right}
use Rattle.command.proofs.ReachFacts.{any_found}
use Rattle.graph_over.proofs.GatheredHeads.{named}
use Rattle.graph_over.specs.working.Heads.{place_left, places_left}
use Rattle.graph_over.proofs.PlaceFacts.{at_behind}

-- heads are places
one_place : (b : Bool) (place most : ℕ) (places : List ℕ) → place < most → All (λ p. p < most) places → All (λ p. p < most) ((if b then [] else place ∷ []) ++ places)
one_place true place most places lt all = all
one_place false place most places lt all = All-cons (λ p. p < most) place places lt all

places_inside : (test : List ℕ → Bool) (place most : ℕ) (cs : List Command) → place + length cs ≤ most → All (λ p. p < most) (places_without test place cs)
places_inside test place most [] le = All-nil (λ p. p < most)
places_inside test place most (c ∷ cs) le = one_place (test (command_id c)) place most (places_without test (place + 1) cs) (omega (arith, le)) (places_inside test (place + 1) most cs (omega (arith, le)))

pub heads_inside : (cs : List Command) → All (λ place. place < length cs) (heads cs)
heads_inside cs = places_inside (is_parent cs) 0 (length cs) cs (omega arith)

-- one place more is looked at
pub left_next : (test : List ℕ → Bool) (cs : List Command) (found next : List ℕ) (place : ℕ) (rest all : List ℕ) (id : List ℕ) → option_map command_id (slice_get cs place) ≡ Some id →
    found ++ places_left test cs (place ∷ rest) ≡ all → next ≡ found ++ (if test id then [] else place ∷ []) → next ++ places_left test cs rest ≡ all
left_next test cs found next place rest all id is so_far more =
    let c = named command_id (slice_get cs place) id is in
    ap (λ l. l ++ places_left test cs rest) (more ∙ ap (λ i. found ++ (if test i then [] else place ∷ [])) (sym c.2))
    ∙ append_assoc found (if test (command_id c.0) then [] else place ∷ []) (places_left test cs rest)
    ∙ ap (λ o. found ++ (place_left test place o ++ places_left test cs rest)) (sym c.1)
    ∙ so_far

-- of the heads below, those that aren't parents of what was added
module _ (one other both : List ℕ → Bool) (either : (id : List ℕ) → both id ≡ (one id || other id)) where
  step : (cs : List Command) (place : ℕ) (places all : List ℕ) (a b t : Bool) → t ≡ (a || b) → place_left other place (slice_get cs place) ≡ (if b then [] else place ∷ []) → places_left other cs places ≡ all →
      places_left other cs ((if a then [] else place ∷ []) ++ places) ≡ (if t then [] else place ∷ []) ++ all
  step cs place places all true b t is there rest = rest ∙ ap (λ x. (if x then [] else place ∷ []) ++ all) (sym is)
  step cs place places all false b t is there rest = ap (λ l. l ++ places_left other cs places) there ∙ ap (λ l. (if b then [] else place ∷ []) ++ l) rest ∙ ap (λ x. (if x then [] else place ∷ []) ++ all) (sym is)

  left_of : (front rest : List Command) (place : ℕ) → length front ≡ place → places_left other (front ++ rest) (places_without one place rest) ≡ places_without both place rest
  left_of front [] place size = refl
  left_of front (c ∷ rest) place size =
      step (front ++ c ∷ rest) place (places_without one (place + 1) rest) (places_without both (place + 1) rest) (one (command_id c)) (other (command_id c)) (both (command_id c)) (either (command_id c))
      (ap (λ o. place_left other place o) (at_behind front (c ∷ rest) place 0 (omega (arith, size))))
      (subst (λ l. places_left other l (places_without one (place + 1) rest) ≡ places_without both (place + 1) rest) (append_assoc front (c ∷ []) rest)
      (left_of (front ++ c ∷ []) rest (place + 1) (length-append front (c ∷ []) ∙ ap (λ n. n + 1) size)))

places_both : (test : List ℕ → Bool) (place : ℕ) (xs ys : List Command) → places_without test place (xs ++ ys) ≡ places_without test place xs ++ places_without test (place + length xs) ys
places_both test place [] ys = ap (λ n. places_without test n ys) (omega arith)
places_both test place (x ∷ xs) ys =
    ap (λ l. (if test (command_id x) then [] else place ∷ []) ++ l) (places_both test (place + 1) xs ys)
    ∙ sym (append_assoc (if test (command_id x) then [] else place ∷ []) (places_without test (place + 1) xs) (places_without test ((place + 1) + length xs) ys))
    ∙ ap (λ n. ((if test (command_id x) then [] else place ∷ []) ++ places_without test (place + 1) xs) ++ places_without test n ys) sum
  where
    sum : (place + 1) + length xs ≡ place + length (x ∷ xs)
    sum = omega arith

-- no command below has an added one as a parent
no_parent : (below front : List Command) (c : Command) → IsClosed below → IsNext (below ++ front) c → is_parent below (command_id c) ≡ false
no_parent below front c closed next = by (is_parent below (command_id c)) refl
  where
    by : (b : Bool) → is_parent below (command_id c) ≡ b → b ≡ false
    by false is = refl
    by true is =
        let y = any_found (λ y. list_any (bytes_eq (command_id c)) (parents_of y)) below is in
        let parent = any_found (bytes_eq (command_id c)) (parents_of y.0) y.2 in
        let same = same_bytes (command_id c) parent.0 parent.2 in
        let held = parents_held below closed y.0 parent.0 y.1 parent.1 in
        absurd (next.fresh (held_more below front (command_id c) (subst (λ i. IsHeld below i) (sym same) held)))

added_places : (below front rest : List Command) (other both : List ℕ → Bool) → ((id : List ℕ) → both id ≡ (is_parent below id || other id)) → IsClosed below → EachAfter IsNext (below ++ front) rest → (place : ℕ) →
    places_without other place rest ≡ places_without both place rest
added_places below front [] other both either closed each place = refl
added_places below front (c ∷ rest) other both either closed each place =
    ap (λ b. (if b then [] else place ∷ []) ++ places_without other (place + 1) rest) (sym (either (command_id c) ∙ ap (λ b. b || other (command_id c)) (no_parent below front c closed each.0)))
    ∙ ap (λ l. (if both (command_id c) then [] else place ∷ []) ++ l)
    (added_places below (front ++ c ∷ []) rest other both either closed (subst (λ f. EachAfter IsNext f rest) (append_assoc below front (c ∷ [])) each.1) (place + 1))

-- the heads of all: those of the graph below that are left, and those among what was added
pub heads_over : (below added : List Command) (test : List ℕ → Bool) → IsClosed (below ++ added) → ((id : List ℕ) → test id ≡ is_parent added id) →
    places_left test below (heads below) ++ places_without test (length below) added ≡ heads (below ++ added)
heads_over below added test closed same =
    ap (λ l. l ++ places_without test (length below) added) (left_of (is_parent below) test (is_parent (below ++ added)) either [] below 0 refl)
    ∙ ap (λ l. places_without (is_parent (below ++ added)) 0 below ++ l)
    (added_places below [] added test (is_parent (below ++ added)) either (each_left IsNext [] below added closed)
    (subst (λ f. EachAfter IsNext f added) (sym (append-nil below)) (each_right IsNext [] below added closed)) (length below))
    ∙ sym (places_both (is_parent (below ++ added)) 0 below added ∙ ap (λ n. places_without (is_parent (below ++ added)) 0 below ++ places_without (is_parent (below ++ added)) n added) none)
  where
    none : 0 + length below ≡ length below
    none = omega arith

    either : (id : List ℕ) → is_parent (below ++ added) id ≡ (is_parent below id || test id)
    either id = list_any-append (λ y. list_any (bytes_eq id) (parents_of y)) below added ∙ ap (λ b. is_parent below id || b) (sym (same id))
