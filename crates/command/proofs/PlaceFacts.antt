-- Places in a list of commands.
use Rattle.std.proofs.Common.{◌≡◌, ℕ, suc, ◌+◌, ◌<◌, ◌≤◌, ◌⊎◌, inl, inr, Bool, true, false, cond, not, List, [], ◌∷◌, ◌++◌, length, take, drop, get_or, slice_get, Some, refl, sym, ap, subst, ◌∙◌, arith, add-one, drop-cons, length-take}
use Rattle.std.specs.List.{Contains, position, prefix_len}
use Rattle.std.specs.Str.{bytes_eq}
use Rattle.std.proofs.Math.Seq.{take-suc}
use Rattle.std.proofs.lemmas.Bool.{cases_lt, lt-ltb}
use Rattle.std.proofs.lemmas.List.{take-append-drop, get_or-take}
use Rattle.std.proofs.lemmas.List.Quantifiers.{position-Some}
use Rattle.std.proofs.lemmas.Option.{get_or_from_slice_get, slice_get_within, slice_get-get_or}
use Rattle.command.specs.declared.command.Command.{Command}
use Rattle.command.specs.Ancestors.{Ancestor, IsAt}
use Rattle.command.specs.Closed.{IsClosed, IsHeld, IsNext, place_of}
use Rattle.command.specs.Wire.{command_id}
use Rattle.command.proofs.AncestorFacts.{not_itself, older_inside, was}
use Rattle.command.proofs.ClosedFacts.{bytes_of_same, held_by, held_command, same_by_id, same_bytes}
use Rattle.command.proofs.ListFacts.{each_cut, head_cases, in_middle, none_element}

-- the list cut at a place
pub cut_at : {X : Type 0} (xs : List X) (place : ℕ) (x : X) → slice_get xs place ≡ Some x → xs ≡ take place xs ++ x ∷ drop (place + 1) xs
cut_at xs place x is =
    let within = slice_get_within xs place x is in
    sym (take-append-drop place xs)
    ∙ ap (λ l. take place xs ++ l) (drop-cons xs place x within ∙ ap (λ y. y ∷ drop (suc place) xs) (get_or_from_slice_get xs place x x is) ∙ rw add-one refl)

-- the front with one more
pub take_one_more : {X : Type 0} (xs : List X) (place : ℕ) (x : X) → slice_get xs place ≡ Some x → take (place + 1) xs ≡ take place xs ++ x ∷ []
take_one_more xs place x is =
    rw add-one (take-suc xs place x (slice_get_within xs place x is) ∙ ap (λ y. take place xs ++ y ∷ []) (get_or_from_slice_get xs place x x is))

pub inside_at : {X : Type 0} (xs : List X) (place : ℕ) (x : X) → slice_get xs place ≡ Some x → Contains xs x
inside_at xs place x is = subst (λ l. Contains l x) (sym (cut_at xs place x is)) (in_middle (take place xs) x (drop (place + 1) xs))

-- what a closed list says of the command at a place
pub next_at : (cs : List Command) → IsClosed cs → (place : ℕ) (c : Command) → IsAt cs place c → IsNext (take place cs) c
next_at cs closed place c is = each_cut IsNext (take place cs) c (drop (place + 1) cs) (subst IsClosed (cut_at cs place c is) closed)

-- what stands before a command isn't one of those that it is an ancestor of
pub none_before : (cs : List Command) → IsClosed cs → (place : ℕ) (x y : Command) → IsAt cs place x → Ancestor cs x y → Contains (take place cs) y → ⊥
none_before cs closed place x y is above before =
    let same = cut_at cs place x is in
    let older = older_inside (take place cs) x y
    (was (take place cs) (x ∷ drop (place + 1) cs) (subst IsClosed same closed) x y before (subst (λ l. Ancestor l x y) same above)) in
    (next_at cs closed place x is).fresh (held_by (take place cs) x older)

-- a command at a place, among those before a further one
pub before_at : {X : Type 0} (xs : List X) (i j : ℕ) (x : X) → slice_get xs i ≡ Some x → i < j → Contains (take j xs) x
before_at xs i j x is lt =
    let within = slice_get_within xs i x is in
    (i, omega (arith, length-take j xs, within, lt), get_or-take j xs i x lt ∙ get_or_from_slice_get xs i x x is)

-- no ancestor stands at the same place or later
pub older_first : (cs : List Command) → IsClosed cs → (i j : ℕ) (x y : Command) → IsAt cs i x → IsAt cs j y → j ≤ i → Ancestor cs x y → ⊥
older_first cs closed i j x y there here le above =
    elim (order i j le) [
      | inl same ↦ not_itself cs closed x (subst (λ z. Ancestor cs x z) (one_at i j same there here) above)
      | inr lt ↦ none_before cs closed i x y there above (before_at cs j i y here lt)
    ]
  where
    order : (i j : ℕ) → j ≤ i → (i ≡ j) ⊎ (j < i)
    order i j le = elim (cases_lt j i) [ inl lt ↦ inr lt | inr ge ↦ inl (omega (arith, le, ge)) ]

    one_at : (i j : ℕ) → i ≡ j → IsAt cs i x → IsAt cs j y → y ≡ x
    one_at i j same there here = let both : Some y ≡ Some x = sym here ∙ ap (λ k. slice_get cs k) (sym same) ∙ there in cc

-- an ancestor stands before
pub stands_before : (cs : List Command) → IsClosed cs → (i j : ℕ) (x y : Command) → IsAt cs i x → IsAt cs j y → Ancestor cs x y → i < j
stands_before cs closed i j x y there here above = elim (cases_lt i j) [ inl lt ↦ lt | inr ge ↦ absurd (older_first cs closed i j x y there here ge above) ]

-- a command stands at one place
one_first : (cs : List Command) → IsClosed cs → (i j : ℕ) (x : Command) → IsAt cs i x → IsAt cs j x → i < j → ⊥
one_first cs closed i j x there here lt = (next_at cs closed j x here).fresh (held_by (take j cs) x (before_at cs i j x there lt))

pub one_place : (cs : List Command) → IsClosed cs → (i j : ℕ) (x : Command) → IsAt cs i x → IsAt cs j x → i ≡ j
one_place cs closed i j x there here =
    elim (cases_lt i j) [
      | inl lt ↦ absurd (one_first cs closed i j x there here lt)
      | inr ge ↦ elim (cases_lt j i) [ inl lt ↦ absurd (one_first cs closed j i x here there lt) | inr le ↦ omega (arith, ge, le) ]
    ]

prefix_short : {X : Type 0} (test : X → Bool) (xs : List X) (x : X) → Contains xs x → test x ≡ true → prefix_len (λ y. not (test y)) xs < length xs
prefix_short test [] x h passes = absurd (none_element x h)
prefix_short test (y ∷ xs) x h passes = elim (head_cases y xs x h) [ inl same ↦ here (test y) (ap test same ∙ passes) | inr later ↦ behind (test y) (prefix_short test xs x later passes) ]
  where
    here : (b : Bool) → b ≡ true → cond (not b) (1 + prefix_len (λ y. not (test y)) xs) 0 < suc (length xs)
    here true is = omega arith
    here false is = absurd cc

    behind : (b : Bool) → prefix_len (λ y. not (test y)) xs < length xs → cond (not b) (1 + prefix_len (λ y. not (test y)) xs) 0 < suc (length xs)
    behind true lt = omega arith
    behind false lt = omega (arith, lt)

-- an element that passes a test has some first place that does
pub position_of : {X : Type 0} (test : X → Bool) (xs : List X) (x : X) → Contains xs x → test x ≡ true → (i : ℕ) × (position test xs ≡ Some i)
position_of test xs x h passes = (prefix_len (λ y. not (test y)) xs, rw (lt-ltb _ _ (prefix_short test xs x h passes)) refl)

-- the command that an id leads to
pub place_at : (cs : List Command) (id : List ℕ) (place : ℕ) → place_of cs id ≡ Some place → (x : Command) × IsAt cs place x × (command_id x ≡ id)
place_at [] id place is = absurd cc
place_at (c ∷ cs) id place is =
    let found = position-Some (λ x. bytes_eq id (command_id x)) (c ∷ cs) place c is in
    let x : Command = get_or (c ∷ cs) place c in
    (x, slice_get-get_or (c ∷ cs) place c found.0, sym (same_bytes id (command_id x) found.1))

-- and an id leads to the place of its command
pub place_is : (cs : List Command) → IsClosed cs → (place : ℕ) (x : Command) → IsAt cs place x → place_of cs (command_id x) ≡ Some place
place_is cs closed place x at =
    let found = position_of (λ c. bytes_eq (command_id x) (command_id c)) cs x (inside_at cs place x at) (bytes_of_same (command_id x) (command_id x) refl) in
    let there = place_at cs (command_id x) found.0 found.1 in
    let same = same_by_id cs closed there.0 x (inside_at cs found.0 there.0 there.1) (inside_at cs place x at) there.2 in
    found.1 ∙ ap Some (one_place cs closed found.0 place x (subst (λ z. IsAt cs found.0 z) same there.1) at)

-- an id has a place exactly where it is held
pub place_held : (cs : List Command) (id : List ℕ) (place : ℕ) → place_of cs id ≡ Some place → IsHeld cs id
place_held cs id place is = let found = place_at cs id place is in subst (λ i. IsHeld cs i) found.2 (held_by cs found.0 (inside_at cs place found.0 found.1))

pub held_place : (cs : List Command) (id : List ℕ) → IsHeld cs id → (place : ℕ) × (place_of cs id ≡ Some place)
held_place cs id held =
    let found = held_command cs id held in
    position_of (λ c. bytes_eq id (command_id c)) cs found.0 found.1 (bytes_of_same id (command_id found.0) (sym found.2))
