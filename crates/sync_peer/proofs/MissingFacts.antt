-- What is missing: that it is one list, and that it grows at its end.
use Rattle.std.proofs.Common.{◌≡◌, ℕ, ◌⊎◌, inl, inr, Bool, true, false, if◌then◌else◌, not, List, [], ◌∷◌, ◌++◌, filter, refl, sym, ap, subst, ◌∙◌, append_assoc, append-nil}
use Rattle.std.specs.Bool.{one_answer}
use Rattle.std.specs.List.{Contains}
use Rattle.std.proofs.lemmas.List.Elements.{Contains-append_left, filter-append, filter_passes}
use Rattle.command.specs.Closed.{IsClosed, IsHeld, IsNext}
use Rattle.command.specs.Each.{Each, EachAfter}
use Rattle.command.specs.Wire.{command_id}
use Rattle.command.specs.declared.command.Command.{Command}
use Rattle.command.proofs.AncestorFacts.{kept, was}
use Rattle.command.proofs.ClosedFacts.{held_by, held_command, same_by_id}
use Rattle.command.proofs.ListFacts.{at_head, behind_head, each_cut, head_cases, in_middle, split_at}
use Rattle.sync_peer.specs.Laws.{ArePartedInOrder, HasOneMissing, HasParents, IsKnownId}
use Rattle.sync_peer.specs.Missing.{AreMissing, IsKnown}
use Rattle.sync_peer.specs.working.Walks.{unknown, walked}
use Rattle.sync_peer.proofs.WalkFacts.{same_filter, walks_find_missing}

pub one_missing : (cs : List Command) (ids : List (List ℕ)) (missing others : List Command) → AreMissing cs ids missing → AreMissing cs ids others → missing ≡ others
one_missing cs ids missing others one other =
    one.same_missing
    ∙ same_filter _ _ cs (λ c inside. ap not (one_answer (one.is_known c) (other.is_known c) (one.exact c inside) (other.exact c inside)))
    ∙ sym other.same_missing

pub has_one_missing : (cs : List Command) (ids : List (List ℕ)) → IsClosed cs → HasOneMissing cs ids
has_one_missing cs ids closed = record {
  some = (unknown cs (walked cs ids), walks_find_missing cs closed ids);
  one = one_missing cs ids;
}

module _ (cs more : List Command) (longer : IsClosed (cs ++ more)) (ids : List (List ℕ)) (held : (id : List ℕ) → Contains ids id → IsHeld cs id) where
  known_kept : (c : Command) → IsKnown cs ids c → IsKnown (cs ++ more) ids c
  known_kept c known = (
    known.0,
    Contains-append_left cs more known.0 known.1,
    known.2,
    elim known.3 [ inl same ↦ inl same | inr above ↦ inr (kept cs more c known.0 above) ],
  )

  known_was : (c : Command) → IsKnown (cs ++ more) ids c → IsKnown cs ids c
  known_was c known =
      let y = known.0 in
      let found = held_command cs (command_id y) (held (command_id y) known.2) in
      let inside : Contains cs y = subst (λ z. Contains cs z) (same_by_id (cs ++ more) longer found.0 y (Contains-append_left cs more found.0 found.1) known.1 found.2) found.1 in
      (y, inside, known.2, elim known.3 [ inl same ↦ inl same | inr above ↦ inr (was cs more longer c y inside above) ])

  -- what was missing begins what is missing
  pub missing_grows : (missing others : List Command) → AreMissing cs ids missing → AreMissing (cs ++ more) ids others → (rest : List Command) × (others ≡ missing ++ rest)
  missing_grows missing others are also =
      let same : (c : Command) → Contains cs c → also.is_known c ≡ are.is_known c = λ c inside.
      let now = also.exact c (Contains-append_left cs more c inside) in
      one_answer (also.is_known c) (are.is_known c) ((λ h. known_was c (now.0 h)), (λ h. now.1 (known_kept c h))) (are.exact c inside) in (
        filter (λ c. not (also.is_known c)) more,
        also.same_missing
            ∙ filter-append (λ c. not (also.is_known c)) cs more
            ∙ ap (λ l. l ++ filter (λ c. not (also.is_known c)) more) (same_filter _ _ cs (λ c inside. ap not (same c inside)) ∙ sym are.same_missing),
      )

-- ---- what is missing and what is known

in_filter : {X : Type 0} (p : X → Bool) (xs : List X) (x : X) → Contains xs x → p x ≡ true → Contains (filter p xs) x
in_filter p xs x inside passes =
    let cut = split_at xs x inside in
    let kept : filter p (x ∷ cut.1) ≡ x ∷ filter p cut.1 = rw passes refl in
    let whole : filter p xs ≡ filter p cut.0 ++ x ∷ filter p cut.1 = ap (filter p) cut.2 ∙ filter-append p cut.0 (x ∷ cut.1) ∙ ap (λ l. filter p cut.0 ++ l) kept in
    subst (λ l. Contains l x) (sym whole) (in_middle (filter p cut.0) x (filter p cut.1))

of_filter : {X : Type 0} (p : X → Bool) (xs : List X) (x : X) → Contains (filter p xs) x → Contains xs x
of_filter p [] x inside = inside
of_filter p (y ∷ xs) x inside = by (of_filter p xs x) (p y) refl
  where
    by : (Contains (filter p xs) x → Contains xs x) → (b : Bool) → p y ≡ b → Contains (y ∷ xs) x
    by rest true is =
        let kept : filter p (y ∷ xs) ≡ y ∷ filter p xs = rw is refl in
        elim (head_cases y (filter p xs) x (subst (λ l. Contains l x) kept inside)) [ inl same ↦ subst (λ z. Contains (y ∷ xs) z) same (at_head y xs) | inr later ↦ behind_head y xs x (rest later) ]
    by rest false is = let left : filter p (y ∷ xs) ≡ filter p xs = rw is refl in behind_head y xs x (rest (subst (λ l. Contains l x) left inside))

module _ (cs : List Command) (closed : IsClosed cs) (ids : List (List ℕ)) (missing : List Command) (are : AreMissing cs ids missing) where
  abbrev is_missing : Command → Bool
  is_missing c = not (are.is_known c)

  is_apart : (c : Command) → Contains cs c → IsKnown cs ids c ⊎ Contains missing c
  is_apart c inside = by (are.is_known c) refl
    where
      by : (b : Bool) → are.is_known c ≡ b → IsKnown cs ids c ⊎ Contains missing c
      by true is = inl ((are.exact c inside).0 is)
      by false is = inr (subst (λ l. Contains l c) (sym are.same_missing) (in_filter is_missing cs c inside (ap not is)))

  alone : (c : Command) → Contains missing c → Contains cs c × (IsKnown cs ids c → ⊥)
  alone c among =
      let there = subst (λ l. Contains l c) are.same_missing among in
      let inside = of_filter is_missing cs c there in (
        inside,
        (λ known. let passes : not (are.is_known c) ≡ true = subst (λ z. is_missing z ≡ true) there.2 (filter_passes is_missing cs there.0 c there.1) in
            let holds = (are.exact c inside).1 known in absurd cc),
      )

  -- the parents of a command stand before it
  has_parents : (front rest : List Command) (c : Command) → cs ≡ front ++ c ∷ rest → HasParents cs ids (filter is_missing front) c
  has_parents front rest c cut id link =
      let m = held_command front id ((each_cut IsNext front c rest (subst IsClosed cut closed)).held id link) in
      let inside : Contains cs m.0 = subst (λ l. Contains l m.0) (sym cut) (Contains-append_left front (c ∷ rest) m.0 m.1) in
      by m.0 m.1 m.2 inside (are.is_known m.0) refl
    where
      by : (m : Command) → Contains front m → command_id m ≡ id → Contains cs m → (b : Bool) → are.is_known m ≡ b → IsHeld (filter is_missing front) id ⊎ IsKnownId cs ids id
      by m among named inside true is = inr (m, inside, named, (are.exact m inside).0 is)
      by m among named inside false is =
          inl (subst (λ i. IsHeld (filter is_missing front) i) named (held_by (filter is_missing front) m (in_filter is_missing front m among (ap not is))))

  all_have_parents : (front rest : List Command) → cs ≡ front ++ rest → EachAfter (HasParents cs ids) (filter is_missing front) (filter is_missing rest)
  all_have_parents front [] cut = tt
  all_have_parents front (c ∷ rest) cut =
      by (all_have_parents (front ++ c ∷ []) rest (cut ∙ sym (append_assoc front (c ∷ []) rest))) (is_missing c) refl
    where
      grown : (b : Bool) → is_missing c ≡ b → filter is_missing (front ++ c ∷ []) ≡ filter is_missing front ++ (if b then c ∷ [] else [])
      grown true is = filter-append is_missing front (c ∷ []) ∙ ap (λ l. filter is_missing front ++ l) (rw is refl)
      grown false is = filter-append is_missing front (c ∷ []) ∙ ap (λ l. filter is_missing front ++ l) (rw is refl)

      by : EachAfter (HasParents cs ids) (filter is_missing (front ++ c ∷ [])) (filter is_missing rest) → (b : Bool) → is_missing c ≡ b →
          EachAfter (HasParents cs ids) (filter is_missing front) (filter is_missing (c ∷ rest))
      by later true is =
          let kept : filter is_missing (c ∷ rest) ≡ c ∷ filter is_missing rest = rw is refl in
          subst (λ l. EachAfter (HasParents cs ids) (filter is_missing front) l) (sym kept)
          (has_parents front rest c cut, subst (λ l. EachAfter (HasParents cs ids) l (filter is_missing rest)) (grown true is) later)
      by later false is =
          let left : filter is_missing (c ∷ rest) ≡ filter is_missing rest = rw is refl in
          subst (λ l. EachAfter (HasParents cs ids) (filter is_missing front) l) (sym left)
          (subst (λ l. EachAfter (HasParents cs ids) l (filter is_missing rest)) (grown false is ∙ append-nil (filter is_missing front)) later)

  parents_come_first : Each (HasParents cs ids) missing
  parents_come_first = subst (λ l. Each (HasParents cs ids) l) (sym are.same_missing) (all_have_parents [] cs refl)

pub are_parted : (cs : List Command) (ids : List (List ℕ)) (missing : List Command) → IsClosed cs → AreMissing cs ids missing → ArePartedInOrder cs ids missing
are_parted cs ids missing closed are = record {
  each = is_apart cs closed ids missing are;
  missing_alone = alone cs closed ids missing are;
  parents_first = parents_come_first cs closed ids missing are;
}
