-- The walk finds just what is known.
use Rattle.std.proofs.Common.{◌≡◌, ℕ, ◌⊎◌, ◌↔◌, inl, inr, Bool, true, false, not, IsTrue, List, [], ◌∷◌, ◌++◌, filter, refl, sym, ap, subst, ◌∙◌, append_assoc}
use Rattle.std.specs.List.{Contains}
use Rattle.std.specs.Str.{bytes_eq}
use Rattle.std.proofs.lemmas.List.Elements.{Contains-append_cases, Contains-append_left, Contains-append_right}
use Rattle.command.specs.Ancestors.{Ancestor, IsParent, IsUpTo}
use Rattle.command.specs.Ancestors.Ancestor.{Parent, Further}
use Rattle.command.specs.Closed.{IsClosed, IsNext}
use Rattle.command.specs.Kinds.{parents_of}
use Rattle.command.specs.Wire.{command_id}
use Rattle.command.specs.declared.command.Command.{Command}
use Rattle.command.proofs.AncestorFacts.{newest_top, trans, was}
use Rattle.command.proofs.ClosedFacts.{bytes_of_same, same_bytes}
use Rattle.command.proofs.ListFacts.{at_head, behind_head, each_left, head_cases, none_element}
use Rattle.command.proofs.ReachFacts.{any_found, any_of}
use Rattle.sync_peer.specs.Missing.{AreMissing, IsKnown}
use Rattle.sync_peer.specs.working.Walks.{HaveSame, is_among, unknown, walked, with_parents}

-- two tests that say the same of each element leave the same
pub same_filter : {X : Type 0} (p q : X → Bool) (xs : List X) → ((x : X) → Contains xs x → p x ≡ q x) → filter p xs ≡ filter q xs
same_filter p q [] same = refl
same_filter p q (x ∷ xs) same =
    let rest : filter p xs ≡ filter q xs = same_filter p q xs (λ y h. same y (behind_head x xs y h)) in
    rw (same x (at_head x xs), rest) refl

pub same_unknown : (cs : List Command) (one other : List (List ℕ)) → HaveSame one other → unknown cs one ≡ unknown cs other
same_unknown cs one other same = same_filter _ _ cs (λ c inside. ap not (same (command_id c)))

pub among_of : (ids : List (List ℕ)) (id : List ℕ) → Contains ids id → IsTrue (is_among ids id)
among_of ids id inside = any_of (bytes_eq id) ids id inside (bytes_of_same id id refl)

pub of_among : (ids : List (List ℕ)) (id : List ℕ) → IsTrue (is_among ids id) → Contains ids id
of_among ids id among = let found = any_found (bytes_eq id) ids among in subst (λ i. Contains ids i) (sym (same_bytes id found.0 found.2)) found.1

-- the first link of a chain
first_link : (cs : List Command) (x y : Command) → Ancestor cs x y → (m : Command) × IsParent cs x m × IsUpTo cs y m
first_link cs x y (Parent e) = (y, e, inl refl)
first_link cs x y (Further {m = m} a e) =
    let first = first_link cs x m a in (
      first.0,
      first.1,
      elim first.2 [ inl same ↦ inr (Parent (subst (λ z. IsParent cs z y) (sym same) e)) | inr above ↦ inr (Further above e) ],
    )

module _ (cs : List Command) (ids : List (List ℕ)) where
  known_up : (x y : Command) → Ancestor cs x y → IsKnown cs ids y → IsKnown cs ids x
  known_up x y above known =
      (known.0, known.1, known.2, elim known.3 [ inl same ↦ inr (subst (λ z. Ancestor cs x z) same above) | inr further ↦ inr (trans cs x y known.0 above further) ])

  -- what is known is of the sample, or a parent of what is known
  known_step : (c : Command) → IsKnown cs ids c → Contains ids (command_id c) ⊎ ((m : Command) × IsParent cs c m × IsKnown cs ids m)
  known_step c known =
      elim known.3 [
        | inl same ↦ inl (subst (λ z. Contains ids (command_id z)) (sym same) known.2)
        | inr above ↦ let first = first_link cs c known.0 above in inr (first.0, first.1, (known.0, known.1, known.2, first.2))
      ]

  -- an id of the sample, or of a parent of what is known among these
  abbrev pub IsReached : List Command → List ℕ → Type 0
  IsReached part id = Contains ids id ⊎ ((y : Command) × Contains part y × IsKnown cs ids y × Contains (parents_of y) id)

  module _ (c : Command) (inside : Contains cs c) (part : List Command) (of_list : (y : Command) → Contains part y → Contains cs y) (children : (m : Command) → IsParent cs c m → Contains part m) where
    reached_known : IsReached part (command_id c) → IsKnown cs ids c
    reached_known (inl own) = (c, inside, own, inl refl)
    reached_known (inr child) = known_up c child.0 (Parent (record { older = inside; newer = of_list child.0 child.1; link = child.3 })) child.2

    known_reached : IsKnown cs ids c → IsReached part (command_id c)
    known_reached known = elim (known_step c known) [ inl own ↦ inl own | inr child ↦ inr (child.0, children child.0 child.1, child.2, child.1.link) ]

module _ (cs : List Command) (closed : IsClosed cs) (ids : List (List ℕ)) where
  -- a child stands behind
  child_behind : (front rest : List Command) (c m : Command) → cs ≡ (front ++ c ∷ []) ++ rest → IsParent cs c m → Contains rest m
  child_behind front rest c m cut e =
      let whole : IsClosed ((front ++ c ∷ []) ++ rest) = subst IsClosed cut closed in
      let link : IsParent ((front ++ c ∷ []) ++ rest) c m = subst (λ l. IsParent l c m) cut e in
      elim (Contains-append_cases (front ++ c ∷ []) rest m link.newer) [
        | inl older ↦ absurd (newest_top front c m (each_left IsNext [] (front ++ c ∷ []) rest whole) (was (front ++ c ∷ []) rest whole c m older (Parent link)))
        | inr later ↦ later
      ]

  module _ (c : Command) (rest : List Command) (known : List (List ℕ)) (both : (id : List ℕ) → Contains known id ↔ IsReached cs ids rest id) (here : IsTrue (is_among known (command_id c)) ↔ IsKnown cs ids c) where
    -- the walk goes on with one command
    walk_one : (id : List ℕ) → Contains (with_parents c known) id ↔ IsReached cs ids (c ∷ rest) id
    walk_one id = by (is_among known (command_id c)) refl
      where
        further : IsReached cs ids rest id → IsReached cs ids (c ∷ rest) id
        further (inl own) = inl own
        further (inr child) = inr (child.0, behind_head c rest child.0 child.1, child.2, child.3)

        by : (b : Bool) → is_among known (command_id c) ≡ b → Contains (with_parents c known) id ↔ IsReached cs ids (c ∷ rest) id
        by true is =
            let same : with_parents c known ≡ parents_of c ++ known = rw is refl in
            subst (λ l. Contains l id ↔ IsReached cs ids (c ∷ rest) id) (sym same) (
              (λ h. elim (Contains-append_cases (parents_of c) known id h) [
                | inl link ↦ inr (c, at_head c rest, here.0 is, link)
                | inr older ↦ further ((both id).0 older)
              ]),
              (λ h. elim h [
                | inl own ↦ Contains-append_right (parents_of c) known id ((both id).1 (inl own))
                | inr child ↦
                    elim (head_cases c rest child.0 child.1) [
                      | inl this ↦ Contains-append_left (parents_of c) known id (subst (λ z. Contains (parents_of z) id) (sym this) child.3)
                      | inr later ↦ Contains-append_right (parents_of c) known id ((both id).1 (inr (child.0, later, child.2, child.3)))
                    ]
              ]),
            )
        by false is =
            let same : with_parents c known ≡ known = rw is refl in
            subst (λ l. Contains l id ↔ IsReached cs ids (c ∷ rest) id) (sym same) (
              (λ h. further ((both id).0 h)),
              (λ h. elim h [
                | inl own ↦ (both id).1 (inl own)
                | inr child ↦
                    elim (head_cases c rest child.0 child.1) [
                      | inl this ↦ let not_known = here.1 (subst (λ z. IsKnown cs ids z) (sym this) child.2) in absurd cc
                      | inr later ↦ (both id).1 (inr (child.0, later, child.2, child.3))
                    ]
              ]),
            )

  walk_reaches : (front rest : List Command) → cs ≡ front ++ rest → (id : List ℕ) → Contains (walked rest ids) id ↔ IsReached cs ids rest id
  walk_reaches front [] cut id = ((λ h. inl h), (λ h. elim h [ inl own ↦ own | inr child ↦ absurd (none_element child.0 child.1) ]))
  walk_reaches front (c ∷ rest) cut id =
      let longer : cs ≡ (front ++ c ∷ []) ++ rest = cut ∙ sym (append_assoc front (c ∷ []) rest) in
      let both : (i : List ℕ) → Contains (walked rest ids) i ↔ IsReached cs ids rest i = λ i. walk_reaches (front ++ c ∷ []) rest longer i in
      let inside : Contains cs c = subst (λ l. Contains l c) (sym cut) (Contains-append_right front (c ∷ rest) c (at_head c rest)) in
      let of_list : (y : Command) → Contains rest y → Contains cs y = λ y h. subst (λ l. Contains l y) (sym longer) (Contains-append_right (front ++ c ∷ []) rest y h) in
      let children : (m : Command) → IsParent cs c m → Contains rest m = λ m e. child_behind front rest c m longer e in
      walk_one c rest (walked rest ids) both (
        (λ h. reached_known cs ids c inside rest of_list children ((both (command_id c)).0 (of_among (walked rest ids) (command_id c) h))),
        (λ known. among_of (walked rest ids) (command_id c) ((both (command_id c)).1 (known_reached cs ids c inside rest of_list children known))),
      )
      id

  pub walks_find_missing : AreMissing cs ids (unknown cs (walked cs ids))
  walks_find_missing = record {
    is_known = λ c. is_among (walked cs ids) (command_id c);
    exact = λ c inside.
        let both = walk_reaches [] cs refl (command_id c) in
        let children : (m : Command) → IsParent cs c m → Contains cs m = λ m e. e.newer in (
          (λ h. reached_known cs ids c inside cs (λ y there. there) children (both.0 (of_among (walked cs ids) (command_id c) h))),
          (λ known. among_of (walked cs ids) (command_id c) (both.1 (known_reached cs ids c inside cs (λ y there. there) children known))),
        );
    same_missing = refl;
  }

pub found_missing : (ids keys : List (List ℕ)) (cs found : List Command) → IsClosed cs → HaveSame keys (walked cs ids) → found ≡ unknown cs keys → AreMissing cs ids found
found_missing ids keys cs found closed same is = subst (λ l. AreMissing cs ids l) (sym (is ∙ same_unknown cs keys (walked cs ids) same)) (walks_find_missing cs closed ids)
