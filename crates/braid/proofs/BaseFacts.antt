-- At a base the braid parts.
use Rattle.std.proofs.Common.{◌≡◌, ℕ, ◌⊎◌, ◌↔◌, inl, inr, Bool, true, false, List, [], ◌∷◌, ◌++◌, length, refl, sym, ap, subst, ◌∙◌, arith, append_assoc, append-nil}
use Rattle.std.specs.List.{Contains}
use Rattle.std.proofs.lemmas.List.Elements.{Contains-append_left, Contains-append_right, Contains-append_cases, Contains-push, Contains-push_cases}
use Rattle.command.specs.declared.command.Command.{Command}
use Rattle.command.specs.Ancestors.{Ancestor, AreInLine, IsParent, IsUnder, IsUpTo}
use Rattle.command.specs.Ancestors.Ancestor.{Parent, Further}
use Rattle.command.specs.Wire.{command_id}
use Rattle.command.proofs.ClosedFacts.{held_command, same_by_id}
use Rattle.command.specs.Closed.{IsClosed, IsNext}
use Rattle.command.specs.Each.{EachAfter}
use Rattle.command.specs.Kinds.{is_finalize, is_merge}
use Rattle.command.proofs.AncestorFacts.{older_inside, trans, under_down}
use Rattle.command.proofs.KnownAncestors.{Known}
use Rattle.command.proofs.ListFacts.{at_head, behind_head, each_before, each_join, each_last, from_end, head_cases, none_element}
use Rattle.command.proofs.PlaceFacts.{inside_at}
use Rattle.braid.specs.Bases.{IsAbove, IsBase, IsWaist, PartsAt}
use Rattle.braid.specs.Braids.{IsBraidOf, IsBraidTo, IsBraidUnder, IsPlaced, IsTop}
use Rattle.braid.specs.Lower.{IsLower}
use Rattle.braid.proofs.Agreement.{merge_cases, one_braid}
use Rattle.braid.proofs.UnderFacts.{under_known, up_known}
use Rattle.braid.proofs.Existence.{finish}
use Rattle.braid.proofs.Finality.{finalize_cases}

-- ---- some commands of a closed list, by a condition, have a braid

abbrev Chosen : (Command → Type 0) → List Command → List Command → Type 0
Chosen P front these = (x : Command) → Contains these x ↔ (Contains front x × P x)

chosen : (P : Command → Type 0) (front : List Command) → ((x : Command) → Contains front x → Known (P x)) → (these : List Command) × Chosen P front these
chosen P [] known = ([], (λ x. ((λ h. absurd (none_element x h)), (λ h. h.0))))
chosen P (c ∷ cs) known = with_first (chosen P cs (λ x h. known x (behind_head c cs x h))) (known c (at_head c cs))
  where
    with_first : (these : List Command) × Chosen P cs these → Known (P c) → (these : List Command) × Chosen P (c ∷ cs) these
    with_first rest (inl that) = (
      c ∷ rest.0,
      (λ x. (
        (λ h. elim (head_cases c rest.0 x h) [
          | inl same ↦ subst (λ z. Contains (c ∷ cs) z × P z) same (at_head c cs, that)
          | inr later ↦ let both = (rest.1 x).0 later in (behind_head c cs x both.0, both.1)
        ]),
        (λ h. elim (head_cases c cs x h.0) [
          | inl same ↦ subst (λ z. Contains (c ∷ rest.0) z) same (at_head c rest.0)
          | inr later ↦ behind_head c rest.0 x ((rest.1 x).1 (later, h.1))
        ]),
      )),
    )
    with_first rest (inr other) = (
      rest.0,
      (λ x. (
        (λ h. let both = (rest.1 x).0 h in (behind_head c cs x both.0, both.1)),
        (λ h. elim (head_cases c cs x h.0) [
          | inl same ↦ absurd (other (subst P (sym same) h.1))
          | inr later ↦ (rest.1 x).1 (later, h.1)
        ]),
      )),
    )

plain_known : (x : Command) → Known (is_merge x ≡ false)
plain_known x = elim (merge_cases x) [ inl merge ↦ inr (λ plain. absurd cc) | inr plain ↦ inl plain ]

both_known : {A B : Type 0} → Known A → Known B → Known (A × B)
both_known (inl a) (inl b) = inl (a, b)
both_known (inl a) (inr other) = inr (λ h. other h.1)
both_known (inr other) b = inr (λ h. other h.0)

other_known : {A : Type 0} → Known A → Known (A → ⊥)
other_known (inl a) = inr (λ h. h a)
other_known (inr other) = inl other

pub some_braid_of : (cs : List Command) → IsClosed cs → (P : Command → Type 0) → ((x : Command) → Contains cs x → Known (P x)) → (braid : List Command) × IsBraidOf cs P braid
some_braid_of cs closed P known =
    let these = chosen (λ x. P x × (is_merge x ≡ false)) cs (λ x h. both_known (known x h) (plain_known x)) in
    let whole = finish cs closed (length these.0) these.0 [] (λ z h. ((these.1 z).0 h).0) (omega arith) tt in (
      whole.0,
      record {
        holds = λ x. (
          (λ h. let was = (these.1 x).0 (subst (λ l. Contains l x) (append-nil these.0) ((whole.2 x).0 h)) in (was.0, was.1.0, was.1.1)),
          (λ h. (whole.2 x).1 (subst (λ l. Contains l x) (sym (append-nil these.0)) ((these.1 x).1 (h.0, (h.1, h.2))))),
        );
        placed = whole.1;
      },
    )

-- what stands under tips is of the list
pub under_inside : (cs : List Command) (tips : List ℕ) (x : Command) → IsUnder cs tips x → Contains cs x
under_inside cs tips x u = elim u.2.2 [ inl same ↦ subst (λ z. Contains cs z) (sym same) (inside_at cs u.0 u.2.0 u.2.1) | inr above ↦ older_inside cs x u.2.0 above ]

-- ---- the braid at a base

-- the tips of the front and the base are lower than nothing that isn't a descendant
not_lower : (f x : Command) → is_finalize f ≡ true → is_finalize x ≡ false → IsLower f x → ⊥
not_lower f x is other (IsLower.under_finalize one two) = absurd cc
not_lower f x is other (IsLower.smaller_priority one two) = absurd cc
not_lower f x is other (IsLower.greater_id one two three) = absurd cc

module _ (cs : List Command) (closed : IsClosed cs) (tips : List ℕ) (f : Command) (base : IsBase cs tips f) where
  inside : Contains cs f
  inside = under_inside cs tips f base.under

  -- what stands up to f is of the tips' closure
  up_is_under : (x : Command) → IsUpTo cs f x → IsUnder cs tips x
  up_is_under x up = elim up [ inl same ↦ subst (λ z. IsUnder cs tips z) (sym same) base.under | inr above ↦ under_down cs tips x f above base.under ]

  -- who is an ancestor of what stands up to f does so too
  up_down : (x z : Command) → Ancestor cs x z → IsUpTo cs f z → IsUpTo cs f x
  up_down x z a up = elim up [ inl same ↦ inr (subst (λ w. Ancestor cs x w) same a) | inr above ↦ inr (trans cs x z f a above) ]

  module _ (front : List Command) (closure : IsBraidTo cs f front) where
    f_there : Contains front f
    f_there = (closure.holds f).1 (inside, inl refl, base.plain)

    -- in front of what stands above f, f is the only one that may be a top
    place_on : (mid : List Command) (x : Command) → IsAbove cs tips f x → IsPlaced cs mid x → IsPlaced cs (front ++ mid) x
    place_on mid x above p = record {
      once = λ h. elim (Contains-append_cases front mid x h) [
        | inl old ↦ above.1 ((closure.holds x).0 old).1
        | inr new ↦ p.once new
      ];
      above = λ z h a. elim (Contains-append_cases front (mid ++ x ∷ []) z (subst (λ l. Contains l z) (append_assoc front mid (x ∷ [])) h)) [
        | inl old ↦ above.1 (up_down x z a ((closure.holds z).0 old).1)
        | inr new ↦ p.above z new a
      ];
      lowest = λ y h top lower. elim (Contains-append_cases front mid y h) [
        | inr new ↦ p.lowest y new (λ z k. top z (subst (λ l. Contains l z) (sym (append_assoc front mid (x ∷ []))) (Contains-append_right front (mid ++ x ∷ []) z k))) lower
        | inl old ↦
            elim ((closure.holds y).0 old).1 [
              | inr older ↦ top f (Contains-append_left (front ++ mid) (x ∷ []) f (Contains-append_left front mid f f_there)) older
              | inl same ↦
                  elim (base.beside x above) [
                    | inl below ↦ top x (Contains-push (front ++ mid) x) (subst (λ w. Ancestor cs w x) (sym same) below)
                    | inr beside ↦ not_lower f x beside.0 beside.1 (subst (λ w. IsLower w x) same lower)
                  ]
            ]
      ];
    }

    places_on : (mid rest : List Command) → ((x : Command) → Contains rest x → IsAbove cs tips f x) → EachAfter (IsPlaced cs) mid rest → EachAfter (IsPlaced cs) (front ++ mid) rest
    places_on mid [] all h = tt
    places_on mid (x ∷ rest) all h = (
      place_on mid x (all x (at_head x rest)) h.0,
      subst (λ l. EachAfter (IsPlaced cs) l rest) (sym (append_assoc front mid (x ∷ []))) (places_on (mid ++ x ∷ []) rest (λ z k. all z (behind_head x rest z k)) h.1),
    )

    pub joined : (rest : List Command) → IsBraidOf cs (IsAbove cs tips f) rest → IsBraidUnder cs tips (front ++ rest)
    joined rest is = record {
      holds = λ x. (
        (λ h. elim (Contains-append_cases front rest x h) [
          | inl old ↦ let there = (closure.holds x).0 old in (there.0, up_is_under x there.1, there.2)
          | inr new ↦ let there = (is.holds x).0 new in (there.0, there.1.0, there.2)
        ]),
        (λ h. elim (up_known cs closed f x inside h.0) [
          | inl up ↦ Contains-append_left front rest x ((closure.holds x).1 (h.0, up, h.2))
          | inr other ↦ Contains-append_right front rest x ((is.holds x).1 (h.0, (h.1, other), h.2))
        ]),
      );
      placed =
          each_join (IsPlaced cs) [] front rest closure.placed
          (subst (λ l. EachAfter (IsPlaced cs) l rest) (append-nil front) (places_on [] rest (λ x h. ((is.holds x).0 h).1) is.placed));
    }

  pub parts_at : PartsAt cs tips f
  parts_at = record {
    joined = λ front rest closure is. joined front closure rest is;
    parted = λ braid is.
        let front = some_braid_of cs closed (IsUpTo cs f) (λ x h. up_known cs closed f x inside h) in
        let rest = some_braid_of cs closed (IsAbove cs tips f) (λ x h. both_known (under_known cs closed tips x h) (other_known (up_known cs closed f x inside h))) in
        (front.0, rest.0, front.1, rest.1, one_braid cs closed (IsUnder cs tips) braid (front.0 ++ rest.0) is (joined front.0 front.1 rest.0 rest.1));
  }

-- ---- finalize commands and waists are bases

pub finalize_is_base : (cs : List Command) → AreInLine cs → (tips : List ℕ) (f : Command) → Contains cs f → is_finalize f ≡ true → is_merge f ≡ false → IsUnder cs tips f
    → ((x : Command) → IsUnder cs tips x → Contains cs x) → IsBase cs tips f
finalize_is_base cs line tips f inside is plain under within = record {
  under = under;
  plain = plain;
  beside = λ x above. elim (finalize_cases x) [
    | inr other ↦ inr (is, other)
    | inl also ↦
        elim (line f x inside (within x above.0) is also) [
          | inl same ↦ absurd (above.1 (inl (sym same)))
          | inr either ↦ elim either [ inl newer ↦ inl newer | inr older ↦ absurd (above.1 (inr older)) ]
        ]
  ];
}

pub waist_is_base : (cs : List Command) (tips : List ℕ) (f : Command) → IsWaist cs f → is_merge f ≡ false → IsUnder cs tips f → ((x : Command) → IsUnder cs tips x → Contains cs x) → IsBase cs tips f
waist_is_base cs tips f waist plain under within = record {
  under = under;
  plain = plain;
  beside = λ x above. elim (waist x (within x above.0)) [ inl up ↦ absurd (above.1 up) | inr below ↦ inl below ];
}

-- ---- what stands straight above a command

module _ (all : List Command) (closed : IsClosed all) (tips : List ℕ) (f : Command) (inside : Contains all f)
    (straight : (m x : Command) → IsParent all m x → IsAbove all tips f x → IsUpTo all f m → m ≡ f) (parented : (x : Command) → IsAbove all tips f x → (m : Command) × IsParent all m x) where
  -- with each command above f of a front, f is its ancestor
  descends : (front : List Command) → IsClosed front → ((x : Command) → Contains front x → Contains all x) → (x : Command) → Contains front x → IsAbove all tips f x → Ancestor all f x
  descends = from_end (λ front. IsClosed front → ((x : Command) → Contains front x → Contains all x) → (x : Command) → Contains front x → IsAbove all tips f x → Ancestor all f x)
      (λ shut within x h above. absurd (none_element x h))
      (λ front c before shut within x h above.
      elim (Contains-push_cases front c x h) [
        | inl older ↦ before (each_before IsNext front c shut) (λ z k. within z (Contains-append_left front (c ∷ []) z k)) x older above
        | inr last ↦
            let there = subst (λ z. IsAbove all tips f z) (sym last) above in
            let p = parented c there in
            let m = p.0 in
            let e = p.1 in
            let held = held_command front (command_id m) ((each_last IsNext front c shut).held (command_id m) e.link) in
            let old : Contains front m = subst (λ z. Contains front z) (same_by_id all closed held.0 m (within held.0 (Contains-append_left front (c ∷ []) held.0 held.1)) e.older held.2) held.1 in
            subst (λ z. Ancestor all f z) last
            (elim (up_known all closed f m inside e.older) [
              | inl up ↦ Parent (subst (λ z. IsParent all z c) (straight m c e there up) e)
              | inr other ↦
                  Further (before (each_before IsNext front c shut) (λ z k. within z (Contains-append_left front (c ∷ []) z k)) m old (under_down all tips m c (Parent e) there.0, other)) e
            ])
      ])

  pub straight_is_base : IsUnder all tips f → is_merge f ≡ false → IsBase all tips f
  straight_is_base under plain = record {
    under = under;
    plain = plain;
    beside = λ x above. inl (descends all closed (λ z k. k) x (under_inside all tips x above.0) above);
  }
