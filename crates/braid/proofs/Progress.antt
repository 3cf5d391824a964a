-- How the braid goes on: the start, one command more, and the end.
use Rattle.std.proofs.Common.{◌≡◌, ℕ, ◌<◌, ◌↔◌, inl, inr, true, false, List, [], ◌∷◌, ◌++◌, length, reverse, sym, ap, subst, ◌∙◌}
use Rattle.std.specs.List.{All, Contains}
use Rattle.command.specs.declared.command.Command.{Command}
use Rattle.command.specs.Ancestors.{Ancestor, IsAt, IsParent, IsUnder}
use Rattle.command.specs.Ancestors.Ancestor.{Parent, Further}
use Rattle.command.specs.Closed.{IsClosed}
use Rattle.command.specs.Each.{EachAfter}
use Rattle.command.specs.Kinds.{is_merge}
use Rattle.command.specs.Wire.{command_id}
use Rattle.command.proofs.AncestorFacts.{from_newest, trans, under_down}
use Rattle.command.proofs.ClosedFacts.{same_by_id}
use Rattle.command.proofs.KnownAncestors.{known_id}
use Rattle.command.proofs.ListFacts.{at_head, behind_head, head_cases, none_element}
use Rattle.command.proofs.PlaceFacts.{inside_at, one_place}
use Rattle.braid.specs.Bases.{IsRest}
use Rattle.braid.specs.Braids.{IsBraidOf, IsPlaced, IsTop, picked}
use Rattle.braid.specs.Lower.{IsLower}
use Rattle.braid.specs.working.Placing.{HasChild, IsAmong, IsFirst, IsFree, Placing, struck}
use Rattle.braid.proofs.Additions.{is_parent_of, parent_is}
use Rattle.braid.proofs.Agreement.{merge_cases}
use Rattle.braid.proofs.Existence.{plain, plain_has, plain_was}
use Rattle.braid.proofs.PickOrder.{lower_before, merge_before, one_at}
use Rattle.braid.proofs.Places.{among_picked, picked_among, picked_more, reverse_more, struck_has, struck_was}
use Rattle.braid.proofs.Placing.{each_same, taking, without, without_differs, without_has, without_was}

-- a command that is the parent of none that remains is an ancestor of none
free_is_top : (cs : List Command) (bases remaining : List ℕ) → ((m y : Command) → IsParent cs m y → IsAmong cs remaining y → ¬ IsUnder cs bases m → IsAmong cs remaining m) → (place : ℕ) (z : Command) → IsAt cs place z → IsFree cs remaining place → ¬ IsUnder cs bases z →
    (w : Command) → Ancestor cs z w → IsAmong cs remaining w → ⊥
free_is_top cs bases remaining down place z at free left w (Parent e) among = free z at (w, among, parent_is (command_id z) w e.link)
free_is_top cs bases remaining down place z at free left w (Further {m = m} a e) among =
    free_is_top cs bases remaining down place z at free left m a (down m w e among (λ u. left (under_down cs bases z m a u)))

-- a child that remains
child_is : (cs : List Command) (remaining : List ℕ) (z : Command) → Contains cs z → (h : HasChild cs remaining (command_id z)) → IsParent cs z h.0
child_is cs remaining z inside h = record { older = inside; newer = inside_at cs h.1.0 h.0 h.1.2; link = is_parent_of (command_id z) h.0 h.2 }

module _ (cs : List Command) (closed : IsClosed cs) (bases tips remaining tops placed : List ℕ) (now : Placing cs bases tips remaining tops placed) where
  -- where there is no top, nothing is remaining
  pub none_left : tops ≡ [] → (z : Command) → IsAmong cs remaining z → ⊥
  none_left empty z among =
      from_newest (λ y. IsAmong cs remaining y → ⊥) cs closed
      (λ y inside later here.
      let free : IsFree cs remaining here.0 = λ x at child.
      let same = one_at cs here.0 y x here.2 at in
      let h = subst (λ w. HasChild cs remaining (command_id w)) (sym same) child in
      later h.0 (Parent (child_is cs remaining y inside h)) h.1 in
      none_element here.0 (subst (λ l. Contains l here.0) empty ((now.free here.0).1 (here.1, free))))
      z (inside_at cs among.0 z among.2) among

  -- and then the braid is whole
  pub whole : tops ≡ [] → IsBraidOf cs (IsRest cs bases tips) (picked cs (reverse placed))
  whole empty = record {
    holds = λ x. (
      (λ h. (now.holds x).0 (inr h)),
      (λ h. elim ((now.holds x).1 h) [ inl waits ↦ absurd (none_left empty x ((now.plain_is x).0 waits).0) | inr there ↦ there ]),
    );
    placed = each_same cs now.plain [] (picked cs (reverse placed)) (λ z. ((λ h. absurd (none_left empty z ((now.plain_is z).0 h).0)), (λ h. absurd (none_element z h)))) now.order;
  }

  module _ (place : ℕ) (first : IsFirst cs tops place) (y : Command) (here : IsAt cs place y) where
    in_left : Contains remaining place × IsFree cs remaining place
    in_left = (now.free place).0 first.among

    inside : Contains cs y
    inside = inside_at cs place y here

    -- what remains when the place is taken
    next : List ℕ
    next = struck place remaining

    now_left : (z : Command) → IsAmong cs (struck place remaining) z → IsAmong cs remaining z
    now_left z h = (h.0, (struck_was place remaining h.0 h.1).0, h.2)

    not_taken : (z : Command) → IsAmong cs (struck place remaining) z → y ≡ z → ⊥
    not_taken z h same = (struck_was place remaining h.0 h.1).1 (one_place cs closed h.0 place z h.2 (subst (λ w. IsAt cs place w) same here))

    still_left : (z : Command) → IsAmong cs remaining z → (y ≡ z → ⊥) → IsAmong cs (struck place remaining) z
    still_left z h differs = (h.0, struck_has place remaining h.0 h.1 (λ same. differs (one_at cs place y z here (subst (λ p. IsAt cs p z) same h.2))), h.2)

    -- y is an ancestor of none that remains
    top : (w : Command) → Ancestor cs y w → IsAmong cs remaining w → ⊥
    top = free_is_top cs bases remaining now.down place y here in_left.1 (now.left y (place, in_left.0, here))

    down_next : (m w : Command) → IsParent cs m w → IsAmong cs (struck place remaining) w → ¬ IsUnder cs bases m → IsAmong cs (struck place remaining) m
    down_next m w e among left =
        still_left m (now.down m w e (now_left w among) left) (λ same. top w (Parent (subst (λ z. IsParent cs z w) (sym same) e)) (now_left w among))

    -- where y is no merge, the tops of those that are no merges are free
    plain_top : is_merge y ≡ false → (z : Command) → IsAmong cs remaining z → IsTop cs now.plain z → (w : Command) → Contains cs w → IsAmong cs remaining w → Ancestor cs z w → ⊥
    plain_top other z zed is_top w among_cs =
        from_newest (λ w. IsAmong cs remaining w → Ancestor cs z w → ⊥) cs closed
        (λ w there later among above.
        elim (merge_cases w) [
          | inr plain ↦ is_top w ((now.plain_is w).1 (among, plain)) above
          | inl merge ↦
              let free : IsFree cs remaining among.0 = λ v at child.
              let same = one_at cs among.0 w v among.2 at in
              let kid = subst (λ u. HasChild cs remaining (command_id u)) (sym same) child in
              let link = Parent (child_is cs remaining w there kid) in
              later kid.0 link kid.1 (trans cs z w kid.0 above link) in
              first.lowest w y (among.0, (now.free among.0).1 (among.1, free), among.2) here (merge_before w y merge other)
        ])
        w among_cs

    pub lowest : is_merge y ≡ false → (z : Command) → Contains now.plain z → IsTop cs now.plain z → IsLower z y → ⊥
    lowest other z h is_top lower =
        let among = (now.plain_is z).0 h in
        let free : IsFree cs remaining among.0.0 = λ v at child.
        let same = one_at cs among.0.0 z v among.0.2 at in
        let kid = subst (λ u. HasChild cs remaining (command_id u)) (sym same) child in
        plain_top other z among.0 is_top kid.0 (inside_at cs kid.1.0 kid.0 kid.1.2) kid.1 (Parent (child_is cs remaining z (inside_at cs among.0.0 z among.0.2) kid)) in
        first.lowest z y (among.0.0, (now.free among.0.0).1 (among.0.1, free), among.0.2) here (lower_before z y among.1 other lower)

    -- a merge is taken, and not placed
    pub take_merge : is_merge y ≡ true → (more : List ℕ) → ((p : ℕ) → Contains more p ↔ (Contains (struck place remaining) p × IsFree cs (struck place remaining) p)) → Placing cs bases tips (struck place remaining) more placed
    take_merge merge more free = record {
      within = λ p h. now.within p (struck_was place remaining p h).0;
      free = free;
      down = down_next;
      left = λ z h. now.left z (now_left z h);
      plain = now.plain;
      plain_is = λ z. (
        (λ h. let was = (now.plain_is z).0 h in (still_left z was.0 (λ same. let both = subst (λ w. is_merge w ≡ true) same merge in let other = was.1 in absurd cc), was.1)),
        (λ h. (now.plain_is z).1 (now_left z h.0, h.1)),
      );
      order = now.order;
      holds = now.holds;
      done = now.done;
    }

    -- another command is taken, and placed in front of the others
    pub take_plain : is_merge y ≡ false → (more after : List ℕ) → ((p : ℕ) → Contains more p ↔ (Contains (struck place remaining) p × IsFree cs (struck place remaining) p)) → after ≡ placed ++ place ∷ [] →
        All (λ p. p < length cs) after → Placing cs bases tips (struck place remaining) more after
    take_plain other more after free grown within = record {
      within = λ p h. now.within p (struck_was place remaining p h).0;
      free = free;
      down = down_next;
      left = λ z h. now.left z (now_left z h);
      plain = without (command_id y) now.plain;
      plain_is = λ z. (
        (λ h.
            let was = (now.plain_is z).0 (without_was (command_id y) now.plain z h) in
            (still_left z was.0 (λ same. without_differs (command_id y) now.plain z h (ap command_id same)), was.1)),
        (λ h. without_has (command_id y) now.plain z ((now.plain_is z).1 (now_left z h.0, h.1))
            (λ same. not_taken z h.0 (same_by_id cs closed y z inside (inside_at cs h.0.0 z h.0.2) same))),
      );
      order = subst (λ l. EachAfter (IsPlaced cs) (without (command_id y) now.plain) l) (sym order_is)
          (taking cs closed now.plain (λ z h. let w = ((now.plain_is z).0 h).0 in inside_at cs w.0 z w.2) y in_plain (picked cs (reverse placed)) now.order
          (λ z h a. top z a ((now.plain_is z).0 h).0) (lowest other));
      holds = λ x. (
        (λ h. elim h [
          | inl waits ↦ (now.holds x).0 (inl (without_was (command_id y) now.plain x waits))
          | inr there ↦
              elim (head_cases y (picked cs (reverse placed)) x (subst (λ l. Contains l x) order_is there)) [
                | inl same ↦ subst (λ w. Contains cs w × IsRest cs bases tips w × (is_merge w ≡ false)) same ((now.holds y).0 (inl in_plain))
                | inr later ↦ (now.holds x).0 (inr later)
              ]
        ]),
        (λ h. elim ((now.holds x).1 h) [
          | inr there ↦ inr (subst (λ l. Contains l x) (sym order_is) (behind_head y (picked cs (reverse placed)) x there))
          | inl waits ↦
              elim (known_id (command_id y) (command_id x)) [
                | inl same ↦
                    let w = ((now.plain_is x).0 waits).0 in
                    inr (subst (λ l. Contains l x) (sym order_is)
                    (subst (λ v. Contains (y ∷ picked cs (reverse placed)) v) (same_by_id cs closed y x inside (inside_at cs w.0 x w.2) same) (at_head y (picked cs (reverse placed)))))
                | inr differs ↦ inl (without_has (command_id y) now.plain x waits differs)
              ]
        ]),
      );
      done = within;
    }
      where
        in_plain : Contains now.plain y
        in_plain = (now.plain_is y).1 ((place, in_left.0, here), other)

        order_is : picked cs (reverse after) ≡ y ∷ picked cs (reverse placed)
        order_is = ap (λ l. picked cs (reverse l)) grown ∙ ap (picked cs) (reverse_more placed place) ∙ picked_more cs place (reverse placed) y here

-- at the start nothing is placed
pub began : (cs : List Command) (bases tips remaining tops : List ℕ) → ((p : ℕ) → Contains remaining p → p < length cs) → ((z : Command) → IsAmong cs remaining z ↔ IsRest cs bases tips z) →
    ((p : ℕ) → Contains tops p ↔ (Contains remaining p × IsFree cs remaining p)) → All (λ p. p < length cs) [] → Placing cs bases tips remaining tops []
began cs bases tips remaining tops within under free none = record {
  within = within;
  free = free;
  down = λ m y e among left. (under m).1 (under_down cs tips m y (Parent e) ((under y).0 among).0, left);
  left = λ z h. ((under z).0 h).1;
  plain = plain (picked cs remaining);
  plain_is = λ z. (
    (λ h. let was = plain_was (picked cs remaining) z h in (picked_among cs remaining z was.0, was.1)),
    (λ h. plain_has (picked cs remaining) z (among_picked cs remaining z h.0) h.1),
  );
  order = tt;
  holds = λ x. (
    (λ h. elim h [
      | inl waits ↦ let was = plain_was (picked cs remaining) x waits in let among = picked_among cs remaining x was.0 in (inside_at cs among.0 x among.2, (under x).0 among, was.1)
      | inr never ↦ absurd (none_element x never)
    ]),
    (λ h. inl (plain_has (picked cs remaining) x (among_picked cs remaining x ((under x).1 h.1)) h.2)),
  );
  done = none;
}
