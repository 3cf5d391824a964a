-- The braid of a closure: in a list of its own, under one tip, and under the heads.
use Rattle.std.proofs.Common.{◌≡◌, ℕ, zero, suc, ◌+◌, ◌↔◌, if◌then◌else◌, inl, inr, Bool, true, false, List, [], ◌∷◌, ◌++◌, slice_get, Option, Some, None, refl, sym, ap, subst, ◌∙◌, arith}
use Rattle.std.specs.List.{Contains, list_any}
use Rattle.std.specs.Str.{bytes_eq}
use Rattle.std.proofs.lemmas.List.Elements.{Contains-append_left, Contains-append_right, Contains-push, Contains-push_cases}
use Rattle.std.proofs.lemmas.Option.{same_Some}
use Rattle.command.specs.declared.command.Command.{Command}
use Rattle.command.specs.Ancestors.{Ancestor, IsAt, IsParent, IsUnder, IsUpTo, heads, is_parent, places_without}
use Rattle.command.specs.Ancestors.Ancestor.{Parent}
use Rattle.command.specs.Closed.{IsClosed, IsHeld, IsNext}
use Rattle.command.specs.Cuts.{cut_of_id}
use Rattle.command.specs.Kinds.{parents_of}
use Rattle.command.specs.Wire.{command_id}
use Rattle.command.proofs.AncestorFacts.{ancestor_down, from_newest, under_down}
use Rattle.command.proofs.CutFacts.{cut_agrees, one_above_same}
use Rattle.command.proofs.ClosedFacts.{held_by, held_command, same_by_id, same_bytes}
use Rattle.command.proofs.KnownAncestors.{Known, ancestor_known, known_same}
use Rattle.command.proofs.ListFacts.{at_head, behind_head, head_cases, each_before, each_last, each_more, from_end, none_element, one_element}
use Rattle.command.proofs.PlaceFacts.{inside_at}
use Rattle.command.proofs.ReachFacts.{any_found}
use Rattle.braid.specs.Agreeing.{ClosuresHaveOneBraid, IsClosure}
use Rattle.braid.specs.Braids.{IsBraid, IsBraidTo, IsBraidUnder}
use Rattle.braid.proofs.Agreement.{one_braid}
use Rattle.braid.proofs.Carrying.{in_one_list, same_braids}
use Rattle.braid.proofs.Gathering.{place_of_member}
use Rattle.braid.proofs.PickOrder.{one_at}
use Rattle.braid.proofs.UnderFacts.{under_known, up_known}

-- ---- a closure in a list of its own

module _ (cs : List Command) (tips : List ℕ) (part : List Command) (is : IsClosure cs tips part) where
  wider : (x y : Command) → Contains part x → Contains part y → Ancestor part x y → Ancestor cs x y
  wider x y h k a = ancestor_down cs part (λ m z e inside. ((is.holds m).0 e.older).0) x y a ((is.holds y).0 k).0

  narrower : (x y : Command) → Contains part x → Contains part y → Ancestor cs x y → Ancestor part x y
  narrower x y h k a = ancestor_down part cs (λ m z e inside. (is.holds m).1 (e.older, under_down cs tips m z (Parent e) ((is.holds z).0 inside).1)) x y a k

  own : (l : List Command) → IsBraid part l ↔ IsBraidUnder cs tips l
  own =
      same_braids part cs (λ x. Unit {0}) (IsUnder cs tips)
      (record {
        same = λ x. ((λ h. (is.holds x).0 h.0), (λ h. ((is.holds x).1 h, tt)));
        agree = λ x y h k. (wider x y h.0 k.0, narrower x y h.0 k.0);
      })

-- ---- there is such a list

-- the commands of a closed list that meet a condition, which each parent of one meets
module _ (cs : List Command) (P : Command → Type 0) (known : (x : Command) → Contains cs x → Known (P x)) (down : (m y : Command) → IsParent cs m y → P y → P m) where
  record IsPartOf (front part : List Command) : Type 0 where
    pub closed : IsClosed part
    pub holds : (x : Command) → Contains part x ↔ (Contains front x × P x)

  with_one : (front part : List Command) (c : Command) → IsClosed front → IsNext front c → ((x : Command) → Contains (front ++ c ∷ []) x → Contains cs x) → IsPartOf front part → P c → IsPartOf (front ++ c ∷ []) (part ++ c ∷ [])
  with_one front part c whole next within is that = record {
    closed =
        each_more IsNext part c is.closed
        (record {
          formed = next.formed;
          fresh = λ held.
              let d = held_command part (command_id c) held in
              next.fresh (subst (λ id. IsHeld front id) d.2 (held_by front d.0 ((is.holds d.0).0 d.1).0));
          held = λ id link.
              let m = held_command front id (next.held id link) in
              let e : IsParent cs m.0 c = record {
                older = within m.0 (Contains-append_left front (c ∷ []) m.0 m.1);
                newer = within c (Contains-push front c);
                link = subst (λ i. Contains (parents_of c) i) (sym m.2) link;
              } in
              subst (λ i. IsHeld part i) m.2 (held_by part m.0 ((is.holds m.0).1 (m.1, down m.0 c e that)));
          cut = λ stated told. next.cut stated told ∙ one_above_same (cut_of_id front) (cut_of_id part) (parents_of c) (λ id link.
              let m = held_command front id (next.held id link) in
              let e : IsParent cs m.0 c = record {
                older = within m.0 (Contains-append_left front (c ∷ []) m.0 m.1);
                newer = within c (Contains-push front c);
                link = subst (λ i. Contains (parents_of c) i) (sym m.2) link;
              } in
              ap (cut_of_id front) (sym m.2)
              ∙ sym (cut_agrees front whole part is.closed (λ x y h k. same_by_id front whole x y ((is.holds x).0 h).0 k) m.0 ((is.holds m.0).1 (m.1, down m.0 c e that)) m.1)
              ∙ ap (cut_of_id part) m.2);
        });
    holds = λ x. (
      (λ h. elim (Contains-push_cases part c x h) [
        | inl older ↦ let both = (is.holds x).0 older in (Contains-append_left front (c ∷ []) x both.0, both.1)
        | inr same ↦ subst (λ z. Contains (front ++ c ∷ []) z × P z) same (Contains-push front c, that)
      ]),
      (λ h. elim (Contains-push_cases front c x h.0) [
        | inl older ↦ Contains-append_left part (c ∷ []) x ((is.holds x).1 (older, h.1))
        | inr same ↦ subst (λ z. Contains (part ++ c ∷ []) z) same (Contains-push part c)
      ]),
    );
  }

  without_one : (front part : List Command) (c : Command) → IsPartOf front part → (P c → ⊥) → IsPartOf (front ++ c ∷ []) part
  without_one front part c is other = record {
    closed = is.closed;
    holds = λ x. (
      (λ h. let both = (is.holds x).0 h in (Contains-append_left front (c ∷ []) x both.0, both.1)),
      (λ h. elim (Contains-push_cases front c x h.0) [
        | inl older ↦ (is.holds x).1 (older, h.1)
        | inr same ↦ absurd (other (subst P (sym same) h.1))
      ]),
    );
  }

  part_of : (front : List Command) → IsClosed front → ((x : Command) → Contains front x → Contains cs x) → (part : List Command) × IsPartOf front part
  part_of = from_end (λ front. IsClosed front → ((x : Command) → Contains front x → Contains cs x) → (part : List Command) × IsPartOf front part)
      (λ closed within. ([], record { closed = tt; holds = λ x. ((λ h. absurd (none_element x h)), (λ h. h.0)) }))
      (λ front c before closed within.
      let older = before (each_before IsNext front c closed) (λ x h. within x (Contains-append_left front (c ∷ []) x h)) in
      elim (known c (within c (Contains-push front c))) [
        | inl that ↦ (older.0 ++ c ∷ [], with_one front older.0 c (each_before IsNext front c closed) (each_last IsNext front c closed) within older.1 that)
        | inr other ↦ (older.0, without_one front older.0 c older.1 other)
      ])

-- ---- under the heads

kept_here_place : (b : Bool) (n place : ℕ) (more : List ℕ) → b ≡ false → n ≡ place → Contains ((if b then [] else n ∷ []) ++ more) place
kept_here_place true n place more is same = absurd cc
kept_here_place false n place more is same = subst (λ p. Contains (n ∷ more) p) same (at_head n more)

head_has : (test : List ℕ → Bool) (n : ℕ) (cs : List Command) (i place : ℕ) (x : Command) → n + i ≡ place → slice_get cs i ≡ Some x → test (command_id x) ≡ false → Contains (places_without test n cs) place
head_has test n [] i place x sum is plain = absurd cc
head_has test n (c ∷ cs) zero place x sum is plain =
    kept_here_place (test (command_id c)) n place (places_without test (n + 1) cs) (ap (λ z. test (command_id z)) (same_Some c x is) ∙ plain) (omega (arith, sum))
head_has test n (c ∷ cs) (suc i) place x sum is plain =
    Contains-append_right (if test (command_id c) then [] else n ∷ []) (places_without test (n + 1) cs) place (head_has test (n + 1) cs i place x (omega (arith, sum)) is plain)

module _ (cs : List Command) (closed : IsClosed cs) where
  step : (y : Command) → Contains cs y → ((z : Command) → Ancestor cs y z → IsUnder cs (heads cs) z) → IsUnder cs (heads cs) y
  step y inside above = by (is_parent cs (command_id y)) refl
    where
      by : (b : Bool) → is_parent cs (command_id y) ≡ b → IsUnder cs (heads cs) y
      by true is =
          let child = any_found (λ z. list_any (bytes_eq (command_id y)) (parents_of z)) cs is in
          let link = any_found (bytes_eq (command_id y)) (parents_of child.0) child.2 in
          let e : IsParent cs y child.0 = record { older = inside; newer = child.1; link = subst (λ i. Contains (parents_of child.0) i) (sym (same_bytes (command_id y) link.0 link.2)) link.1 } in
          under_down cs (heads cs) y child.0 (Parent e) (above child.0 (Parent e))
      by false is =
          let place = place_of_member cs closed y inside in
          (place.0, head_has (is_parent cs) 0 cs place.0 place.0 y (omega arith) place.1 is, (y, place.1, inl refl))

  pub all_under : (x : Command) → Contains cs x → IsUnder cs (heads cs) x
  all_under x inside = from_newest (λ y. IsUnder cs (heads cs) y) cs closed step x inside

  whole : (l : List Command) → IsBraid cs l ↔ IsBraidUnder cs (heads cs) l
  whole = in_one_list cs (λ x. Unit {0}) (IsUnder cs (heads cs)) (λ x inside. ((λ h. all_under x inside), (λ h. tt)))

  -- ---- under one tip

  alone : (place : ℕ) (f : Command) → IsAt cs place f → (l : List Command) → IsBraidTo cs f l ↔ IsBraidUnder cs (place ∷ []) l
  alone place f is =
      in_one_list cs (IsUpTo cs f) (IsUnder cs (place ∷ []))
      (λ x inside. (
        (λ up. (place, at_head place [], (f, is, up))),
        (λ u. subst (λ z. IsUpTo cs z x) (one_at cs place u.2.0 f (subst (λ p. IsAt cs p u.2.0) (sym (one_element place u.0 u.1)) u.2.1) is) u.2.2),
      ))

  closure_of : (tips : List ℕ) → (part : List Command) × IsClosure cs tips part
  closure_of tips =
      let found = part_of cs (IsUnder cs tips) (under_known cs closed tips) (λ m y e. under_down cs tips m y (Parent e)) cs closed (λ x h. h) in
      (found.0, record { closed = found.1.closed; holds = found.1.holds })

  pub closures : ClosuresHaveOneBraid cs
  closures = record {
    some = closure_of;
    own = λ tips part is. own cs tips part is;
    one = λ tips a b. one_braid cs closed (IsUnder cs tips) a b;
    tip = alone;
    all = whole;
  }
