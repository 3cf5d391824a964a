-- There is a braid: where some commands are left, one of them is the lowest top.
use Rattle.std.proofs.Common.{◌≡◌, ℕ, zero, suc, ◌+◌, ◌<◌, ◌≤◌, ◌⊎◌, ◌↔◌, inl, inr, Bool, true, false, if◌then◌else◌, List, [], ◌∷◌, ◌++◌, length, sym, ap, subst, arith, append_assoc, append-nil, length-append}
use Rattle.std.specs.List.{Contains}
use Rattle.std.specs.Str.{bytes_eq}
use Rattle.std.proofs.lemmas.List.Elements.{Contains-append_left, Contains-append_right, Contains-append_cases}
use Rattle.command.specs.declared.command.Command.{Command}
use Rattle.command.specs.Ancestors.{Ancestor}
use Rattle.command.specs.Closed.{IsClosed}
use Rattle.command.specs.Each.{Each, EachAfter}
use Rattle.command.specs.Kinds.{is_merge}
use Rattle.command.specs.Wire.{command_id}
use Rattle.command.proofs.AncestorFacts.{from_newest}
use Rattle.command.proofs.ClosedFacts.{bytes_of_same, same_by_id}
use Rattle.command.proofs.KnownAncestors.{ancestor_known}
use Rattle.command.proofs.ListFacts.{at_head, behind_head, head_cases, none_element}
use Rattle.braid.specs.Braids.{IsBraid, IsPlaced, IsTop}
use Rattle.braid.specs.Lower.{IsLower}
use Rattle.braid.proofs.Order.{lower_cases, lower_not_itself, lower_trans}
use Rattle.braid.proofs.Placing.{Same, kept_cases, kept_here, kept_later, taken_same, taking, without, without_was}

module _ (cs : List Command) (closed : IsClosed cs) (rest : List Command) (inside : (z : Command) → Contains rest z → Contains cs z) where
  -- a command of some that y is an ancestor of, or there is none
  descendant : (y : Command) → Contains cs y → (these : List Command) → ((z : Command) → Contains these z → Contains cs z) →
      ((z : Command) × Contains these z × Ancestor cs y z) ⊎ ((z : Command) → Contains these z → Ancestor cs y z → ⊥)
  descendant y here [] among = inr (λ z h a. none_element z h)
  descendant y here (x ∷ these) among =
      elim (ancestor_known cs closed y x here (among x (at_head x these))) [
        | inl above ↦ inl (x, at_head x these, above)
        | inr not_above ↦
            elim (descendant y here these (λ z h. among z (behind_head x these z h))) [
              | inl found ↦ inl (found.0, behind_head x these found.0 found.1, found.2)
              | inr none ↦ inr (λ z h a. elim (head_cases x these z h) [ inl same ↦ not_above (subst (λ w. Ancestor cs y w) (sym same) a) | inr later ↦ none z later a ])
            ]
      ]

  -- where some are left, one is a top
  pub some_top : (y : Command) → Contains rest y → (t : Command) × Contains rest t × IsTop cs rest t
  some_top y here =
      from_newest (λ y. Contains rest y → (t : Command) × Contains rest t × IsTop cs rest t) cs closed
      (λ w among above left. elim (descendant w among rest inside) [
        | inl found ↦ above found.0 found.2 found.1
        | inr none ↦ (w, left, none)
      ])
      y (inside y here) here

  -- of some commands the lowest that is a top of the rest, or none of them is one
  lowest_of : (these : List Command) → ((z : Command) → Contains these z → Contains rest z) →
      ((t : Command) × Contains these t × IsTop cs rest t × ((z : Command) → Contains these z → IsTop cs rest z → IsLower z t → ⊥)) ⊎ ((z : Command) → Contains these z → IsTop cs rest z → ⊥)
  lowest_of [] among = inr (λ z h top. none_element z h)
  lowest_of (x ∷ these) among = with_first (lowest_of these (λ z h. among z (behind_head x these z h))) (descendant x (inside x (among x (at_head x these))) rest inside)
    where
      with_first : ((t : Command) × Contains these t × IsTop cs rest t × ((z : Command) → Contains these z → IsTop cs rest z → IsLower z t → ⊥)) ⊎ ((z : Command) → Contains these z → IsTop cs rest z → ⊥) →
          ((z : Command) × Contains rest z × Ancestor cs x z) ⊎ ((z : Command) → Contains rest z → Ancestor cs x z → ⊥) →
          ((t : Command) × Contains (x ∷ these) t × IsTop cs rest t × ((z : Command) → Contains (x ∷ these) z → IsTop cs rest z → IsLower z t → ⊥)) ⊎ ((z : Command) → Contains (x ∷ these) z → IsTop cs rest z → ⊥)
      with_first (inl best) (inl below) =
          inl (
            best.0,
            behind_head x these best.0 best.1,
            best.2,
            (λ z h top lower. elim (head_cases x these z h) [
              | inl same ↦ top below.0 below.1 (subst (λ w. Ancestor cs w below.0) same below.2)
              | inr later ↦ best.3 z later top lower
            ]),
          )
      with_first (inr none) (inl below) =
          inr (λ z h top. elim (head_cases x these z h) [ inl same ↦ top below.0 below.1 (subst (λ w. Ancestor cs w below.0) same below.2) | inr later ↦ none z later top ])
      with_first (inr none) (inr top) =
          inl (
            x,
            at_head x these,
            top,
            (λ z h above lower. elim (head_cases x these z h) [
              | inl same ↦ lower_not_itself x (subst (λ w. IsLower w x) (sym same) lower)
              | inr later ↦ none z later above
            ]),
          )
      with_first (inl best) (inr top) =
          elim (lower_cases x best.0) [
            | inl lower ↦
                inl (
                  x,
                  at_head x these,
                  top,
                  (λ z h above below. elim (head_cases x these z h) [
                    | inl same ↦ lower_not_itself x (subst (λ w. IsLower w x) (sym same) below)
                    | inr later ↦ best.3 z later above (lower_trans z x best.0 below lower)
                  ]),
                )
            | inr not_lower ↦
                inl (
                  best.0,
                  behind_head x these best.0 best.1,
                  best.2,
                  (λ z h above below. elim (head_cases x these z h) [
                    | inl same ↦ first_not_lower best.0 (among best.0 (behind_head x these best.0 best.1)) not_lower (subst (λ w. IsLower w best.0) (sym same) below)
                    | inr later ↦ best.3 z later above below
                  ]),
                )
          ]
        where
          first_not_lower : (t : Command) → Contains rest t → IsLower t x ⊎ (command_id x ≡ command_id t) → IsLower x t → ⊥
          first_not_lower t there (inl back) lower = lower_not_itself x (lower_trans x t x lower back)
          first_not_lower t there (inr one_id) lower =
              let same = same_by_id cs closed x t (inside x (among x (at_head x these))) (inside t there) one_id in lower_not_itself x (subst (λ w. IsLower x w) (sym same) lower)

  pub lowest_top : (y : Command) → Contains rest y → (t : Command) × Contains rest t × IsTop cs rest t × ((z : Command) → Contains rest z → IsTop cs rest z → IsLower z t → ⊥)
  lowest_top y here =
      elim (lowest_of rest (λ z h. h)) [
        | inl best ↦ best
        | inr none ↦ let t = some_top y here in absurd (none t.0 t.1 t.2)
      ]

-- the commands that are no merges
pub plain : List Command → List Command
plain [] = []
plain (c ∷ cs) = (if is_merge c then [] else c ∷ []) ++ plain cs

pub plain_was : (cs : List Command) (z : Command) → Contains (plain cs) z → Contains cs z × (is_merge z ≡ false)
unfolding plain
plain_was [] z h = absurd (none_element z h)
plain_was (c ∷ cs) z h =
    elim (kept_cases (is_merge c) c z (plain cs) h) [
      | inl here ↦ (subst (λ w. Contains (c ∷ cs) w) here.1 (at_head c cs), subst (λ w. is_merge w ≡ false) here.1 here.0)
      | inr later ↦ let was = plain_was cs z later in (behind_head c cs z was.0, was.1)
    ]

pub plain_has : (cs : List Command) (z : Command) → Contains cs z → is_merge z ≡ false → Contains (plain cs) z
unfolding plain
plain_has [] z h is = absurd (none_element z h)
plain_has (c ∷ cs) z h is =
    elim (head_cases c cs z h) [
      | inl same ↦ subst (λ w. Contains (plain (c ∷ cs)) w) same (kept_here (is_merge c) c (plain cs) (subst (λ w. is_merge w ≡ false) (sym same) is))
      | inr later ↦ kept_later (is_merge c) c z (plain cs) (plain_has cs z later is)
    ]

length-kept : (b : Bool) (c : Command) (more : List Command) → length ((if b then [] else c ∷ []) ++ more) ≤ length more + 1
length-kept true c more = omega arith
length-kept false c more = omega (arith, length-append (c ∷ []) more)

length-struck : (b : Bool) (c : Command) (more : List Command) → b ≡ true → length ((if b then [] else c ∷ []) ++ more) ≤ length more
length-struck true c more is = omega arith
length-struck false c more is = absurd cc

no_longer : (id : List ℕ) (cs : List Command) → length (without id cs) ≤ length cs
unfolding without
no_longer id [] = omega arith
no_longer id (c ∷ cs) = let more = no_longer id cs in let one = length-kept (bytes_eq id (command_id c)) c (without id cs) in omega (arith, more, one)

pub without_shorter : (cs : List Command) (t : Command) → Contains cs t → length (without (command_id t) cs) < length cs
unfolding without
without_shorter [] t h = absurd (none_element t h)
without_shorter (c ∷ cs) t h =
    elim (head_cases c cs t h) [
      | inl same ↦
          let one = length-struck (bytes_eq (command_id t) (command_id c)) c (without (command_id t) cs) (bytes_of_same (command_id t) (command_id c) (sym (ap command_id same))) in
          let more = no_longer (command_id t) cs in omega (arith, one, more)
      | inr later ↦
          let more = without_shorter cs t later in let one = length-kept (bytes_eq (command_id t) (command_id c)) c (without (command_id t) cs) in omega (arith, more, one)
    ]

module _ (cs : List Command) (closed : IsClosed cs) where
  -- the rest can be placed
  pub finish : (n : ℕ) (rest placed : List Command) → ((z : Command) → Contains rest z → Contains cs z) → length rest ≤ n → EachAfter (IsPlaced cs) rest placed →
      (braid : List Command) × Each (IsPlaced cs) braid × ((z : Command) → Contains braid z ↔ Contains (rest ++ placed) z)
  finish n [] placed inside few order = (placed, order, (λ z. ((λ h. h), (λ h. h))))
  finish zero (x ∷ xs) placed inside few order = absurd (omega (arith, few))
  finish (suc n) (x ∷ xs) placed inside few order =
      let rest : List Command = x ∷ xs in
      let t = lowest_top cs closed rest inside x (at_head x xs) in
      let next = without (command_id t.0) rest in
      let shorter = without_shorter rest t.0 t.1 in
      let whole = finish n next (t.0 ∷ placed) (λ z h. inside z (without_was (command_id t.0) rest z h)) (omega (arith, few, shorter)) (taking cs closed rest inside t.0 t.1 placed order t.2 t.3) in
      let same = taken_same cs closed rest inside t.0 t.1 in
      (whole.0, whole.1, (λ z. ((λ h. back z rest placed next t.0 same ((whole.2 z).0 h)), (λ h. (whole.2 z).1 (forth z rest placed next t.0 same h)))))
    where
      back : (z : Command) (rest placed next : List Command) (t : Command) → Same rest (next ++ t ∷ []) → Contains (next ++ t ∷ placed) z → Contains (rest ++ placed) z
      back z rest placed next t same h =
          elim (Contains-append_cases (next ++ t ∷ []) placed z (subst (λ l. Contains l z) (sym (append_assoc next (t ∷ []) placed)) h)) [
            | inl left ↦ Contains-append_left rest placed z ((same z).1 left)
            | inr right ↦ Contains-append_right rest placed z right
          ]

      forth : (z : Command) (rest placed next : List Command) (t : Command) → Same rest (next ++ t ∷ []) → Contains (rest ++ placed) z → Contains (next ++ t ∷ placed) z
      forth z rest placed next t same h =
          subst (λ l. Contains l z) (append_assoc next (t ∷ []) placed)
          (elim (Contains-append_cases rest placed z h) [
            | inl left ↦ Contains-append_left (next ++ t ∷ []) placed z ((same z).0 left)
            | inr right ↦ Contains-append_right (next ++ t ∷ []) placed z right
          ])

  pub some_braid : (braid : List Command) × IsBraid cs braid
  some_braid =
      let whole = finish (length (plain cs)) (plain cs) [] (λ z h. (plain_was cs z h).0) (omega arith) tt in (
        whole.0,
        record {
          holds = λ x. (
            (λ h. let was = plain_was cs x (subst (λ l. Contains l x) (append-nil (plain cs)) ((whole.2 x).0 h)) in (was.0, tt, was.1)),
            (λ h. (whole.2 x).1 (subst (λ l. Contains l x) (sym (append-nil (plain cs))) (plain_has cs x h.0 h.2))),
          );
          placed = whole.1;
        },
      )
