-- Places that a base leaves out: the tips, and the parents.
use Rattle.std.proofs.Common.{◌≡◌, ℕ, ◌+◌, append-nil, ◌<◌, ◌≤◌, ◌⊎◌, ◌↔◌, inl, inr, Bool, true, false, if◌then◌else◌, List, [], ◌∷◌, ◌++◌, length, take, get_or, Option, None, Some, IsTrue, refl, sym, ap, subst, ◌∙◌, arith, eqb}
use Rattle.std.specs.List.{All, Contains, list_any}
use Rattle.std.proofs.lemmas.List.{take_all}
use Rattle.std.proofs.lemmas.List.Elements.{All-head, Contains-append_left, Contains-push, Contains-push_cases}
use Rattle.std.proofs.lemmas.Option.{same_Some}
use Rattle.command.specs.declared.command.Command.{Command}
use Rattle.command.specs.Ancestors.{Ancestor, IsAt, IsUnder}
use Rattle.command.specs.Closed.{IsClosed, place_of}
use Rattle.command.proofs.ListFacts.{at_head, none_element, one_element}
use Rattle.command.proofs.PlaceFacts.{one_place, place_at}
use Rattle.braid.specs.Bases.{IsAbove, IsRest}
use Rattle.braid.specs.Braids.{IsBraidOf, IsBraidUnder}
use Rattle.braid.proofs.Carrying.{in_one_list}
use Rattle.braid.specs.working.Links.{AreNumbers, IsLeftId, Skips, left_of, listed, places_of}
use Rattle.braid.specs.working.Placing.{AddsWhere, HasOrIs}
use Rattle.braid.proofs.Additions.{found_place, set_more}
use Rattle.braid.proofs.Gathering.{take_next}
use Rattle.braid.proofs.PickOrder.{command_at, one_at}
use Rattle.braid.proofs.Places.{left_in, left_out, tested}

-- ---- what the test tells

-- the code's answer at a place is the test's
pub settled_is : (cs : List Command) (bases : List ℕ) (skip : ℕ → Bool) → Skips cs bases skip → (place : ℕ) (x : Command) → IsAt cs place x → (b : Bool) → ((y : Command) → IsAt cs place y → IsTrue b ↔ IsUnder cs bases y) → skip place ≡ b
settled_is cs bases skip skips place x at true told = (skips place x at).1 ((told x at).0 refl)
settled_is cs bases skip skips place x at false told =
    elim (tested (skip place)) [ inl out ↦ let both : false ≡ true = (told x at).1 ((skips place x at).0 out) in absurd cc | inr left ↦ left ]

-- under one place, the command there and its ancestors
pub under_one : (cs : List Command) (base : ℕ) (f x : Command) → IsAt cs base f → IsUnder cs (base ∷ []) x → (x ≡ f) ⊎ Ancestor cs x f
under_one cs base f x at u =
    let same : u.2.0 ≡ f = one_at cs base u.2.0 f (subst (λ p. IsAt cs p u.2.0) (sym (one_element base u.0 u.1)) u.2.1) at in
    elim u.2.2 [ inl is ↦ inl (is ∙ same) | inr above ↦ inr (subst (λ z. Ancestor cs x z) same above) ]

pub none_under : (cs : List Command) (x : Command) → IsUnder cs [] x → ⊥
none_under cs x u = none_element u.0 u.1

-- ---- parents

module _ (cs : List Command) (skip : ℕ → Bool) (id : List ℕ) (place : ℕ) (is : place_of cs id ≡ Some place) where
  only_place : places_of cs (id ∷ []) ≡ place ∷ []
  only_place = rw is refl

  pub adds_skipped : skip place ≡ true → (places : List ℕ) → AddsWhere (IsLeftId cs skip) cs (id ∷ []) places places
  adds_skipped out places =
      record {
        more = [];
        grown = sym (append-nil places);
        has = λ other found h left there.
            let same = one_element id other h in
            let stays : skip place ≡ false = left place (ap (place_of cs) (sym same) ∙ is) in
            absurd cc;
        only = λ found h. absurd (none_element found h);
      }

  pub number_skipped : skip place ≡ true → (places : List ℕ) → AreNumbers places [] (left_of skip (places_of cs (id ∷ [])))
  number_skipped out places = subst (λ l. AreNumbers places [] l) (sym (ap (left_of skip) only_place ∙ left_out skip place [] out)) tt

  pub left_id : skip place ≡ false → IsLeftId cs skip id
  left_id stays p there = subst (λ q. skip q ≡ false) (same_Some place p (sym is ∙ there)) stays

  pub adds_left : skip place ≡ false → (old new : List ℕ) → new ≡ (if list_any (eqb place) old then old else old ++ place ∷ []) → AddsWhere (IsLeftId cs skip) cs (id ∷ []) old new
  adds_left stays old new added = set_more (IsLeftId cs skip) cs id place old new (left_id stays) is added

  pub number_left : skip place ≡ false → (places : List ℕ) (number : ℕ) → AreNumbers places (number ∷ []) (place ∷ []) → AreNumbers places (number ∷ []) (left_of skip (places_of cs (id ∷ [])))
  number_left stays places number there = subst (λ l. AreNumbers places (number ∷ []) l) (sym (ap (left_of skip) only_place ∙ left_in skip place [] stays)) there

-- ---- tips

pub one_more_tip : (skip : ℕ → Bool) (tips old new : List ℕ) (k : ℕ) → k < length tips → ((p : ℕ) → Contains old p ↔ (Contains (take k tips) p × (skip p ≡ false))) →
    ((p : ℕ) → Contains new p ↔ HasOrIs (skip (get_or tips k 0)) (get_or tips k 0) old p) → (p : ℕ) → Contains new p ↔ (Contains (take (k + 1) tips) p × (skip p ≡ false))
one_more_tip skip tips old new k lt so_far added p =
    let tip = get_or tips k 0 in
    let same = take_next tips k lt in (
      (λ h. elim ((added p).0 h) [
        | inl before ↦ let both = (so_far p).0 before in (subst (λ l. Contains l p) (sym same) (Contains-append_left (take k tips) (tip ∷ []) p both.0), both.1)
        | inr last ↦ subst (λ q. Contains (take (k + 1) tips) q × (skip q ≡ false)) last.0 (subst (λ l. Contains l tip) (sym same) (Contains-push (take k tips) tip), last.1)
      ]),
      (λ h. (added p).1 (elim (Contains-push_cases (take k tips) tip p (subst (λ l. Contains l p) same h.0)) [
        | inl before ↦ inl ((so_far p).1 (before, h.1))
        | inr last ↦ inr (last, subst (λ q. skip q ≡ false) (sym last) h.1)
      ])),
    )

pub all_tips : (skip : ℕ → Bool) (tips places : List ℕ) (k : ℕ) → length tips ≤ k → ((p : ℕ) → Contains places p ↔ (Contains (take k tips) p × (skip p ≡ false))) →
    (p : ℕ) → Contains places p ↔ (Contains tips p × (skip p ≡ false))
all_tips skip tips places k past all = subst (λ l. (p : ℕ) → Contains places p ↔ (Contains l p × (skip p ≡ false))) (take_all k tips past) all

-- one place more in a set of places
pub put_tip : (tip : ℕ) (old new : List ℕ) → new ≡ (if list_any (eqb tip) old then old else old ++ tip ∷ []) → (p : ℕ) → Contains new p ↔ HasOrIs false tip old p
put_tip tip old new added p = by (list_any (eqb tip) old) refl
  where
    by : (b : Bool) → list_any (eqb tip) old ≡ b → Contains new p ↔ HasOrIs false tip old p
    by true there =
        let kept : new ≡ old = added ∙ rw there refl in (
          (λ h. inl (subst (λ l. Contains l p) kept h)),
          (λ h. subst (λ l. Contains l p) (sym kept) (elim h [ inl before ↦ before | inr last ↦ subst (λ q. Contains old q) last.0 (found_place old tip there) ])),
        )
    by false absent =
        let grown : new ≡ old ++ tip ∷ [] = added ∙ rw absent refl in (
          (λ h. elim (Contains-push_cases old tip p (subst (λ l. Contains l p) grown h)) [ inl before ↦ inl before | inr last ↦ inr (last, refl) ]),
          (λ h. subst (λ l. Contains l p) (sym grown) (elim h [
            | inl before ↦ Contains-append_left old (tip ∷ []) p before
            | inr last ↦ subst (λ q. Contains (old ++ tip ∷ []) q) last.0 (Contains-push old tip)
          ])),
        )

pub skip_tip : (skipped : Bool) (tip : ℕ) (old : List ℕ) → skipped ≡ true → (p : ℕ) → Contains old p ↔ HasOrIs skipped tip old p
skip_tip skipped tip old out p = ((λ h. inl h), (λ h. elim h [ inl before ↦ before | inr last ↦ let stays = last.1 in absurd cc ]))

-- ---- what the code finds of a place, and what the rest is

pub settled_by : (cs : List Command) → IsClosed cs → (base : Option ℕ) (b place : ℕ) → base ≡ Some b → All (λ p. p < length cs) (listed base) → (place ≡ b → ⊥) → (found : Bool) →
    ((x y : Command) → IsAt cs place x → IsAt cs b y → IsTrue found ↔ Ancestor cs x y) → (x : Command) → IsAt cs place x → IsTrue found ↔ IsUnder cs (listed base) x
settled_by cs closed base b place is within other found told x at =
    let lt : b < length cs = All-head (λ p. p < length cs) b [] (subst (λ o. All (λ p. p < length cs) (listed o)) is within) in
    let f = command_at cs b lt in
    subst (λ o. IsTrue found ↔ IsUnder cs (listed o) x) (sym is) (
      (λ h. (b, at_head b [], (f.0, f.1, inr ((told x f.0 at f.1).0 h)))),
      (λ u. elim (under_one cs b f.0 x f.1 u) [
        | inl same ↦ absurd (other (one_place cs closed place b x at (subst (λ z. IsAt cs b z) (sym same) f.1)))
        | inr above ↦ (told x f.0 at f.1).1 above
      ]),
    )

pub settled_id : (cs : List Command) (bases : List ℕ) (skip : ℕ → Bool) → Skips cs bases skip → (id : List ℕ) (place : ℕ) → place_of cs id ≡ Some place → (b : Bool) → ((y : Command) → IsAt cs place y → IsTrue b ↔ IsUnder cs bases y) → skip place ≡ b
settled_id cs bases skip skips id place is b told = let x = place_at cs id place is in settled_is cs bases skip skips place x.0 x.1 b told

pub no_base : (cs : List Command) (tips : List ℕ) (l : List Command) → IsBraidOf cs (IsRest cs [] tips) l → IsBraidUnder cs tips l
no_base cs tips l is = (in_one_list cs (IsRest cs [] tips) (IsUnder cs tips) (λ x inside. ((λ r. r.0), (λ u. (u, none_under cs x)))) l).0 is

pub one_base : (cs : List Command) (tips : List ℕ) (base : ℕ) (f : Command) → IsAt cs base f → (l : List Command) → IsBraidOf cs (IsRest cs (base ∷ []) tips) l → IsBraidOf cs (IsAbove cs tips f) l
one_base cs tips base f at l is =
    (in_one_list cs (IsRest cs (base ∷ []) tips) (IsAbove cs tips f)
    (λ x inside. (
      (λ r. (r.0, (λ up. r.1 (base, at_head base [], (f, at, up))))),
      (λ r. (r.0, (λ u. r.1 (under_one cs base f x at u)))),
    )) l).0
    is
