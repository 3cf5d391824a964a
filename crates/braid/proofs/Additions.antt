-- Places of parents that are put behind others, and children.
use Rattle.std.proofs.Common.{◌≡◌, ℕ, inl, inr, Bool, true, false, if◌then◌else◌, List, [], ◌∷◌, ◌++◌, Some, refl, sym, ap, subst, ◌∙◌, append_assoc, append-nil, eqb}
use Rattle.std.specs.List.{Contains, list_any}
use Rattle.std.specs.Str.{bytes_eq}
use Rattle.std.proofs.lemmas.Bool.Decides.{Decides-eqb}
use Rattle.std.proofs.lemmas.List.Elements.{Contains-append_left, Contains-append_right, Contains-append_cases, Contains-push}
use Rattle.command.specs.declared.command.Command.{Command}
use Rattle.command.specs.Closed.{place_of}
use Rattle.command.specs.Kinds.{parents_of}
use Rattle.command.proofs.ClosedFacts.{bytes_of_same, same_bytes}
use Rattle.command.proofs.ListFacts.{none_element, one_element}
use Rattle.command.proofs.ReachFacts.{any_found, any_of}
use Rattle.braid.specs.working.Placing.{AddsWhere, has_parent}

-- a parent, as the test and as an element
pub is_parent_of : (id : List ℕ) (y : Command) → has_parent id y ≡ true → Contains (parents_of y) id
is_parent_of id y h = let found = any_found (bytes_eq id) (parents_of y) h in subst (λ i. Contains (parents_of y) i) (sym (same_bytes id found.0 found.2)) found.1

pub parent_is : (id : List ℕ) (y : Command) → Contains (parents_of y) id → has_parent id y ≡ true
parent_is id y h = any_of (bytes_eq id) (parents_of y) id h (bytes_of_same id id refl)

module _ (P : List ℕ → Type 0) (cs : List Command) where
  -- nothing is added where there are no ids
  pub adds_none : (places : List ℕ) → AddsWhere P cs [] places places
  adds_none places = record {
    more = [];
    grown = sym (append-nil places);
    has = λ id place h meets is. absurd (none_element id h);
    only = λ place h. absurd (none_element place h);
  }

  -- the place of the one id is added
  pub adds_one : (id : List ℕ) (place : ℕ) (places : List ℕ) → P id → place_of cs id ≡ Some place → AddsWhere P cs (id ∷ []) places (places ++ place ∷ [])
  adds_one id place places meets is = record {
    more = place ∷ [];
    grown = refl;
    has = λ other found h also there.
        let same = one_element id other h in
        let both : Some place ≡ Some found = sym is ∙ ap (place_of cs) same ∙ there in
        let here : place ≡ found = cc in
        subst (λ p. Contains (places ++ place ∷ []) p) here (Contains-push places place);
    only = λ found h. (id, Contains-push [] id, meets, is ∙ ap Some (one_element place found h));
  }

  -- or it was there
  pub adds_again : (id : List ℕ) (place : ℕ) (places : List ℕ) → P id → place_of cs id ≡ Some place → Contains places place → AddsWhere P cs (id ∷ []) places places
  adds_again id place places meets is inside = record {
    more = [];
    grown = sym (append-nil places);
    has = λ other found h also there.
        let same = one_element id other h in
        let both : Some place ≡ Some found = sym is ∙ ap (place_of cs) same ∙ there in
        let here : place ≡ found = cc in
        subst (λ p. Contains places p) here inside;
    only = λ found h. absurd (none_element found h);
  }

  -- the ids of two lists, one after the other
  pub adds_both : (ids more : List (List ℕ)) (old mid new : List ℕ) → AddsWhere P cs ids old mid → AddsWhere P cs more mid new → AddsWhere P cs (ids ++ more) old new
  adds_both ids more old mid new first second = record {
    more = first.more ++ second.more;
    grown = second.grown ∙ ap (λ l. l ++ second.more) first.grown ∙ append_assoc old first.more second.more;
    has = λ id place h meets is. elim (Contains-append_cases ids more id h) [
      | inl here ↦ subst (λ l. Contains l place) (sym second.grown) (Contains-append_left mid second.more place (first.has id place here meets is))
      | inr there ↦ second.has id place there meets is
    ];
    only = λ place h. elim (Contains-append_cases first.more second.more place h) [
      | inl here ↦ let r = first.only place here in (r.0, Contains-append_left ids more r.0 r.1, r.2, r.3)
      | inr there ↦ let r = second.only place there in (r.0, Contains-append_right ids more r.0 r.1, r.2, r.3)
    ];
  }

-- a place that a test finds among others
pub found_place : (places : List ℕ) (place : ℕ) → list_any (eqb place) places ≡ true → Contains places place
found_place places place h = let found = any_found (eqb place) places h in subst (λ p. Contains places p) (sym ((Decides-eqb place found.0).0 found.2)) found.1

-- places with one more, as a set puts it
pub set_more : (P : List ℕ → Type 0) (cs : List Command) (id : List ℕ) (place : ℕ) (old new : List ℕ) → P id → place_of cs id ≡ Some place →
    new ≡ (if list_any (eqb place) old then old else old ++ place ∷ []) → AddsWhere P cs (id ∷ []) old new
set_more P cs id place old new meets is added = by (list_any (eqb place) old) refl
  where
    by : (b : Bool) → list_any (eqb place) old ≡ b → AddsWhere P cs (id ∷ []) old new
    by true there = subst (λ l. AddsWhere P cs (id ∷ []) old l) (sym (added ∙ rw there refl)) (adds_again P cs id place old meets is (found_place old place there))
    by false absent = subst (λ l. AddsWhere P cs (id ∷ []) old l) (sym (added ∙ rw absent refl)) (adds_one P cs id place old meets is)
