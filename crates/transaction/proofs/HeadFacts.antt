-- The ids of the heads: each is held, and all that is held stands up to one of them. Merging and publishing keep it.
use Rattle.std.proofs.Common.{◌≡◌, ℕ, ◌+◌, zero, suc, ◌⊎◌, inl, inr, Bool, true, false, if◌then◌else◌, List, [], ◌∷◌, ◌++◌, slice_get, Option, Some, None, refl, sym, ap, subst, ◌∙◌, arith}
use Rattle.std.specs.List.{Contains, list_any}
use Rattle.std.specs.Cmp.Lexicographic.{slice_cmp}
use Rattle.std.specs.Ordering.{is_eq, match_ordering, nat_cmp}
use Rattle.std.specs.Str.{bytes_eq}
use Rattle.std.specs.declared.cmp.Ordering.{Ordering}
use Rattle.std.specs.declared.cmp.Ordering.TheVariants.{Less, Equal, Greater}
use Rattle.std.proofs.lemmas.List.Elements.{Contains-append_left, Contains-append_right, Contains-push, Contains-push_cases}
use Rattle.std.proofs.lemmas.Map.Text.{is_eq-slice_cmp}
use Rattle.std.proofs.lemmas.Option.{same_Some}
use Rattle.braid.proofs.Gathering.{place_of_member}
use Rattle.command.specs.Ancestors.{Ancestor, IsAt, IsParent, IsUnder, IsUpTo, heads, is_parent, places_without}
use Rattle.command.specs.Ancestors.Ancestor.{Parent, Further}
use Rattle.command.specs.Closed.{IsClosed, IsHeld}
use Rattle.command.specs.Kinds.{parents_of}
use Rattle.command.specs.Wire.{command_id}
use Rattle.command.specs.declared.command.Command.{Command}
use Rattle.command.specs.declared.command.Command.TheVariants as command
use Rattle.command.proofs.AncestorFacts.{from_newest, kept, under_down}
use Rattle.command.proofs.ClosedFacts.{held_by, held_more, same_bytes}
use Rattle.command.proofs.ListFacts.{at_head, behind_head, head_cases, none_element, one_element}
use Rattle.command.proofs.PlaceFacts.{inside_at}
use Rattle.command.proofs.ReachFacts.{any_found}
use Rattle.transaction.specs.Drafts.{head_ids, with_head, with_id, with_places}

-- ---- each command stands up to a head. This stands inside `braid_run` too, from which it is to be exported

kept_here : (b : Bool) (n place : ℕ) (more : List ℕ) → b ≡ false → n ≡ place → Contains ((if b then [] else n ∷ []) ++ more) place
kept_here true n place more is same = absurd cc
kept_here false n place more is same = subst (λ p. Contains (n ∷ more) p) same (at_head n more)

head_has : (test : List ℕ → Bool) (n : ℕ) (cs : List Command) (i place : ℕ) (x : Command) → n + i ≡ place → slice_get cs i ≡ Some x → test (command_id x) ≡ false → Contains (places_without test n cs) place
head_has test n [] i place x sum is plain = absurd cc
head_has test n (c ∷ cs) zero place x sum is plain =
    kept_here (test (command_id c)) n place (places_without test (n + 1) cs) (ap (λ z. test (command_id z)) (same_Some c x is) ∙ plain) (omega (arith, sum))
head_has test n (c ∷ cs) (suc i) place x sum is plain =
    Contains-append_right (if test (command_id c) then [] else n ∷ []) (places_without test (n + 1) cs) place (head_has test (n + 1) cs i place x (omega (arith, sum)) is plain)

module _ (cs : List Command) (closed : IsClosed cs) where
  step : (y : Command) → Contains cs y → ((z : Command) → Ancestor cs y z → IsUnder cs (heads cs) z) → IsUnder cs (heads cs) y
  step y inside higher = by (is_parent cs (command_id y)) refl
    where
      by : (b : Bool) → is_parent cs (command_id y) ≡ b → IsUnder cs (heads cs) y
      by true is =
          let child = any_found (λ z. list_any (bytes_eq (command_id y)) (parents_of z)) cs is in
          let link = any_found (bytes_eq (command_id y)) (parents_of child.0) child.2 in
          let e : IsParent cs y child.0 = record { older = inside; newer = child.1; link = subst (λ i. Contains (parents_of child.0) i) (sym (same_bytes (command_id y) link.0 link.2)) link.1 } in
          under_down cs (heads cs) y child.0 (Parent e) (higher child.0 (Parent e))
      by false is =
          let place = place_of_member cs closed y inside in
          (place.0, head_has (is_parent cs) 0 cs place.0 place.0 y (omega arith) place.1 is, (y, place.1, inl refl))

  all_under : (x : Command) → Contains cs x → IsUnder cs (heads cs) x
  all_under x inside = from_newest (λ y. IsUnder cs (heads cs) y) cs closed step x inside

-- ---- ids that ascend, and one more

at_its_place : (ids : List (List ℕ)) (id x : List ℕ) (o : Ordering) → slice_cmp nat_cmp id x ≡ o → Contains (with_id ids id) id → Contains (match_ordering o (id ∷ x ∷ ids) (x ∷ ids) (x ∷ with_id ids id)) id
at_its_place ids id x Less is rest = at_head id (x ∷ ids)
at_its_place ids id x Equal is rest =
    let same : id ≡ x = same_bytes id x (sym (is_eq-slice_cmp id x) ∙ ap is_eq is) in
    subst (λ z. Contains (x ∷ ids) z) (sym same) (at_head x ids)
at_its_place ids id x Greater is rest = behind_head x (with_id ids id) id rest

pub own_id : (ids : List (List ℕ)) (id : List ℕ) → Contains (with_id ids id) id
own_id [] id = at_head id []
own_id (x ∷ ids) id = at_its_place ids id x (slice_cmp nat_cmp id x) refl (own_id ids id)

other_there : (ids : List (List ℕ)) (id x y : List ℕ) (o : Ordering) → (Contains ids y → Contains (with_id ids id) y) → Contains (x ∷ ids) y
    → Contains (match_ordering o (id ∷ x ∷ ids) (x ∷ ids) (x ∷ with_id ids id)) y
other_there ids id x y Less rest h = behind_head id (x ∷ ids) y h
other_there ids id x y Equal rest h = h
other_there ids id x y Greater rest h =
    elim (head_cases x ids y h) [ inl same ↦ subst (λ z. Contains (x ∷ with_id ids id) z) same (at_head x (with_id ids id)) | inr later ↦ behind_head x (with_id ids id) y (rest later) ]

pub other_ids : (ids : List (List ℕ)) (id y : List ℕ) → Contains ids y → Contains (with_id ids id) y
other_ids [] id y h = absurd (none_element y h)
other_ids (x ∷ ids) id y h = other_there ids id x y (slice_cmp nat_cmp id x) (other_ids ids id y) h

from_there : (ids : List (List ℕ)) (id x y : List ℕ) (o : Ordering) → (Contains (with_id ids id) y → (id ≡ y) ⊎ Contains ids y)
    → Contains (match_ordering o (id ∷ x ∷ ids) (x ∷ ids) (x ∷ with_id ids id)) y → (id ≡ y) ⊎ Contains (x ∷ ids) y
from_there ids id x y Less rest h = head_cases id (x ∷ ids) y h
from_there ids id x y Equal rest h = inr h
from_there ids id x y Greater rest h =
    elim (head_cases x (with_id ids id) y h) [
      | inl same ↦ inr (subst (λ z. Contains (x ∷ ids) z) same (at_head x ids))
      | inr later ↦ elim (rest later) [ inl own ↦ inl own | inr other ↦ inr (behind_head x ids y other) ]
    ]

pub id_cases : (ids : List (List ℕ)) (id y : List ℕ) → Contains (with_id ids id) y → (id ≡ y) ⊎ Contains ids y
id_cases [] id y h = inl (one_element id y h)
id_cases (x ∷ ids) id y h = from_there ids id x y (slice_cmp nat_cmp id x) (id_cases ids id y) h

-- ---- what the ids of the heads are

pub record HasHeads (cs : List Command) (ids : List (List ℕ)) : Type 0 where
  pub held : (id : List ℕ) → Contains ids id → IsHeld cs id
  pub under : (x : Command) → Contains cs x → (tip : Command) × Contains cs tip × Contains ids (command_id tip) × IsUpTo cs tip x

-- a command behind all that these ids stand for
module _ (cs : List Command) (c : Command) where
  -- what stands up to a parent of it is its ancestor
  pub above : (tip x : Command) → Contains cs tip → Contains (parents_of c) (command_id tip) → IsUpTo cs tip x → Ancestor (cs ++ c ∷ []) x c
  above tip x inside link up =
      let parent : IsParent (cs ++ c ∷ []) tip c = record { older = Contains-append_left cs (c ∷ []) tip inside; newer = Contains-push cs c; link = link } in
      elim up [
        | inl same ↦ Parent (subst (λ z. IsParent (cs ++ c ∷ []) z c) (sym same) parent)
        | inr older ↦ Further (kept cs (c ∷ []) x tip older) parent
      ]

  still : (tip x : Command) → IsUpTo cs tip x → IsUpTo (cs ++ c ∷ []) tip x
  still tip x up = elim up [ inl same ↦ inl same | inr older ↦ inr (kept cs (c ∷ []) x tip older) ]

  -- its id takes the place of those of its parents
  pub heads_behind : (ids others : List (List ℕ)) → HasHeads cs ids → ((id : List ℕ) → Contains ids id → Contains (parents_of c) id ⊎ Contains others id)
      → ((id : List ℕ) → Contains others id → Contains ids id) → HasHeads (cs ++ c ∷ []) (with_id others (command_id c))
  heads_behind ids others has joins stays = record {
    held = λ id inside. elim (id_cases others (command_id c) id inside) [
      | inl own ↦ subst (λ i. IsHeld (cs ++ c ∷ []) i) own (held_by (cs ++ c ∷ []) c (Contains-push cs c))
      | inr other ↦ held_more cs (c ∷ []) id (has.held id (stays id other))
    ];
    under = λ x inside. elim (Contains-push_cases cs c x inside) [
      | inl older ↦
          let u = has.under x older in
          elim (joins (command_id u.0) u.2) [
            | inl link ↦ (c, Contains-push cs c, own_id others (command_id c), inr (above u.0 x u.1 link u.3))
            | inr other ↦ (u.0, Contains-append_left cs (c ∷ []) u.0 u.1, other_ids others (command_id c) (command_id u.0) other, still u.0 x u.3)
          ]
      | inr same ↦ (c, Contains-push cs c, own_id others (command_id c), inl (sym same))
    ];
  }

-- a merge of two heads
pub heads_merged : (cs : List Command) (left right : List ℕ) (others : List (List ℕ)) → HasHeads cs (left ∷ right ∷ others)
    → HasHeads (cs ++ command.Merge None left right ∷ []) (with_id others (command_id (command.Merge None left right)))
heads_merged cs left right others has =
    heads_behind cs (command.Merge None left right) (left ∷ right ∷ others) others has
    (λ id inside. elim (head_cases left (right ∷ others) id inside) [
      | inl same ↦ inl (subst (λ z. Contains (left ∷ right ∷ []) z) same (at_head left (right ∷ [])))
      | inr later ↦
          elim (head_cases right others id later) [
            | inl same ↦ inl (subst (λ z. Contains (left ∷ right ∷ []) z) same (behind_head left (right ∷ []) right (at_head right [])))
            | inr other ↦ inr other
          ]
    ])
    (λ id inside. behind_head left (right ∷ others) id (behind_head right others id inside))

-- without heads nothing is held
pub none_held : (cs : List Command) → HasHeads cs [] → cs ≡ []
none_held [] has = refl
none_held (c ∷ cs) has = absurd (none_element (command_id (has.under c (at_head c cs)).0) (has.under c (at_head c cs)).2)

-- ---- the heads that are held as an action begins

head_stays : (ids : List (List ℕ)) (o : Option Command) (id : List ℕ) → Contains ids id → Contains (with_head ids o) id
head_stays ids None id h = h
head_stays ids (Some c) id h = other_ids ids (command_id c) id h

placed_before : (cs : List Command) (ids : List (List ℕ)) (places : List ℕ) (id : List ℕ) → Contains ids id → Contains (with_places cs ids places) id
placed_before cs ids [] id h = h
placed_before cs ids (p ∷ ps) id h = placed_before cs (with_head ids (slice_get cs p)) ps id (head_stays ids (slice_get cs p) id h)

head_own : (ids : List (List ℕ)) (o : Option Command) (c : Command) → o ≡ Some c → Contains (with_head ids o) (command_id c)
head_own ids None c is = absurd cc
head_own ids (Some x) c is = let same : x ≡ c = cc in subst (λ z. Contains (with_id ids (command_id x)) (command_id z)) same (own_id ids (command_id x))

placed_own : (cs : List Command) (ids : List (List ℕ)) (places : List ℕ) (place : ℕ) (c : Command) → Contains places place → IsAt cs place c → Contains (with_places cs ids places) (command_id c)
placed_own cs ids [] place c h is = absurd (none_element place h)
placed_own cs ids (p ∷ ps) place c h is =
    elim (head_cases p ps place h) [
      | inl same ↦ placed_before cs (with_head ids (slice_get cs p)) ps (command_id c) (head_own ids (slice_get cs p) c (ap (slice_get cs) same ∙ is))
      | inr later ↦ placed_own cs (with_head ids (slice_get cs p)) ps place c later is
    ]

head_from : (cs : List Command) (ids : List (List ℕ)) (p : ℕ) (o : Option Command) (id : List ℕ) → slice_get cs p ≡ o → Contains (with_head ids o) id → Contains ids id ⊎ IsHeld cs id
head_from cs ids p None id is h = inl h
head_from cs ids p (Some c) id is h =
    elim (id_cases ids (command_id c) id h) [ inl own ↦ inr (subst (λ i. IsHeld cs i) own (held_by cs c (inside_at cs p c is))) | inr other ↦ inl other ]

placed_from : (cs : List Command) (ids : List (List ℕ)) (places : List ℕ) (id : List ℕ) → Contains (with_places cs ids places) id → Contains ids id ⊎ IsHeld cs id
placed_from cs ids [] id h = inl h
placed_from cs ids (p ∷ ps) id h =
    elim (placed_from cs (with_head ids (slice_get cs p)) ps id h) [
      | inl before ↦ head_from cs ids p (slice_get cs p) id refl before
      | inr held ↦ inr held
    ]

held_only : (cs : List Command) (id : List ℕ) → Contains [] id ⊎ IsHeld cs id → IsHeld cs id
held_only cs id (inl none) = absurd (none_element id none)
held_only cs id (inr held) = held

pub first_heads : (cs : List Command) → IsClosed cs → HasHeads cs (head_ids cs)
first_heads cs closed = record {
  held = λ id inside. held_only cs id (placed_from cs [] (heads cs) id inside);
  under = λ x inside. let u = all_under cs closed x inside in (u.2.0, inside_at cs u.0 u.2.0 u.2.1, placed_own cs [] (heads cs) u.0 u.2.0 u.1 u.2.1, u.2.2);
}
