-- The replica of a name, by its place.
use Rattle.std.proofs.Common.{◌≡◌, ◌⊎◌, inl, inr, ℕ, suc, ◌≤◌, Bool, true, false, ◌||◌, cond, List, [], ◌∷◌, ◌++◌, find, get_or, map, set, None, Some, Option, option_map, refl, sym, ap, subst, ◌∙◌, arith}
use Rattle.std.proofs.lemmas.Option.{same_Some}
use Rattle.std.specs.List.{list_any}
use Rattle.std.specs.Str.{bytes_eq}
use Rattle.outside.specs.Causes.{Rose}
use Rattle.replica.specs.Kept.{Kept}
use Rattle.script_texts.specs.Bytes.{Bytes}
use Rattle.world.specs.Stops.{AreAsHonest, NoneFell, SomeRose}
use Rattle.world.specs.Worlds.{AreAlike, AreUp, EachPair, Named, kept_of, with_kept}
use Rattle.world.specs.working.Handling.{AreLater}
use Rattle.world.specs.working.Places.{is_named, place_in}

module _ {D : Type 0} where
  -- what stands at the place is the replica of the name
  kept_front : (b : Bool) (r : Named D) (rs : List (Named D)) (name : Bytes) (one : Named D) → (b || is_named rs name) ≡ true → one ≡ get_or (r ∷ rs) (cond b 0 (suc (place_in rs name))) one
      → (is_named rs name ≡ true → one ≡ get_or rs (place_in rs name) one → kept_of rs name ≡ Some one.kept)
      → option_map (λ (x : Named D). x.kept) (cond b (Some r) (find (λ x. bytes_eq x.name name) rs)) ≡ Some one.kept
  kept_front true r rs name one there is behind = ap (λ (x : Named D). Some x.kept) (sym is)
  kept_front false r rs name one there is behind = behind there is

  kept_at : (rs : List (Named D)) (name : Bytes) (one : Named D) → is_named rs name ≡ true → one ≡ get_or rs (place_in rs name) one → kept_of rs name ≡ Some one.kept
  kept_at [] name one there is = absurd cc
  kept_at (r ∷ rs) name one there is = kept_front (bytes_eq r.name name) r rs name one there is (kept_at rs name one)

  -- and changing it there changes it
  set_front : (b : Bool) (r : Named D) (rs : List (Named D)) (name : Bytes) (one : Named D) (kept : Kept D) → (b || is_named rs name) ≡ true → one ≡ get_or (r ∷ rs) (cond b 0 (suc (place_in rs name))) one
      → (is_named rs name ≡ true → one ≡ get_or rs (place_in rs name) one → set rs (place_in rs name) (record one { kept = kept }) ≡ with_kept rs name kept)
      → set (r ∷ rs) (cond b 0 (suc (place_in rs name))) (record one { kept = kept }) ≡ cond b (record r { kept = kept } ∷ rs) (r ∷ with_kept rs name kept)
  set_front true r rs name one kept there is behind = ap (λ (x : Named D). record x { kept = kept } ∷ rs) is
  set_front false r rs name one kept there is behind = ap (λ (xs : List (Named D)). r ∷ xs) (behind there is)

  set_at : (rs : List (Named D)) (name : Bytes) (one : Named D) (kept : Kept D) → is_named rs name ≡ true → one ≡ get_or rs (place_in rs name) one → set rs (place_in rs name) (record one { kept = kept }) ≡ with_kept rs name kept
  set_at [] name one kept there is = absurd cc
  set_at (r ∷ rs) name one kept there is = set_front (bytes_eq r.name name) r rs name one kept there is (set_at rs name one kept)

  -- where it keeps the same, nothing is changed
  same_front : (b : Bool) (r : Named D) (rs : List (Named D)) (name : Bytes) (kept : Kept D)
      → option_map (λ (x : Named D). x.kept) (cond b (Some r) (find (λ x. bytes_eq x.name name) rs)) ≡ Some kept → (kept_of rs name ≡ Some kept → with_kept rs name kept ≡ rs)
      → cond b (record r { kept = kept } ∷ rs) (r ∷ with_kept rs name kept) ≡ r ∷ rs
  same_front true r rs name kept is behind = let e : kept ≡ r.kept = cc in ap (λ (k : Kept D). record r { kept = k } ∷ rs) e
  same_front false r rs name kept is behind = ap (λ (xs : List (Named D)). r ∷ xs) (behind is)

  pub unchanged : (rs : List (Named D)) (name : Bytes) (kept : Kept D) → kept_of rs name ≡ Some kept → with_kept rs name kept ≡ rs
  unchanged [] name kept is = absurd cc
  unchanged (r ∷ rs) name kept is = same_front (bytes_eq r.name name) r rs name kept is (unchanged rs name kept)

  -- the same of a replica whose fields are open
  module _ (rs : List (Named D)) (name : Bytes) (place : ℕ) (own : Bytes) (kept : Kept D) (one : Named D) where
    opened_at : place ≡ place_in rs name → record { name = own; kept = kept } ≡ one → one ≡ get_or rs place one → record { name = own; kept = kept } ≡ get_or rs (place_in rs name) (record { name = own; kept = kept })
    opened_at at view is =
        subst (λ (p : ℕ). record { name = own; kept = kept } ≡ get_or rs p (record { name = own; kept = kept })) at (subst (λ (x : Named D). x ≡ get_or rs place x) (sym view) is)

    pub kept_there : is_named rs name ≡ true → place ≡ place_in rs name → record { name = own; kept = kept } ≡ one → one ≡ get_or rs place one → kept_of rs name ≡ Some kept
    kept_there there at view is = kept_at rs name (record { name = own; kept = kept }) there (opened_at at view is)

    pub set_there : (after : Kept D) → is_named rs name ≡ true → place ≡ place_in rs name → record { name = own; kept = kept } ≡ one → one ≡ get_or rs place one
        → set rs place (record { name = own; kept = after }) ≡ with_kept rs name after
    set_there after there at view is =
        ap (λ (p : ℕ). set rs p (record { name = own; kept = after })) at ∙ set_at rs name (record { name = own; kept = kept }) after there (opened_at at view is)

-- ---- each two at one place

pub pair_same : {X : Type 0} (are : X → X → Type 0) → ((x : X) → are x x) → (xs : List X) → EachPair are xs xs
pair_same are same [] = tt
pair_same are same (x ∷ xs) = (same x, pair_same are same xs)

-- ---- one replica changes

module _ {D : Type 0} where
  -- what the replica of another name keeps stays
  abbrev LooksIn : (Kept D → List (Named D)) → Option (Kept D) → Kept D → Bytes → Type 0
  LooksIn lists was before a = ((after : Kept D) → kept_of (lists after) a ≡ was) ⊎ ((was ≡ Some before) × ((after : Kept D) → kept_of (lists after) a ≡ Some after))

  look_first : (c : Bool) (r : Named D) (rs : List (Named D)) (before : Kept D) (a : Bytes) → r.kept ≡ before
      → ((after : Kept D) → option_map (λ (x : Named D). x.kept) (cond c (Some (record r { kept = after })) (find (λ x. bytes_eq x.name a) rs)) ≡ option_map (λ (x : Named D). x.kept) (cond c (Some r) (find (λ x. bytes_eq x.name a) rs)))
      ⊎ ((option_map (λ (x : Named D). x.kept) (cond c (Some r) (find (λ x. bytes_eq x.name a) rs)) ≡ Some before)
      × ((after : Kept D) → option_map (λ (x : Named D). x.kept) (cond c (Some (record r { kept = after })) (find (λ x. bytes_eq x.name a) rs)) ≡ Some after))
  look_first true r rs before a same = inr (ap (λ (k : Kept D). Some k) same, λ after. refl)
  look_first false r rs before a same = inl (λ after. refl)

  look_later : (c : Bool) (r : Named D) (rs : List (Named D)) (name : Bytes) (before : Kept D) (a : Bytes) → LooksIn (λ after. with_kept rs name after) (kept_of rs a) before a
      → ((after : Kept D) → option_map (λ (x : Named D). x.kept) (cond c (Some r) (find (λ x. bytes_eq x.name a) (with_kept rs name after))) ≡ option_map (λ (x : Named D). x.kept) (cond c (Some r) (find (λ x. bytes_eq x.name a) rs)))
      ⊎ ((option_map (λ (x : Named D). x.kept) (cond c (Some r) (find (λ x. bytes_eq x.name a) rs)) ≡ Some before)
      × ((after : Kept D) → option_map (λ (x : Named D). x.kept) (cond c (Some r) (find (λ x. bytes_eq x.name a) (with_kept rs name after))) ≡ Some after))
  look_later true r rs name before a looks = inl (λ after. refl)
  look_later false r rs name before a looks = looks

  look_front : (b : Bool) (r : Named D) (rs : List (Named D)) (name : Bytes) (before : Kept D) (a : Bytes)
      → option_map (λ (x : Named D). x.kept) (cond b (Some r) (find (λ x. bytes_eq x.name name) rs)) ≡ Some before
      → (kept_of rs name ≡ Some before → LooksIn (λ after. with_kept rs name after) (kept_of rs a) before a)
      → LooksIn (λ after. cond b (record r { kept = after } ∷ rs) (r ∷ with_kept rs name after)) (kept_of (r ∷ rs) a) before a
  look_front true r rs name before a is behind = look_first (bytes_eq r.name a) r rs before a (same_Some r.kept before is)
  look_front false r rs name before a is behind = look_later (bytes_eq r.name a) r rs name before a (behind is)

  pub looks : (rs : List (Named D)) (name : Bytes) (before : Kept D) (a : Bytes) → kept_of rs name ≡ Some before
      → ((after : Kept D) → kept_of (with_kept rs name after) a ≡ kept_of rs a) ⊎ ((kept_of rs a ≡ Some before) × ((after : Kept D) → kept_of (with_kept rs name after) a ≡ Some after))
  looks [] name before a is = absurd cc
  looks (r ∷ rs) name before a is = look_front (bytes_eq r.name name) r rs name before a is (λ there. looks rs name before a there)

  -- what the replica of the name keeps then
  kept_first : (b : Bool) (r : Named D) (rs : List (Named D)) (name : Bytes) (before after : Kept D) → bytes_eq r.name name ≡ b
      → option_map (λ (x : Named D). x.kept) (cond b (Some r) (find (λ x. bytes_eq x.name name) rs)) ≡ Some before
      → (kept_of rs name ≡ Some before → kept_of (with_kept rs name after) name ≡ Some after)
      → kept_of (cond b (record r { kept = after } ∷ rs) (r ∷ with_kept rs name after)) name ≡ Some after
  kept_first true r rs name before after test is behind = ap (λ (t : Bool). option_map (λ (x : Named D). x.kept) (cond t (Some (record r { kept = after })) (find (λ x. bytes_eq x.name name) rs))) test
  kept_first false r rs name before after test is behind =
      ap (λ (t : Bool). option_map (λ (x : Named D). x.kept) (cond t (Some r) (find (λ x. bytes_eq x.name name) (with_kept rs name after)))) test ∙ behind is

  pub kept_then : (rs : List (Named D)) (name : Bytes) (before after : Kept D) → kept_of rs name ≡ Some before → kept_of (with_kept rs name after) name ≡ Some after
  kept_then [] name before after is = absurd cc
  kept_then (r ∷ rs) name before after is = kept_first (bytes_eq r.name name) r rs name before after refl is (λ there. kept_then rs name before after there)

  -- all names stay
  names_first : (b : Bool) (r : Named D) (rs : List (Named D)) (name : Bytes) (after : Kept D) → map (λ (x : Named D). x.name) (with_kept rs name after) ≡ map (λ (x : Named D). x.name) rs
      → map (λ (x : Named D). x.name) (cond b (record r { kept = after } ∷ rs) (r ∷ with_kept rs name after)) ≡ r.name ∷ map (λ (x : Named D). x.name) rs
  names_first true r rs name after behind = refl
  names_first false r rs name after behind = ap (λ ns. r.name ∷ ns) behind

  names_then : (rs : List (Named D)) (name : Bytes) (after : Kept D) → map (λ (x : Named D). x.name) (with_kept rs name after) ≡ map (λ (x : Named D). x.name) rs
  names_then [] name after = refl
  names_then (r ∷ rs) name after = names_first (bytes_eq r.name name) r rs name after (names_then rs name after)

  pub named_then : (rs : List (Named D)) (name x : Bytes) (after : Kept D) → is_named (with_kept rs name after) x ≡ is_named rs x
  named_then rs name x after = ap (λ names. list_any (λ other. bytes_eq other x) names) (names_then rs name after)

  -- the last change counts
  twice_first : (b : Bool) (r : Named D) (rs : List (Named D)) (name : Bytes) (x y : Kept D) → bytes_eq r.name name ≡ b → with_kept (with_kept rs name x) name y ≡ with_kept rs name y
      → with_kept (cond b (record r { kept = x } ∷ rs) (r ∷ with_kept rs name x)) name y ≡ cond b (record r { kept = y } ∷ rs) (r ∷ with_kept rs name y)
  twice_first true r rs name x y test behind = ap (λ (t : Bool). cond t (record r { kept = y } ∷ rs) (record r { kept = x } ∷ with_kept rs name y)) test
  twice_first false r rs name x y test behind =
      ap (λ (t : Bool). cond t (record r { kept = y } ∷ with_kept rs name x) (r ∷ with_kept (with_kept rs name x) name y)) test ∙ ap (λ (l : List (Named D)). r ∷ l) behind

  pub set_twice : (rs : List (Named D)) (name : Bytes) (x y : Kept D) → with_kept (with_kept rs name x) name y ≡ with_kept rs name y
  set_twice [] name x y = refl
  set_twice (r ∷ rs) name x y = twice_first (bytes_eq r.name name) r rs name x y refl (set_twice rs name x y)

  -- ---- each two at one place

  pair_first : (are : Named D → Named D → Type 0) → ((r : Named D) → are r r) → (b : Bool) (r : Named D) (rs : List (Named D)) (name : Bytes) (before after : Kept D)
      → option_map (λ (x : Named D). x.kept) (cond b (Some r) (find (λ x. bytes_eq x.name name) rs)) ≡ Some before
      → ((x : Named D) → x.kept ≡ before → are x (record x { kept = after })) → (kept_of rs name ≡ Some before → EachPair are rs (with_kept rs name after))
      → EachPair are (r ∷ rs) (cond b (record r { kept = after } ∷ rs) (r ∷ with_kept rs name after))
  pair_first are same true r rs name before after is to behind = (to r (same_Some r.kept before is), pair_same are same rs)
  pair_first are same false r rs name before after is to behind = (same r, behind is)

  pub pair_at : (are : Named D → Named D → Type 0) → ((r : Named D) → are r r) → (rs : List (Named D)) (name : Bytes) (before after : Kept D) → kept_of rs name ≡ Some before
      → ((x : Named D) → x.kept ≡ before → are x (record x { kept = after })) → EachPair are rs (with_kept rs name after)
  pair_at are same [] name before after is to = absurd cc
  pair_at are same (r ∷ rs) name before after is to = pair_first are same (bytes_eq r.name name) r rs name before after is to (λ there. pair_at are same rs name before after there to)

  pub alike_same : (rs : List (Named D)) → AreAlike rs rs
  alike_same rs = inl refl

  pub alike_at : (rs : List (Named D)) (name : Bytes) (before after : Kept D) → kept_of rs name ≡ Some before → after ≡ record before { down = after.down; disk = after.disk; outline = after.outline }
      → AreAlike rs (with_kept rs name after)
  alike_at rs name before after is same = inr (name, (before, after, is, same, refl))

  -- ---- those that are up

  up_first : (b : Bool) (r : Named D) (rs : List (Named D)) (name : Bytes) (kept : Kept D) → AreUp (r ∷ rs) → option_map (λ (x : Named D). x.kept) (cond b (Some r) (find (λ x. bytes_eq x.name name) rs)) ≡ Some kept
      → (kept_of rs name ≡ Some kept → kept.down ≡ None) → kept.down ≡ None
  up_first true r rs name kept up is behind = ap (λ (k : Kept D). k.down) (sym (same_Some r.kept kept is)) ∙ up.0
  up_first false r rs name kept up is behind = behind is

  pub up_of : (rs : List (Named D)) (name : Bytes) (kept : Kept D) → AreUp rs → kept_of rs name ≡ Some kept → kept.down ≡ None
  up_of [] name kept up is = absurd cc
  up_of (r ∷ rs) name kept up is = up_first (bytes_eq r.name name) r rs name kept up is (λ there. up_of rs name kept up.1 there)

  stay_first : (b : Bool) (r : Named D) (rs : List (Named D)) (name : Bytes) (after : Kept D) → AreUp (r ∷ rs) → after.down ≡ None → AreUp (with_kept rs name after)
      → AreUp (cond b (record r { kept = after } ∷ rs) (r ∷ with_kept rs name after))
  stay_first true r rs name after up is behind = (is, up.1)
  stay_first false r rs name after up is behind = (up.0, behind)

  pub stay_up : (rs : List (Named D)) (name : Bytes) (after : Kept D) → AreUp rs → after.down ≡ None → AreUp (with_kept rs name after)
  stay_up [] name after up is = tt
  stay_up (r ∷ rs) name after up is = stay_first (bytes_eq r.name name) r rs name after up is (stay_up rs name after up.1 is)

  -- ---- counts of faults

  module _ (faults : D → ℕ) where
    pub later_at : (honest : D → Bool) (rs : List (Named D)) (name : Bytes) (before after : Kept D) → kept_of rs name ≡ Some before → faults before.disk ≤ faults after.disk → honest after.disk ≡ honest before.disk
        → AreLater faults honest rs (with_kept rs name after)
    later_at honest rs name before after is later same =
        pair_at (λ r s. (s.name ≡ r.name) × (faults r.kept.disk ≤ faults s.kept.disk) × (honest s.kept.disk ≡ honest r.kept.disk)) (λ r. (refl, omega arith, refl)) rs name before after is
        (λ x own. (refl, subst (λ (k : Kept D). faults k.disk ≤ faults after.disk) (sym own) later, subst (λ (k : Kept D). honest after.disk ≡ honest k.disk) (sym own) same))

    pub later_same : (honest : D → Bool) (rs : List (Named D)) → AreLater faults honest rs rs
    later_same honest rs = pair_same (λ r s. (s.name ≡ r.name) × (faults r.kept.disk ≤ faults s.kept.disk) × (honest s.kept.disk ≡ honest r.kept.disk)) (λ r. (refl, omega arith, refl)) rs

    rose_first : (b : Bool) (r : Named D) (rs : List (Named D)) (name : Bytes) (before after : Kept D) → option_map (λ (x : Named D). x.kept) (cond b (Some r) (find (λ x. bytes_eq x.name name) rs)) ≡ Some before
        → Rose (faults before.disk) (faults after.disk)
        → (kept_of rs name ≡ Some before → SomeRose faults (map (λ (x : Named D). x.kept.disk) rs) (map (λ (x : Named D). x.kept.disk) (with_kept rs name after)))
        → SomeRose faults (map (λ (x : Named D). x.kept.disk) (r ∷ rs)) (map (λ (x : Named D). x.kept.disk) (cond b (record r { kept = after } ∷ rs) (r ∷ with_kept rs name after)))
    rose_first true r rs name before after is rose behind = inl (subst (λ (k : Kept D). Rose (faults k.disk) (faults after.disk)) (sym (same_Some r.kept before is)) rose)
    rose_first false r rs name before after is rose behind = inr (behind is)

    pub rose_at : (rs : List (Named D)) (name : Bytes) (before after : Kept D) → kept_of rs name ≡ Some before → Rose (faults before.disk) (faults after.disk)
        → SomeRose faults (map (λ (x : Named D). x.kept.disk) rs) (map (λ (x : Named D). x.kept.disk) (with_kept rs name after))
    rose_at [] name before after is rose = absurd cc
    rose_at (r ∷ rs) name before after is rose = rose_first (bytes_eq r.name name) r rs name before after is rose (λ there. rose_at rs name before after there rose)

    pub rose_more : (old new more : List D) → SomeRose faults old new → SomeRose faults (old ++ more) (new ++ more)
    rose_more [] new more rose = absurd rose
    rose_more (d ∷ ds) [] more rose = absurd rose
    rose_more (d ∷ ds) (e ∷ es) more (inl rose) = inl rose
    rose_more (d ∷ ds) (e ∷ es) more (inr rose) = inr (rose_more ds es more rose)

    pub none_fell : (honest : D → Bool) (old new : List (Named D)) (more : List D) → AreLater faults honest old new → NoneFell faults (map (λ (r : Named D). r.kept.disk) old ++ more) (map (λ (r : Named D). r.kept.disk) new ++ more)
    none_fell honest [] [] more later = pair_same (λ d e. faults d ≤ faults e) (λ d. omega arith) more
    none_fell honest [] (s ∷ ss) more later = absurd later
    none_fell honest (r ∷ rs) [] more later = absurd later
    none_fell honest (r ∷ rs) (s ∷ ss) more later = (later.0.1, none_fell honest rs ss more later.1)

    pub all_as_honest : (honest : D → Bool) (old new : List (Named D)) (more : List D) → AreLater faults honest old new → AreAsHonest honest (map (λ (r : Named D). r.kept.disk) old ++ more) (map (λ (r : Named D). r.kept.disk) new ++ more)
    all_as_honest honest [] [] more later = pair_same (λ d e. honest e ≡ honest d) (λ d. refl) more
    all_as_honest honest [] (s ∷ ss) more later = absurd later
    all_as_honest honest (r ∷ rs) [] more later = absurd later
    all_as_honest honest (r ∷ rs) (s ∷ ss) more later = (later.0.2, all_as_honest honest rs ss more later.1)

    pub names_stay : (honest : D → Bool) (old new : List (Named D)) → AreLater faults honest old new → map (λ (r : Named D). r.name) new ≡ map (λ (r : Named D). r.name) old
    names_stay honest [] [] later = refl
    names_stay honest [] (s ∷ ss) later = absurd later
    names_stay honest (r ∷ rs) [] later = absurd later
    names_stay honest (r ∷ rs) (s ∷ ss) later = ap (λ n. n ∷ map (λ (x : Named D). x.name) ss) later.0.0 ∙ ap (λ ns. r.name ∷ ns) (names_stay honest rs ss later.1)
