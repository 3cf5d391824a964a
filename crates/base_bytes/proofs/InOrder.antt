-- Values read in order, as a loop reads them: what was read so far is in front of what is read of the rest.
use Rattle.std.proofs.Common.{◌≡◌, ℕ, suc, ◌-◌, ◌≤◌, replicate, ◌+◌, ◌<◌, List, [], ◌∷◌, ◌++◌, length, get_or, drop, map, Option, Some, None, Err, option_map, refl, sym, ap, ◌∙◌, append_assoc, arith}
use Rattle.std.proofs.lemmas.List.{append-nil, at_drop_more}
use Rattle.base_bytes.specs.Reading.{Reading, Reads, in_order}
use Rattle.base_bytes.specs.declared.unread.Unread.{Unread}
use Rattle.base_bytes.specs.declared.unread.Unread.TheVariants as unread

abbrev pub with_front : {A : Type 0} → List A → Option (List A × List ℕ) → Option (List A × List ℕ)
with_front front found = option_map (λ p. (front ++ p.0, p.1)) found

module _ {A : Type 0} (front : List A) (read : Reading A) (more : List (Reading A)) (bytes : List ℕ) (total : Option (List A × List ℕ)) where
  regroup : (x : A) (found : Option (List A × List ℕ)) → with_front front (option_map (λ (p : (A × List A) × List ℕ). (p.0.0 ∷ p.0.1, p.1)) (option_map (λ (q : List A × List ℕ). ((x, q.0), q.1)) found)) ≡ with_front (front ++ x ∷ []) found
  regroup x None = refl
  regroup x (Some p) = ap (λ (xs : List A). Some (xs, p.1)) (sym (append_assoc front (x ∷ []) p.0))

  pub one_more : (x : A) (after : List ℕ) → read bytes ≡ Some (x, after) → with_front front (in_order (read ∷ more) bytes) ≡ total → with_front (front ++ x ∷ []) (in_order more after) ≡ total
  one_more x after is so_far =
      let one : with_front front (in_order (read ∷ more) bytes) ≡ with_front (front ++ x ∷ []) (in_order more after) = rw is (regroup x (in_order more after)) in
      sym one ∙ so_far

  pub none_there : read bytes ≡ None → with_front front (in_order (read ∷ more) bytes) ≡ total → total ≡ None
  none_there is so_far =
      let one : with_front front (in_order (read ∷ more) bytes) ≡ None = rw is refl in
      sym so_far ∙ one

pub all_read : {A : Type 0} (front : List A) (bytes : List ℕ) (total : Option (List A × List ℕ)) → with_front front (in_order [] bytes) ≡ total → total ≡ Some (front, bytes)
all_read {A} front bytes total so_far = sym so_far ∙ ap (λ (xs : List A). Some (xs, bytes)) (append-nil front)

-- at a place of a list that says how each is read
pub next_read : {A T : Type 0} (read : T → Reading A) (types : List T) (i : ℕ) (ty : T) (front : List A) (x : A) (bytes after : List ℕ) (total : Option (List A × List ℕ)) → i < length types → ty ≡ get_or types i ty
    → read ty bytes ≡ Some (x, after) → with_front front (in_order (map read (drop i types)) bytes) ≡ total → with_front (front ++ x ∷ []) (in_order (map read (drop (i + 1) types)) after) ≡ total
next_read {A} read types i ty front x bytes after total within is found so_far =
    let cut = at_drop_more (λ left. with_front front (in_order (map read left) bytes)) types i ty within in
    let here = ap (λ it. with_front front (in_order (map read (it ∷ drop (i + 1) types)) bytes)) is in
    one_more front (read ty) (map read (drop (i + 1) types)) bytes total x after found (here ∙ sym cut ∙ so_far)

-- so many values read in one way
module _ {A : Type 0} (read : Reading A) (count i : ℕ) (front : List A) (bytes : List ℕ) (total : Option (List A × List ℕ)) (so_far : with_front front (in_order (replicate (count - i) read) bytes) ≡ total) where
  cut : i < count → with_front front (in_order (read ∷ replicate (count - (i + 1)) read) bytes) ≡ total
  cut within = let left : suc (count - (i + 1)) ≡ count - i = omega arith in ap (λ k. with_front front (in_order (replicate k read) bytes)) left ∙ so_far

  pub next_repeated : (x : A) (after : List ℕ) → i < count → read bytes ≡ Some (x, after) → with_front (front ++ x ∷ []) (in_order (replicate (count - (i + 1)) read) after) ≡ total
  next_repeated x after within found = one_more front read (replicate (count - (i + 1)) read) bytes total x after found (cut within)

  pub none_repeated : i < count → read bytes ≡ None → total ≡ None
  none_repeated within refused = none_there front read (replicate (count - (i + 1)) read) bytes total refused (cut within)

  pub all_repeated : count ≤ i → total ≡ Some (front, bytes)
  all_repeated past = let left : count - i ≡ 0 = omega arith in all_read front bytes total (ap (λ k. with_front front (in_order (replicate k read) bytes)) (sym left) ∙ so_far)

  -- a reading that is refused refuses the whole
  pub refused_repeated : {X Y : Type 0} (view : X → A) (view_too : Y → List A) (error : Unread) (rest rest_too : List ℕ) → i < count → Reads view (Err error) rest (read bytes) → Reads view_too (Err error) rest_too total
  refused_repeated view view_too unread.Malformed rest rest_too within refused = none_repeated within refused
  refused_repeated view view_too unread.NoMemory rest rest_too within refused = tt
