-- A walk back: its steps, its start and its end.
use Rattle.std.proofs.Common.{◌≡◌, ℕ, zero, suc, ◌+◌, ◌-◌, ◌<◌, ◌≤◌, ◌⊎◌, inl, inr, Bool, true, false, cond, not, List, [], ◌∷◌, ◌++◌, length, take, get_or, set, slice_get, Some, refl, sym, ap, subst, ◌∙◌, arith, length-append, length-set, get_or-set_other, get_or-set_same}
use Rattle.std.specs.List.{Contains}
use Rattle.std.proofs.lemmas.Bool.{cases_eq, cases_lt}
use Rattle.std.proofs.lemmas.List.Elements.{Contains-append_left, Contains-push, Contains-push_cases}
use Rattle.std.proofs.lemmas.List.Sums.{sum_by-set}
use Rattle.std.proofs.lemmas.Option.{slice_get-get_or}
use Rattle.command.specs.declared.command.Command.{Command}
use Rattle.command.specs.Ancestors.{Ancestor, IsAt, IsParent, IsUpTo}
use Rattle.command.specs.Ancestors.Ancestor.{Parent}
use Rattle.command.specs.Closed.{IsClosed, place_of}
use Rattle.command.specs.Kinds.{parents_of}
use Rattle.command.specs.Wire.{command_id}
use Rattle.command.proofs.AncestorFacts.{inside_down, trans}
use Rattle.command.proofs.ListFacts.{none_element, one_element}
use Rattle.command.proofs.PlaceFacts.{inside_at, one_place, place_at, place_is, stands_before, take_one_more}
use Rattle.graph_set.specs.working.Walks.{IsMarked, IsNumbered, IsWalked, MarksWhere, unmarked}

pub marked_within : (marks : List Bool) (k : ℕ) → IsMarked marks k → k < length marks
marked_within [] k h = absurd cc
marked_within (b ∷ marks) zero h = omega arith
marked_within (b ∷ marks) (suc k) h = omega (arith, marked_within marks k h)

-- nothing is found that wasn't found before
pub none_new : (P : ℕ → Type 0) (marks : List Bool) (due : List ℕ) → ((k : ℕ) → P k → IsMarked marks k) → MarksWhere P marks due marks due
none_new P marks due known = record {
  size = refl;
  kept = λ k h. h;
  has = known;
  only = λ k h. inl h;
  stay = λ k h. h;
  found = λ k h. inl h;
  fewer = omega arith;
}

-- what one counts among those that aren't found
abbrev weight : Bool → ℕ
weight b = cond (not b) 1 0

-- one is found
pub one_new : (marks : List Bool) (due : List ℕ) (number : ℕ) → number < length marks → get_or marks number false ≡ false → MarksWhere (λ k. k ≡ number) marks due (set marks number true) (due ++ number ∷ [])
one_new marks due number lt was = record {
  size = length-set marks number true;
  kept = λ k h. elim (cases_eq k number) [ inl same ↦ here k same | inr differs ↦ get_or-set_other marks number k true false differs ∙ h ];
  has = here;
  only = λ k h. elim (cases_eq k number) [
    | inl same ↦ inr (same, subst (λ n. Contains (due ++ number ∷ []) n) (sym same) (Contains-push due number))
    | inr differs ↦ inl (sym (get_or-set_other marks number k true false differs) ∙ h)
  ];
  stay = λ k h. Contains-append_left due (number ∷ []) k h;
  found = λ k h. elim (Contains-push_cases due number k h) [ inl before ↦ inl before | inr last ↦ inr (here k (sym last)) ];
  fewer = less;
}
  where
    here : (k : ℕ) → k ≡ number → IsMarked (set marks number true) k
    here k same = subst (λ n. IsMarked (set marks number true) n) (sym same) (get_or-set_same marks number true false lt)

    less : unmarked (set marks number true) + length (due ++ number ∷ []) ≤ unmarked marks + length due
    less =
        let changed = sum_by-set (λ b. weight b) marks number true false lt in
        let one = ap (λ b. weight b) was in
        omega (arith, changed, one, length-append due (number ∷ []))

-- two steps, one after the other
pub both_new : (P Q R : ℕ → Type 0) (marks : List Bool) (due : List ℕ) (mid : List Bool) (half : List ℕ) (next : List Bool) (more : List ℕ) → ((k : ℕ) → R k → P k ⊎ Q k) → ((k : ℕ) → P k → R k) → ((k : ℕ) → Q k → R k) →
    MarksWhere P marks due mid half → MarksWhere Q mid half next more → MarksWhere R marks due next more
both_new P Q R marks due mid half next more parts left right first second = record {
  size = second.size ∙ first.size;
  kept = λ k h. second.kept k (first.kept k h);
  has = λ k r. elim (parts k r) [ inl p ↦ second.kept k (first.has k p) | inr q ↦ second.has k q ];
  only = λ k h. elim (second.only k h) [
    | inl before ↦ elim (first.only k before) [ inl old ↦ inl old | inr new ↦ inr (left k new.0, second.stay k new.1) ]
    | inr new ↦ inr (right k new.0, new.1)
  ];
  stay = λ k h. second.stay k (first.stay k h);
  found = λ k h. elim (second.found k h) [
    | inl before ↦ elim (first.found k before) [ inl old ↦ inl old | inr new ↦ inr (second.kept k new) ]
    | inr new ↦ inr new
  ];
  fewer = omega (arith, first.fewer, second.fewer);
}

module _ (cs : List Command) (older : ℕ) where
  -- one more id
  pub more_ids : (ids : List (List ℕ)) (i : ℕ) (id : List ℕ) → slice_get ids i ≡ Some id → (marks : List Bool) (due : List ℕ) (mid : List Bool) (half : List ℕ) (next : List Bool) (more : List ℕ) →
      MarksWhere (IsNumbered cs older (take i ids)) marks due mid half → MarksWhere (IsNumbered cs older (id ∷ [])) mid half next more → MarksWhere (IsNumbered cs older (take (i + 1) ids)) marks due next more
  more_ids ids i id at marks due mid half next more first second =
      both_new (IsNumbered cs older (take i ids)) (IsNumbered cs older (id ∷ [])) (IsNumbered cs older (take (i + 1) ids)) marks due mid half next more
      (λ k n. elim (Contains-push_cases (take i ids) id n.0 (subst (λ l. Contains l n.0) same n.1)) [
        | inl before ↦ inl (n.0, before, n.2)
        | inr last ↦ inr (n.0, subst (λ j. Contains (id ∷ []) j) last (Contains-push [] id), n.2)
      ])
      (λ k n. (n.0, subst (λ l. Contains l n.0) (sym same) (Contains-append_left (take i ids) (id ∷ []) n.0 n.1), n.2))
      (λ k n. (n.0, subst (λ l. Contains l n.0) (sym same) (subst (λ j. Contains (take i ids ++ id ∷ []) j) (one_element id n.0 n.1) (Contains-push (take i ids) id)), n.2))
      first second
    where
      same : take (i + 1) ids ≡ take i ids ++ id ∷ []
      same = take_one_more ids i id at

module _ (cs : List Command) (closed : IsClosed cs) (older newer : ℕ) where
  -- the parent that an id leads to
  parent_at : (place p : ℕ) (z : Command) (id : List ℕ) → IsAt cs place z → Contains (parents_of z) id → place_of cs id ≡ Some p → (m : Command) × IsAt cs p m × IsParent cs m z
  parent_at place p z id at link is =
      let found = place_at cs id p is in
      (found.0, found.1, record { older = inside_at cs p found.0 found.1; newer = inside_at cs place z at; link = subst (λ i. Contains (parents_of z) i) (sym found.2) link })

  pub parent_before : (place p : ℕ) (z : Command) (id : List ℕ) → IsAt cs place z → Contains (parents_of z) id → place_of cs id ≡ Some p → p < place
  parent_before place p z id at link is =
      let m = parent_at place p z id at link is in
      stands_before cs closed p place m.0 z m.1 at (Parent m.2)

  above : (y m z : Command) → IsParent cs m z → IsUpTo cs y z → IsUpTo cs y m
  above y m z e up = elim up [ inl same ↦ inr (Parent (subst (λ w. IsParent cs m w) same e)) | inr further ↦ inr (trans cs m z y (Parent e) further) ]

  -- one command is looked at
  pub looked : (marks : List Bool) (due rest : List ℕ) (number : ℕ) (z : Command) (next : List Bool) (more : List ℕ) → IsWalked cs older newer marks due → due ≡ rest ++ number ∷ [] → IsAt cs (older + number) z →
      MarksWhere (IsNumbered cs older (parents_of z)) marks rest next more → IsWalked cs older newer next more
  looked marks due rest number z next more now popped at step = record {
    size = ap (λ n. older + n) step.size ∙ now.size;
    own = λ k same. step.kept k (now.own k same);
    up = λ k w y h there newest. elim (step.only k h) [ inl before ↦ now.up k w y before there newest | inr new ↦ parent_up k w y new.0 there newest ];
    found = λ k h. elim (step.found k h) [ inl before ↦ step.kept k (now.found k (subst (λ l. Contains l k) (sym popped) (Contains-append_left rest (number ∷ []) k before))) | inr new ↦ new ];
    done = λ k h. elim (step.only k h) [
      | inl before ↦ elim (now.done k before) [ inl waits ↦ still k waits | inr done ↦ inr (λ w n there p. step.kept n (done w n there p)) ]
      | inr new ↦ inl new.1
    ];
  }
    where
      own : IsMarked marks number
      own = now.found number (subst (λ l. Contains l number) (sym popped) (Contains-push rest number))

      parent_up : (k : ℕ) (w y : Command) → IsNumbered cs older (parents_of z) k → IsAt cs (older + k) w → IsAt cs newer y → IsUpTo cs y w
      parent_up k w y n there newest =
          let m = parent_at (older + number) (older + k) z n.0 at n.1 n.2 in
          let both : Some m.0 ≡ Some w = sym m.1 ∙ there in
          let same : m.0 ≡ w = cc in
          subst (λ c. IsUpTo cs y c) same (above y m.0 z m.2 (now.up number z y own at newest))

      still : (k : ℕ) → Contains due k → Contains more k ⊎ ((w : Command) (n : ℕ) → IsAt cs (older + k) w → IsNumbered cs older (parents_of w) n → IsMarked next n)
      still k waits = elim (Contains-push_cases rest number k (subst (λ l. Contains l k) popped waits)) [
        | inl before ↦ inl (step.stay k before)
        | inr last ↦ inr (λ w n there p.
            let here : IsAt cs (older + k) z = subst (λ i. IsAt cs (older + i) z) last at in
            let both : Some z ≡ Some w = sym here ∙ there in
            let same : w ≡ z = cc in
            step.has n (subst (λ c. IsNumbered cs older (parents_of c) n) same p))
      ]

  -- what is found is an ancestor
  pub met : (marks : List Bool) (due : List ℕ) (x y : Command) → older < newer → IsWalked cs older newer marks due → IsAt cs older x → IsAt cs newer y → IsMarked marks 0 → Ancestor cs x y
  met marks due x y lt now at there h =
      let sum : older ≡ older + 0 = omega arith in
      elim (now.up 0 x y h (subst (λ i. IsAt cs i x) sum at) there) [
        | inl same ↦ let both = one_place cs closed older newer y (subst (λ c. IsAt cs older c) same at) there in absurd (omega (arith, both, lt))
        | inr further ↦ further
      ]

  -- a command that is found, or older than all that may be found
  abbrev Below : List Bool → Command → Type 0
  Below marks z = (q : ℕ) × IsAt cs q z × ((q < older) ⊎ ((k : ℕ) × (older + k ≡ q) × IsMarked marks k))

  below_down : (marks : List Bool) → IsWalked cs older newer marks [] → (m z : Command) → IsParent cs m z → Below marks z → Below marks m
  below_down marks now m z e below =
      let p = e.older.0 in
      let at : IsAt cs p m = slice_get-get_or cs p m e.older.1 ∙ ap Some e.older.2 in
      let before : p < below.0 = stands_before cs closed p below.0 m z at below.1 (Parent e) in
      elim below.2 [
        | inl lt ↦ (p, at, inl (omega (arith, before, lt)))
        | inr found ↦ elim (cases_lt p older) [
          | inl lt ↦ (p, at, inl lt)
          | inr ge ↦
              let sum : older + (p - older) ≡ p = omega (arith, ge) in (
                p,
                at,
                inr (
                  p - older,
                  sum,
                  elim (now.done found.0 found.2) [
                    | inl waits ↦ absurd (none_element found.0 waits)
                    | inr done ↦ done z (p - older) (subst (λ i. IsAt cs i z) (sym found.1) below.1) (command_id m, e.link, place_is cs closed p m at ∙ ap Some (sym sum))
                  ],
                ),
              )
        ]
      ]

  -- and at the end an ancestor is found
  pub ended : (marks : List Bool) (x y : Command) → older < newer → IsWalked cs older newer marks [] → IsAt cs older x → IsAt cs newer y → Ancestor cs x y → IsMarked marks 0
  ended marks x y lt now at there a =
      let sum : older + (newer - older) ≡ newer = omega (arith, lt) in
      let below = inside_down cs (Below marks) (below_down marks now) x y a (newer, there, inr (newer - older, sum, now.own (newer - older) sum)) in
      let same = one_place cs closed below.0 older x below.1 at in
      elim below.2 [
        | inl before ↦ absurd (omega (arith, before, same))
        | inr found ↦ let zero_is : found.0 ≡ 0 = omega (arith, found.1, same) in subst (λ k. IsMarked marks k) zero_is found.2
      ]

-- what is to be looked at stands at or before the newest one
pub due_within : (cs : List Command) (older newer : ℕ) (marks : List Bool) (due rest : List ℕ) (number : ℕ) → IsWalked cs older newer marks due → due ≡ rest ++ number ∷ [] → older + number ≤ newer
due_within cs older newer marks due rest number now popped =
    let lt = marked_within marks number (now.found number (subst (λ l. Contains l number) (sym popped) (Contains-push rest number))) in
    omega (arith, lt, now.size)
