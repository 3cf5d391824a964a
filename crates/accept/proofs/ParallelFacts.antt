-- The first finalize that doesn't meet a condition, and the walk that finds it from the newest on.
use Rattle.std.proofs.Common.{◌≡◌, ℕ, suc, ◌+◌, ◌<◌, ◌↔◌, inl, inr, Bool, true, false, IsTrue, List, [], ◌∷◌, ◌++◌, length, take, drop, get_or, slice_get, Option, Some, None, option_map, refl, sym, ap, subst, ◌∙◌, arith, add-one, drop-cons}
use Rattle.std.specs.List.{Contains}
use Rattle.std.proofs.lemmas.List.{drop_all}
use Rattle.std.proofs.lemmas.List.Elements.{Contains-append_left}
use Rattle.std.proofs.lemmas.Option.{get_or_from_slice_get, same_Some, slice_get-get_or, slice_get_within}
use Rattle.accept.specs.Admission.{IsFirstBeside, IsFirstFinalizeWithout}
use Rattle.accept.specs.declared.parallel.Look.{Look}
use Rattle.accept.specs.declared.parallel.Look.TheVariants as look
use Rattle.accept.specs.working.Looks.{Looks}
use Rattle.braid_run.specs.Places.{IsBehind}
use Rattle.command.specs.Ancestors.{Ancestor, AreInLine, IsAt, IsUpTo}
use Rattle.command.specs.Closed.{IsClosed, IsHeld, has_id, place_of}
use Rattle.command.specs.Kinds.{is_finalize, parents_of}
use Rattle.command.specs.Wire.{command_id}
use Rattle.command.specs.declared.command.Command.{Command}
use Rattle.command.proofs.AncestorFacts.{trans}
use Rattle.command.proofs.ClosedFacts.{held_by, held_command, same_by_id}
use Rattle.command.proofs.KnownAncestors.{Known, ancestor_known, known_same}
use Rattle.command.proofs.ListFacts.{at_head, behind_head, head_cases, none_element, one_element}
use Rattle.command.proofs.PlaceFacts.{cut_at, inside_at, none_before, one_place, place_at}

-- there is one such
pub one_first : (P : Command → Type 0) (fs : List Command) (a b : Option (List ℕ)) → IsFirstFinalizeWithout P fs a → IsFirstFinalizeWithout P fs b → a ≡ b
one_first P [] a b one other = one ∙ sym other
one_first P (f ∷ fs) a b one other =
    elim one [
      | inl met ↦ elim other [ inl too ↦ one_first P fs a b met.1 too.1 | inr found ↦ absurd (found.1 (met.0 found.0)) ]
      | inr found ↦ elim other [ inl met ↦ absurd (found.1 (met.0 found.0)) | inr too ↦ found.2 ∙ sym too.2 ]
    ]

-- conditions that hold of the same commands have the same
pub first_alike : (P Q : Command → Type 0) → ((x : Command) → P x ↔ Q x) → (fs : List Command) (first : Option (List ℕ)) → IsFirstFinalizeWithout P fs first
    → IsFirstFinalizeWithout Q fs first
first_alike P Q same [] first is = is
first_alike P Q same (f ∷ fs) first is =
    elim is [
      | inl met ↦ inl ((λ h. (same f).0 (met.0 h)), first_alike P Q same fs first met.1)
      | inr found ↦ inr (found.0, (λ q. found.1 ((same f).1 q)), found.2)
    ]

-- a front of which all meet it is passed over
past_front : (P : Command → Type 0) (front fs : List Command) (first : Option (List ℕ)) → ((g : Command) → Contains front g → is_finalize g ≡ true → P g)
    → IsFirstFinalizeWithout P fs first → IsFirstFinalizeWithout P (front ++ fs) first
past_front P [] fs first all is = is
past_front P (g ∷ front) fs first all is = inl (all g (at_head g front), past_front P front fs first (λ h inside. all h (behind_head g front h inside)) is)

-- there is some, where it is known of each whether it meets the condition
pub some_first : (P : Command → Type 0) (fs : List Command) → ((f : Command) → Contains fs f → Known (P f)) → (first : Option (List ℕ)) × IsFirstFinalizeWithout P fs first
some_first P [] known = (None, refl)
some_first P (f ∷ fs) known = by_kind (is_finalize f) refl (some_first P fs (λ g inside. known g (behind_head f fs g inside)))
  where
    by_kind : (b : Bool) → is_finalize f ≡ b → (first : Option (List ℕ)) × IsFirstFinalizeWithout P fs first → (first : Option (List ℕ)) × IsFirstFinalizeWithout P (f ∷ fs) first
    by_kind false is rest = (rest.0, inl ((λ h. let no : false ≡ true = sym is ∙ h in absurd cc), rest.1))
    by_kind true is rest = elim (known f (at_head f fs)) [ inl met ↦ (rest.0, inl ((λ h. met), rest.1)) | inr fails ↦ (Some (command_id f), inr (is, fails, refl)) ]

-- ---- what stands before a command's place

module _ (cs : List Command) (closed : IsClosed cs) (c x : Command) (inside : Contains cs x) where
  -- a parent among these ids leads to x
  abbrev LeadsTo : List (List ℕ) → Type 0
  LeadsTo ids = (parent : Command) × Contains cs parent × Contains ids (command_id parent) × IsUpTo cs parent x

  up_to_known : (parent : Command) → Contains cs parent → Known (IsUpTo cs parent x)
  up_to_known parent among =
      elim (known_same cs closed x parent inside among) [
        | inl same ↦ inl (inl same)
        | inr differ ↦
            elim (ancestor_known cs closed x parent inside among) [
              | inl above ↦ inl (inr above)
              | inr fails ↦ inr (λ up. elim up [ inl same ↦ differ same | inr above ↦ fails above ])
            ]
      ]

  leads_known : (ids : List (List ℕ)) → Known (LeadsTo ids)
  leads_known [] = inr (λ leads. none_element (command_id leads.0) leads.2)
  leads_known (id ∷ ids) =
      elim (leads_known ids) [
        | inl leads ↦ inl (leads.0, leads.1, behind_head id ids (command_id leads.0) leads.2, leads.3)
        | inr not_later ↦ by_held (has_id cs id) refl not_later
      ]
    where
      by_held : (b : Bool) → has_id cs id ≡ b → (LeadsTo ids → ⊥) → Known (LeadsTo (id ∷ ids))
      by_held true held not_later =
          let found = held_command cs id held in
          elim (up_to_known found.0 found.1) [
            | inl up ↦ inl (found.0, found.1, subst (λ i. Contains (id ∷ ids) i) (sym found.2) (at_head id ids), up)
            | inr fails ↦
                inr (λ leads. elim (head_cases id ids (command_id leads.0) leads.2) [
                  | inl here ↦ fails (subst (λ m. IsUpTo cs m x) (same_by_id cs closed leads.0 found.0 leads.1 found.1 (sym here ∙ sym found.2)) leads.3)
                  | inr later ↦ not_later (leads.0, leads.1, later, leads.3)
                ])
          ]
      by_held false none not_later =
          inr (λ leads. elim (head_cases id ids (command_id leads.0) leads.2) [
            | inl here ↦ let held : has_id cs id ≡ true = subst (λ i. IsHeld cs i) (sym here) (held_by cs leads.0 leads.1) in let no : false ≡ true = sym none ∙ held in absurd cc
            | inr later ↦ not_later (leads.0, leads.1, later, leads.3)
          ])

  behind_known : Known (IsBehind cs c x)
  behind_known = leads_known (parents_of c)

-- each command has a first finalize beside it
pub some_beside : (cs : List Command) (c : Command) → IsClosed cs → (first : Option (List ℕ)) × IsFirstBeside cs c first
some_beside cs c closed = some_first (IsBehind cs c) cs (λ f inside. behind_known cs closed c f inside)

-- before a command with one parent stands what is up to that one
pub up_to_is_behind : (cs : List Command) → IsClosed cs → (c p : Command) → Contains cs p → parents_of c ≡ command_id p ∷ [] → (x : Command) → IsUpTo cs p x ↔ IsBehind cs c x
up_to_is_behind cs closed c p among one x = (
  (λ up. (p, among, subst (λ ids. Contains ids (command_id p)) (sym one) (at_head (command_id p) []), up)),
  (λ behind.
      let is : command_id p ≡ command_id behind.0 = one_element (command_id p) (command_id behind.0) (subst (λ ids. Contains ids (command_id behind.0)) one behind.2) in
      subst (λ m. IsUpTo cs m x) (same_by_id cs closed behind.0 p behind.1 among (sym is)) behind.3),
)

-- the first beside what is up to a parent is the first beside its child
pub beside_child : (cs : List Command) → IsClosed cs → (parent : List ℕ) (place : ℕ) (first : Option (List ℕ)) → place_of cs parent ≡ Some place
    → ((p : Command) → IsAt cs place p → IsFirstFinalizeWithout (IsUpTo cs p) cs first) → (c : Command) → parents_of c ≡ parent ∷ [] → IsFirstBeside cs c first
beside_child cs closed parent place first found all c one =
    let at = place_at cs parent place found in
    first_alike (IsUpTo cs at.0) (IsBehind cs c) (up_to_is_behind cs closed c at.0 (inside_at cs place at.0 at.1) (one ∙ ap (λ i. i ∷ []) (sym at.2))) cs first (all at.0 at.1)

-- ---- the walk

same_at : (cs : List Command) (place tip : ℕ) (x p : Command) → place ≡ tip → IsAt cs place x → IsAt cs tip p → x ≡ p
same_at cs place tip x p same here there = same_Some x p (sym here ∙ ap (slice_get cs) same ∙ there)

pub tip_is_up : (cs : List Command) (place tip : ℕ) → place ≡ tip → (x p : Command) → IsAt cs place x → IsAt cs tip p → IsTrue true ↔ IsUpTo cs p x
tip_is_up cs place tip same x p here there = ((λ h. inl (same_at cs place tip x p same here there)), (λ up. refl))

pub other_is_up : (cs : List Command) → IsClosed cs → (place tip : ℕ) → (place ≡ tip → ⊥) → (found : Bool)
    → ((x p : Command) → IsAt cs place x → IsAt cs tip p → IsTrue found ↔ Ancestor cs x p) → (x p : Command) → IsAt cs place x → IsAt cs tip p → IsTrue found ↔ IsUpTo cs p x
other_is_up cs closed place tip differ found is x p here there = (
  (λ h. inr ((is x p here there).0 h)),
  (λ up. elim up [
    | inl same ↦ absurd (differ (one_place cs closed place tip x here (subst (λ z. IsAt cs tip z) (sym same) there)))
    | inr above ↦ (is x p here there).1 above
  ]),
)

-- what a look at a finalize tells
module _ (cs : List Command) (place tip : ℕ) (at : Command) (stands : IsAt cs place at) (final : is_finalize at ≡ true) (up : Bool)
    (is : (x p : Command) → IsAt cs place x → IsAt cs tip p → IsTrue up ↔ IsUpTo cs p x) (x p : Command) (here : IsAt cs place x) (there : IsAt cs tip p) where
  finalize_here : is_finalize x ≡ true
  finalize_here = subst (λ z. is_finalize z ≡ true) (same_Some at x (sym stands ∙ here)) final

  pub looks_up : up ≡ true → Looks cs p x look.UpTo
  looks_up yes_up = (finalize_here, (is x p here there).0 yes_up)

  pub looks_beside : up ≡ false → (id : List ℕ) → option_map command_id (slice_get cs place) ≡ Some id → Looks cs p x (look.Beside id)
  looks_beside not_up id named = (
    finalize_here,
    (λ above. let never : false ≡ true = sym not_up ∙ (is x p here there).1 above in absurd cc),
    same_Some (command_id x) id (sym (ap (option_map command_id) here) ∙ named),
  )

dropped : {X : Type 0} (xs : List X) (place : ℕ) (x : X) → slice_get xs place ≡ Some x → drop place xs ≡ x ∷ drop (place + 1) xs
dropped xs place x is =
    let within = slice_get_within xs place x is in
    drop-cons xs place x within ∙ ap (λ y. y ∷ drop (suc place) xs) (get_or_from_slice_get xs place x x is) ∙ rw add-one refl

pub none_yet : (P : Command → Type 0) (cs : List Command) → IsFirstFinalizeWithout P (drop (length cs) cs) None
none_yet P cs = subst (λ fs. IsFirstFinalizeWithout P fs None) (sym (drop_all (length cs) cs (omega arith))) refl

module _ (cs : List Command) (p : Command) (before now : ℕ) (x : Command) (there : IsAt cs now x) (next : before ≡ now + 1) where
  more : (first : Option (List ℕ)) → IsFirstFinalizeWithout (IsUpTo cs p) (drop before cs) first → (is_finalize x ≡ true → IsUpTo cs p x) → IsFirstFinalizeWithout (IsUpTo cs p) (drop now cs) first
  more first is met =
      subst (λ fs. IsFirstFinalizeWithout (IsUpTo cs p) fs first) (sym (dropped cs now x there)) (inl (met, subst (λ k. IsFirstFinalizeWithout (IsUpTo cs p) (drop k cs) first) next is))

  pub past_other : is_finalize x ≡ false → (first : Option (List ℕ)) → IsFirstFinalizeWithout (IsUpTo cs p) (drop before cs) first
      → IsFirstFinalizeWithout (IsUpTo cs p) (drop now cs) first
  past_other none first is = more first is (λ h. let no : false ≡ true = sym none ∙ h in absurd cc)

  pub at_beside : (id : List ℕ) → is_finalize x ≡ true → (IsUpTo cs p x → ⊥) → command_id x ≡ id → IsFirstFinalizeWithout (IsUpTo cs p) (drop now cs) (Some id)
  at_beside id is beside named =
      subst (λ fs. IsFirstFinalizeWithout (IsUpTo cs p) fs (Some id)) (sym (dropped cs now x there)) (inr (is, beside, ap Some (sym named)))

  -- all older finalize commands are up to p too
  older_up : IsClosed cs → AreInLine cs → is_finalize x ≡ true → IsUpTo cs p x → (g : Command) → Contains (take now cs) g → is_finalize g ≡ true → IsUpTo cs p g
  older_up closed line is up g inside also =
      let among : Contains cs g = subst (λ l. Contains l g) (sym (cut_at cs now x there)) (Contains-append_left (take now cs) (x ∷ drop (now + 1) cs) g inside) in
      elim (line g x among (inside_at cs now x there) also is) [
        | inl same ↦ subst (λ z. IsUpTo cs p z) (sym same) up
        | inr either ↦
            elim either [
              | inl above ↦ elim up [ inl here ↦ inr (subst (λ z. Ancestor cs g z) here above) | inr further ↦ inr (trans cs g x p above further) ]
              | inr below ↦ absurd (none_before cs closed now x g there below inside)
            ]
      ]

  pub at_up_to : IsClosed cs → AreInLine cs → is_finalize x ≡ true → IsUpTo cs p x → (first : Option (List ℕ)) → IsFirstFinalizeWithout (IsUpTo cs p) (drop before cs) first
      → IsFirstFinalizeWithout (IsUpTo cs p) cs first
  at_up_to closed line is up first found =
      subst (λ l. IsFirstFinalizeWithout (IsUpTo cs p) l first) (sym (cut_at cs now x there))
      (past_front (IsUpTo cs p) (take now cs) (x ∷ drop (now + 1) cs) first (older_up closed line is up)
      (inl ((λ h. up), subst (λ k. IsFirstFinalizeWithout (IsUpTo cs p) (drop k cs) first) next found)))

-- ---- one step of the walk

module _ (cs : List Command) (tip before now : ℕ) (lt : now < length cs) (next : before ≡ now + 1) (seen : Look)
    (is : (x p : Command) → IsAt cs now x → IsAt cs tip p → Looks cs p x seen) (first : Option (List ℕ))
    (found : (p : Command) → IsAt cs tip p → IsFirstFinalizeWithout (IsUpTo cs p) (drop before cs) first) (p : Command) (there : IsAt cs tip p) where
  at_now : IsAt cs now (get_or cs now p)
  at_now = slice_get-get_or cs now p lt

  told : (kind : Look) → seen ≡ kind → Looks cs p (get_or cs now p) kind
  told kind same = subst (Looks cs p (get_or cs now p)) same (is (get_or cs now p) p at_now there)

  pub step_other : seen ≡ look.Other → IsFirstFinalizeWithout (IsUpTo cs p) (drop now cs) first
  step_other same = past_other cs p before now (get_or cs now p) at_now next (told look.Other same) first (found p there)

  pub step_beside : (id : List ℕ) → seen ≡ look.Beside id → IsFirstFinalizeWithout (IsUpTo cs p) (drop now cs) (Some id)
  step_beside id same =
      let tells : Looks cs p (get_or cs now p) (look.Beside id) = told (look.Beside id) same in at_beside cs p before now (get_or cs now p) at_now next id tells.0 tells.1 tells.2

  pub step_up : IsClosed cs → AreInLine cs → seen ≡ look.UpTo → IsFirstFinalizeWithout (IsUpTo cs p) cs first
  step_up closed line same =
      let tells : Looks cs p (get_or cs now p) look.UpTo = told look.UpTo same in at_up_to cs p before now (get_or cs now p) at_now next closed line tells.0 tells.1 first (found p there)
