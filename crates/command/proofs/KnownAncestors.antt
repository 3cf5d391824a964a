-- Whether a command is an ancestor of another can be found out.
use Rattle.std.proofs.Common.{◌≡◌, ℕ, ◌⊎◌, inl, inr, Bool, true, false, List, [], ◌∷◌, ◌++◌, refl, sym, ap, subst, ◌∙◌}
use Rattle.std.specs.List.{Contains}
use Rattle.std.specs.Str.{bytes_eq}
use Rattle.std.proofs.lemmas.List.Elements.{Contains-append_left, Contains-append_right, Contains-push, Contains-push_cases}
use Rattle.command.specs.declared.command.Command.{Command}
use Rattle.command.specs.Ancestors.{Ancestor, IsParent}
use Rattle.command.specs.Ancestors.Ancestor.{Parent, Further}
use Rattle.command.specs.Closed.{IsClosed, IsHeld, IsNext}
use Rattle.command.specs.Kinds.{parents_of}
use Rattle.command.specs.Wire.{command_id}
use Rattle.command.proofs.AncestorFacts.{kept, newest_top, was}
use Rattle.command.proofs.ClosedFacts.{bytes_of_same, held_command, same_by_id, same_bytes}
use Rattle.command.proofs.ListFacts.{each_before, each_last, from_end, head_cases, none_element}

abbrev pub Known : Type 0 → Type 0
Known A = A ⊎ (A → ⊥)

-- whether a test passes
tested : (b : Bool) → (b ≡ true) ⊎ (b ≡ true → ⊥)
tested true = inl refl
tested false = inr (λ h. absurd cc)

-- whether two ids are the same
pub known_id : (xs ys : List ℕ) → Known (xs ≡ ys)
known_id xs ys = elim (tested (bytes_eq xs ys)) [ inl holds ↦ inl (same_bytes xs ys holds) | inr fails ↦ inr (λ same. fails (bytes_of_same xs ys same)) ]

-- whether two commands of a closed list are the same
pub known_same : (cs : List Command) → IsClosed cs → (x y : Command) → Contains cs x → Contains cs y → Known (x ≡ y)
known_same cs closed x y inside other =
    elim (known_id (command_id x) (command_id y)) [ inl same ↦ inl (same_by_id cs closed x y inside other same) | inr differ ↦ inr (λ same. differ (ap command_id same)) ]

-- what holds of one of a list, where it is known of each
known_some : (P : List ℕ → Type 0) (ids : List (List ℕ)) → ((id : List ℕ) → Contains ids id → Known (P id)) → Known ((id : List ℕ) × Contains ids id × P id)
known_some P [] known = inr (λ some. none_element some.0 some.1)
known_some P (id ∷ ids) known =
    elim (known id (Contains-append_left (id ∷ []) ids id (Contains-push [] id))) [
      | inl holds ↦ inl (id, Contains-append_left (id ∷ []) ids id (Contains-push [] id), holds)
      | inr fails ↦
          elim (known_some P ids (λ i inside. known i (behind i inside))) [
            | inl some ↦ inl (some.0, behind some.0 some.1, some.2)
            | inr none ↦ inr (λ some. elim (head_cases id ids some.0 some.1) [
              | inl here ↦ fails (subst P (sym here) some.2)
              | inr later ↦ none (some.0, later, some.2)
            ])
          ]
    ]
  where
    behind : (i : List ℕ) → Contains ids i → Contains (id ∷ ids) i
    behind i inside = Contains-append_right (id ∷ []) ids i inside

-- what it takes for x to be an ancestor of the command that stands next
abbrev pub LinksTo : List Command → Command → List ℕ → Type 0
LinksTo cs x id = (m : Command) × Contains cs m × (command_id m ≡ id) × ((x ≡ m) ⊎ Ancestor cs x m)

abbrev Reaches : List Command → Command → Command → Type 0
Reaches cs x c = (id : List ℕ) × Contains (parents_of c) id × LinksTo cs x id

pub reaches_is_ancestor : (cs : List Command) (x c : Command) → Reaches cs x c → Ancestor (cs ++ c ∷ []) x c
reaches_is_ancestor cs x c r =
    let m = r.2.0 in
    let older = Contains-append_left cs (c ∷ []) m r.2.1 in
    let link : Contains (parents_of c) (command_id m) = subst (λ i. Contains (parents_of c) i) (sym r.2.2) r.1 in
    let parent : IsParent (cs ++ c ∷ []) m c = record { older = older; newer = Contains-push cs c; link = link } in
    elim r.2.3 [
      | inl same ↦ Parent (subst (λ z. IsParent (cs ++ c ∷ []) z c) (sym same) parent)
      | inr above ↦ Further (kept cs (c ∷ []) x m above) parent
    ]

-- a parent of the last command is one of those before
before_last : (cs : List Command) (c m : Command) → IsClosed (cs ++ c ∷ []) → IsParent (cs ++ c ∷ []) m c → Contains cs m
before_last cs c m closed e =
    elim (Contains-push_cases cs c m e.older) [
      | inl older ↦ older
      | inr same ↦
          let next = each_last IsNext cs c closed in
          absurd (next.fresh (next.held (command_id c) (subst (λ z. Contains (parents_of c) (command_id z)) (sym same) e.link)))
    ]

pub ancestor_reaches : (cs : List Command) (x c : Command) → IsClosed (cs ++ c ∷ []) → (y : Command) → c ≡ y → Ancestor (cs ++ c ∷ []) x y → Reaches cs x c
ancestor_reaches cs x c closed y is (Parent e) =
    let here : IsParent (cs ++ c ∷ []) x c = subst (λ z. IsParent (cs ++ c ∷ []) x z) (sym is) e in
    (command_id x, here.link, (x, before_last cs c x closed here, refl, inl refl))
ancestor_reaches cs x c closed y is (Further {m = m} a e) =
    let here : IsParent (cs ++ c ∷ []) m c = subst (λ z. IsParent (cs ++ c ∷ []) m z) (sym is) e in
    let inside = before_last cs c m closed here in
    (command_id m, here.link, (m, inside, refl, inr (was cs (c ∷ []) closed x m inside a)))

-- whether x is, or is an ancestor of, the command with a held id
known_link : (cs : List Command) (x : Command) (id : List ℕ) → IsClosed cs → Contains cs x → ((y : Command) → Contains cs y → Known (Ancestor cs x y)) → IsHeld cs id → Known (LinksTo cs x id)
known_link cs x id closed inside known held =
    let found = held_command cs id held in
    let other : (l : LinksTo cs x id) → found.0 ≡ l.0 = λ l. same_by_id cs closed found.0 l.0 found.1 l.1 (found.2 ∙ sym l.2) in
    elim (known_same cs closed x found.0 inside found.1) [
      | inl same ↦ inl (found.0, found.1, found.2, inl same)
      | inr differ ↦
          elim (known found.0 found.1) [
            | inl above ↦ inl (found.0, found.1, found.2, inr above)
            | inr not_above ↦ inr (λ l. elim l.3 [
              | inl here ↦ differ (here ∙ sym (other l))
              | inr there ↦ not_above (subst (λ z. Ancestor cs x z) (sym (other l)) there)
            ])
          ]
    ]

-- whether x is an ancestor of y
pub ancestor_known : (cs : List Command) → IsClosed cs → (x y : Command) → Contains cs x → Contains cs y → Known (Ancestor cs x y)
ancestor_known = from_end (λ cs. IsClosed cs → (x y : Command) → Contains cs x → Contains cs y → Known (Ancestor cs x y))
    (λ closed x y inside other. absurd (none_element y other))
    (λ cs c before closed x y inside other.
    let old = each_before IsNext cs c closed in
    elim (Contains-push_cases cs c x inside) [
      | inr newest ↦ inr (λ a. newest_top cs c y closed (subst (λ z. Ancestor (cs ++ c ∷ []) z y) (sym newest) a))
      | inl among ↦
          elim (Contains-push_cases cs c y other) [
            | inl older ↦ elim (before old x y among older) [ inl holds ↦ inl (kept cs (c ∷ []) x y holds) | inr fails ↦ inr (λ a. fails (was cs (c ∷ []) closed x y older a)) ]
            | inr same ↦
                subst (λ z. Known (Ancestor (cs ++ c ∷ []) x z)) same
                (elim (known_some (LinksTo cs x) (parents_of c) (λ id link. known_link cs x id old among (λ z there. before old x z among there) ((each_last IsNext cs c closed).held id link))) [
                  | inl reaches ↦ inl (reaches_is_ancestor cs x c reaches)
                  | inr none ↦ inr (λ a. none (ancestor_reaches cs x c closed c refl a))
                ])
          ]
    ])
