-- Lists that begin others, filters, and the union of two lists of commands.
use Rattle.std.proofs.Common.{◌≡◌, ℕ, ◌<◌, ◌≤◌, ◌⊎◌, inl, inr, Bool, true, false, not, List, [], ◌∷◌, ◌++◌, filter, length, refl, sym, ap, subst, ◌∙◌, arith, append_assoc, append-nil, length-append}
use Rattle.std.specs.List.{Contains}
use Rattle.std.proofs.lemmas.List.Elements.{Contains-append_cases, Contains-append_left, Contains-append_right, filter-append}
use Rattle.braid_run.specs.Places.{AgreeOnIds}
use Rattle.command.specs.Closed.{IsClosed, IsHeld, IsNext, has_id}
use Rattle.command.specs.Wire.{command_id}
use Rattle.command.specs.declared.command.Command.{Command}
use Rattle.command.proofs.ClosedFacts.{held_by, held_command}
use Rattle.command.proofs.ListFacts.{at_head, behind_head, each_left, head_cases, in_middle, split_at}
use Rattle.replica.specs.Sessions.{union}
use Rattle.sync_peer.specs.Sessions.{Begins}

-- ---- lists that begin others

abbrev pub Leads : {X : Type 0} → List X → List X → Type 0
Leads {X} xs ys = (more : List X) × (ys ≡ xs ++ more)

pub leads_itself : {X : Type 0} (xs : List X) → Leads xs xs
leads_itself xs = ([], sym (append-nil xs))

pub leads_on : {X : Type 0} (xs ys zs : List X) → Leads xs ys → Leads ys zs → Leads xs zs
leads_on xs ys zs one other = (one.0 ++ other.0, other.1 ∙ ap (λ l. l ++ other.0) one.1 ∙ append_assoc xs one.0 other.0)

pub leads_behind : {X : Type 0} (front xs ys : List X) → Leads xs ys → Leads (front ++ xs) (front ++ ys)
leads_behind front xs ys one = (one.0, ap (λ l. front ++ l) one.1 ∙ sym (append_assoc front xs one.0))

pub leads_has : {X : Type 0} (xs ys : List X) → Leads xs ys → (x : X) → Contains xs x → Contains ys x
leads_has xs ys one x inside = subst (λ l. Contains l x) (sym one.1) (Contains-append_left xs one.0 x inside)

pub leads_closed : (cs ds : List Command) → Begins cs ds → IsClosed ds → IsClosed cs
leads_closed cs ds one closed = each_left IsNext [] cs one.0 (subst IsClosed one.1 closed)

pub leads_held : (cs ds : List Command) → Begins cs ds → (id : List ℕ) → IsHeld cs id → IsHeld ds id
leads_held cs ds one id held = let found = held_command cs id held in subst (λ i. IsHeld ds i) found.2 (held_by ds found.0 (leads_has cs ds one found.0 found.1))

pub leads_length : {X : Type 0} (xs ys : List X) → Leads xs ys → length xs ≤ length ys
leads_length xs ys one = omega (arith, ap length one.1, length-append xs one.0)

-- ---- filters

pub in_filter : {X : Type 0} (p : X → Bool) (xs : List X) (x : X) → Contains xs x → p x ≡ true → Contains (filter p xs) x
in_filter p xs x inside passes =
    let cut = split_at xs x inside in
    let kept : filter p (x ∷ cut.1) ≡ x ∷ filter p cut.1 = rw passes refl in
    let whole : filter p xs ≡ filter p cut.0 ++ x ∷ filter p cut.1 = ap (filter p) cut.2 ∙ filter-append p cut.0 (x ∷ cut.1) ∙ ap (λ l. filter p cut.0 ++ l) kept in
    subst (λ l. Contains l x) (sym whole) (in_middle (filter p cut.0) x (filter p cut.1))

pub of_filter : {X : Type 0} (p : X → Bool) (xs : List X) (x : X) → Contains (filter p xs) x → Contains xs x
of_filter p [] x inside = inside
of_filter p (y ∷ xs) x inside = by (of_filter p xs x) (p y) refl
  where
    by : (Contains (filter p xs) x → Contains xs x) → (b : Bool) → p y ≡ b → Contains (y ∷ xs) x
    by rest true is =
        let kept : filter p (y ∷ xs) ≡ y ∷ filter p xs = rw is refl in
        elim (head_cases y (filter p xs) x (subst (λ l. Contains l x) kept inside)) [ inl same ↦ subst (λ z. Contains (y ∷ xs) z) same (at_head y xs) | inr later ↦ behind_head y xs x (rest later) ]
    by rest false is = let left : filter p (y ∷ xs) ≡ filter p xs = rw is refl in behind_head y xs x (rest (subst (λ l. Contains l x) left inside))

-- ---- the union

-- the commands that the one list lacks
abbrev pub beyond : List Command → List Command → List Command
beyond one other = filter (λ c. not (has_id one (command_id c))) other

pub union_cases : (one other : List Command) (x : Command) → Contains (union one other) x → Contains one x ⊎ Contains other x
union_cases one other x inside =
    elim (Contains-append_cases one (beyond one other) x inside) [ inl here ↦ inl here | inr there ↦ inr (of_filter (λ c. not (has_id one (command_id c))) other x there) ]

-- what has its id there is there, and what hasn't is beyond
pub there_or_beyond : (one other : List Command) → AgreeOnIds one other → (x : Command) → Contains other x → Contains one x ⊎ Contains (beyond one other) x
there_or_beyond one other agree x inside = by (has_id one (command_id x)) refl
  where
    by : (b : Bool) → has_id one (command_id x) ≡ b → Contains one x ⊎ Contains (beyond one other) x
    by true held = let found = held_command one (command_id x) held in inl (subst (λ z. Contains one z) (agree found.0 x found.1 inside found.2) found.1)
    by false none = inr (in_filter (λ c. not (has_id one (command_id c))) other x inside (ap not none))

pub union_has : (one other : List Command) → AgreeOnIds one other → (x : Command) → Contains other x → Contains (union one other) x
union_has one other agree x inside =
    elim (there_or_beyond one other agree x inside) [ inl here ↦ Contains-append_left one (beyond one other) x here | inr there ↦ Contains-append_right one (beyond one other) x there ]

some_inside : {X : Type 0} (xs : List X) (x : X) → Contains xs x → 0 < length xs
some_inside xs x inside = omega (arith, inside.1)

-- a command of the other list that isn't held at the front of the one: the union is longer than that front
pub union_longer : (one other held : List Command) → AgreeOnIds one other → Begins held one → (c : Command) → Contains other c → (IsHeld held (command_id c) → ⊥) → length held < length (union one other)
union_longer one other held agree begins c inside fresh =
    elim (there_or_beyond one other agree c inside) [
      | inl here ↦
          elim (Contains-append_cases held begins.0 c (subst (λ l. Contains l c) begins.1 here)) [
            | inl old ↦ absurd (fresh (held_by held c old))
            | inr newer ↦ omega (arith, some_inside begins.0 c newer, ap length begins.1, length-append held begins.0, length-append one (beyond one other))
          ]
      | inr there ↦ omega (arith, some_inside (beyond one other) c there, ap length begins.1, length-append held begins.0, length-append one (beyond one other))
    ]
