-- Ancestors: chains of links, what an append leaves as it was, and inductions from the newest command down.
use Rattle.std.proofs.Common.{ℕ, inl, inr, List, [], ◌∷◌, ◌++◌, sym, subst}
use Rattle.std.specs.List.{Contains}
use Rattle.std.proofs.lemmas.List.Elements.{Contains-append_left, Contains-push, Contains-push_cases}
use Rattle.command.specs.declared.command.Command.{Command}
use Rattle.command.specs.Ancestors.{Ancestor, IsParent, IsUnder}
use Rattle.command.specs.Ancestors.Ancestor.{Parent, Further}
use Rattle.command.specs.Closed.{IsClosed, IsNext}
use Rattle.command.specs.Kinds.{parents_of}
use Rattle.command.specs.Wire.{command_id}
use Rattle.command.proofs.ClosedFacts.{held_command, parents_held, same_by_id}
use Rattle.command.proofs.ListFacts.{each_before, each_last, each_left, from_end, none_element}

pub trans : (cs : List Command) (x y z : Command) → Ancestor cs x y → Ancestor cs y z → Ancestor cs x z
trans cs x y z a (Parent e) = Further a e
trans cs x y z a (Further {m = m} b e) = Further (trans cs x y m a b) e

-- the ends of a chain are of the list
pub older_inside : (cs : List Command) (x y : Command) → Ancestor cs x y → Contains cs x
older_inside cs x y (Parent e) = e.older
older_inside cs x y (Further {m = m} a e) = older_inside cs x m a

pub newer_inside : (cs : List Command) (x y : Command) → Ancestor cs x y → Contains cs y
newer_inside cs x y (Parent e) = e.newer
newer_inside cs x y (Further a e) = e.newer

-- a list that has, with each of its commands, its parents in another list
abbrev pub IsDown : List Command → List Command → Type 0
IsDown part cs = (m y : Command) → IsParent cs m y → Contains part y → Contains part m

pub ancestor_down : (part cs : List Command) → IsDown part cs → (x y : Command) → Ancestor cs x y → Contains part y → Ancestor part x y
ancestor_down part cs down x y (Parent e) inside = Parent (record { older = down x y e inside; newer = inside; link = e.link })
ancestor_down part cs down x y (Further {m = m} a e) inside =
    let below = down m y e inside in
    Further (ancestor_down part cs down x m a below) (record { older = below; newer = inside; link = e.link })

-- the same where the part need not be a list
pub inside_down : (cs : List Command) (P : Command → Type 0) → ((m y : Command) → IsParent cs m y → P y → P m) → (x y : Command) → Ancestor cs x y → P y → P x
inside_down cs P down x y (Parent e) p = down x y e p
inside_down cs P down x y (Further {m = m} a e) p = inside_down cs P down x m a (down m y e p)

-- the first commands of a closed list have their parents among them
pub front_down : (cs more : List Command) → IsClosed (cs ++ more) → IsDown cs (cs ++ more)
front_down cs more closed m y e inside =
    let held = held_command cs (command_id m) (parents_held cs (each_left IsNext [] cs more closed) y (command_id m) inside e.link) in
    subst (λ c. Contains cs c) (same_by_id (cs ++ more) closed held.0 m (Contains-append_left cs more held.0 held.1) e.older held.2) held.1

-- an append leaves the ancestors of the older commands
pub kept : (cs more : List Command) (x y : Command) → Ancestor cs x y → Ancestor (cs ++ more) x y
kept cs more x y (Parent e) = Parent (record { older = Contains-append_left cs more x e.older; newer = Contains-append_left cs more y e.newer; link = e.link })
kept cs more x y (Further {m = m} a e) =
    Further (kept cs more x m a) (record { older = Contains-append_left cs more m e.older; newer = Contains-append_left cs more y e.newer; link = e.link })

pub was : (cs more : List Command) → IsClosed (cs ++ more) → (x y : Command) → Contains cs y → Ancestor (cs ++ more) x y → Ancestor cs x y
was cs more closed x y inside a = ancestor_down cs (cs ++ more) (front_down cs more closed) x y a inside

-- the newest command is nobody's parent
no_child : (cs : List Command) (c y : Command) → IsClosed (cs ++ c ∷ []) → IsParent (cs ++ c ∷ []) c y → ⊥
no_child cs c y closed e =
    let next = each_last IsNext cs c closed in
    elim (Contains-push_cases cs c y e.newer) [
      | inl older ↦ next.fresh (parents_held cs (each_before IsNext cs c closed) y (command_id c) older e.link)
      | inr newest ↦ next.fresh (next.held (command_id c) (subst (λ z. Contains (parents_of z) (command_id c)) (sym newest) e.link))
    ]

pub newest_top : (cs : List Command) (c y : Command) → IsClosed (cs ++ c ∷ []) → Ancestor (cs ++ c ∷ []) c y → ⊥
newest_top cs c y closed (Parent e) = no_child cs c y closed e
newest_top cs c y closed (Further {m = m} a e) = newest_top cs c m closed a

-- from the newest command down: what holds of a command where it holds of all those that it is an ancestor of
module _ (P : Command → Type 0) where
  pub from_newest : (cs : List Command) → IsClosed cs → ((y : Command) → Contains cs y → ((z : Command) → Ancestor cs y z → P z) → P y) → (y : Command) → Contains cs y → P y
  from_newest = from_end (λ cs. IsClosed cs → ((y : Command) → Contains cs y → ((z : Command) → Ancestor cs y z → P z) → P y) → (y : Command) → Contains cs y → P y)
      (λ closed step y inside. absurd (none_element y inside))
      (λ cs c before closed step y inside.
      let newest : P c = step c (Contains-push cs c) (λ z a. absurd (newest_top cs c z closed a)) in
      elim (Contains-push_cases cs c y inside) [
        | inr same ↦ subst P same newest
        | inl older ↦
            before (each_before IsNext cs c closed)
            (λ w among above. step w (Contains-append_left cs (c ∷ []) w among)
            (λ z a. elim (Contains-push_cases cs c z (newer_inside (cs ++ c ∷ []) w z a)) [
              | inl old ↦ above z (was cs (c ∷ []) closed w z old a)
              | inr last ↦ subst P last newest
            ]))
            y older
      ])

pub not_itself : (cs : List Command) → IsClosed cs → (x : Command) → Ancestor cs x x → ⊥
not_itself cs closed x a = from_newest (λ y. Ancestor cs y y → ⊥) cs closed (λ y inside above self. above y self self) x (older_inside cs x x a) a

-- a closure has with each of its commands its ancestors
pub under_down : (cs : List Command) (tips : List ℕ) (x y : Command) → Ancestor cs x y → IsUnder cs tips y → IsUnder cs tips x
under_down cs tips x y a under =
    elim under.2.2 [
      | inl same ↦ (under.0, under.1, (under.2.0, under.2.1, inr (subst (λ z. Ancestor cs x z) same a)))
      | inr above ↦ (under.0, under.1, (under.2.0, under.2.1, inr (trans cs x y under.2.0 a above)))
    ]
