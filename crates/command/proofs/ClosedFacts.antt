-- Closed lists: ids, and the commands that have them.
use Rattle.std.proofs.Common.{◌≡◌, ℕ, ◌⊎◌, inl, inr, Bool, true, false, ◌||◌, IsTrue, List, [], ◌∷◌, ◌++◌, refl, sym, ap, subst, ◌∙◌}
use Rattle.std.specs.List.{Contains}
use Rattle.std.specs.Str.{bytes_eq}
use Rattle.std.proofs.lemmas.Slice.Eq.{bytes_eq-Decides}
use Rattle.std.proofs.lemmas.List.Elements.{Contains-append_left, Contains-push_cases}
use Rattle.command.specs.declared.command.Command.{Command}
use Rattle.command.specs.Closed.{has_id, IsClosed, IsHeld, IsNext}
use Rattle.command.specs.Kinds.{parents_of}
use Rattle.command.specs.Wire.{command_id}
use Rattle.command.proofs.ListFacts.{at_head, behind_head, each_before, each_last, from_end, head_cases, none_element}

-- what an `||` says
pub either : (a b : Bool) → IsTrue (a || b) → IsTrue a ⊎ IsTrue b
either true b h = inl refl
either false b h = inr h

pub by_left : (a b : Bool) → IsTrue a → IsTrue (a || b)
by_left true b h = refl
by_left false b h = absurd cc

pub by_right : (a b : Bool) → IsTrue b → IsTrue (a || b)
by_right true b h = refl
by_right false b h = h

-- where two ids are the same
pub same_bytes : (xs ys : List ℕ) → IsTrue (bytes_eq xs ys) → xs ≡ ys
same_bytes xs ys h = (bytes_eq-Decides xs ys).0 h

pub bytes_of_same : (xs ys : List ℕ) → xs ≡ ys → IsTrue (bytes_eq xs ys)
bytes_of_same xs ys h = (bytes_eq-Decides xs ys).1 h

-- an id that is held is that of a command of the list
pub held_command : (cs : List Command) (id : List ℕ) → IsHeld cs id → (c : Command) × Contains cs c × (command_id c ≡ id)
held_command [] id h = absurd cc
held_command (c ∷ cs) id h =
    elim (either (bytes_eq id (command_id c)) (has_id cs id) h) [
      | inl here ↦ (c, at_head c cs, sym (same_bytes id (command_id c) here))
      | inr later ↦ let r = held_command cs id later in (r.0, behind_head c cs r.0 r.1, r.2)
    ]

pub held_by : (cs : List Command) (c : Command) → Contains cs c → IsHeld cs (command_id c)
held_by [] c h = absurd (none_element c h)
held_by (x ∷ cs) c h =
    elim (head_cases x cs c h) [
      | inl same ↦ by_left (bytes_eq (command_id c) (command_id x)) (has_id cs (command_id c)) (bytes_of_same _ _ (ap command_id (sym same)))
      | inr later ↦ by_right (bytes_eq (command_id c) (command_id x)) (has_id cs (command_id c)) (held_by cs c later)
    ]

-- one more command holds no id less
pub held_more : (cs more : List Command) (id : List ℕ) → IsHeld cs id → IsHeld (cs ++ more) id
held_more cs more id h = let r = held_command cs id h in subst (λ i. IsHeld (cs ++ more) i) r.2 (held_by (cs ++ more) r.0 (Contains-append_left cs more r.0 r.1))

-- two commands of a closed list with one id are the same
pub same_by_id : (cs : List Command) → IsClosed cs → (x y : Command) → Contains cs x → Contains cs y → command_id x ≡ command_id y → x ≡ y
same_by_id = from_end (λ cs. IsClosed cs → (x y : Command) → Contains cs x → Contains cs y → command_id x ≡ command_id y → x ≡ y)
    (λ closed x y inside other is. absurd (none_element x inside))
    (λ cs c before closed x y inside other is.
    let next = each_last IsNext cs c closed in
    elim (Contains-push_cases cs c x inside) [
      | inl older ↦
          elim (Contains-push_cases cs c y other) [
            | inl old ↦ before (each_before IsNext cs c closed) x y older old is
            | inr last ↦ absurd (next.fresh (subst (λ i. IsHeld cs i) (is ∙ sym (ap command_id last)) (held_by cs x older)))
          ]
      | inr newest ↦
          elim (Contains-push_cases cs c y other) [
            | inl old ↦ absurd (next.fresh (subst (λ i. IsHeld cs i) (sym is ∙ sym (ap command_id newest)) (held_by cs y old)))
            | inr last ↦ sym newest ∙ last
          ]
    ])

-- the parents of a command of a closed list are held
pub parents_held : (cs : List Command) → IsClosed cs → (y : Command) (id : List ℕ) → Contains cs y → Contains (parents_of y) id → IsHeld cs id
parents_held = from_end (λ cs. IsClosed cs → (y : Command) (id : List ℕ) → Contains cs y → Contains (parents_of y) id → IsHeld cs id)
    (λ closed y id inside link. absurd (none_element y inside))
    (λ cs c before closed y id inside link.
    elim (Contains-push_cases cs c y inside) [
      | inl older ↦ held_more cs (c ∷ []) id (before (each_before IsNext cs c closed) y id older link)
      | inr newest ↦ held_more cs (c ∷ []) id ((each_last IsNext cs c closed).held id (subst (λ z. Contains (parents_of z) id) (sym newest) link))
    ])
