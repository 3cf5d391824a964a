-- Taking the lowest command off the rest, and putting it in front of those that are placed.
use Rattle.std.proofs.Common.{◌≡◌, ℕ, ◌⊎◌, ◌↔◌, inl, inr, Bool, true, false, if◌then◌else◌, List, [], ◌∷◌, ◌++◌, refl, sym, ap, subst, ◌∙◌}
use Rattle.std.specs.List.{Contains}
use Rattle.std.specs.Str.{bytes_eq}
use Rattle.std.proofs.lemmas.List.Elements.{Contains-append_left, Contains-append_right, Contains-push, Contains-push_cases}
use Rattle.command.specs.declared.command.Command.{Command}
use Rattle.command.specs.Closed.{IsClosed}
use Rattle.command.specs.Each.{EachAfter}
use Rattle.command.specs.Wire.{command_id}
use Rattle.command.proofs.ClosedFacts.{bytes_of_same, same_by_id, same_bytes}
use Rattle.command.proofs.KnownAncestors.{known_id}
use Rattle.command.proofs.ListFacts.{at_head, behind_head, each_fronts, head_cases, none_element}
use Rattle.braid.specs.Braids.{IsPlaced, IsTop}
use Rattle.braid.specs.Lower.{IsLower}

-- lists with the same elements
abbrev pub Same : List Command → List Command → Type 0
Same f g = (z : Command) → Contains f z ↔ Contains g z

pub same_more : (f g : List Command) (x : Command) → Same f g → Same (f ++ x ∷ []) (g ++ x ∷ [])
same_more f g x same z = (over f g (λ z. (same z).0), over g f (λ z. (same z).1))
  where
    over : (f g : List Command) → ((z : Command) → Contains f z → Contains g z) → Contains (f ++ x ∷ []) z → Contains (g ++ x ∷ []) z
    over f g into h = elim (Contains-push_cases f x z h) [ inl inside ↦ Contains-append_left g (x ∷ []) z (into z inside) | inr last ↦ subst (λ w. Contains (g ++ x ∷ []) w) last (Contains-push g x) ]

-- a place asks for nothing but the elements that stand before it
pub placed_same : (cs f g : List Command) (x : Command) → Same f g → IsPlaced cs f x → IsPlaced cs g x
placed_same cs f g x same p =
    let whole = same_more f g x same in
    record {
      once = λ h. p.once ((same x).1 h);
      above = λ z h. p.above z ((whole z).1 h);
      lowest = λ y h top. p.lowest y ((same y).1 h) (λ z inside. top z ((whole z).0 inside));
    }

pub each_same : (cs f g xs : List Command) → Same f g → EachAfter (IsPlaced cs) f xs → EachAfter (IsPlaced cs) g xs
each_same cs f g xs same h = each_fronts (IsPlaced cs) (IsPlaced cs) Same same_more (placed_same cs) f g xs same h

-- the commands without those of an id
unfoldable pub without : List ℕ → List Command → List Command
without id [] = []
without id (c ∷ cs) = (if bytes_eq id (command_id c) then [] else c ∷ []) ++ without id cs

pub kept_cases : (b : Bool) (c z : Command) (more : List Command) → Contains ((if b then [] else c ∷ []) ++ more) z → ((b ≡ false) × (c ≡ z)) ⊎ Contains more z
kept_cases true c z more h = inr h
kept_cases false c z more h = elim (head_cases c more z h) [ inl same ↦ inl (refl, same) | inr later ↦ inr later ]

pub kept_later : (b : Bool) (c z : Command) (more : List Command) → Contains more z → Contains ((if b then [] else c ∷ []) ++ more) z
kept_later b c z more h = Contains-append_right (if b then [] else c ∷ []) more z h

pub kept_here : (b : Bool) (c : Command) (more : List Command) → b ≡ false → Contains ((if b then [] else c ∷ []) ++ more) c
kept_here true c more is = absurd cc
kept_here false c more is = at_head c more

is_not : (b : Bool) → (b ≡ true → ⊥) → b ≡ false
is_not true h = absurd (h refl)
is_not false h = refl

module _ (id : List ℕ) where
  pub without_was : (cs : List Command) (z : Command) → Contains (without id cs) z → Contains cs z
  unfolding without
  without_was [] z h = h
  without_was (c ∷ cs) z h =
      elim (kept_cases (bytes_eq id (command_id c)) c z (without id cs) h) [
        | inl here ↦ subst (λ w. Contains (c ∷ cs) w) here.1 (at_head c cs)
        | inr later ↦ behind_head c cs z (without_was cs z later)
      ]

  pub without_differs : (cs : List Command) (z : Command) → Contains (without id cs) z → id ≡ command_id z → ⊥
  unfolding without
  without_differs [] z h is = none_element z h
  without_differs (c ∷ cs) z h is =
      elim (kept_cases (bytes_eq id (command_id c)) c z (without id cs) h) [
        | inl here ↦ let holds = bytes_of_same id (command_id c) (is ∙ sym (ap command_id here.1)) in let fails = here.0 in absurd cc
        | inr later ↦ without_differs cs z later is
      ]

  pub without_has : (cs : List Command) (z : Command) → Contains cs z → (id ≡ command_id z → ⊥) → Contains (without id cs) z
  unfolding without
  without_has [] z h differs = h
  without_has (c ∷ cs) z h differs =
      elim (head_cases c cs z h) [
        | inl same ↦
            subst (λ w. Contains (without id (c ∷ cs)) w) same
            (kept_here (bytes_eq id (command_id c)) c (without id cs) (is_not (bytes_eq id (command_id c)) (λ holds. differs (same_bytes id (command_id c) holds ∙ ap command_id same))))
        | inr later ↦ kept_later (bytes_eq id (command_id c)) c z (without id cs) (without_has cs z later differs)
      ]

-- taking the lowest top off the rest
module _ (cs : List Command) (closed : IsClosed cs) (rest : List Command) (inside : (z : Command) → Contains rest z → Contains cs z) (y : Command) (here : Contains rest y) where
  pub taken_same : Same rest (without (command_id y) rest ++ y ∷ [])
  taken_same z = (to, fro)
    where
      to : Contains rest z → Contains (without (command_id y) rest ++ y ∷ []) z
      to h = elim (known_id (command_id y) (command_id z)) [
        | inl same ↦ subst (λ w. Contains (without (command_id y) rest ++ y ∷ []) w) (same_by_id cs closed y z (inside y here) (inside z h) same) (Contains-push (without (command_id y) rest) y)
        | inr differs ↦ Contains-append_left (without (command_id y) rest) (y ∷ []) z (without_has (command_id y) rest z h differs)
      ]

      fro : Contains (without (command_id y) rest ++ y ∷ []) z → Contains rest z
      fro h = elim (Contains-push_cases (without (command_id y) rest) y z h) [
        | inl older ↦ without_was (command_id y) rest z older
        | inr last ↦ subst (λ w. Contains rest w) last here
      ]

  pub taking : (placed : List Command) → EachAfter (IsPlaced cs) rest placed → IsTop cs rest y → ((z : Command) → Contains rest z → IsTop cs rest z → IsLower z y → ⊥) → EachAfter (IsPlaced cs) (without (command_id y) rest) (y ∷ placed)
  taking placed order top lowest = (
    record {
      once = λ h. without_differs (command_id y) rest y h refl;
      above = λ z h. top z ((taken_same z).1 h);
      lowest = λ z h above. lowest z (without_was (command_id y) rest z h) (λ w among. above w ((taken_same w).0 among));
    },
    each_same cs rest (without (command_id y) rest ++ y ∷ []) placed taken_same order,
  )
