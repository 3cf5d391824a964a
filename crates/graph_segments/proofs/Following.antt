-- Which commands go on in their parent's segment.
use Rattle.std.proofs.Common.{◌≡◌, ℕ, ◌⊎◌, inl, inr, Bool, true, false, ◌||◌, IsTrue, cond, List, [], ◌∷◌, ◌++◌, Option, Some, None, refl, sym, ap, subst, ◌∙◌, true≢false}
use Rattle.std.specs.List.{Contains, list_any}
use Rattle.std.specs.Str.{bytes_eq}
use Rattle.std.proofs.lemmas.List.Folds.{list_any-append}
use Rattle.command.specs.declared.command.Command.{Command}
use Rattle.command.specs.Ancestors.{IsParent}
use Rattle.command.specs.Ancestors.Ancestor.{Parent}
use Rattle.command.specs.Closed.{IsClosed, IsHeld, IsNext, place_of}
use Rattle.command.specs.Kinds.{parents_of}
use Rattle.command.specs.Wire.{command_id}
use Rattle.command.proofs.AncestorFacts.{newest_top}
use Rattle.command.proofs.ClosedFacts.{bytes_of_same, same_bytes}
use Rattle.command.proofs.ListFacts.{at_head, each_more}
use Rattle.command.proofs.PlaceFacts.{held_place}
use Rattle.command.proofs.ReachFacts.{any_found}
use Rattle.std.proofs.lemmas.List.Elements.{Contains-push}
use Rattle.graph_segments.specs.Segments.{follows, goes_on, is_only}

or_false : (b : Bool) → (b || false) ≡ b
or_false true = refl
or_false false = refl

is_false : (b : Bool) → (b ≡ true → ⊥) → b ≡ false
is_false true h = absurd (h refl)
is_false false h = refl

pub goes_on_more : (cs : List Command) (c : Command) (id : List ℕ) → goes_on (cs ++ c ∷ []) id ≡ (goes_on cs id || is_only id (parents_of c))
goes_on_more cs c id =
    list_any-append (λ y. is_only id (parents_of y)) cs (c ∷ []) ∙ ap (λ b. goes_on cs id || b) (or_false (is_only id (parents_of c)))

pub only_one : (id : List ℕ) (parents : List (List ℕ)) → is_only id parents ≡ true → parents ≡ id ∷ []
only_one id [] is = absurd cc
only_one id (one ∷ []) is = ap (λ i. i ∷ []) (sym (same_bytes id one is))
only_one id (left ∷ right ∷ more) is = absurd cc

-- the newest command has no child
pub newest_ends : (cs : List Command) (c : Command) → IsClosed cs → IsNext cs c → goes_on (cs ++ c ∷ []) (command_id c) ≡ false
newest_ends cs c closed next = is_false (goes_on (cs ++ c ∷ []) (command_id c)) no
  where
    no : goes_on (cs ++ c ∷ []) (command_id c) ≡ true → ⊥
    no is =
        let found = any_found (λ y. is_only (command_id c) (parents_of y)) (cs ++ c ∷ []) is in
        let one = only_one (command_id c) (parents_of found.0) found.2 in
        let e : IsParent (cs ++ c ∷ []) c found.0 = record { older = Contains-push cs c; newer = found.1; link = subst (λ l. Contains l (command_id c)) (sym one) (at_head (command_id c) []) } in
        newest_top cs c found.0 (each_more IsNext cs c closed next) (Parent e)

-- a command that begins a segment is no parent's first
pub none_follows : (cs : List Command) (parents : List (List ℕ)) (id : List ℕ) → follows cs parents ≡ None → is_only id parents ≡ true → IsHeld cs id → goes_on cs id ≡ true
none_follows cs [] id is only held = absurd cc
none_follows cs (left ∷ right ∷ more) id is only held = absurd cc
none_follows cs (one ∷ []) id is only held = by (goes_on cs id) refl (place_of cs id) refl
  where
    same : id ≡ one
    same = same_bytes id one only

    there : cond (goes_on cs id) None (place_of cs id) ≡ None
    there = ap (λ i. cond (goes_on cs i) None (place_of cs i)) same ∙ is

    by : (b : Bool) → goes_on cs id ≡ b → (o : Option ℕ) → place_of cs id ≡ o → goes_on cs id ≡ true
    by true on o at = on
    by false on None at = let p = held_place cs id held in let both : Some p.0 ≡ None = sym p.1 ∙ at in absurd cc
    by false on (Some p) at =
        let both : Some p ≡ None = sym at ∙ ap (λ b. cond b None (place_of cs id)) (sym on) ∙ there in absurd cc

-- and one that doesn't stands behind the last of a segment
pub record IsBehind (cs : List Command) (parents : List (List ℕ)) (place : ℕ) : Type 0 where
  pub id : List ℕ
  pub one : parents ≡ id ∷ []
  pub first : goes_on cs id ≡ false
  pub there : place_of cs id ≡ Some place

pub some_follows : (cs : List Command) (parents : List (List ℕ)) (place : ℕ) → follows cs parents ≡ Some place → IsBehind cs parents place
some_follows cs [] place is = absurd cc
some_follows cs (left ∷ right ∷ more) place is = absurd cc
some_follows cs (id ∷ []) place is = by (goes_on cs id) refl
  where
    by : (b : Bool) → goes_on cs id ≡ b → IsBehind cs (id ∷ []) place
    by true on = let both : None ≡ Some place = ap (λ b. cond b None (place_of cs id)) (sym on) ∙ is in absurd cc
    by false on = record { id = id; one = refl; first = on; there = ap (λ b. cond b None (place_of cs id)) (sym on) ∙ is }
