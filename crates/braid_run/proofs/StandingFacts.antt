-- What stands, and one command more.
use Rattle.std.proofs.Common.{◌≡◌, ℕ, inl, inr, Bool, true, false, List, [], ◌∷◌, ◌++◌, Option, refl, sym, subst, ◌∙◌, arith, length-append}
use Rattle.std.specs.List.{Contains}
use Rattle.std.proofs.lemmas.List.Elements.{All-nil, All-push, Contains-append_left, Contains-push, Contains-push_cases}
use Rattle.braid_run.specs.Places.{IsBehind}
use Rattle.braid_run.specs.States.{HasOneInit, IsStanding, MayFollow}
use Rattle.command.specs.Ancestors.{Ancestor, AreInLine, IsParent}
use Rattle.command.specs.Ancestors.Ancestor.{Parent, Further}
use Rattle.command.specs.Closed.{IsHeld, IsNext}
use Rattle.command.specs.Kinds.{is_finalize, is_init, parents_of}
use Rattle.command.specs.declared.command.Command.{Command}
use Rattle.command.specs.declared.command.Command.TheVariants.{Init, Basic, Finalize, Merge}
use Rattle.command.proofs.AncestorFacts.{kept}
use Rattle.command.proofs.ListFacts.{at_head, each_more}

-- what stands behind a command's place is above it once it is held
pub behind_above : (cs : List Command) (c x : Command) → IsBehind cs c x → Ancestor (cs ++ c ∷ []) x c
behind_above cs c x behind =
    let parent : IsParent (cs ++ c ∷ []) behind.0 c = record { older = Contains-append_left cs (c ∷ []) behind.0 behind.1; newer = Contains-push cs c; link = behind.2 } in
    elim behind.3 [
      | inl same ↦ Parent (subst (λ z. IsParent (cs ++ c ∷ []) z c) (sym same) parent)
      | inr above ↦ Further (kept cs (c ∷ []) x behind.0 above) parent
    ]

-- a command without parents is an init
no_parent : (c : Command) → ((id : List ℕ) → Contains (parents_of c) id → IsHeld [] id) → is_init c ≡ true
no_parent (Init cut digest author name payload tag) held = refl
no_parent (Basic cut priority parent author name payload tag) held = let none = held parent (at_head parent []) in absurd cc
no_parent (Finalize cut parent author name payload tag) held = let none = held parent (at_head parent []) in absurd cc
no_parent (Merge cut left right) held = let none = held left (at_head left (right ∷ [])) in absurd cc

is_not : (b : Bool) → (b ≡ true → ⊥) → b ≡ false
is_not true h = absurd (h refl)
is_not false h = refl

one_init : (graph_id : Option (List ℕ)) (cs : List Command) (c : Command) → HasOneInit graph_id cs → MayFollow graph_id cs c → HasOneInit graph_id (cs ++ c ∷ [])
one_init graph_id [] c has may = let init = no_parent c may.next.held in (init, (may.init init).1, All-nil (λ x. is_init x ≡ false))
one_init graph_id (x ∷ xs) c has may =
    let none : is_init c ≡ false = is_not (is_init c) (λ init. let empty : x ∷ xs ≡ [] = (may.init init).0 in absurd cc) in
    (has.0, has.1, All-push (λ y. is_init y ≡ false) xs c has.2 none)

in_line : (cs : List Command) (c : Command) → AreInLine cs → (is_finalize c ≡ true → (f : Command) → Contains cs f → is_finalize f ≡ true → IsBehind cs c f) → AreInLine (cs ++ c ∷ [])
in_line cs c line behind f g inside other is also =
    elim (Contains-push_cases cs c f inside) [
      | inl f_older ↦
          elim (Contains-push_cases cs c g other) [
            | inl g_older ↦
                elim (line f g f_older g_older is also) [
                  | inl same ↦ inl same
                  | inr either ↦ elim either [ inl above ↦ inr (inl (kept cs (c ∷ []) f g above)) | inr below ↦ inr (inr (kept cs (c ∷ []) g f below)) ]
                ]
            | inr g_last ↦
                inr (inl (subst (λ z. Ancestor (cs ++ c ∷ []) f z) g_last (behind_above cs c f (behind (subst (λ z. is_finalize z ≡ true) (sym g_last) also) f f_older is))))
          ]
      | inr f_last ↦
          elim (Contains-push_cases cs c g other) [
            | inl g_older ↦
                inr (inr (subst (λ z. Ancestor (cs ++ c ∷ []) g z) f_last (behind_above cs c g (behind (subst (λ z. is_finalize z ≡ true) (sym f_last) is) g g_older also))))
            | inr g_last ↦ inl (sym f_last ∙ g_last)
          ]
    ]

pub one_more : (graph_id : Option (List ℕ)) (cs : List Command) (c : Command) → IsStanding graph_id cs → MayFollow graph_id cs c → IsStanding graph_id (cs ++ c ∷ [])
one_more graph_id cs c standing may = record {
  closed = each_more IsNext cs c standing.closed may.next;
  few = omega (arith, length-append cs (c ∷ []), may.few);
  one_init = one_init graph_id cs c standing.one_init may;
  in_line = in_line cs c standing.in_line may.in_line;
}
