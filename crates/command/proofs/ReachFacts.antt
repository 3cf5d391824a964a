-- Which commands of the front of a list a command is an ancestor of, by the ids of these.
use Rattle.std.proofs.Common.{◌≡◌, ℕ, ◌⊎◌, inl, inr, Bool, true, false, ◌||◌, IsTrue, List, [], ◌∷◌, ◌++◌, refl, sym, ap, subst, ◌∙◌}
use Rattle.std.specs.List.{Contains, list_any}
use Rattle.std.specs.Str.{bytes_eq}
use Rattle.std.proofs.lemmas.List.Elements.{Contains-append_left, Contains-push_cases}
use Rattle.command.specs.declared.command.Command.{Command}
use Rattle.command.specs.Ancestors.{Ancestor, IsParent}
use Rattle.command.specs.Ancestors.Ancestor.{Parent, Further}
use Rattle.command.specs.Closed.{IsClosed, IsNext}
use Rattle.command.specs.Kinds.{parents_of}
use Rattle.command.specs.Wire.{command_id}
use Rattle.command.proofs.ClosedFacts.{bytes_of_same, either, by_left, by_right, held_command, same_by_id, same_bytes}
use Rattle.command.proofs.AncestorFacts.{kept}
use Rattle.command.proofs.ListFacts.{at_head, behind_head, each_cut, head_cases, in_middle, none_element}

-- a test of a list passes where it passes of one of its elements
pub any_found : {X : Type 0} (test : X → Bool) (xs : List X) → IsTrue (list_any test xs) → (x : X) × Contains xs x × IsTrue (test x)
any_found test [] h = absurd cc
any_found test (x ∷ xs) h =
    elim (either (test x) (list_any test xs) h) [
      | inl here ↦ (x, at_head x xs, here)
      | inr later ↦ let r = any_found test xs later in (r.0, behind_head x xs r.0 r.1, r.2)
    ]

pub any_of : {X : Type 0} (test : X → Bool) (xs : List X) (x : X) → Contains xs x → IsTrue (test x) → IsTrue (list_any test xs)
any_of test [] x h passes = absurd (none_element x h)
any_of test (y ∷ xs) x h passes =
    elim (head_cases y xs x h) [
      | inl same ↦ by_left (test y) (list_any test xs) (subst (λ z. IsTrue (test z)) (sym same) passes)
      | inr later ↦ by_right (test y) (list_any test xs) (any_of test xs x later passes)
    ]

-- the ids are those of x and of the commands of the front that it is an ancestor of
pub record AreReached (cs : List Command) (x : Command) (front : List Command) (ids : List (List ℕ)) : Type 0 where
  pub own : IsTrue (list_any (bytes_eq (command_id x)) ids)
  pub further : (m : Command) → Contains front m → Ancestor cs x m → IsTrue (list_any (bytes_eq (command_id m)) ids)
  pub only : (m : Command) → Contains cs m → IsTrue (list_any (bytes_eq (command_id m)) ids) → (x ≡ m) ⊎ Ancestor cs x m

-- whether a parent of the next command is among the ids
abbrev pub reaches : List (List ℕ) → Command → Bool
reaches ids c = list_any (λ parent. list_any (bytes_eq parent) ids) (parents_of c)

module _ (cs : List Command) (closed : IsClosed cs) (x : Command) (inside : Contains cs x) (front behind : List Command) (c : Command) (cut : cs ≡ front ++ c ∷ behind) (ids : List (List ℕ)) (reached : AreReached cs x front ids) where
  -- the parents of the next command stand in front of it
  parent_before : (m : Command) → IsParent cs m c → Contains front m
  parent_before m e =
      let whole : IsClosed (front ++ c ∷ behind) = subst IsClosed cut closed in
      let next = (each_cut IsNext front c behind whole) in
      let found = held_command front (command_id m) (next.held (command_id m) e.link) in
      let same = same_by_id cs closed found.0 m (subst (λ l. Contains l found.0) (sym cut) (Contains-append_left front (c ∷ behind) found.0 found.1)) e.older found.2 in
      subst (λ z. Contains front z) same found.1

  here : Contains cs c
  here = subst (λ l. Contains l c) (sym cut) (in_middle front c behind)

  pub reached_is_ancestor : IsTrue (reaches ids c) → Ancestor cs x c
  reached_is_ancestor h =
      let found = any_found (λ parent. list_any (bytes_eq parent) ids) (parents_of c) h in
      let held = (each_cut IsNext front c behind (subst IsClosed cut closed)).held found.0 found.1 in
      let m = held_command front found.0 held in
      let older : Contains cs m.0 = subst (λ l. Contains l m.0) (sym cut) (Contains-append_left front (c ∷ behind) m.0 m.1) in
      let e : IsParent cs m.0 c = record { older = older; newer = here; link = subst (λ i. Contains (parents_of c) i) (sym m.2) found.1 } in
      elim (reached.only m.0 older (subst (λ i. IsTrue (list_any (bytes_eq i) ids)) (sym m.2) found.2)) [
        | inl same ↦ Parent (subst (λ z. IsParent cs z c) (sym same) e)
        | inr above ↦ Further above e
      ]

  pub ancestor_is_reached : (y : Command) → c ≡ y → Ancestor cs x y → IsTrue (reaches ids c)
  ancestor_is_reached y is (Parent e) =
      let link : IsParent cs x c = subst (λ z. IsParent cs x z) (sym is) e in
      any_of (λ parent. list_any (bytes_eq parent) ids) (parents_of c) (command_id x) link.link reached.own
  ancestor_is_reached y is (Further {m = m} a e) =
      let link : IsParent cs m c = subst (λ z. IsParent cs m z) (sym is) e in
      any_of (λ parent. list_any (bytes_eq parent) ids) (parents_of c) (command_id m) link.link (reached.further m (parent_before m link) a)

  -- the front goes on, with the id of the next command where a parent of it is reached
  goes_kept : reaches ids c ≡ false → AreReached cs x (front ++ c ∷ []) ids
  goes_kept none = record {
    own = reached.own;
    further = λ m among a. elim (Contains-push_cases front c m among) [
      | inl older ↦ reached.further m older a
      | inr newest ↦ let found = ancestor_is_reached m newest a in absurd cc
    ];
    only = reached.only;
  }

  goes_more : reaches ids c ≡ true → (next : List (List ℕ)) → ((id : List ℕ) → list_any (bytes_eq id) next ≡ (list_any (bytes_eq id) ids || bytes_eq id (command_id c))) → AreReached cs x (front ++ c ∷ []) next
  goes_more some next also = record {
    own = also (command_id x) ∙ by_left (list_any (bytes_eq (command_id x)) ids) (bytes_eq (command_id x) (command_id c)) reached.own;
    further = λ m among a. elim (Contains-push_cases front c m among) [
      | inl older ↦ also (command_id m) ∙ by_left (list_any (bytes_eq (command_id m)) ids) (bytes_eq (command_id m) (command_id c)) (reached.further m older a)
      | inr newest ↦ also (command_id m) ∙ by_right (list_any (bytes_eq (command_id m)) ids) (bytes_eq (command_id m) (command_id c)) (bytes_of_same (command_id m) (command_id c) (ap command_id (sym newest)))
    ];
    only = λ m among there. elim (either (list_any (bytes_eq (command_id m)) ids) (bytes_eq (command_id m) (command_id c)) (sym (also (command_id m)) ∙ there)) [
      | inl older ↦ reached.only m among older
      | inr newest ↦ inr (subst (λ z. Ancestor cs x z) (same_by_id cs closed c m here among (sym (same_bytes (command_id m) (command_id c) newest))) (reached_is_ancestor some))
    ];
  }

  pub goes_on : (next : List (List ℕ)) → (reaches ids c ≡ false → next ≡ ids) → (reaches ids c ≡ true → (id : List ℕ) → list_any (bytes_eq id) next ≡ (list_any (bytes_eq id) ids || bytes_eq id (command_id c))) →
      AreReached cs x (front ++ c ∷ []) next
  goes_on next kept more = by (reaches ids c) refl
    where
      by : (b : Bool) → reaches ids c ≡ b → AreReached cs x (front ++ c ∷ []) next
      by false none = subst (λ l. AreReached cs x (front ++ c ∷ []) l) (sym (kept none)) (goes_kept none)
      by true some = goes_more some next (more some)

-- before x no command has x as an ancestor, so its own id is all
pub only_own : (cs : List Command) → IsClosed cs → (x : Command) → Contains cs x → (front : List Command) → ((y : Command) → Contains front y → Ancestor cs x y → ⊥) → AreReached cs x front (command_id x ∷ [])
only_own cs closed x inside front none = record {
  own = by_left (bytes_eq (command_id x) (command_id x)) false (bytes_of_same (command_id x) (command_id x) refl);
  further = λ m among a. absurd (none m among a);
  only = λ m among there. elim (either (bytes_eq (command_id m) (command_id x)) false there) [
    | inl same ↦ inl (same_by_id cs closed x m inside among (sym (same_bytes (command_id m) (command_id x) same)))
    | inr never ↦ absurd cc
  ];
}
