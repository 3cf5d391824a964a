-- What a reader keeps of its lessons, and what a read that it allows sees.
use Rattle.std.proofs.Common.{ℕ, ◌≤◌, All, List, [], ◌∷◌, ◌++◌, length, sym, le_trans}
use Rattle.std.proofs.lemmas.List.Elements.{All-nil, All-cons, All-head, All-tail, All-push}
use mathlib.Core.List.{IsPrefix}
use Rattle.fact_readers.specs.declared.change.RowChange.{RowChange}
use Rattle.fact_readers.specs.Readers.{Heeds, Lesson, Sees}
use Rattle.fact_readers.specs.working.Duties.{IsDuty, IsWithin}
use Rattle.fact_readers.proofs.Fronts.{prefix_self, prefix_trans, prefix_whole}

abbrev Commits : Type 0
Commits = List (List RowChange)

pub all_to : {A : Type 0} {P Q : A → Type 0} (to : (x : A) → P x → Q x) (xs : List A) → All P xs → All Q xs
all_to {A} {P} {Q} to [] each = All-nil Q
all_to {A} {P} {Q} to (x ∷ xs) each = All-cons Q x xs (to x (All-head P x xs each)) (all_to to xs (All-tail P x xs each))

heeds : (longest commits : Commits) (most fewest : ℕ) → IsPrefix longest commits → most ≤ length commits → length commits ≤ fewest
    → (lesson : Lesson) → IsWithin longest most fewest lesson → Heeds commits lesson
heeds longest commits most fewest begins few many lesson within = (
  prefix_trans lesson.0 longest commits within.0 begins,
  (λ last. let bounds = within.1 last in
      sym (prefix_whole lesson.0 commits (prefix_trans lesson.0 longest commits within.0 begins) (le_trans many bounds.0))),
)

pub sees : (longest commits seen : Commits) (learnt : List Lesson) (most fewest : ℕ) → IsDuty longest most fewest seen learnt → IsPrefix longest commits
    → most ≤ length commits → length commits ≤ fewest → Sees (record { seen = seen; learnt = learnt }) commits
sees longest commits seen learnt most fewest duty begins few many = record {
  later = prefix_trans seen longest commits duty.seen_begins begins;
  heeds = all_to (heeds longest commits most fewest begins few many) learnt duty.within;
}

-- nothing is learnt yet
pub no_duty : (seen : Commits) (most fewest : ℕ) → IsDuty seen most fewest seen []
no_duty seen most fewest = record { seen_begins = prefix_self seen; within = All-nil (IsWithin seen most fewest) }

widens : (longest longer : Commits) (most fewest more fewer : ℕ) → IsPrefix longest longer → most ≤ more → fewer ≤ fewest
    → (lesson : Lesson) → IsWithin longest most fewest lesson → IsWithin longer more fewer lesson
widens longest longer most fewest more fewer begins up down lesson within =
    (prefix_trans lesson.0 longest longer within.0 begins, (λ last. (le_trans down (within.1 last).0, le_trans (within.1 last).1 up)))

-- one lesson more, within wider bounds
pub learns : (longest longer seen : Commits) (learnt : List Lesson) (lesson : Lesson) (most fewest more fewer : ℕ) → IsDuty longest most fewest seen learnt
    → IsPrefix longest longer → most ≤ more → fewer ≤ fewest → IsWithin longer more fewer lesson → IsDuty longer more fewer seen (learnt ++ lesson ∷ [])
learns longest longer seen learnt lesson most fewest more fewer duty begins up down own = record {
  seen_begins = prefix_trans seen longest longer duty.seen_begins begins;
  within = All-push (IsWithin longer more fewer) learnt lesson (all_to (widens longest longer most fewest more fewer begins up down) learnt duty.within) own;
}
