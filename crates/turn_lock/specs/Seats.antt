-- What a pass is seen as, and what it keeps of its seat between calls.
use Rattle.std.specs.Prelude.{◌≡◌, ℕ, Bool, true, false, List, [], ◌∷◌, Option, Some, None}
use Rattle.atomic_table.specs.Table.{Me}
use Rattle.atomic_table.specs.Seated.{TableId}
use Rattle.turn_lock.specs.declared.view.View.{View}
use Rattle.turn_lock.specs.declared.view.Past.{Past}
use Rattle.turn_lock.specs.Callers.{Caller}

abbrev pub past : {X : Type 0} → List ℕ → List X → Past X
past ns xs = record { numbers = ns; seen = xs }

abbrev pub tail : List ℕ → List ℕ
tail [] = []
tail (n ∷ ns) = ns

abbrev pub turn_of : Bool → ℕ → Option ℕ
turn_of true idle = Some idle
turn_of false idle = None

module _ {X O : Type 0} where
  -- a pass as callers see it, with this number and a seat that knows this
  abbrev pub caller_of : TableId → ℕ → View X O → Caller X O
  caller_of id n v = record { id = id; opening = v.opening; number = n; others = tail v.mine.numbers; seen = v.mine.seen; turn = turn_of v.inside v.idle }

-- what a pass keeps of its seat between calls
pub record IsPass {T X O : Type 0} (number : ℕ) (m : Me (Option T) (View X O)) : Type 0 where
  pub numbers : m.0.mine.numbers ≡ number ∷ tail m.0.mine.numbers
  pub alone : m.0.other ≡ past [] []
  pub resting : m.0.inside ≡ false → (m.0.ticket ≡ None) × (m.1 ≡ [])
  pub turning : m.0.inside ≡ true → m.1 ≡ (0, None) ∷ []
