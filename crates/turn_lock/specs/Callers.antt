-- A lock and a pass, as callers see them.
use Rattle.std.specs.Prelude.{◌≡◌, ℕ, List, [], ◌∷◌, ◌++◌, Option, Some, None}
use Rattle.atomic_table.specs.Seated.{TableId}
use Rattle.turn_lock.specs.Turns.{AddsOne}

-- Which lock it is, and the opening of its value
pub record Lock (O : Type 0) : Type 0 where
  pub id : TableId
  pub opening : O

-- A pass: the lock that it is of and the opening there (in a list of one), its caller's number, the numbers that `meet` brought, the turns that it has seen,
-- and, while it is in its turn, the number of idle turns that it found there
pub record Caller (X O : Type 0) : Type 0 where
  pub id : TableId
  pub opening : List O
  pub number : ℕ
  pub others : List ℕ
  pub seen : List X
  pub turn : Option ℕ

module _ {X O : Type 0} where
  -- all numbers of the pass, its caller's first
  abbrev pub numbers : Caller X O → List ℕ
  numbers p = p.number ∷ p.others

  -- the pass is of this lock
  abbrev pub IsOf : Lock O → Caller X O → Type 0
  IsOf lock p = (p.id ≡ lock.id) × (p.opening ≡ lock.opening ∷ [])

  -- it is of this lock, and in no turn
  abbrev pub IsAtRest : Lock O → Caller X O → Type 0
  IsAtRest lock p = IsOf lock p × (p.turn ≡ None)

  -- the pass in its turn, where it found these turns and so many idle turns behind them
  abbrev pub entered : Caller X O → List X → ℕ → Caller X O
  entered p turns idle = record p { seen = turns; turn = Some idle }

  -- the pass after its turn
  abbrev pub left : Caller X O → List X → Caller X O
  left p turns = record p { seen = turns; turn = None }

  -- the pass that is split off from this one, under a number of its own
  abbrev pub split_off : Caller X O → ℕ → Caller X O
  split_off p n = record p { number = n; others = []; turn = None }

  -- the pass that this one is after it met another one
  abbrev pub met : Caller X O → Caller X O → List X → Caller X O
  met p q turns = record p { others = p.others ++ numbers q; seen = turns }

  -- the pass is in its turn, and the value has one turn or one idle turn more than it had
  abbrev pub MayLeave : (X → ℕ) → (X → ℕ) → Caller X O → List X → ℕ → Type 0
  MayLeave caller before p turns idle_now = (idle : ℕ) × (p.turn ≡ Some idle) × AddsOne caller before p.number p.seen idle turns idle_now
