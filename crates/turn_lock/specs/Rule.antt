-- What holds of the table between any two steps.
-- Word 0 counts the tickets, word 1 the turns, word 2 the callers' numbers that are drawn. The slot has the value, or it is out with the seat that is in its turn.
use Rattle.std.specs.Prelude.{◌≡◌, ℕ, ◌+◌, ◌^◌, ◌<◌, ◌≤◌, Bool, true, false, List, [], ◌∷◌, length, Option, Some}
use mathlib.Core.Option.{some, none}
use lib.ListN.{get_elem?}
use Rattle.atomic_table.specs.Table.{State}
use Rattle.turn_lock.specs.declared.view.View.{View}
use Rattle.turn_lock.specs.Turns.{IsIn, turns_by, count_of, Continues}

-- what a type of kept values tells of a value and of its turns
pub record Told (T X O : Type 0) : Type 0 where
  pub turns : T → List X
  pub idle : T → ℕ
  pub opening : T → O
  pub caller : X → ℕ
  pub before : X → ℕ

abbrev pub told : {T X O : Type 0} → (T → List X) → (T → ℕ) → (T → O) → (X → ℕ) → (X → ℕ) → Told T X O
told turns idle opening caller before = record { turns = turns; idle = idle; opening = opening; caller = caller; before = before }

-- the seat `by` has this ticket
abbrev pub Holds : {X O : Type 0} → List (View X O) → ℕ → ℕ → Type 0
Holds {X} {O} views by t = (v : View X O) × (get_elem? views by ≡ some v) × (v.ticket ≡ Some t)

module _ {T X O : Type 0} (k : Told T X O) where
  -- The view of the seat `by`, where `history` are all turns, `idle` counts the idle ones behind them, `owner` tells whose a drawn number is, and `holder` whose a ticket is.
  -- `mine` and `other` are what it saw, under its numbers and those of a seat that was joined into it: the history goes on from there without them.
  -- Its numbers are drawn and its own (`drawn`, `drawn_other`), as is its ticket (`ticketed`), which only a seat with a number has (`numbered`); `known` are drawn too.
  -- In its turn it has the ticket that is the number of turns, and has seen all (`inside`), and no other seat has it (`entered`). The opening that it holds is the value's (`opened`).
  pub record Fits (origin : O) (history : List X) (idle tickets turns callers : ℕ) (out : Bool) (owner holder : ℕ → ℕ) (by : ℕ) (v : View X O) : Type 0 where
    pub mine : Continues k.caller v.mine.numbers v.mine.seen history
    pub other : Continues k.caller v.other.numbers v.other.seen history
    pub drawn : (n : ℕ) → IsIn n v.mine.numbers → (n < callers) × (owner n ≡ by)
    pub drawn_other : (n : ℕ) → IsIn n v.other.numbers → (n < callers) × (owner n ≡ by)
    pub known : (n : ℕ) → IsIn n v.known → n < callers
    pub ticketed : (t : ℕ) → v.ticket ≡ Some t → (turns ≤ t) × (t < tickets) × (holder t ≡ by)
    pub numbered : (t : ℕ) → v.ticket ≡ Some t → (n : ℕ) × IsIn n v.mine.numbers
    pub inside : v.inside ≡ true → (out ≡ true) × (v.ticket ≡ Some turns) × (v.mine.seen ≡ history) × (v.idle ≡ idle)
    pub entered : out ≡ true → holder turns ≡ by → v.inside ≡ true
    pub opened : (o : O) → v.opening ≡ o ∷ [] → o ≡ origin

  -- the value has these turns, so many idle turns behind them, and this opening
  pub record IsKept (origin : O) (history : List X) (idle : ℕ) (y : T) : Type 0 where
    pub turns : k.turns y ≡ history
    pub idles : k.idle y ≡ idle
    pub origin_is : k.opening y ≡ origin

  -- There is one history, which every seat has seen a beginning of.
  -- The word of turns counts it with its idle turns (`count`), no word wraps (`reached`), and a number that isn't drawn has no turn (`fresh`).
  -- The value is at home with the history, or out with the seat whose ticket is the word of turns. Each ticket from there on is held (`served`).
  pub record Turning (origin : O) (s : State (Option T) (View X O)) : Type 0 where
    pub history : List X
    pub idle : ℕ
    pub tickets : ℕ
    pub turns : ℕ
    pub callers : ℕ
    pub out : Bool
    pub owner : ℕ → ℕ
    pub holder : ℕ → ℕ
    pub words : s.words ≡ tickets ∷ turns ∷ callers ∷ []
    pub count : count_of k.before history + idle ≡ turns
    pub reached : (turns ≤ tickets) × (tickets < 2 ^ 64) × (callers < 2 ^ 32)
    pub fresh : (n : ℕ) → callers ≤ n → turns_by k.caller n history ≡ []
    pub home : out ≡ false → (y : T) × (s.homes ≡ some (Some y) ∷ []) × IsKept origin history idle y
    pub away : out ≡ true → (s.homes ≡ none ∷ []) × (turns < tickets) × (holder turns < length s.views)
    pub served : (t : ℕ) → turns ≤ t → t < tickets → Holds s.views (holder t) t
    pub seats : (by : ℕ) (v : View X O) → get_elem? s.views by ≡ some v → Fits origin history idle tickets turns callers out owner holder by v
