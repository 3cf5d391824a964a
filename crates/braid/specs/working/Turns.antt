-- The heap of the commands that may come next, and the children that remain of each command.
use Rattle.std.specs.Prelude.{◌≡◌, ℕ, ◌+◌, ◌==◌, ◌≤◌, if◌then◌else◌, Bool, false, List, [], ◌∷◌, length, map, Some, slice_get, get_or}
use Rattle.std.specs.BinaryHeap.{IsHeap}
use Rattle.std.specs.Cmp.Lexicographic.{slice_cmp}
use Rattle.std.specs.List.{All, Contains}
use Rattle.std.specs.Ordering.{bool_cmp, nat_cmp, ordering_then}
use Rattle.std.specs.declared.cmp.Ordering.{Ordering}
use Rattle.std.specs.declared.cmp.Ordering.TheVariants.{Less}
use Rattle.command.specs.declared.command.Command.{Command}
use Rattle.command.specs.Ancestors.{IsAt}
use Rattle.command.specs.Kinds.{is_finalize, is_merge, priority_of}
use Rattle.command.specs.Wire.{command_id}
use Rattle.braid.specs.declared.turns.Turn.{Turn}
use Rattle.braid.specs.working.Links.{parents_left, sum_of, times}

-- the one is to be taken before the other
abbrev pub IsSooner : Turn → Turn → Type 0
IsSooner x y =
    ordering_then (bool_cmp y.is_merge x.is_merge)
    (ordering_then (bool_cmp x.is_finalize.0 y.is_finalize.0) (ordering_then (nat_cmp x.priority.0 y.priority.0) (slice_cmp nat_cmp y.id x.id)))
    ≡ Less

-- the order of turns, field by field: the greatest is taken first
abbrev pub turn_order : Turn → Turn → Ordering
turn_order x y =
    ordering_then (bool_cmp x.is_merge y.is_merge)
    (ordering_then (bool_cmp y.is_finalize.0 x.is_finalize.0)
    (ordering_then (nat_cmp y.priority.0 x.priority.0)
    (ordering_then (slice_cmp nat_cmp x.id y.id) (ordering_then (nat_cmp x.place y.place) (nat_cmp x.number y.number)))))

abbrev pub AreOrdered : List Turn → Type 0
AreOrdered turns = IsHeap turn_order turns

-- the turn of a command, which stands at its place and has its number
pub record IsTurn (cs : List Command) (places : List ℕ) (turn : Turn) : Type 0 where
  pub number : slice_get places turn.number ≡ Some turn.place
  pub merge : (y : Command) → IsAt cs turn.place y → turn.is_merge ≡ is_merge y
  pub finalize : (y : Command) → IsAt cs turn.place y → turn.is_finalize.0 ≡ is_finalize y
  pub priority : (y : Command) → IsAt cs turn.place y → turn.priority.0 ≡ priority_of y
  pub id : (y : Command) → IsAt cs turn.place y → turn.id ≡ command_id y

-- the places of turns
abbrev pub spots : List Turn → List ℕ
spots turns = map (λ turn. turn.place) turns

-- how many links lead to a place from those places, and from these commands' links that weren't yet taken off
abbrev pub waiting : List Command → (ℕ → Bool) → List ℕ → List ℕ → ℕ → ℕ
waiting cs skip due remaining p = times p due + sum_of (λ q. times p (parents_left cs skip q)) remaining

-- the turn of a command is put to the others where no child of it remains
pub record Offers (cs : List Command) (places : List ℕ) (number children : ℕ) (old new : List Turn) : Type 0 where
  pub turns : All (IsTurn cs places) old → All (IsTurn cs places) new
  pub put : (place : ℕ) → slice_get places number ≡ Some place → (p : ℕ) → times p (spots new) ≡ (if children == 0 then times p (place ∷ []) else 0) + times p (spots old)
  pub length : length new ≤ length old + (if children == 0 then 1 else 0)

-- the counts of children are right, and the heap holds the turns of those commands that remain and have no children, each once
pub record Standing (cs : List Command) (skip : ℕ → Bool) (places children : List ℕ) (heap : List Turn) (due remaining : List ℕ) : Type 0 where
  pub counted : (k p : ℕ) → slice_get places k ≡ Some p → get_or children k 0 ≡ waiting cs skip due remaining p
  pub ready : (p : ℕ) → times p (spots heap) ≡ (if waiting cs skip due remaining p == 0 then times p remaining else 0)
  pub turns : All (IsTurn cs places) heap
  pub remain : (p : ℕ) → Contains due p → Contains remaining p
  pub left : (p : ℕ) → Contains remaining p → skip p ≡ false
