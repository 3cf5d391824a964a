-- Runs that begin at a base: over the facts there, of what stands above.
use Rattle.std.specs.Prelude.{◌≡◌, ℕ, ◌+◌, List, length}
use Rattle.std.specs.List.{Contains}
use Rattle.braid.specs.Bases.{IsAbove, IsBase}
use Rattle.braid.specs.Braids.{IsBraid, IsBraidOf, IsBraidTo, IsBraidUnder}
use Rattle.braid_run.specs.Runs.{run_from, run_of, run_on}
use Rattle.braid_run.specs.declared.entry.Entry.{Entry}
use Rattle.command.specs.Ancestors.{IsAt, IsUnder}
use Rattle.command.specs.declared.command.Command.{Command}
use Rattle.fact_store.specs.declared.row.Row.{Row}
use Rattle.policy_ast.specs.declared.policy.PlacedItem.{PlacedItem}

-- These are the facts and entries of running these commands on from facts, and the run takes a counter from one number to the other.
pub record IsRunFrom (policy : List PlacedItem) (start : List Row) (cs : List Command) (rows : List Row) (entries : List Entry) (before now : ℕ) : Type 0 where
  pub same_rows : rows ≡ (run_on policy (run_from start) cs).rows
  pub same_entries : entries ≡ (run_on policy (run_from start) cs).entries
  pub counted : now ≡ before + (run_on policy (run_from start) cs).ticks

-- They are run in the order of the braid of what stands above f in the tips' closure.
pub record IsRunAbove (policy : List PlacedItem) (cs : List Command) (tips : List ℕ) (f : Command) (start rows : List Row) (entries : List Entry) (before now : ℕ) : Type 0 where
  pub rest : List Command
  pub is : IsBraidOf cs (IsAbove cs tips f) rest
  pub run : IsRunFrom policy start rest rows entries before now

-- So many commands, other than merges, stand above f in the tips' closure.
abbrev pub AreAbove : List Command → List ℕ → Command → ℕ → Type 0
AreAbove cs tips f n = (rest : List Command) → IsBraidOf cs (IsAbove cs tips f) rest → length rest ≡ n

-- These are the facts of running the braid of f's closure.
pub record AreRowsTo (policy : List PlacedItem) (cs : List Command) (f : Command) (rows : List Row) : Type 0 where
  pub braid : List Command
  pub is : IsBraidTo cs f braid
  pub same_rows : rows ≡ (run_of policy braid).rows

-- These are the facts of running the braid of the tips' closure.
pub record AreRowsUnder (policy : List PlacedItem) (cs : List Command) (tips : List ℕ) (rows : List Row) : Type 0 where
  pub braid : List Command
  pub is : IsBraidUnder cs tips braid
  pub same_rows : rows ≡ (run_of policy braid).rows

-- These are the facts of running the whole braid.
pub record AreRowsOfAll (policy : List PlacedItem) (cs : List Command) (rows : List Row) : Type 0 where
  pub braid : List Command
  pub is : IsBraid cs braid
  pub same_rows : rows ≡ (run_of policy braid).rows

-- The tips' closure is all that is held.
abbrev pub AreAllUnder : List Command → List ℕ → Type 0
AreAllUnder cs tips = (x : Command) → Contains cs x → IsUnder cs tips x

-- The command at the place is a base of the tips' closure, and the facts are those of its own closure.
pub record IsKeptBase (policy : List PlacedItem) (cs : List Command) (tips : List ℕ) (place : ℕ) (rows : List Row) : Type 0 where
  pub f : Command
  pub at : IsAt cs place f
  pub base : IsBase cs tips f
  pub same : AreRowsTo policy cs f rows
