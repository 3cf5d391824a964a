-- The facts and the entries of a set of commands: those of running its braid.
use Rattle.std.specs.Prelude.{◌≡◌, ℕ, ◌+◌, List}
use Rattle.braid.specs.Braids.{IsBraid, IsBraidUnder}
use Rattle.braid_run.specs.Runs.{run_of}
use Rattle.braid_run.specs.declared.entry.Entry.{Entry}
use Rattle.command.specs.declared.command.Command.{Command}
use Rattle.fact_store.specs.declared.row.Row.{Row}
use Rattle.policy_ast.specs.declared.policy.PlacedItem.{PlacedItem}

-- These entries are those of running the whole braid.
pub record AreEntriesOf (policy : List PlacedItem) (cs : List Command) (entries : List Entry) : Type 0 where
  pub braid : List Command
  pub is : IsBraid cs braid
  pub same_entries : entries ≡ (run_of policy braid).entries

-- These facts and entries are those of running the whole braid.
pub record IsRunOf (policy : List PlacedItem) (cs : List Command) (rows : List Row) (entries : List Entry) : Type 0 where
  pub braid : List Command
  pub is : IsBraid cs braid
  pub same_rows : rows ≡ (run_of policy braid).rows
  pub same_entries : entries ≡ (run_of policy braid).entries

-- These are the facts and entries of running these commands in their order, and the run takes a counter from one number to the other.
pub record IsCountedRun (policy : List PlacedItem) (cs : List Command) (rows : List Row) (entries : List Entry) (before now : ℕ) : Type 0 where
  pub same_rows : rows ≡ (run_of policy cs).rows
  pub same_entries : entries ≡ (run_of policy cs).entries
  pub counted : now ≡ before + (run_of policy cs).ticks

-- They are run in the order of the braid of the tips' closure.
pub record IsRunUnder (policy : List PlacedItem) (cs : List Command) (tips : List ℕ) (rows : List Row) (entries : List Entry) (before now : ℕ) : Type 0 where
  pub braid : List Command
  pub is : IsBraidUnder cs tips braid
  pub run : IsCountedRun policy braid rows entries before now
