-- A run: commands one after another, each over the facts that those before it left.
use Rattle.std.specs.Prelude.{ℕ, ◌+◌, List, [], ◌∷◌, ◌++◌, Option, Some, None}
use Rattle.command.specs.Wire.{command_id}
use Rattle.command.specs.declared.command.Command.{Command}
use Rattle.braid_run.specs.declared.entry.Entry.{Entry}
use Rattle.braid_run.specs.declared.entry.Outcome.TheVariants as outcome
use Rattle.fact_store.specs.declared.row.Row.{Row}
use Rattle.policy_ast.specs.declared.policy.PlacedItem.{PlacedItem}
use Rattle.policy_meaning.specs.Applying.{Ended, Checks}
use Rattle.policy_meaning.specs.Blocks.{policy_block}
use Rattle.policy_meaning.specs.Commands.{Judged, Pass, Recalled, call_of, judged}
use Rattle.policy_meaning.specs.declared.call.Call.{Call}

-- What a run has come to: the facts, an entry for each command, and how many blocks were run.
pub record Run : Type 0 where
  pub rows : List Row
  pub entries : List Entry
  pub ticks : ℕ

-- Nothing was run yet, over these facts.
abbrev pub run_from : List Row → Run
run_from rows = record { rows = rows; entries = []; ticks = 0 }

-- Before the first command there are no facts.
abbrev pub no_run : Run
no_run = record { rows = []; entries = []; ticks = 0 }

-- The entry of a command: a void one has no effects. A block that sticks counts as void; no block of a well-typed policy does.
abbrev pub entry_of : List ℕ → Judged → Entry
entry_of id (Pass rows effects) = record { id = id; outcome = outcome.Pass; effects = effects }
entry_of id (Recalled rows effects) = record { id = id; outcome = outcome.Recalled; effects = effects }
entry_of id other = record { id = id; outcome = outcome.Void; effects = [] }

-- The facts behind a command: a void one leaves them as they were.
abbrev pub rows_behind : Judged → List Row → List Row
rows_behind (Pass rows effects) before = rows
rows_behind (Recalled rows effects) before = rows
rows_behind other before = before

-- The blocks that are run for a command: its policy block, and behind a failed check its recall block. None is run of a command that is no call.
abbrev pub block_ticks : Ended → ℕ
block_ticks (Checks recall) = 2
block_ticks other = 1

abbrev pub call_ticks : List PlacedItem → List Row → Option Call → ℕ
call_ticks policy rows None = 0
call_ticks policy rows (Some call) = block_ticks (policy_block policy call rows)

abbrev pub command_ticks : List PlacedItem → List Row → Command → ℕ
command_ticks policy rows c = call_ticks policy rows (call_of policy c)

-- A run with one command more, which comes to what it is judged to.
abbrev pub with_command : List PlacedItem → Run → Command → Run
with_command policy run c = record {
  rows = rows_behind (judged policy run.rows c) run.rows;
  entries = run.entries ++ entry_of (command_id c) (judged policy run.rows c) ∷ [];
  ticks = run.ticks + command_ticks policy run.rows c;
}

-- A run that goes on with these commands.
abbrev pub run_on : List PlacedItem → Run → List Command → Run
run_on policy run [] = run
run_on policy run (c ∷ cs) = run_on policy (with_command policy run c) cs

-- The run of a list of commands.
abbrev pub run_of : List PlacedItem → List Command → Run
run_of policy cs = run_on policy no_run cs
