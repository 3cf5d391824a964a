-- The facts at the place of a command: what it was published over, whoever holds it.
use Rattle.std.specs.Prelude.{◌≡◌, ℕ, List}
use Rattle.std.specs.List.{Contains, filter_map}
use Rattle.braid.specs.Braids.{IsBraidOf}
use Rattle.braid_run.specs.Runs.{run_of}
use Rattle.command.specs.Ancestors.{IsUpTo}
use Rattle.command.specs.Closed.{place_of}
use Rattle.command.specs.Kinds.{parents_of}
use Rattle.command.specs.Wire.{command_id}
use Rattle.command.specs.declared.command.Command.{Command}
use Rattle.fact_store.specs.declared.row.Row.{Row}
use Rattle.policy_ast.specs.declared.policy.PlacedItem.{PlacedItem}

-- x is a parent of c, or an ancestor of one. So x stands before c wherever c is held, and c need not be held yet.
abbrev pub IsBehind : List Command → Command → Command → Type 0
IsBehind cs c x = (parent : Command) × Contains cs parent × Contains (parents_of c) (command_id parent) × IsUpTo cs parent x

-- These are the facts of running the braid of the closure of c's parents. Those of an init are none.
pub record AreAtPlace (policy : List PlacedItem) (cs : List Command) (c : Command) (rows : List Row) : Type 0 where
  pub braid : List Command
  pub is : IsBraidOf cs (IsBehind cs c) braid
  pub same_rows : rows ≡ (run_of policy braid).rows

-- The places of those of c's parents that are held.
abbrev pub parent_places : List Command → Command → List ℕ
parent_places cs c = filter_map (place_of cs) (parents_of c)

-- No id is that of one command here and of another there.
abbrev pub AgreeOnIds : List Command → List Command → Type 0
AgreeOnIds one other = (x y : Command) → Contains one x → Contains other y → command_id x ≡ command_id y → x ≡ y
