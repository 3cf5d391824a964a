-- What a state holds, what is true of every state, and what it holds after commands are added.
use Rattle.std.specs.Prelude.{◌≡◌, ℕ, ◌<◌, ◌≤◌, true, false, List, [], ◌∷◌, ◌++◌, length, take, Option, Some}
use Rattle.std.specs.List.{All, Contains}
use Rattle.braid_run.specs.Places.{IsBehind}
use Rattle.braid_run.specs.declared.entry.Entry.{Entry}
use Rattle.command.specs.Ancestors.{AreInLine}
use Rattle.command.specs.Closed.{IsClosed, IsNext, max_commands}
use Rattle.command.specs.Kinds.{is_finalize, is_init}
use Rattle.command.specs.Wire.{command_id}
use Rattle.command.specs.declared.command.Command.{Command}
use Rattle.fact_store.specs.declared.row.Row.{Row}

-- The graph's id, where it is known; the commands in stored order; the facts; and the entries. A sound state has those of running the braid, in its order.
pub record Held : Type 0 where
  pub graph_id : Option (List ℕ)
  pub commands : List Command
  pub rows : List Row
  pub entries : List Entry

-- A state as contracts see it: what it holds, and how many commands and how many entries can be added without memory.
pub record HeldAndRoom : Type 0 where
  pub held : Held
  pub room : ℕ
  pub entry_room : ℕ

-- The first command, where one is held, is the one init, and its id is that of the graph.
abbrev pub HasOneInit : Option (List ℕ) → List Command → Type 0
HasOneInit graph_id [] = Unit {0}
HasOneInit graph_id (c ∷ cs) = (is_init c ≡ true) × (graph_id ≡ Some (command_id c)) × All (λ x. is_init x ≡ false) cs

-- What is true of the commands of every state, under whatever policy.
pub record IsStanding (graph_id : Option (List ℕ)) (cs : List Command) : Type 0 where
  pub closed : IsClosed cs
  pub few : length cs ≤ max_commands
  pub one_init : HasOneInit graph_id cs
  pub in_line : AreInLine cs

-- What is held once commands are added, the entries are cut, and these facts and further entries are taken.
abbrev pub extended : Held → List Command → ℕ → List Row → List Entry → Held
extended held more cut rows entries = record {
  graph_id = held.graph_id;
  commands = held.commands ++ more;
  rows = rows;
  entries = take cut held.entries ++ entries;
}

-- A command may be added: it may stand behind the others and there is room, an init is the first and has the graph's id, and a finalize stands behind
-- each one that is held.
pub record MayFollow (graph_id : Option (List ℕ)) (cs : List Command) (c : Command) : Type 0 where
  pub next : IsNext cs c
  pub few : length cs < max_commands
  pub init : is_init c ≡ true → (cs ≡ []) × (graph_id ≡ Some (command_id c))
  pub in_line : is_finalize c ≡ true → (f : Command) → Contains cs f → is_finalize f ≡ true → IsBehind cs c f
