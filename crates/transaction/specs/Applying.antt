-- What a state holds once the commands of an action are applied.
use Rattle.std.specs.Prelude.{◌≡◌, ℕ, ◌≤◌, List, [], ◌∷◌, ◌++◌, length, Option, Some, None}
use Rattle.braid_run.specs.Published.{ArePublished, continued_run}
use Rattle.braid_run.specs.Soundness.{AreLawful, Criteria, IsSound}
use Rattle.braid_run.specs.States.{Held, IsStanding, HeldAndRoom}
use Rattle.command.specs.Wire.{command_id}
use Rattle.command.specs.declared.command.Command.{Command}
use Rattle.transaction.specs.Acting.{Made}

-- A graph without an id is named by its first command.
abbrev pub graph_named : Option (List ℕ) → List Command → Option (List ℕ)
graph_named None (c ∷ cs) = Some (command_id c)
graph_named id cs = id

-- The commands are behind those held, the entries behind those held, and the facts are the new ones.
abbrev pub applied : Held → Made → Held
applied held made = record {
  graph_id = graph_named held.graph_id made.commands;
  commands = held.commands ++ made.commands;
  rows = made.rows;
  entries = held.entries ++ made.entries;
}

-- There is room for what was made.
pub record HasRoom (state : HeldAndRoom) (made : Made) : Type 0 where
  pub room : length made.commands ≤ state.room
  pub entry_room : length made.entries ≤ state.entry_room

-- There is room for what was made, and it may stand behind what is held.
pub record IsReady (state : HeldAndRoom) (made : Made) : Type 0 where
  pub fits : HasRoom state made
  pub standing : IsStanding (graph_named state.held.graph_id made.commands) (state.held.commands ++ made.commands)

-- What was made is published on what is held: each command stands behind all that is held by then, or is a merge; the facts and entries are those of
-- the commands one after another over the facts held; and where what is held is sound, each command but the merges is lawful.
pub record IsPublishedOn (criteria : Criteria) (held : Held) (made : Made) : Type 0 where
  pub commands : ArePublished held.commands made.commands
  pub same_rows : made.rows ≡ (continued_run criteria.policy held.rows [] made.commands).rows
  pub same_entries : made.entries ≡ (continued_run criteria.policy held.rows [] made.commands).entries
  pub lawful : IsSound criteria held → AreLawful criteria (held.commands ++ made.commands) made.commands
