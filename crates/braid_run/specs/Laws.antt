-- What the laws say.
use Rattle.std.specs.Prelude.{◌≡◌, ℕ, ◌↔◌, List, [], ◌∷◌, ◌++◌, length, take}
use Rattle.braid.specs.Braids.{IsBraid, IsBraidOf, IsBraidTo, IsBraidUnder}
use Rattle.braid_run.specs.Batches.{Batch, IsBatch}
use Rattle.braid_run.specs.Places.{AreAtPlace, IsBehind, parent_places}
use Rattle.braid_run.specs.Published.{IsBehindAll, IsSoleHead}
use Rattle.braid_run.specs.RunOf.{IsRunOf}
use Rattle.braid_run.specs.Runs.{run_of, run_on}
use Rattle.braid_run.specs.declared.entry.Entry.{Entry}
use Rattle.command.specs.Ancestors.{IsAt, heads}
use Rattle.command.specs.Closed.{IsClosed}
use Rattle.command.specs.declared.command.Command.{Command}
use Rattle.fact_store.specs.declared.row.Row.{Row}
use Rattle.policy_ast.specs.declared.policy.PlacedItem.{PlacedItem}

-- A list of commands has one run.
pub record HasOneRun (policy : List PlacedItem) (cs : List Command) : Type 0 where
  pub some : (rows : List Row) × (entries : List Entry) × IsRunOf policy cs rows entries
  pub one : (rows others : List Row) (entries more : List Entry) → IsRunOf policy cs rows entries → IsRunOf policy cs others more → (rows ≡ others) × (entries ≡ more)

-- Two lists have the same facts and the same entries.
abbrev pub HaveOneRun : List PlacedItem → List Command → List Command → Type 0
HaveOneRun policy one other =
    (rows others : List Row) (entries more : List Entry) → IsRunOf policy one rows entries → IsRunOf policy other others more → (rows ≡ others) × (entries ≡ more)

-- The run of a whole braid begins with the run up to f: the braid of f's closure among these commands begins it, the run goes on from the facts
-- behind that one, and the entries up to there are that one's.
pub record BeginsWith (policy : List PlacedItem) (cs : List Command) (f : Command) (braid : List Command) : Type 0 where
  pub part : List Command
  pub rest : List Command
  pub closure : IsBraidTo cs f part
  pub begins : braid ≡ part ++ rest
  pub continues : run_of policy braid ≡ run_on policy (run_of policy part) rest
  pub entries : take (length part) (run_of policy braid).entries ≡ (run_of policy part).entries

-- What stands up to f in the list stays in this longer list.
abbrev pub StaysFinal : List PlacedItem → List Command → List Command → Command → Type 0
StaysFinal policy cs longer f = (braid : List Command) → IsBraid longer braid → BeginsWith policy cs f braid

-- From one list of commands to another there is one batch.
pub record HasOneBatch (policy : List PlacedItem) (old new : List Command) : Type 0 where
  pub some : (batch : Batch) × IsBatch policy old new batch
  pub one : (a b : Batch) → IsBatch policy old new a → IsBatch policy old new b → a ≡ b

-- A command has facts at its place, and no others; they are those under the places of its parents.
pub record HasPlaceFacts (policy : List PlacedItem) (cs : List Command) (c : Command) : Type 0 where
  pub some : (rows : List Row) × AreAtPlace policy cs c rows
  pub one : (rows others : List Row) → AreAtPlace policy cs c rows → AreAtPlace policy cs c others → rows ≡ others
  pub under : (braid : List Command) → IsBraidOf cs (IsBehind cs c) braid ↔ IsBraidUnder cs (parent_places cs c) braid

-- An append leaves the facts at its place.
abbrev pub PlaceFactsStay : List PlacedItem → List Command → Command → Type 0
PlaceFactsStay policy cs c = (more : List Command) (rows : List Row) → IsClosed (cs ++ more) → AreAtPlace policy cs c rows ↔ AreAtPlace policy (cs ++ more) c rows

-- One head stands above all that is held, and a command behind all that is held is the next such.
pub record HasTip (cs : List Command) : Type 0 where
  pub head : (place : ℕ) (tip : Command) → heads cs ≡ place ∷ [] → IsAt cs place tip → IsSoleHead cs tip
  pub next : (c : Command) → IsClosed (cs ++ c ∷ []) → IsBehindAll cs c → IsSoleHead (cs ++ c ∷ []) c
