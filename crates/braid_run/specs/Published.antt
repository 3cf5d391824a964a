-- Commands that are published: each stands behind all that is held, and so runs last.
use Rattle.std.specs.Prelude.{◌≡◌, ℕ, ◌⊎◌, true, List, [], ◌∷◌, ◌++◌, filter, not, option_map, slice_get}
use Rattle.std.specs.List.{Contains, filter_map}
use Rattle.braid_run.specs.Places.{IsBehind}
use Rattle.braid_run.specs.Runs.{Run, run_on}
use Rattle.braid_run.specs.declared.entry.Entry.{Entry}
use Rattle.command.specs.Ancestors.{IsUpTo, heads}
use Rattle.command.specs.Kinds.{is_merge}
use Rattle.command.specs.Wire.{command_id}
use Rattle.command.specs.declared.command.Command.{Command}
use Rattle.fact_store.specs.declared.row.Row.{Row}
use Rattle.policy_ast.specs.declared.policy.PlacedItem.{PlacedItem}

-- The tip is the one head: all that is held is the tip, or an ancestor of it.
abbrev pub IsSoleHead : List Command → Command → Type 0
IsSoleHead cs tip = (x : Command) → Contains cs x → IsUpTo cs tip x

-- Each command that is held is a parent of c, or an ancestor of one. Where none is held, this is so of an init.
abbrev pub IsBehindAll : List Command → Command → Type 0
IsBehindAll cs c = (x : Command) → Contains cs x → IsBehind cs c x

-- The ids of the heads, in stored order.
abbrev pub head_ids : List Command → List (List ℕ)
head_ids cs = filter_map (λ place. option_map command_id (slice_get cs place)) (heads cs)

-- Each command that is held has one of these ids, or is an ancestor of one that has.
abbrev pub IsCovered : List Command → List (List ℕ) → Type 0
IsCovered cs ids = (x : Command) → Contains cs x → (y : Command) × Contains cs y × Contains ids (command_id y) × IsUpTo cs y x

-- Each of these is a merge, or stands behind all that is held by then.
abbrev pub ArePublished : List Command → List Command → Type 0
ArePublished cs [] = Unit {0}
ArePublished cs (c ∷ more) = ((is_merge c ≡ true) ⊎ IsBehindAll cs c) × ArePublished (cs ++ c ∷ []) more

abbrev pub without_merges : List Command → List Command
without_merges cs = filter (λ c. not (is_merge c)) cs

-- What these facts and entries come to once the commands are run that aren't merges.
abbrev pub continued_run : List PlacedItem → List Row → List Entry → List Command → Run
continued_run policy rows entries more = run_on policy (record { rows = rows; entries = entries; ticks = 0 }) (without_merges more)
