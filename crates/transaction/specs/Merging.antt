-- How the heads are merged before the first command of an action.
use Rattle.std.specs.Prelude.{ℕ, zero, suc, Bool, ◌||◌, if◌then◌else◌, List, [], ◌∷◌, ◌++◌, Result, Ok, Err, None}
use Rattle.command.specs.Closed.{has_id}
use Rattle.command.specs.Wire.{command_id}
use Rattle.command.specs.declared.command.Command.{Command}
use Rattle.command.specs.declared.command.Command.TheVariants as command
use Rattle.transaction.specs.Drafts.{Draft, with_id}

-- A command with this id is held, or was made in this call.
abbrev pub is_known : List Command → List Command → List ℕ → Bool
is_known held made id = has_id held id || has_id made id

-- With one merge more, which is a head in place of the two that it joins.
abbrev pub with_merge : Draft → List (List ℕ) → Command → Draft
with_merge draft others merge = record draft { heads = with_id others (command_id merge); commands = draft.commands ++ merge ∷ [] }

-- A merge is made unless its id is known, and others follow.
abbrev pub merged : List Command → Draft → List (List ℕ) → Command → (Draft → Result Draft (List ℕ)) → Result Draft (List ℕ)
merged held draft others merge more =
    if is_known held draft.commands (command_id merge) then Err (command_id merge) else more (with_merge draft others merge)

-- The two of smallest ids are merged, where there are two.
abbrev pub merge_two : List Command → Draft → List (List ℕ) → (Draft → Result Draft (List ℕ)) → Result Draft (List ℕ)
merge_two held draft (left ∷ right ∷ others) more = merged held draft others (command.Merge None left right) more
merge_two held draft other more = Ok draft

-- So it goes on until one head is left, for so many merges at most. The first merge whose id is known ends it, with that id.
abbrev pub merges : List Command → ℕ → Draft → Result Draft (List ℕ)
merges held zero draft = Ok draft
merges held (suc n) draft = merge_two held draft draft.heads (merges held n)
