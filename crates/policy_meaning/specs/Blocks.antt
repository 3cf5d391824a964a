-- What the policy block and the recall block of a command make of the facts, and what a runner's call tells of it.
use Rattle.std.specs.Prelude.{◌≡◌, ℕ, List, [], ◌∷◌, slice_get, Option, Some, None, option_and_then}
use Rattle.base_bytes.specs.declared.value.Value.TheVariants as value
use Rattle.fact_store.specs.declared.row.Row.{Row}
use Rattle.policy_ast.specs.declared.item.Item.{Item}
use Rattle.policy_ast.specs.declared.item.Item.TheVariants as item
use Rattle.policy_ast.specs.declared.item.Section.{Section}
use Rattle.policy_ast.specs.declared.item.Section.TheVariants as section
use Rattle.policy_ast.specs.declared.policy.PlacedItem.{PlacedItem}
use Rattle.policy_ast.specs.declared.statement.Stmt.{Stmt}
use Rattle.policy_meaning.specs.Applying.{Ended, Passes, Checks, Faults, Sticks, block_ended}
use Rattle.policy_meaning.specs.Environments.{Setting}
use Rattle.policy_meaning.specs.Functions.{statements}
use Rattle.policy_meaning.specs.declared.call.Call.{Call}
use Rattle.policy_meaning.specs.declared.effect.Effect.{Effect}
use Rattle.policy_meaning.specs.declared.ends.Verdict.{Verdict}
use Rattle.policy_meaning.specs.declared.ends.Verdict.TheVariants as verdict
use Rattle.policy_rules.specs.WellTyped.{items_of}

-- The turns of one evaluation.
abbrev pub most_turns : ℕ
most_turns = 100000

-- What the blocks of a command know beside their names.
abbrev pub command_setting : Call → Setting
command_setting call =
    record { this = Some (value.Struct call.command call.fields); author = Some call.author; command_id = Some call.id; device = None }

-- The block of the first section of policy.
abbrev pub policy_body : List Section → Option (List Stmt)
policy_body [] = None
policy_body (section.Policy body ∷ sections) = Some body
policy_body (other ∷ sections) = policy_body sections

abbrev pub recall_body : List Section → Option (List Stmt)
recall_body [] = None
recall_body (section.Recall body ∷ sections) = Some body
recall_body (other ∷ sections) = recall_body sections

-- The sections of a command.
abbrev pub sections_of : Item → Option (List Section)
sections_of (item.Command name sections) = Some sections
sections_of other = None

-- How a block of a command ends.
abbrev pub body_ended : List Item → Call → List Row → List Stmt → Ended
body_ended items call rows body = block_ended rows (statements items rows (command_setting call) body [] most_turns)

abbrev pub policy_ended : List Item → Call → List Row → Option (List Stmt) → Ended
policy_ended items call rows (Some body) = body_ended items call rows body
policy_ended items call rows None = Sticks

-- An absent recall block passes with no writes.
abbrev pub recall_ended : List Item → Call → List Row → Option (List Stmt) → Ended
recall_ended items call rows (Some body) = body_ended items call rows body
recall_ended items call rows None = Passes rows []

-- What is made of the sections of a command, where there is one.
abbrev pub with_sections : Option (List Section) → (List Section → Ended) → Ended
with_sections (Some sections) ends = ends sections
with_sections None ends = Sticks

-- The sections of the command that is called.
abbrev pub called_sections : List PlacedItem → Call → Option (List Section)
called_sections policy call = option_and_then sections_of (slice_get (items_of policy) call.command)

-- How the policy block of the called command ends over these facts.
unfoldable pub policy_block : List PlacedItem → Call → List Row → Ended
policy_block policy call rows = with_sections (called_sections policy call) (λ sections. policy_ended (items_of policy) call rows (policy_body sections))

-- How its recall block ends.
unfoldable pub recall_block : List PlacedItem → Call → List Row → Ended
recall_block policy call rows = with_sections (called_sections policy call) (λ sections. recall_ended (items_of policy) call rows (recall_body sections))

-- ---- what a call tells

-- A verdict, with the rows behind it where it is a pass.
abbrev pub ended : Verdict → List Row → Ended
ended (verdict.Pass effects) rows = Passes rows effects
ended verdict.Check rows = Checks None
ended (verdict.Fault kind) rows = Faults kind

-- The facts behind a block that began with these: after a failed check or a fault they are as before.
abbrev pub rows_after : Ended → List Row → List Row
rows_after (Passes rows effects) old = rows
rows_after other old = old

-- A call that ran a block: its verdict and the facts that it left are how the block ends.
pub record Runs (block : Ended) (verdict : Verdict) (old new : List Row) : Type 0 where
  pub ends : ended verdict new ≡ block
  pub rows : new ≡ rows_after block old

-- The effects of a verdict; there are none but after a pass.
abbrev pub effects_of : Verdict → List Effect
effects_of (verdict.Pass effects) = effects
effects_of other = []
