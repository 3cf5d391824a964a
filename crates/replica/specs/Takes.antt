-- A take: the commands of a response are admitted one after another, and the braid of all that is held then is run.
use Rattle.std.specs.Prelude.{◌≡◌, ℕ, List, ◌++◌, length}
use Rattle.accept.specs.Takes.{IsTake, Tally}
use Rattle.braid_run.specs.Batches.{Batch, IsBatch}
use Rattle.braid_run.specs.RunOf.{IsRunOf}
use Rattle.braid_run.specs.Soundness.{Criteria}
use Rattle.braid_run.specs.States.{Held}
use Rattle.command.specs.declared.command.Command.{Command}
use Rattle.policy_ast.specs.declared.policy.PlacedItem.{PlacedItem}
use Rattle.replica.specs.declared.counts.Taken.{Taken}
use Rattle.sync_codec.specs.declared.response.Response.{Response}

-- The cut and the number of entries are those of the batch from one list of commands to another.
pub record HasBatch (policy : List PlacedItem) (old new : List Command) (cut entries : ℕ) : Type 0 where
  pub batch : Batch
  pub is : IsBatch policy old new batch
  pub same_cut : cut ≡ batch.cut
  pub counted : entries ≡ length batch.entries

-- The reply tells what a take came to: its tally, the batch, and whether the response has more.
pub record IsTold (policy : List PlacedItem) (old : List Command) (response : Response) (tally : Tally) (taken : Taken) : Type 0 where
  pub added : taken.added ≡ length tally.added
  pub repeats : taken.repeats ≡ tally.repeats
  pub refused : taken.refused ≡ tally.refused
  pub more : taken.more ≡ response.more
  pub batch : HasBatch policy old (old ++ tally.added) taken.cut taken.entries

-- What is held behind a take: the added commands behind the others, and the facts and entries of their run. The graph's id stays.
pub record Takes (criteria : Criteria) (old : Held) (response : Response) (taken : Taken) (new : Held) : Type 0 where
  pub tally : Tally
  pub take : IsTake criteria old.graph_id old.commands response.commands tally
  pub told : IsTold criteria.policy old.commands response tally taken
  pub graph_id : new.graph_id ≡ old.graph_id
  pub commands : new.commands ≡ old.commands ++ tally.added
  pub run : IsRunOf criteria.policy new.commands new.rows new.entries
