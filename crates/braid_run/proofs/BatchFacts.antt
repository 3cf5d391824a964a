-- Entries that are cut and followed by those of the new run.
use Rattle.std.proofs.Common.{◌≡◌, ℕ, List, [], ◌∷◌, ◌++◌, take, drop, sym, ap, ◌∙◌}
use Rattle.std.proofs.lemmas.List.{take-append-drop}
use Rattle.braid.proofs.Agreement.{one_braid}
use Rattle.braid_run.specs.Batches.{AreChanges, Change, IsBatch, IsCommonPrefix, all_followed, commands_behind, followed}
use Rattle.braid_run.specs.RunOf.{AreEntriesOf}
use Rattle.braid_run.specs.Runs.{run_of}
use Rattle.braid_run.specs.declared.entry.Entry.{Entry}
use Rattle.braid_run.proofs.RunFacts.{first_entries}
use Rattle.command.specs.Closed.{IsClosed}
use Rattle.command.specs.declared.command.Command.{Command}
use Rattle.policy_ast.specs.declared.policy.PlacedItem.{PlacedItem}

module _ (policy : List PlacedItem) where
  -- the entries up to where two braids agree, and those of the new run from there on
  pub entries_on : (before now : List Command) (cut : ℕ) → IsCommonPrefix before now cut →
      take cut (run_of policy before).entries ++ drop cut (run_of policy now).entries ≡ (run_of policy now).entries
  entries_on before now cut common =
      ap (λ es. es ++ drop cut (run_of policy now).entries)
      (first_entries policy cut before common.within.0 ∙ ap (λ cs. (run_of policy cs).entries) common.alike ∙ sym (first_entries policy cut now common.within.1))
      ∙ take-append-drop cut (run_of policy now).entries

  follow_one : (old : List Command) (entries : List Entry) (change : Change) → IsClosed old → AreEntriesOf policy old entries → IsBatch policy old change.commands change.batch →
      AreEntriesOf policy change.commands (followed entries change.batch)
  follow_one old entries change closed has batch = record {
    braid = batch.now;
    is = batch.is;
    same_entries =
        ap (λ es. take change.batch.cut es ++ change.batch.entries)
        (has.same_entries ∙ ap (λ braid. (run_of policy braid).entries) (one_braid old closed (λ x. Unit {0}) has.braid batch.before has.is batch.was))
        ∙ ap (λ es. take change.batch.cut (run_of policy batch.before).entries ++ es) batch.same_entries
        ∙ entries_on batch.before batch.now change.batch.cut batch.cuts.common;
  }

  pub follow_all : (old : List Command) (entries : List Entry) (changes : List Change) → IsClosed old → AreEntriesOf policy old entries → AreChanges policy old changes →
      AreEntriesOf policy (commands_behind old changes) (all_followed entries changes)
  follow_all old entries [] closed has are = has
  follow_all old entries (change ∷ changes) closed has are =
      follow_all change.commands (followed entries change.batch) changes are.0 (follow_one old entries change closed has are.1) are.2
