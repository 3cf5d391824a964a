-- Runs of a few commands, computed. What their blocks come to is given.
use Rattle.std.proofs.Common.{◌≡◌, ℕ, ◌+◌, List, [], ◌∷◌, ◌++◌, Some, None, refl}
use Rattle.braid_run.specs.Runs.{Run, block_ticks, command_ticks, entry_of, rows_behind, run_of, with_command}
use Rattle.braid_run.specs.declared.entry.Entry.{Entry}
use Rattle.braid_run.specs.declared.entry.Outcome.{Outcome}
use Rattle.braid_run.specs.declared.entry.Outcome.TheVariants as outcome
use Rattle.command.specs.Wire.{command_id}
use Rattle.command.specs.declared.command.Command.{Command}
use Rattle.fact_store.specs.declared.row.Row.{Row}
use Rattle.policy_ast.specs.declared.policy.PlacedItem.{PlacedItem}
use Rattle.policy_meaning.specs.Applying.{Ended, Passes, Checks, Faults}
use Rattle.policy_meaning.specs.Blocks.{policy_block, recall_block}
use Rattle.policy_meaning.specs.Commands.{call_of, judged_by}
use Rattle.policy_meaning.specs.declared.call.Call.{Call}
use Rattle.policy_meaning.specs.declared.effect.Effect.{Effect}
use Rattle.policy_meaning.specs.declared.ends.FaultKind.TheVariants as fault

-- ---- what a command comes to: by its policy block and its recall block, over facts `old`

module _ (id : List ℕ) (old new other : List Row) (effects more : List Effect) where
  -- the entry, the facts behind it, and the blocks that were run
  comes_to : Ended → Ended → Run
  comes_to policy recall = record { rows = rows_behind (judged_by policy recall) old; entries = entry_of id (judged_by policy recall) ∷ []; ticks = block_ticks policy }

  is_void : ℕ → Run
  is_void ticks = record { rows = old; entries = record { id = id; outcome = outcome.Void; effects = [] } ∷ []; ticks = ticks }

  passes : (recall : Ended) → comes_to (Passes new effects) recall ≡ record { rows = new; entries = record { id = id; outcome = outcome.Pass; effects = effects } ∷ []; ticks = 1 }
  unfolding comes_to
  passes recall = refl

  is_recalled : comes_to (Checks None) (Passes other more) ≡ record { rows = other; entries = record { id = id; outcome = outcome.Recalled; effects = more } ∷ []; ticks = 2 }
  unfolding comes_to
  is_recalled = refl

  void_by_two_checks : comes_to (Checks None) (Checks None) ≡ is_void 2
  unfolding comes_to is_void
  void_by_two_checks = refl

  void_by_a_fault_of_the_recall : comes_to (Checks None) (Faults fault.Exists) ≡ is_void 2
  unfolding comes_to is_void
  void_by_a_fault_of_the_recall = refl

  void_by_a_fault : comes_to (Faults fault.Unwrap) (Passes other more) ≡ is_void 1
  unfolding comes_to is_void
  void_by_a_fault = refl

-- a command that is no call is void, and nothing is run
no_call : (policy : List PlacedItem) (run : Run) (c : Command) → call_of policy c ≡ None → (with_command policy run c).rows ≡ run.rows
no_call policy run c is = rw is refl

no_call_takes_no_tick : (policy : List PlacedItem) (rows : List Row) (c : Command) → call_of policy c ≡ None → command_ticks policy rows c ≡ 0
no_call_takes_no_tick policy rows c is = rw is refl

-- ---- three commands: an init that makes `r0` of no facts, one that makes `r1` of `r0`, and one whose check fails over `r1` and whose recall passes

module _ (policy : List PlacedItem) (a b c : Command) (p q s : Call) (r0 r1 r2 : List Row) (did lost : List Effect)
    (a_is : call_of policy a ≡ Some p) (b_is : call_of policy b ≡ Some q) (c_is : call_of policy c ≡ Some s)
    (a_passes : policy_block policy p [] ≡ Passes r0 []) (b_passes : policy_block policy q r0 ≡ Passes r1 did)
    (c_checks : policy_block policy s r1 ≡ Checks None) (c_recalled : recall_block policy s r1 ≡ Passes r2 lost) where
  one : Command → Outcome → List Effect → Entry
  one command outcome effects = record { id = command_id command; outcome = outcome; effects = effects }

  three : run_of policy (a ∷ b ∷ c ∷ []) ≡ record { rows = r2; entries = one a outcome.Pass [] ∷ one b outcome.Pass did ∷ one c outcome.Recalled lost ∷ []; ticks = 4 }
  unfolding one
  three = rw (a_is, b_is, c_is, a_passes, b_passes, c_checks, c_recalled) refl

-- ---- commands that count and note: one of value v, over facts that have counted to n, counts to n + 1 and notes v there

module _ (policy : List PlacedItem) (facts : ℕ → List (ℕ × ℕ) → List Row) (did : ℕ → Effect) (begin low high mid : Command) (first : Call) (call : ℕ → Call)
    (begin_is : call_of policy begin ≡ Some first) (low_is : call_of policy low ≡ Some (call 1)) (high_is : call_of policy high ≡ Some (call 2))
    (mid_is : call_of policy mid ≡ Some (call 3)) (begins : policy_block policy first [] ≡ Passes (facts 0 []) [])
    (counts : (v n : ℕ) (noted : List (ℕ × ℕ)) → policy_block policy (call v) (facts n noted) ≡ Passes (facts (n + 1) (noted ++ (n + 1, v) ∷ [])) (did v ∷ [])) where
  passed : Command → List Effect → Entry
  passed command effects = record { id = command_id command; outcome = outcome.Pass; effects = effects }

  -- the braid of two strands, of which the higher priority is run first
  two_strands : run_of policy (begin ∷ high ∷ low ∷ []) ≡ record {
    rows = facts 2 ((1, 2) ∷ (2, 1) ∷ []);
    entries = passed begin [] ∷ passed high (did 2 ∷ []) ∷ passed low (did 1 ∷ []) ∷ [];
    ticks = 3;
  }
  unfolding passed
  two_strands = rw (begin_is, high_is, low_is, begins, counts 2 0 [], counts 1 1 ((1, 2) ∷ [])) refl

  -- the braid of a lower and a higher priority in one strand, with a middle one beside them
  three_in_order : run_of policy (begin ∷ low ∷ high ∷ mid ∷ []) ≡ record {
    rows = facts 3 ((1, 1) ∷ (2, 2) ∷ (3, 3) ∷ []);
    entries = passed begin [] ∷ passed low (did 1 ∷ []) ∷ passed high (did 2 ∷ []) ∷ passed mid (did 3 ∷ []) ∷ [];
    ticks = 4;
  }
  unfolding passed
  three_in_order = rw (begin_is, low_is, high_is, mid_is, begins, counts 1 0 [], counts 2 1 ((1, 1) ∷ []), counts 3 2 ((1, 1) ∷ (2, 2) ∷ [])) refl

-- ---- a command that is no call stands between two that pass

module _ (policy : List PlacedItem) (a b c : Command) (p s : Call) (r0 r1 : List Row) (did : List Effect)
    (a_is : call_of policy a ≡ Some p) (b_is : call_of policy b ≡ None) (c_is : call_of policy c ≡ Some s)
    (a_passes : policy_block policy p [] ≡ Passes r0 []) (c_passes : policy_block policy s r0 ≡ Passes r1 did) where
  of : Command → Outcome → List Effect → Entry
  of command outcome effects = record { id = command_id command; outcome = outcome; effects = effects }

  the_run_continues : run_of policy (a ∷ b ∷ c ∷ []) ≡ record { rows = r1; entries = of a outcome.Pass [] ∷ of b outcome.Void [] ∷ of c outcome.Pass did ∷ []; ticks = 2 }
  unfolding of
  the_run_continues = rw (a_is, b_is, c_is, a_passes, c_passes) refl
