-- How a block ends, and what is known of it in a well-typed policy.
use Rattle.std.proofs.Common.{◌≡◌, ℕ, List, [], IfOk, OnOk, Option, Some, None, Result, Ok, Err, refl, sym, ap, subst, ◌∙◌}
use Rattle.std.specs.Borrow.{Bor}
use Rattle.base_bytes.specs.declared.value.Value.{Value}
use Rattle.fact_store.specs.declared.row.Row.{Row}
use Rattle.policy_ast.specs.declared.finish.FinishStmt.{FinishStmt}
use Rattle.policy_ast.specs.declared.item.Item.{Item}
use Rattle.policy_ast.specs.declared.item.Section.{Section}
use Rattle.policy_ast.specs.declared.policy.PlacedItem.{PlacedItem}
use Rattle.policy_ast.specs.declared.statement.Stmt.{Stmt}
use Rattle.policy_expressions.specs.Answers.{Stops}
use Rattle.policy_expressions.specs.Applying.{AppliesAll, Stays}
use Rattle.policy_expressions.specs.Meant.{stmt_meant, stmts_meant}
use Rattle.policy_expressions.specs.declared.stop.Stop.{Stop}
use Rattle.policy_expressions.specs.declared.stop.Stop.TheVariants as stop
use Rattle.policy_meaning.proofs.TypedFacts.{effects_none}
use Rattle.policy_meaning.specs.Applying.{Checks, Ended, Faults, Passes, Sticks, applied, block_ended}
use Rattle.policy_meaning.specs.Blocks.{Runs, body_ended, called_sections, command_setting, effects_of, most_turns, policy_block, policy_body, policy_ended, recall_block, recall_body, recall_ended, rows_after, with_sections}
use Rattle.policy_meaning.specs.Environments.{Env, Setting}
use Rattle.policy_meaning.specs.Finish.{Change}
use Rattle.policy_meaning.specs.Functions.{finish}
use Rattle.policy_meaning.specs.Outcomes.{Out, Done, ◌>>=◌}
use Rattle.policy_meaning.specs.Statements.{Finishes, Goes, Ran, Returns, ran}
use Rattle.policy_meaning.specs.Typed.{AreEffectsOf, AreTyped}
use Rattle.policy_meaning.specs.declared.call.Call.{Call}
use Rattle.policy_meaning.specs.declared.effect.Effect.{Effect}
use Rattle.policy_meaning.specs.declared.ends.FaultKind.{FaultKind}
use Rattle.policy_meaning.specs.declared.ends.Verdict.{Verdict}
use Rattle.policy_meaning.specs.declared.ends.Verdict.TheVariants as verdict
use Rattle.policy_types.specs.EndsWell.{EndsWell}
use Rattle.policy_rules.specs.Calls.{longest_chain}
use Rattle.policy_rules.specs.WellTyped.{items_of}
use Rattle.policy_eval.proofs.ListingForms.{finish_same}
use Rattle.policy_eval.proofs.ListingLoops.{stops_as, stops_then}
use Rattle.policy_eval.specs.declared.flow.Flow.{Flow}
use Rattle.policy_eval.specs.declared.flow.Flow.TheVariants as flow
use Rattle.policy_eval.specs.working.Ending.{EndsSo}
use Rattle.policy_eval.specs.working.Endings.{Comes, Runs as IsRun}
use Rattle.policy_eval.specs.working.Listing.{stmts_listed}

-- statements that end early end the block
pub ends_early : (why : Stop) (out : Out Ran) (rows : List Row) → Stops why out → EndsSo (Err why) (block_ended rows out) rows rows
ends_early stop.Check out rows is = (ap (block_ended rows) is, refl)
ends_early (stop.Fault kind) out rows is = (ap (block_ended rows) is, refl)
ends_early stop.Stuck out rows is = ap (block_ended rows) is
ends_early stop.NoMemory out rows is = tt

-- a block that ends as another
pub ends_as : (r : Result (List Effect) Stop) (block other : Ended) (old new : List Row) → block ≡ other → EndsSo r other old new → EndsSo r block old new
ends_as r block other old new same is = subst (λ block. EndsSo r block old new) (sym same) is

-- ---- the statements of a block, by what they come to

module _ (items : List Item) (call : Call) (rows : List Row) (body : List Stmt) (left : ℕ) where
  abbrev meant_so : Out Ran
  meant_so = stmts_meant items rows (command_setting call) longest_chain (finish items rows (command_setting call)) body [] most_turns

  same_so : body_ended items call rows body ≡ block_ended rows meant_so
  unfolding stmt_meant
  same_so = refl

  pub block_fails : (why : Stop) → Stops why meant_so → EndsSo (Err why) (body_ended items call rows body) rows rows
  block_fails why is = subst (λ block. EndsSo (Err why) block rows rows) (sym same_so) (ends_early why meant_so rows is)

  pub block_goes : (env : Env) → meant_so ≡ ran Goes env left → EndsSo (Ok []) (body_ended items call rows body) rows rows
  block_goes env is = same_so ∙ ap (block_ended rows) is

  pub block_returns : (v : Value) (env : Env) → meant_so ≡ ran (Returns v) env left → EndsSo (Err stop.Stuck) (body_ended items call rows body) rows rows
  block_returns v env is = same_so ∙ ap (block_ended rows) is

  module _ (statements : List FinishStmt) (env behind : Env)
      (reached : meant_so ≡ (finish items rows (command_setting call) statements env left >>= λ changes turns. ran (Finishes changes) behind turns)) where
    listed_so : meant_so ≡ (stmts_listed items rows (command_setting call) longest_chain statements env left >>= λ changes turns. ran (Finishes changes) behind turns)
    listed_so = reached ∙ ap (λ out. out >>= λ changes turns. ran (Finishes changes) behind turns) (finish_same items rows (command_setting call) statements env left)

    pub listing_fails : (why : Stop) → Stops why (stmts_listed items rows (command_setting call) longest_chain statements env left) → EndsSo (Err why) (body_ended items call rows body) rows rows
    listing_fails why is = block_fails why (stops_as why _ _ listed_so (stops_then why _ (λ changes turns. ran (Finishes changes) behind turns) is))

    pub listing_applies : (r : Result (List Effect) Stop) (changes : List Change) (now : ℕ) (new : List Row) → stmts_listed items rows (command_setting call) longest_chain statements env left ≡ Done changes now
        → EndsSo r (applied changes rows) rows new → EndsSo r (body_ended items call rows body) rows new
    listing_applies r changes now new is ends =
        subst (λ block. EndsSo r block rows new) (sym (same_so ∙ ap (block_ended rows) (listed_so ∙ ap (λ out. out >>= λ changes turns. ran (Finishes changes) behind turns) is))) ends

-- all changes were made, or none
pub ends_applied : (r : Result (List Effect) Stop) (changes : List Change) (old new : List Row) → AppliesAll r changes old new → Stays r old new → EndsSo r (applied changes old) old new
ends_applied (Ok effects) changes old new is same = is
ends_applied (Err stop.Check) changes old new is same = (is, same)
ends_applied (Err (stop.Fault kind)) changes old new is same = (is, same)
ends_applied (Err stop.Stuck) changes old new is same = is
ends_applied (Err stop.NoMemory) changes old new is same = tt

module _ (items : List Item) (call : Call) (rows : List Row) (body : List Stmt) (setting : Setting) (own : setting ≡ command_setting call) (env : Env) (none : env ≡ []) (after : Env) (left : ℕ) where
  abbrev HasRun : Result Flow Stop → Type 0
  HasRun flow = IsRun flow (λ lists. stmts_meant items rows setting longest_chain lists body) env after most_turns left

  comes_so : (flow : Result Flow Stop) → HasRun flow → Comes flow (finish items rows (command_setting call)) after left (meant_so items call rows body left)
  comes_so flow runs = subst (λ env. Comes flow (finish items rows (command_setting call)) after left (stmts_meant items rows (command_setting call) longest_chain (finish items rows (command_setting call)) body env most_turns)) none
      (subst (λ setting. Comes flow (finish items rows (command_setting call)) after left (stmts_meant items rows setting longest_chain (finish items rows (command_setting call)) body env most_turns)) own
      (runs.comes (finish items rows (command_setting call))))

  pub run_fails : (why : Stop) → HasRun (Err why) → EndsSo (Err why) (body_ended items call rows body) rows rows
  run_fails why runs = block_fails items call rows body left why (comes_so (Err why) runs)

  pub run_goes : (f : Flow) → f ≡ flow.Goes → HasRun (Ok f) → (effects : List Effect) → effects ≡ [] → body_ended items call rows body ≡ Passes rows effects
  run_goes f is runs effects no_effects = block_goes items call rows body left after (comes_so (Ok flow.Goes) (subst (λ f. HasRun (Ok f)) is runs)) ∙ ap (Passes rows) (sym no_effects)

  pub run_returns : (f : Flow) (v : Value) → f ≡ flow.Returns v → HasRun (Ok f) → body_ended items call rows body ≡ Sticks
  run_returns f v is runs = let comes = comes_so (Ok (flow.Returns v)) (subst (λ f. HasRun (Ok f)) is runs) in block_returns items call rows body left v comes.0 comes.1

  module _ (f : Flow) (statements : Bor (List FinishStmt)) (is : f ≡ flow.Reached statements) (runs : HasRun (Ok f)) where
    pub reached_fails : (why : Stop) → Stops why (stmts_listed items rows setting longest_chain statements.now after left) → EndsSo (Err why) (body_ended items call rows body) rows rows
    reached_fails why stops = let comes = comes_so (Ok (flow.Reached statements)) (subst (λ f. HasRun (Ok f)) is runs) in
        listing_fails items call rows body left statements.now after comes.0 comes.1 why (subst (λ setting. Stops why (stmts_listed items rows setting longest_chain statements.now after left)) own stops)

    pub reached_applies : (r : Result (List Effect) Stop) (changes : List Change) (now : ℕ) (new : List Row) → stmts_listed items rows setting longest_chain statements.now after left ≡ Done changes now
        → AppliesAll r changes rows new → Stays r rows new → EndsSo r (body_ended items call rows body) rows new
    reached_applies r changes now new lists applies stays = let comes = comes_so (Ok (flow.Reached statements)) (subst (λ f. HasRun (Ok f)) is runs) in
        listing_applies items call rows body left statements.now after comes.0 comes.1 r changes now new (subst (λ setting. stmts_listed items rows setting longest_chain statements.now after left ≡ Done changes now) own lists)
        (ends_applied r changes rows new applies stays)

-- ---- the blocks of a command, by its sections

module _ (policy : List PlacedItem) (call : Call) (rows : List Row) where
  pub no_sections : called_sections policy call ≡ None → (policy_block policy call rows ≡ Sticks) × (recall_block policy call rows ≡ Sticks)
  unfolding policy_block recall_block
  no_sections none = (ap (λ o. with_sections o (λ sections. policy_ended (items_of policy) call rows (policy_body sections))) none, ap (λ o. with_sections o (λ sections. recall_ended (items_of policy) call rows (recall_body sections))) none)

  module _ (sections : List Section) (some : called_sections policy call ≡ Some sections) where
    pub policy_is : (o : Option (List Stmt)) → policy_body sections ≡ o → policy_block policy call rows ≡ policy_ended (items_of policy) call rows o
    unfolding policy_block
    policy_is o is = ap (λ o. with_sections o (λ sections. policy_ended (items_of policy) call rows (policy_body sections))) some ∙ ap (policy_ended (items_of policy) call rows) is

    pub recall_is : (o : Option (List Stmt)) → recall_body sections ≡ o → recall_block policy call rows ≡ recall_ended (items_of policy) call rows o
    unfolding recall_block
    recall_is o is = ap (λ o. with_sections o (λ sections. recall_ended (items_of policy) call rows (recall_body sections))) some ∙ ap (recall_ended (items_of policy) call rows) is

-- ---- verdicts

pub passes : (block : Ended) (effects : List Effect) (old new : List Row) → block ≡ Passes new effects → Runs block (verdict.Pass effects) old new
passes block effects old new is = record { ends = sym is; rows = sym (ap (λ block. rows_after block old) is) }

pub checks : (block : Ended) (old new : List Row) → block ≡ Checks None → new ≡ old → Runs block verdict.Check old new
checks block old new is same = record { ends = sym is; rows = same ∙ sym (ap (λ block. rows_after block old) is) }

pub faults : (block : Ended) (kind : FaultKind) (old new : List Row) → block ≡ Faults kind → new ≡ old → Runs block (verdict.Fault kind) old new
faults block kind old new is same = record { ends = sym is; rows = same ∙ sym (ap (λ block. rows_after block old) is) }

-- no block of a well-typed policy is stuck
pub never_sticks : (policy : List PlacedItem) (block : Ended) → EndsWell policy block → block ≡ Sticks → ⊥
never_sticks policy block well is = subst (EndsWell policy) is well

module _ (policy : List PlacedItem) (block : Ended) (old new : List Row) (well : EndsWell policy block) where
  pub leaves_typed : (v : Verdict) → Runs block v old new → AreTyped policy old → AreTyped policy new
  leaves_typed (verdict.Pass effects) runs typed = (subst (EndsWell policy) (sym runs.ends) well).0
  leaves_typed verdict.Check runs typed = subst (AreTyped policy) (sym (runs.rows ∙ sym (ap (λ block. rows_after block old) runs.ends))) typed
  leaves_typed (verdict.Fault kind) runs typed = subst (AreTyped policy) (sym (runs.rows ∙ sym (ap (λ block. rows_after block old) runs.ends))) typed

  pub effects_typed : (v : Verdict) → Runs block v old new → AreEffectsOf policy (effects_of v)
  effects_typed (verdict.Pass effects) runs = (subst (EndsWell policy) (sym runs.ends) well).1
  effects_typed verdict.Check runs = effects_none policy
  effects_typed (verdict.Fault kind) runs = effects_none policy

  pub typed_on : {E : Type 0} (r : Result Verdict E) → IfOk r (λ v. Runs block v old new) → AreTyped policy old → OnOk r (AreTyped policy new)
  typed_on (Ok v) runs typed = leaves_typed v runs typed
  typed_on (Err why) runs typed = tt

  pub effects_on : {E : Type 0} (r : Result Verdict E) → IfOk r (λ v. Runs block v old new) → IfOk r (λ v. AreEffectsOf policy (effects_of v))
  effects_on (Ok v) runs = effects_typed v runs
  effects_on (Err why) runs = tt
