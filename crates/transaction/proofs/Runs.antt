-- A run of an action at a desk of code is one at the desk of drafts, and what each publish keeps holds at the end.
use Rattle.std.proofs.Common.{◌≡◌, ℕ, List, [], ◌∷◌, Result, Ok, Err, ap, sym, subst}
use Rattle.std.specs.Prelude.{IfOk}
use Rattle.base_bytes.specs.declared.no_memory.NoMemory.{NoMemory}
use Rattle.base_bytes.specs.declared.value.Value.{Value}
use Rattle.fact_store.specs.declared.row.Row.{Row}
use Rattle.policy_ast.specs.declared.policy.PlacedItem.{PlacedItem}
use Rattle.policy_meaning.specs.Desks.{ActionRun, Chain, Posting}
use Rattle.policy_meaning.specs.declared.ends.ActionEnd.{ActionEnd}
use Rattle.transaction.specs.Drafts.{Draft, Basis}
use Rattle.transaction.specs.Seals.{IsPublish}

module _ {D : Type 0} (publishes : D → List Row → Posting → D → Type 0) (basis : Basis) (seen : D → Draft) (Same : D → Type 0)
    (step : (old : D) (rows : List Row) (p : Posting) (new : D) → Same old → publishes old rows p new → IsPublish basis (seen old) rows p (seen new) × Same new) where
  carried : (old : D) (rows : List Row) (postings : List Posting) (new : D) (last : List Row) → Same old → Chain publishes old rows postings new last
      → Chain (IsPublish basis) (seen old) rows postings (seen new) last
  carried old rows [] new last same chain = (ap seen chain.0, chain.1)
  carried old rows (p ∷ more) new last same chain =
      let first = step old rows p chain.0 same chain.1 in
      (seen chain.0, first.0, chain.2, carried chain.0 p.rows more new last first.1 chain.3)

  pub run_carried : (policy : List PlacedItem) (action : ℕ) (arguments : List Value) (device : List ℕ) (old : D) (rows : List Row) (end : ActionEnd) (before now : ℕ) (new : D) (last : List Row)
      → Same old → ActionRun publishes policy action arguments device old rows end before now new last
      → ActionRun (IsPublish basis) policy action arguments device (seen old) rows end before now (seen new) last
  run_carried policy action arguments device old rows end before now new last same run = record {
    postings = run.postings;
    chain = carried old rows run.postings new last same run.chain;
    acts = run.acts;
    counted = run.counted;
  }

-- the same of a call's answer, where the draft behind it is the desk's
pub runs_carried : {D : Type 0} (publishes : D → List Row → Posting → D → Type 0) (policy : List PlacedItem) (action : ℕ) (arguments : List Value) (device : List ℕ) (old new : D) (rows last : List Row) (before now : ℕ)
    (result : Result ActionEnd NoMemory) → IfOk result (λ end. ActionRun publishes policy action arguments device old rows end before now new last)
    → (basis : Basis) (seen : D → Draft) (Same : D → Type 0)
    → ((old : D) (rows : List Row) (p : Posting) (new : D) → Same old → publishes old rows p new → IsPublish basis (seen old) rows p (seen new) × Same new) → Same old
    → (behind : Draft) → behind ≡ seen new → IfOk result (λ end. ActionRun (IsPublish basis) policy action arguments device (seen old) rows end before now behind last)
runs_carried publishes policy action arguments device old new rows last before now (Err e) runs basis seen Same step same behind is = tt
runs_carried publishes policy action arguments device old new rows last before now (Ok end) runs basis seen Same step same behind is =
    subst (λ d. ActionRun (IsPublish basis) policy action arguments device (seen old) rows end before now d last) (sym is)
    (run_carried publishes basis seen Same step policy action arguments device old rows end before now new last same runs)

-- what each publish keeps, and what is true of it, holds behind them all
pub chain_keeps : (basis : Basis) (P : Draft → List Row → Type 0)
    → ((old : Draft) (rows : List Row) (p : Posting) (new : Draft) → IsPublish basis old rows p new → P old rows → P new p.rows)
    → (old : Draft) (rows : List Row) (postings : List Posting) (new : Draft) (last : List Row) → Chain (IsPublish basis) old rows postings new last → P old rows → P new last
chain_keeps basis P step old rows [] new last chain holds = two old new rows last chain.0 chain.1 holds
  where
    two : (old new : Draft) (rows last : List Row) → new ≡ old → last ≡ rows → P old rows → P new last
    two old new rows last same same_rows holds = rw (same, same_rows) holds
chain_keeps basis P step old rows (p ∷ more) new last chain holds = chain_keeps basis P step chain.0 p.rows more new last chain.3 (step old rows p chain.0 chain.1 holds)
