-- What `finish` lists, under names that proofs of code keep shut.
use Rattle.std.specs.Prelude.{ℕ, List, [], ◌∷◌, ◌++◌}
use Rattle.base_bytes.specs.declared.value.Value.{Value}
use Rattle.fact_store.specs.declared.row.Row.{Row}
use Rattle.policy_ast.specs.declared.finish.FinishStmt.{FinishStmt}
use Rattle.policy_ast.specs.declared.finish.FinishStmt.TheVariants as finish
use Rattle.policy_ast.specs.declared.item.Item.{Item}
use Rattle.policy_expressions.specs.Forms.{created_of, deleted_of, emitted_of, updated_of}
use Rattle.policy_expressions.specs.Meant.{binds_meant, meant, wanted_meant}
use Rattle.policy_meaning.specs.Environments.{Env, Setting, no_setting}
use Rattle.policy_meaning.specs.Finish.{Change, bind_names, finish_called, listing}
use Rattle.policy_meaning.specs.Functions.{expression}
use Rattle.policy_meaning.specs.Outcomes.{Out, Done, Ends, Stuck, ◌>>=◌}
use Rattle.policy_rules.specs.Calls.{longest_chain}
use Rattle.policy_rules.specs.Names.{Name}

-- more of a list, behind what is listed already
abbrev pub behind : List Change → Out (List Change) → Out (List Change)
behind front out = out >>= λ more turns. Done (front ++ more) turns

-- a list of one
abbrev pub one : Out Change → Out (List Change)
one out = out >>= λ c turns. Done (c ∷ []) turns

module _ (items : List Item) (rows : List Row) where
  -- a call of a finish function, in a chain of at most so many
  unfoldable pub finish_call : ℕ → Name → List Value → ℕ → Out (List Change)
  finish_call depth called values turns = finish_called items (expression items rows no_setting) depth called values turns

  module _ (setting : Setting) where
    -- a write or an effect
    abbrev pub change_listed : FinishStmt → Env → ℕ → Out Change
    change_listed (finish.Create fact keys values) env turns =
        binds_meant items rows setting longest_chain keys env turns >>= λ ks turns. created_of items fact ks (bind_names values) (binds_meant items rows setting longest_chain values env turns)
    change_listed (finish.Update p to) env turns =
        wanted_meant items rows setting longest_chain p env turns >>= λ old turns. updated_of items p.fact old (bind_names to) (binds_meant items rows setting longest_chain to env turns)
    change_listed (finish.Delete fact keys) env turns = deleted_of items fact (binds_meant items rows setting longest_chain keys env turns)
    change_listed (finish.Emit e) env turns = emitted_of (meant items rows setting longest_chain e env turns)
    change_listed (finish.Call called arguments) env turns = Ends Stuck

    module _ (depth : ℕ) where
      -- a statement of `finish`
      unfoldable pub stmt_listed : FinishStmt → Env → ℕ → Out (List Change)
      stmt_listed s env turns = listing items (expression items rows setting) (finish_called items (expression items rows no_setting) depth) s env turns

      -- statements one after another
      abbrev pub stmts_listed : List FinishStmt → Env → ℕ → Out (List Change)
      stmts_listed [] env turns = Done [] turns
      stmts_listed (s ∷ more) env turns = stmt_listed s env turns >>= λ first turns. stmts_listed more env turns >>= λ rest turns. Done (first ++ rest) turns
