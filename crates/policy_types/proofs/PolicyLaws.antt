-- The laws over policies, from what is proved over their items.
use Rattle.std.proofs.Common.{ℕ, List, refl, sym, ◌∙◌}
use Rattle.base_bytes.proofs.Bools.{and_then}
use Rattle.base_bytes.specs.declared.value.Value.{Value}
use Rattle.fact_store.specs.declared.row.Row.{Row}
use Rattle.policy_ast.specs.declared.policy.PlacedItem.{PlacedItem}
use Rattle.policy_meaning.specs.Applying.{Ended, Passes, Checks, Faults, Sticks}
use Rattle.policy_meaning.specs.Blocks.{policy_block, recall_block}
use Rattle.policy_meaning.specs.Commands.{judged_by}
use Rattle.policy_meaning.specs.Functions.{called}
use Rattle.policy_meaning.specs.Expressions.{meaning}
use Rattle.policy_meaning.specs.Typed.{AreTyped, IsActionOf, IsCommandOf}
use Rattle.policy_meaning.specs.declared.call.Call.{Call}
use Rattle.policy_rules.specs.Calls.{chain_within, gaps_call, longest_chain}
use Rattle.policy_rules.specs.Expressions.{value_part}
use Rattle.policy_rules.specs.WellTyped.{IsWellTyped, items_of}
use Rattle.policy_types.proofs.Actions.{actions_act_well, commands_are_published}
use Rattle.policy_types.proofs.Blocks.{blocks_end_well, command_lists}
use Rattle.policy_types.proofs.Expressions.{gives, gives_wanted}
use Rattle.policy_types.proofs.Functions.{keeps_called}
use Rattle.policy_types.proofs.Layouts.{gaps_bound, gaps_in}
use Rattle.policy_types.proofs.Rows.{AreRows}
use Rattle.policy_types.specs.EndsWell.{EndsWell, JudgedWell}
use Rattle.policy_types.specs.Fitting.{IsId}
use Rattle.policy_types.specs.NeverStuck.{ActionsGoWell, BlocksEndWell, ExpressionsGive, FinishLists, FunctionsGive, PatternsAsk}

module _ (policy : List PlacedItem) (well : IsWellTyped policy) where
  -- typed facts are typed for the items
  are_rows : (rows : List Row) → AreTyped policy rows → AreRows (items_of policy) rows
  unfolding AreTyped
  are_rows rows typed = typed

  pub expressions_give : ExpressionsGive policy
  expressions_give context scope e t p calls rows setting env stands turns =
      let typed = are_rows rows stands.facts in
      gives (items_of policy) well rows typed context setting stands.suits (chain_within (items_of policy) longest_chain) (called (items_of policy) rows longest_chain)
      (keeps_called (items_of policy) well rows typed longest_chain) p calls env stands.names turns

  pub patterns_ask : PatternsAsk policy
  patterns_ask context scope p is calls rows setting env stands turns =
      let typed = are_rows rows stands.facts in
      let may = chain_within (items_of policy) longest_chain in
      let says = meaning (items_of policy) rows setting (called (items_of policy) rows longest_chain) in
      and_then (gaps_call may p.keys) (gaps_call may (value_part p.values)) calls (λ ks vs.
      rw (gaps_in says p.keys, gaps_in says (value_part p.values))
      (gives_wanted (items_of policy) well rows typed context setting stands.suits may (called (items_of policy) rows longest_chain) (keeps_called (items_of policy) well rows typed longest_chain) is
      (sym (gaps_bound may p.keys) ∙ ks) (sym (gaps_bound may (value_part p.values)) ∙ vs) env stands.names turns))

  pub functions_give : FunctionsGive policy
  functions_give name function is depth may rows typed arguments are turns = keeps_called (items_of policy) well rows (are_rows rows typed) depth name function arguments turns may is are

  pub finish_lists : FinishLists policy
  finish_lists command scope statements are calls rows setting env stands turns =
      command_lists (items_of policy) well rows (are_rows rows stands.facts) command setting stands.suits refl scope statements are calls env stands.names turns

  -- what a command comes to, by how its blocks end
  judged_well : (first second : Ended) → EndsWell policy first → EndsWell policy second → JudgedWell policy (judged_by first second)
  judged_well (Passes rows effects) second is is_too = is
  judged_well (Checks recall) (Passes rows effects) is is_too = is_too
  judged_well (Checks recall) (Checks other) is is_too = tt
  judged_well (Checks recall) (Faults kind) is is_too = tt
  judged_well (Checks recall) Sticks is is_too = is_too
  judged_well (Faults kind) second is is_too = tt
  judged_well Sticks second is is_too = is

  pub blocks_end : (call : Call) (rows : List Row) → IsCommandOf policy call.command call.fields → IsId call.author → IsId call.id → AreTyped policy rows → BlocksEndWell policy call rows
  blocks_end call rows is author id typed = let both = blocks_end_well policy well call is author id rows typed in
      record { policy_block = both.0; recall_block = both.1; command = judged_well (policy_block policy call rows) (recall_block policy call rows) both.0 both.1 }

  pub actions_go : (action : ℕ) (arguments : List Value) (device : List ℕ) (rows : List Row) → IsActionOf policy action arguments → IsId device → AreTyped policy rows
      → ActionsGoWell policy action arguments device rows
  actions_go action arguments device rows is is_device typed = record {
    acts = λ answers are. actions_act_well policy well action arguments is device is_device rows typed answers are;
    publishes = λ postings end are acts. commands_are_published policy well action arguments is device is_device rows typed postings are end acts;
  }
