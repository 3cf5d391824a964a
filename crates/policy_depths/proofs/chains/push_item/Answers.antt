use Rattle.std.specs.List.{list_all}
use Rattle.policy_rules.specs.Calls.{section_calls}
use Rattle.policy_depths.specs.working.Gathering.{call_passes, finish_passes, item_passes, statement_passes}
use Rattle.policy_depths.proofs.Forms.{action_is, command_is, finish_function_is, function_is}
use Rattle.policy_depths.proofs.Gathering.{same_gather}
use Rattle.policy_depths.proofs.chains.push_item.Goals as goal

pub returns-in-Command : goal.returns-in-Command
returns-in-Command c =
    same_gather c.push_sections.result c.args.numbers.now c.push_sections.new.numbers
    (λ test. list_all (section_calls (call_passes c.args.heads.now test)) c.as_slice.result.now) (λ test. item_passes c.args.heads.now test c.args.item.now)
    (λ test. rw c.as_slice.ensures (command_is c.args.heads.now test c.args.item.now c.in-Command.field-0 c.in-Command.sections c.in-Command.is))
    c.push_sections.ensures

pub returns-in-Function : goal.returns-in-Function
returns-in-Function c =
    same_gather c.push_statements.result c.args.numbers.now c.push_statements.new.numbers
    (λ test. list_all (λ s. statement_passes c.args.heads.now test s) c.as_slice-in-Function.result.now) (λ test. item_passes c.args.heads.now test c.args.item.now)
    (λ test. rw c.as_slice-in-Function.ensures (function_is c.args.heads.now test c.args.item.now c.in-Function.name c.in-Function.parameters c.in-Function.result c.in-Function.body c.in-Function.is))
    c.push_statements.ensures

pub returns-in-FinishFunction : goal.returns-in-FinishFunction
returns-in-FinishFunction c =
    same_gather c.push_finishes.result c.args.numbers.now c.push_finishes.new.numbers
    (λ test. list_all (λ s. finish_passes c.args.heads.now test s) c.as_slice-in-FinishFunction.result.now) (λ test. item_passes c.args.heads.now test c.args.item.now)
    (λ test. rw c.as_slice-in-FinishFunction.ensures (finish_function_is c.args.heads.now test c.args.item.now c.in-FinishFunction.name c.in-FinishFunction.parameters c.in-FinishFunction.body c.in-FinishFunction.is))
    c.push_finishes.ensures

pub returns-in-Action : goal.returns-in-Action
returns-in-Action c =
    same_gather c.push_statements-in-Action.result c.args.numbers.now c.push_statements-in-Action.new.numbers
    (λ test. list_all (λ s. statement_passes c.args.heads.now test s) c.as_slice-in-Action.result.now) (λ test. item_passes c.args.heads.now test c.args.item.now)
    (λ test. rw c.as_slice-in-Action.ensures (action_is c.args.heads.now test c.args.item.now c.in-Action.name c.in-Action.parameters c.in-Action.body c.in-Action.is))
    c.push_statements-in-Action.ensures
