use Rattle.std.proofs.Common.{◌&&◌}
use Rattle.std.specs.List.{list_all}
use Rattle.policy_rules.specs.Calls.{a_finish_function}
use Rattle.policy_rules.specs.Expressions.{value_part}
use Rattle.policy_depths.specs.working.Gathering.{call_passes, expression_passes, finish_passes, gap_passes}
use Rattle.policy_depths.proofs.Forms.{finish_call, finish_create, finish_delete, finish_emit, finish_update}
use Rattle.policy_depths.proofs.Gathering.{both_gather, same_gather}
use Rattle.policy_depths.proofs.statements.push_finish.Goals as goal

pub returns-in_ok-push_binds-in-Create : goal.returns-in_ok-push_binds-in-Create
returns-in_ok-push_binds-in-Create c =
    both_gather c.push_binds-in-Create.result c.args.numbers.now c.push_binds.new.numbers c.push_binds-in-Create.new.numbers
    (λ test. list_all (λ b. expression_passes c.args.heads.now test b.value) c.as_slice.result.now)
    (λ test. list_all (λ b. expression_passes c.args.heads.now test b.value) c.as_slice-in-Create.result.now)
    (λ test. finish_passes c.args.heads.now test c.args.s.now)
    (λ test. rw (c.as_slice.ensures, c.as_slice-in-Create.ensures) (finish_create c.args.heads.now test c.args.s.now c.in-Create.fact c.in-Create.keys c.in-Create.values c.in-Create.is))
    c.in_ok-push_binds-in-Create.ensures c.push_binds-in-Create.ensures

pub returns-in_ok-push_pattern-in-Update : goal.returns-in_ok-push_pattern-in-Update
returns-in_ok-push_pattern-in-Update c =
    both_gather c.push_binds-in-Update.result c.args.numbers.now c.push_pattern.new.numbers c.push_binds-in-Update.new.numbers
    (λ test. list_all (λ f. gap_passes c.args.heads.now test f.value) c.in-Update.from.keys && list_all (λ f. gap_passes c.args.heads.now test f.value) (value_part c.in-Update.from.values))
    (λ test. list_all (λ b. expression_passes c.args.heads.now test b.value) c.as_slice-in-Update.result.now)
    (λ test. finish_passes c.args.heads.now test c.args.s.now)
    (λ test. rw c.as_slice-in-Update.ensures (finish_update c.args.heads.now test c.args.s.now c.in-Update.from c.in-Update.to c.in-Update.is))
    c.in_ok-push_pattern-in-Update.ensures c.push_binds-in-Update.ensures

pub returns-in-Delete : goal.returns-in-Delete
returns-in-Delete c =
    same_gather c.push_binds-in-Delete.result c.args.numbers.now c.push_binds-in-Delete.new.numbers
    (λ test. list_all (λ b. expression_passes c.args.heads.now test b.value) c.as_slice-in-Delete.result.now) (λ test. finish_passes c.args.heads.now test c.args.s.now)
    (λ test. rw c.as_slice-in-Delete.ensures (finish_delete c.args.heads.now test c.args.s.now c.in-Delete.fact c.in-Delete.keys c.in-Delete.is))
    c.push_binds-in-Delete.ensures

pub returns-in-Emit : goal.returns-in-Emit
returns-in-Emit c =
    same_gather c.push_expression.result c.args.numbers.now c.push_expression.new.numbers
    (λ test. expression_passes c.args.heads.now test c.in-Emit.e) (λ test. finish_passes c.args.heads.now test c.args.s.now)
    (λ test. finish_emit c.args.heads.now test c.args.s.now c.in-Emit.e c.in-Emit.is)
    c.push_expression.ensures

pub returns-in_ok-push_finish_function-in-Call : goal.returns-in_ok-push_finish_function-in-Call
returns-in_ok-push_finish_function-in-Call c =
    both_gather c.push_expressions.result c.args.numbers.now c.push_finish_function.new.numbers c.push_expressions.new.numbers
    (λ test. call_passes c.args.heads.now test a_finish_function c.in-Call.name)
    (λ test. list_all (λ e. expression_passes c.args.heads.now test e) c.as_slice-in-Call.result.now)
    (λ test. finish_passes c.args.heads.now test c.args.s.now)
    (λ test. rw c.as_slice-in-Call.ensures (finish_call c.args.heads.now test c.args.s.now c.in-Call.name c.in-Call.arguments c.in-Call.is))
    c.in_ok-push_finish_function-in-Call.ensures c.push_expressions.ensures
