use Rattle.std.proofs.Common.{◌∙◌, ◌&&◌, sym, refl}
use Rattle.std.specs.List.{list_all}
use Rattle.policy_ast.specs.declared.statement.Stmt.TheVariants as stmt
use Rattle.policy_rules.specs.Expressions.{value_part}
use Rattle.policy_depths.specs.working.Gathering.{else_statement_passes, expression_passes, finish_passes, gap_passes, statement_passes}
use Rattle.policy_depths.proofs.Forms.{check_is, finish_is, if_is, let_is, map_is, match_is, publish_is, return_is}
use Rattle.policy_depths.proofs.Gathering.{both_gather, both_gather_so, same_gather}
use Rattle.policy_depths.proofs.statements.+statements.Goals as goal

pub push_statement-returns-in-Let : goal.push_statement-returns-in-Let
push_statement-returns-in-Let t c =
    same_gather c.push_expression.result c.args.numbers.now c.push_expression.new.numbers
    (λ test. expression_passes c.args.heads.now test c.in-Let.one.value) (λ test. statement_passes c.args.heads.now test c.args.s.now)
    (λ test. let_is c.args.heads.now test c.args.s.now c.in-Let.one (c.in-Let.is ∙ sym (stmt.rolls-Let c.in-Let.one)))
    c.push_expression.ensures

pub push_statement-returns-in-Check : goal.push_statement-returns-in-Check
push_statement-returns-in-Check t c =
    same_gather c.push_expression-in-Check.result c.args.numbers.now c.push_expression-in-Check.new.numbers
    (λ test. expression_passes c.args.heads.now test c.in-Check.e) (λ test. statement_passes c.args.heads.now test c.args.s.now)
    (λ test. check_is c.args.heads.now test c.args.s.now c.in-Check.e (c.in-Check.is ∙ sym (stmt.rolls-Check c.in-Check.e)))
    c.push_expression-in-Check.ensures

pub push_statement-returns-in-Publish : goal.push_statement-returns-in-Publish
push_statement-returns-in-Publish t c =
    same_gather c.push_expression-in-Publish.result c.args.numbers.now c.push_expression-in-Publish.new.numbers
    (λ test. expression_passes c.args.heads.now test c.in-Publish.e) (λ test. statement_passes c.args.heads.now test c.args.s.now)
    (λ test. publish_is c.args.heads.now test c.args.s.now c.in-Publish.e (c.in-Publish.is ∙ sym (stmt.rolls-Publish c.in-Publish.e)))
    c.push_expression-in-Publish.ensures

pub push_statement-returns-in-Return : goal.push_statement-returns-in-Return
push_statement-returns-in-Return t c =
    same_gather c.push_expression-in-Return.result c.args.numbers.now c.push_expression-in-Return.new.numbers
    (λ test. expression_passes c.args.heads.now test c.in-Return.e) (λ test. statement_passes c.args.heads.now test c.args.s.now)
    (λ test. return_is c.args.heads.now test c.args.s.now c.in-Return.e (c.in-Return.is ∙ sym (stmt.rolls-Return c.in-Return.e)))
    c.push_expression-in-Return.ensures

pub push_statement-returns-in_ok-push_expression-in-Match : goal.push_statement-returns-in_ok-push_expression-in-Match
push_statement-returns-in_ok-push_expression-in-Match t c =
    both_gather c.push_arms.result c.args.numbers.now c.push_expression-in-Match.new.numbers c.push_arms.new.numbers
    (λ test. expression_passes c.args.heads.now test c.in-Match.e)
    (λ test. list_all (λ a. list_all (λ s. statement_passes c.args.heads.now test s) a.body) c.as_slice-in-Match.result.now)
    (λ test. statement_passes c.args.heads.now test c.args.s.now)
    (λ test. rw c.as_slice-in-Match.ensures (match_is c.args.heads.now test c.args.s.now c.in-Match.e c.in-Match.arms (c.in-Match.is ∙ sym (stmt.rolls-Match c.in-Match.e c.in-Match.arms))))
    c.in_ok-push_expression-in-Match.ensures c.push_arms.ensures

pub push_statement-returns-in-Finish : goal.push_statement-returns-in-Finish
push_statement-returns-in-Finish t c =
    same_gather c.push_finishes.result c.args.numbers.now c.push_finishes.new.numbers
    (λ test. list_all (λ s. finish_passes c.args.heads.now test s) c.as_slice-in-Finish.result.now) (λ test. statement_passes c.args.heads.now test c.args.s.now)
    (λ test. rw c.as_slice-in-Finish.ensures (finish_is c.args.heads.now test c.args.s.now c.in-Finish.all (c.in-Finish.is ∙ sym (stmt.rolls-Finish c.in-Finish.all))))
    c.push_finishes.ensures

pub push_statement-returns-in_ok-push_pattern-in-Map : goal.push_statement-returns-in_ok-push_pattern-in-Map
push_statement-returns-in_ok-push_pattern-in-Map t c =
    both_gather c.push_statements-in-Map.result c.args.numbers.now c.push_pattern.new.numbers c.push_statements-in-Map.new.numbers
    (λ test. list_all (λ f. gap_passes c.args.heads.now test f.value) c.in-Map.p.keys && list_all (λ f. gap_passes c.args.heads.now test f.value) (value_part c.in-Map.p.values))
    (λ test. list_all (λ s. statement_passes c.args.heads.now test s) c.as_slice-in-Map.result.now)
    (λ test. statement_passes c.args.heads.now test c.args.s.now)
    (λ test. rw c.as_slice-in-Map.ensures (map_is c.args.heads.now test c.args.s.now c.in-Map.p c.in-Map.field-1 c.in-Map.body (c.in-Map.is ∙ sym (stmt.rolls-Map c.in-Map.p c.in-Map.field-1 c.in-Map.body))))
    c.in_ok-push_pattern-in-Map.ensures c.push_statements-in-Map.ensures

pub push_statement-returns-in_ok-push_statements-in-If : goal.push_statement-returns-in_ok-push_statements-in-If
push_statement-returns-in_ok-push_statements-in-If t c =
    both_gather c.push_else.result c.args.numbers.now c.push_statements.new.numbers c.push_else.new.numbers
    (λ test. expression_passes c.args.heads.now test c.in-If.x.head && list_all (λ s. statement_passes c.args.heads.now test s) c.as_slice.result.now)
    (λ test. else_statement_passes c.args.heads.now test c.in-If.x.otherwise)
    (λ test. statement_passes c.args.heads.now test c.args.s.now)
    (λ test. rw c.as_slice.ensures (if_is c.args.heads.now test c.args.s.now c.in-If.x (c.in-If.is ∙ sym (stmt.rolls-If c.in-If.x))))
    (both_gather_so c.args.numbers.now c.push_expression-in-If.new.numbers c.push_statements.new.numbers (λ test. expression_passes c.args.heads.now test c.in-If.x.head) (λ test. list_all (λ s. statement_passes c.args.heads.now test s) c.as_slice.result.now)
    (λ test. expression_passes c.args.heads.now test c.in-If.x.head && list_all (λ s. statement_passes c.args.heads.now test s) c.as_slice.result.now) (λ test. refl) c.in_ok-push_expression-in-If.ensures c.in_ok-push_statements-in-If.ensures)
    c.push_else.ensures
