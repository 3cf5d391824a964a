use Rattle.std.proofs.Common.{◌≡◌, ◌∙◌, ◌&&◌, Option, ap, arith, rules, sym}
use Rattle.std.proofs.lemmas.Result.{err_from_is_err_and}
use Rattle.policy_ast.specs.declared.statement.Else.{Else}
use Rattle.policy_ast.specs.declared.statement.Else.TheVariants as else_stmt
use Rattle.policy_ast.specs.declared.statement.Stmt.{Stmt}
use Rattle.policy_infer.proofs.StatementForms.{check_is, choice_is, finish_block_is, let_is, map_is, match_is, publish_is, return_is}
use Rattle.policy_infer.proofs.StatementLoops.{arm_stops, arms_begin, arms_end, arms_on, arms_test, as_else, branches_test, by_name, by_test, last_stops, map_fails, map_tests, stmt_stops, stmts_end, through, through_on}
use Rattle.policy_infer.specs.declared.refusal.Refusal.TheVariants as refusal
use Rattle.policy_infer.specs.working.Behind.{are_arms, are_stmts, behind, finishes, is_bool_of, is_else, mapped, matches_of, publishes_of, returns_of}
use Rattle.policy_infer.specs.working.Types.{type_of}
use Rattle.policy_rules.specs.Inference.{only_if}
use Rattle.std.specs.Prelude.{Some}
use Rattle.policy_infer.proofs.statements.+judge.Goals as goal

pub judge-returns-in-Let : goal.judge-returns-in-Let
judge-returns-in-Let t c =
    by_name c.args.heads.now c.args.context.now c.in-Let.one.name (behind c.args.heads.now c.args.context.now c.args.s.now) (type_of c.args.heads.now c.args.context.now c.in-Let.one.value) c.args.scope.now c.infer-found.new.scope c.introduce.new.scope c.introduce.result
    (ap (λ (s : Stmt). behind c.args.heads.now c.args.context.now s c.args.scope.now) c.in-Let.is ∙ let_is c.args.heads.now c.args.context.now c.args.scope.now c.in-Let.one)
    c.infer-found.ensures c.introduce.ensures.judged c.introduce.ensures.kept

pub judge-returns-in-Check : goal.judge-returns-in-Check
judge-returns-in-Check t c =
    by_test (behind c.args.heads.now c.args.context.now c.args.s.now) c.args.scope.now c.infer.new.scope c.check_of.result (is_bool_of (type_of c.args.heads.now c.args.context.now c.in-Check.e c.args.scope.now))
    (ap (λ (s : Stmt). behind c.args.heads.now c.args.context.now s c.args.scope.now) c.in-Check.is ∙ check_is c.args.heads.now c.args.context.now c.args.scope.now c.in-Check.e)
    (c.check_of.ensures (type_of c.args.heads.now c.args.context.now c.in-Check.e c.args.scope.now) c.infer.ensures.judged) c.infer.ensures.kept

pub judge-returns-in-If : goal.judge-returns-in-If
judge-returns-in-If t c =
    branches_test (behind c.args.heads.now c.args.context.now c.args.s.now) (are_stmts c.args.heads.now c.args.context.now c.as_slice.result.now) (is_else c.args.heads.now c.args.context.now c.in-If.x.otherwise) c.args.scope.now c.infer-in-If.new.scope c.judge_all-then.new.scope c.truncate.new.self
    c.judge_else-otherwise.new.scope c.truncate-in-If.new.self c.check_of-head.result c.judge_all-then.result c.judge_else-otherwise.result c.both_hold.result c.both_hold-in-If.result
    (is_bool_of (type_of c.args.heads.now c.args.context.now c.in-If.x.head c.args.scope.now)) c.len-outside.result
    ((ap (λ (s : Stmt). behind c.args.heads.now c.args.context.now s c.args.scope.now) c.in-If.is ∙ choice_is c.args.heads.now c.args.context.now c.args.scope.now c.in-If.x)
    ∙ ap (λ body. only_if (is_bool_of (type_of c.args.heads.now c.args.context.now c.in-If.x.head c.args.scope.now) && (are_stmts c.args.heads.now c.args.context.now body c.args.scope.now && is_else c.args.heads.now c.args.context.now c.in-If.x.otherwise c.args.scope.now)) (Some c.args.scope.now)) (sym c.as_slice.ensures))
    (c.check_of-head.ensures (type_of c.args.heads.now c.args.context.now c.in-If.x.head c.args.scope.now) c.infer-in-If.ensures.judged) c.infer-in-If.ensures.kept c.judge_all-then.ensures c.len-outside.ensures c.truncate.ensures
    c.judge_else-otherwise.ensures c.truncate-in-If.ensures c.both_hold.ensures c.both_hold-in-If.ensures

pub judge-returns-in-Match : goal.judge-returns-in-Match
judge-returns-in-Match t c =
    arms_test (behind c.args.heads.now c.args.context.now c.args.s.now) (are_arms c.args.heads.now c.args.context.now c.as_slice-arms.result.now) c.args.scope.now c.infer-found-in-Match.new.scope c.judge_arms-bodies.new.scope c.truncate-in-Match.new.self c.matches_of-head.result
    c.judge_arms-bodies.result c.both_hold-in-Match.result (matches_of c.args.heads.now c.as_slice-arms.result.now (type_of c.args.heads.now c.args.context.now c.in-Match.e c.args.scope.now)) c.len-outside-in-Match.result
    (ap (λ (s : Stmt). behind c.args.heads.now c.args.context.now s c.args.scope.now) (rw c.as_slice-arms.ensures c.in-Match.is) ∙ match_is c.args.heads.now c.args.context.now c.args.scope.now c.in-Match.e c.as_slice-arms.result.now)
    (c.matches_of-head.ensures (type_of c.args.heads.now c.args.context.now c.in-Match.e c.args.scope.now) c.infer-found-in-Match.ensures.judged) c.infer-found-in-Match.ensures.kept c.judge_arms-bodies.ensures c.len-outside-in-Match.ensures
    c.truncate-in-Match.ensures c.both_hold-in-Match.ensures

pub judge-returns-in-Finish : goal.judge-returns-in-Finish
judge-returns-in-Finish t c =
    by_test (behind c.args.heads.now c.args.context.now c.args.s.now) c.args.scope.now c.finishes.new.scope c.finishes.result (finishes c.args.heads.now c.args.context.now c.as_slice-in-Finish.result.now c.args.scope.now)
    (ap (λ (s : Stmt). behind c.args.heads.now c.args.context.now s c.args.scope.now) (rw c.as_slice-in-Finish.ensures c.in-Finish.is) ∙ finish_block_is c.args.heads.now c.args.context.now c.args.scope.now c.as_slice-in-Finish.result.now)
    c.finishes.ensures.judged c.finishes.ensures.kept

pub judge-returns-in-Publish : goal.judge-returns-in-Publish
judge-returns-in-Publish t c =
    by_test (behind c.args.heads.now c.args.context.now c.args.s.now) c.args.scope.now c.infer-found-in-Publish.new.scope c.publishes_of.result (publishes_of c.args.heads.now c.args.context.now (type_of c.args.heads.now c.args.context.now c.in-Publish.e c.args.scope.now))
    (ap (λ (s : Stmt). behind c.args.heads.now c.args.context.now s c.args.scope.now) c.in-Publish.is ∙ publish_is c.args.heads.now c.args.context.now c.args.scope.now c.in-Publish.e)
    (c.publishes_of.ensures (type_of c.args.heads.now c.args.context.now c.in-Publish.e c.args.scope.now) c.infer-found-in-Publish.ensures.judged) c.infer-found-in-Publish.ensures.kept

pub judge-returns-in-Return : goal.judge-returns-in-Return
judge-returns-in-Return t c =
    by_test (behind c.args.heads.now c.args.context.now c.args.s.now) c.args.scope.now c.infer-in-Return.new.scope c.returns_of.result (returns_of c.args.context.now (type_of c.args.heads.now c.args.context.now c.in-Return.e c.args.scope.now))
    (ap (λ (s : Stmt). behind c.args.heads.now c.args.context.now s c.args.scope.now) c.in-Return.is ∙ return_is c.args.heads.now c.args.context.now c.args.scope.now c.in-Return.e)
    (c.returns_of.ensures (type_of c.args.heads.now c.args.context.now c.in-Return.e c.args.scope.now) c.infer-in-Return.ensures.judged) c.infer-in-Return.ensures.kept

pub judge-returns-in_err-begin_map-in-Map : goal.judge-returns-in_err-begin_map-in-Map
judge-returns-in_err-begin_map-in-Map t c =
    let p = err_from_is_err_and c.from_residual.result c.from_residual.ensures.1 in
    rw (p.1, p.2)
    (map_fails (behind c.args.heads.now c.args.context.now c.args.s.now) (mapped c.args.heads.now c.args.context.now c.in-Map.p c.in-Map.name) (λ inner. only_if (are_stmts c.args.heads.now c.args.context.now c.in-Map.body inner) (Some c.args.scope.now)) c.args.scope.now c.begin_map.new.scope c.in_err-begin_map-in-Map.field-0.0
    (ap (λ (s : Stmt). behind c.args.heads.now c.args.context.now s c.args.scope.now) c.in-Map.is ∙ map_is c.args.heads.now c.args.context.now c.args.scope.now c.in-Map.p c.in-Map.name c.in-Map.body) c.in_err-begin_map-in-Map.ensures)

pub judge-returns-in_ok-begin_map-in-Map : goal.judge-returns-in_ok-begin_map-in-Map
judge-returns-in_ok-begin_map-in-Map t c =
    map_tests (behind c.args.heads.now c.args.context.now c.args.s.now) (mapped c.args.heads.now c.args.context.now c.in-Map.p c.in-Map.name) (are_stmts c.args.heads.now c.args.context.now c.as_slice-in-Map.result.now) c.args.scope.now c.begin_map.new.scope c.judge_all-result.new.scope c.truncate-in-Map.new.self
    c.judge_all-result.result c.len-outside-in-Map.result
    (ap (λ (s : Stmt). behind c.args.heads.now c.args.context.now s c.args.scope.now) (rw c.as_slice-in-Map.ensures c.in-Map.is) ∙ map_is c.args.heads.now c.args.context.now c.args.scope.now c.in-Map.p c.in-Map.name c.as_slice-in-Map.result.now)
    c.in_ok-begin_map-in-Map.ensures c.judge_all-result.ensures c.len-outside-in-Map.ensures c.truncate-in-Map.ensures

pub judge_all-loop-i-init : goal.judge_all-loop-i-init
judge_all-loop-i-init t c =
    through c.args.heads.now c.args.context.now c.args.body.now c.args.scope.now

pub judge_all-returns-in_err-judge : goal.judge_all-returns-in_err-judge
judge_all-returns-in_err-judge t c =
    let p = err_from_is_err_and c.from_residual.result c.from_residual.ensures.1 in
    rw (p.1, p.2) (stmt_stops c.args.heads.now c.args.context.now c.loop-i.invariant c.index-body-i.result c.in_err-judge.field-0.0 c.loop-i-test.true c.index-body-i.is c.in_err-judge.ensures)

pub judge_all-returns-then-is_misplaced : goal.judge_all-returns-then-is_misplaced
judge_all-returns-then-is_misplaced t c =
    (last_stops c.args.heads.now c.args.context.now c.loop-i.invariant c.index-body-i.result c.index-body-i-in-loop-i.result c.is_misplaced.result c.loop-i-test.true c.index-body-i.is c.index-body-i-in-loop-i.is
    c.in_ok-judge.ensures c.is_misplaced.ensures c.if-is_misplaced.true)

pub judge_all-loop-i-preserved : goal.judge_all-loop-i-preserved
judge_all-loop-i-preserved t c =
    through_on c.args.heads.now c.args.context.now c.loop-i.invariant c.index-body-i.result c.index-body-i-in-loop-i.result c.is_misplaced.result c.loop-i-test.true c.index-body-i.is c.index-body-i-in-loop-i.is
    c.in_ok-judge.ensures c.is_misplaced.ensures c.if-is_misplaced.false

pub judge_all-returns : goal.judge_all-returns
judge_all-returns t c =
    (stmts_end c.args.heads.now c.args.context.now c.loop-i.invariant (omega arith))

pub judge_else-loop-i-init : goal.judge_else-loop-i-init
judge_else-loop-i-init t c =
    through c.args.heads.now c.args.context.now c.as_slice-body.result.now c.args.scope.now

pub judge_else-returns-in_err-judge : goal.judge_else-returns-in_err-judge
judge_else-returns-in_err-judge t c =
    let there : ◌≡◌ {A = Option (Else Stmt)} c.args.x.now.otherwise (Some (else_stmt.Block c.in-Some-Block.body)) = search rules in
    let p = err_from_is_err_and c.from_residual.result c.from_residual.ensures.1 in
    rw (p.1, p.2, there, ← c.as_slice-body.ensures) (stmt_stops c.args.heads.now c.args.context.now c.loop-i.invariant c.index-body-i.result c.in_err-judge.field-0.0 c.loop-i-test.true c.index-body-i.is c.in_err-judge.ensures)

pub judge_else-returns-then-is_misplaced : goal.judge_else-returns-then-is_misplaced
judge_else-returns-then-is_misplaced t c =
    let there : ◌≡◌ {A = Option (Else Stmt)} c.args.x.now.otherwise (Some (else_stmt.Block c.in-Some-Block.body)) = search rules in
    rw (there, ← c.as_slice-body.ensures) (last_stops c.args.heads.now c.args.context.now c.loop-i.invariant c.index-body-i.result c.index-body-i-in-loop-i.result c.is_misplaced.result c.loop-i-test.true c.index-body-i.is c.index-body-i-in-loop-i.is
    c.in_ok-judge.ensures c.is_misplaced.ensures c.if-is_misplaced.true)

pub judge_else-loop-i-preserved : goal.judge_else-loop-i-preserved
judge_else-loop-i-preserved t c =
    through_on c.args.heads.now c.args.context.now c.loop-i.invariant c.index-body-i.result c.index-body-i-in-loop-i.result c.is_misplaced.result c.loop-i-test.true c.index-body-i.is c.index-body-i-in-loop-i.is
    c.in_ok-judge.ensures c.is_misplaced.ensures c.if-is_misplaced.false

pub judge_else-returns : goal.judge_else-returns
judge_else-returns t c =
    let there : ◌≡◌ {A = Option (Else Stmt)} c.args.x.now.otherwise (Some (else_stmt.Block c.in-Some-Block.body)) = search rules in
    rw (there, ← c.as_slice-body.ensures) (stmts_end c.args.heads.now c.args.context.now c.loop-i.invariant (omega arith))

pub judge_else-returns-in-Some-If : goal.judge_else-returns-in-Some-If
judge_else-returns-in-Some-If t c =
    let there : ◌≡◌ {A = Option (Else Stmt)} c.args.x.now.otherwise (Some (else_stmt.If c.in-Some-If.s)) = search rules in
    rw (there, ← c.get.ensures) (as_else c.args.heads.now c.args.context.now c.get.result.now c.args.scope.now c.judge.new.scope c.judge.result c.judge.ensures)

pub judge_arms-loop-arm-init : goal.judge_arms-loop-arm-init
judge_arms-loop-arm-init t c =
    arms_begin c.args.heads.now c.args.context.now c.args.arms.now c.args.scope.now

pub judge_arms-loop-i-init : goal.judge_arms-loop-i-init
judge_arms-loop-i-init t c =
    through c.args.heads.now c.args.context.now c.as_slice-body.result.now c.loop-arm.scope

pub judge_arms-returns-in_err-judge : goal.judge_arms-returns-in_err-judge
judge_arms-returns-in_err-judge t c =
    let p = err_from_is_err_and c.from_residual.result c.from_residual.ensures.1 in
    rw (p.1, p.2)
    (arm_stops c.args.heads.now c.args.context.now c.loop-arm.invariant c.arm-item.result c.in_err-judge.field-0.0 c.loop-arm-test.true c.arm-item.is
    (rw (← c.as_slice-body.ensures) (stmt_stops c.args.heads.now c.args.context.now c.loop-i.invariant c.index-body-i.result c.in_err-judge.field-0.0 c.loop-i-test.true c.index-body-i.is c.in_err-judge.ensures)))

pub judge_arms-returns-then-is_misplaced : goal.judge_arms-returns-then-is_misplaced
judge_arms-returns-then-is_misplaced t c =
    arm_stops c.args.heads.now c.args.context.now c.loop-arm.invariant c.arm-item.result refusal.IllTyped c.loop-arm-test.true c.arm-item.is
    (rw (← c.as_slice-body.ensures) (last_stops c.args.heads.now c.args.context.now c.loop-i.invariant c.index-body-i.result c.index-body-i-in-loop-i.result c.is_misplaced.result c.loop-i-test.true c.index-body-i.is c.index-body-i-in-loop-i.is
    c.in_ok-judge.ensures c.is_misplaced.ensures c.if-is_misplaced.true))

pub judge_arms-loop-i-preserved : goal.judge_arms-loop-i-preserved
judge_arms-loop-i-preserved t c =
    through_on c.args.heads.now c.args.context.now c.loop-i.invariant c.index-body-i.result c.index-body-i-in-loop-i.result c.is_misplaced.result c.loop-i-test.true c.index-body-i.is c.index-body-i-in-loop-i.is
    c.in_ok-judge.ensures c.is_misplaced.ensures c.if-is_misplaced.false

pub judge_arms-loop-arm-preserved : goal.judge_arms-loop-arm-preserved
judge_arms-loop-arm-preserved t c =
    arms_on c.args.heads.now c.args.context.now c.loop-arm.invariant c.arm-item.result c.len-outside.result c.loop-arm-test.true c.arm-item.is
    (rw (← c.as_slice-body.ensures) (stmts_end c.args.heads.now c.args.context.now c.loop-i.invariant (omega arith))) c.len-outside.ensures c.truncate.ensures

pub judge_arms-returns : goal.judge_arms-returns
judge_arms-returns t c =
    arms_end c.args.heads.now c.args.context.now c.loop-arm.invariant (omega arith)
