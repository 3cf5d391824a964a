use Rattle.std.proofs.Common.{◌≡◌, ◌-◌, ◌∙◌, ap, arith, option_map, subst, sym}
use Rattle.std.proofs.lemmas.Bool.Decides.{nat_tests}
use Rattle.std.proofs.lemmas.Result.{err_from_is_err_and}
use Rattle.policy_ast.specs.declared.finish.FinishStmt.TheVariants as finish
use Rattle.policy_expressions.specs.Answers.{Leaves}
use Rattle.policy_eval.proofs.ListingForms.{other_listed}
use Rattle.policy_eval.proofs.ListingLoops.{call_enters, call_fails, call_names_none, call_on, call_too_deep, call_turnless, change_on, list_on, list_stops}
use Rattle.policy_eval.specs.working.Listing.{behind, change_listed, stmt_listed, stmts_listed}
use Rattle.policy_eval.specs.working.ListingSteps.{kept_parts}
use Rattle.policy_eval.proofs.finish.+list.Goals as goal

pub list_all-returns-in_err-list_one-clause-lists : goal.list_all-returns-in_err-list_one-clause-lists
list_all-returns-in_err-list_one-clause-lists g t c =
    let p = err_from_is_err_and c.from_residual.result c.from_residual.ensures.1 in
    rw (p.1, p.2) (list_stops c.args.known.now (g.F.FactBase.rows c.args.facts.now) c.args.setting.now c.args.depth c.args.statements.now c.args.changes.now c.args.env.now c.args.turns.now c.loop-s.invariant
    c.s-item.result c.loop-s-test.true c.s-item.is c.in_err-list_one.field-0.0 c.in_err-list_one.ensures.lists)

pub list_all-loop-s-preserved : goal.list_all-loop-s-preserved
list_all-loop-s-preserved g t c =
    list_on c.args.known.now (g.F.FactBase.rows c.args.facts.now) c.args.setting.now c.args.depth c.args.statements.now c.args.changes.now c.args.env.now c.args.turns.now c.loop-s.invariant
    c.s-item.result c.loop-s-test.true c.s-item.is c.list_one.new.changes c.list_one.new.env c.list_one.new.turns c.in_ok-list_one.ensures.lists c.in_ok-list_one.ensures.kept

pub list_call-returns-then-depth-eq0 : goal.list_call-returns-then-depth-eq0
list_call-returns-then-depth-eq0 g t c =
    call_too_deep c.args.known.now (g.F.FactBase.rows c.args.facts.now) c.args.changes.now c.args.depth c.args.name.now c.args.values c.args.turns.now (let is = c.if-depth-eq0.true in grind (arith, nat_tests))

pub list_call-returns-in_default : goal.list_call-returns-in_default
list_call-returns-in_default g t c =
    call_names_none c.args.known.now (g.F.FactBase.rows c.args.facts.now) c.args.changes.now c.args.depth c.args.name.now c.args.values c.args.turns.now (let is = c.if-depth-eq0.false in grind (arith, nat_tests))
    (sym c.finish_parts.ensures ∙ ap (option_map kept_parts) c.in_default.is)

pub list_call-returns-in_err-take_turn : goal.list_call-returns-in_err-take_turn
list_call-returns-in_err-take_turn g t c =
    let p = err_from_is_err_and c.from_residual.result c.from_residual.ensures.1 in
    rw (p.1, p.2, c.in_err-take_turn.ensures.1)
    (call_turnless c.args.known.now (g.F.FactBase.rows c.args.facts.now) c.args.changes.now c.args.depth c.args.name.now c.args.values c.args.turns.now (let is = c.if-depth-eq0.false in grind (arith, nat_tests))
    (kept_parts c.in-Some.callee) (sym c.finish_parts.ensures ∙ ap (option_map kept_parts) c.in-Some.is) c.in_err-take_turn.ensures.0)

pub list_call-returns : goal.list_call-returns
list_call-returns g t c =
    call_enters c.args.known.now (g.F.FactBase.rows c.args.facts.now) c.args.changes.now c.args.depth c.args.name.now c.args.values c.args.turns.now (let is = c.if-depth-eq0.false in grind (arith, nat_tests))
    (kept_parts c.in-Some.callee) (sym c.finish_parts.ensures ∙ ap (option_map kept_parts) c.in-Some.is) c.list_all.result c.list_all.new.changes c.in_ok-env.env c.take_turn.new.turns c.list_all.new.turns
    c.in_ok-take_turn.ensures c.in_ok-env.ensures
    (subst (λ setting. Leaves c.list_all.result c.list_all.new.changes c.list_all.new.turns
    (behind c.args.changes.now (stmts_listed c.args.known.now (g.F.FactBase.rows c.args.facts.now) setting (c.args.depth - 1) c.in-Some.callee.body.now c.in_ok-env.env c.take_turn.new.turns)))
    c.none-setting.ensures c.list_all.ensures.lists)

pub list_one-returns-in_err-values-in-Call-clause-lists : goal.list_one-returns-in_err-values-in-Call-clause-lists
list_one-returns-in_err-values-in-Call-clause-lists g t c =
    let p = err_from_is_err_and c.from_residual.result c.from_residual.ensures.1 in
    let is : c.args.s.now ≡ finish.Call c.in-Call.name c.as_slice.result.now = rw c.as_slice.ensures c.in-Call.is in
    rw (p.1, p.2, is) (call_fails c.args.known.now (g.F.FactBase.rows c.args.facts.now) c.args.setting.now c.args.depth c.in_err-values-in-Call.field-0.0 c.args.changes.now c.in-Call.name c.as_slice.result.now
    c.args.env.now c.args.turns.now c.in_err-values-in-Call.ensures.gives)

pub list_one-returns-in_ok-values-in-Call-clause-lists : goal.list_one-returns-in_ok-values-in-Call-clause-lists
list_one-returns-in_ok-values-in-Call-clause-lists g t c =
    let is : c.args.s.now ≡ finish.Call c.in-Call.name c.as_slice.result.now = rw c.as_slice.ensures c.in-Call.is in
    rw is (call_on c.args.known.now (g.F.FactBase.rows c.args.facts.now) c.args.setting.now c.args.depth c.list_call.result c.args.changes.now c.list_call.new.changes c.in-Call.name c.as_slice.result.now
    c.args.env.now c.in_ok-values-in-Call.values c.args.turns.now c.values_of.new.turns c.list_call.new.turns c.in_ok-values-in-Call.ensures.gives c.list_call.ensures)

pub list_one-returns-in_default-clause-lists : goal.list_one-returns-in_default-clause-lists
list_one-returns-in_default-clause-lists g t c =
    change_on c.push_change.result c.args.changes.now c.push_change.new.changes c.change-found.new.turns
    (stmt_listed c.args.known.now (g.F.FactBase.rows c.args.facts.now) c.args.setting.now c.args.depth c.args.s.now c.args.env.now c.args.turns.now)
    (change_listed c.args.known.now (g.F.FactBase.rows c.args.facts.now) c.args.setting.now c.args.s.now c.args.env.now c.args.turns.now)
    (other_listed c.args.known.now (g.F.FactBase.rows c.args.facts.now) c.args.setting.now c.args.depth c.args.env.now c.args.turns.now c.args.s.now c.in_default.not-Call)
    (c.push_change.ensures c.change-found.new.turns (change_listed c.args.known.now (g.F.FactBase.rows c.args.facts.now) c.args.setting.now c.args.s.now c.args.env.now c.args.turns.now) c.change-found.ensures.gives)
