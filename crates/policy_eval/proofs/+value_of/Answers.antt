use Rattle.std.proofs.Common.{◌∙◌, ◌+◌, ◌-◌, ◌<◌, true, false, Some, length, refl, sym, ap, subst, arith}
use Rattle.std.proofs.lemmas.Result.{err_from_is_err_and}
use Rattle.policy_ast.specs.declared.expr.Expr.{Expr}
use Rattle.policy_ast.specs.declared.statement.Stmt.{Stmt}
use Rattle.policy_eval.proofs.Evaluating.{by_next, by_none, by_one, by_second, first_stops, test_ends, test_goes, test_stops}
use Rattle.policy_eval.proofs.Flows.{body_among, called_on}
use Rattle.policy_eval.specs.working.Endings.{Runs}
use Rattle.policy_eval.proofs.Loops.{free_meant, free_step, let_stops, turn_stops, value_gap}
use Rattle.policy_eval.proofs.RoomForms.{and_room, arguments_fall, binds_fall, block_falls, block_takes, calculation_room, call_falls, call_takes, check_room, choice_room, compare_room, count_room, else_falls, else_stmt_takes, else_takes, exists_room, field_room, first_falls, gap_falls, head_falls, if_body_falls, if_head_falls, if_rest_falls, if_room, item_falls, let_falls, let_stmt_room, match_body_falls, match_head_falls, match_room, only_falls, or_room, body_falls, pattern_takes, presence_room, query_room, return_room, second_falls, some_room, struct_room, unary_room}
use Rattle.policy_eval.proofs.Running.{Lists, all_through, arm_goes, arm_stops, by_itself, by_let, by_value, head_goes, head_stops, through_ends, through_on}
use Rattle.policy_eval.specs.working.Rooms.{arm_room, bind_room, call_room, free_room, let_room, room, stmt_room, total}
use Rattle.policy_eval.specs.working.Steps.{checked_of, let_of, return_of}
use Rattle.policy_expressions.proofs.FormMeanings.{and_meant, calculation_meant, call_meant, choice_meant, compare_meant, count_meant, exists_meant, field_meant, foreign_call_meant, literal_meant, name_meant, none_meant, or_meant, presence_meant, query_meant, some_meant, struct_meant, this_meant, unary_meant}
use Rattle.policy_expressions.proofs.StatementMeanings.{check_does, choice_does, finish_does, let_does, map_does, match_does, publish_does, return_does}
use Rattle.policy_expressions.specs.Forms.{calculation_of, compare_of, count_of, exists_of, field_of, pattern_of, presence_of, query_of, some_of, struct_of, unary_of}
use Rattle.policy_expressions.specs.Meant.{arm_meant, block_meant, else_meant, else_stmt_meant, gaps_meant, meant, stmt_meant, stmts_meant, wanted_meant}
use Rattle.policy_meaning.specs.Arms.{first_body}
use Rattle.policy_meaning.specs.Environments.{foreign_value, literal_value, name_value}
use Rattle.policy_meaning.specs.Expressions.{decided}
use Rattle.policy_meaning.specs.Finish.{bind_names}
use Rattle.policy_meaning.specs.Functions.{called}
use Rattle.policy_meaning.specs.Outcomes.{Done, ◌>>=◌, or_stuck}
use Rattle.policy_meaning.specs.Statements.{within}
use Rattle.policy_rules.specs.Expressions.{value_part}
use Rattle.base_bytes.specs.declared.value.Value.TheVariants as value
use Rattle.policy_eval.proofs.+value_of.Goals as goal

pub expressions::value_of-value_of-first-requires : goal.expressions::value_of-value_of-first-requires
expressions::value_of-value_of-first-requires g t c κs within =
    let falls : (room (call_room c.args.known.now c.args.depth) c.get-a.result.now) < (room (call_room c.args.known.now c.args.depth) c.args.e.now) = first_falls (room (call_room c.args.known.now c.args.depth) c.get-a.result.now) (room (call_room c.args.known.now c.args.depth) c.get-b.result.now) (room (call_room c.args.known.now c.args.depth) c.args.e.now) (ap (room (call_room c.args.known.now c.args.depth)) (rw (c.get-a.ensures, c.get-b.ensures) c.in-Or.is) ∙ or_room (call_room c.args.known.now c.args.depth) c.get-a.result.now c.get-b.result.now) in
    (omega arith, within)

pub expressions::value_of-returns-in_err-test-in-Or : goal.expressions::value_of-returns-in_err-test-in-Or
expressions::value_of-returns-in_err-test-in-Or g t c =
    let p = err_from_is_err_and c.from_residual.result c.from_residual.ensures.1 in
    rw (p.1, p.2)
    (test_stops (meant c.args.known.now (g.F.FactBase.rows c.args.facts.now) c.args.setting.now c.args.depth c.args.e.now) c.args.env.now c.args.turns.now (decided true) (meant c.args.known.now (g.F.FactBase.rows c.args.facts.now) c.args.setting.now c.args.depth c.get-b.result.now c.args.env.now) (ap (λ (e : Expr). meant c.args.known.now (g.F.FactBase.rows c.args.facts.now) c.args.setting.now c.args.depth e c.args.env.now c.args.turns.now) (rw (c.get-a.ensures, c.get-b.ensures) c.in-Or.is) ∙ or_meant c.args.known.now (g.F.FactBase.rows c.args.facts.now) c.args.setting.now c.args.depth c.args.env.now c.args.turns.now c.get-a.result.now c.get-b.result.now) c.value_of-first.ensures c.in_err-test-in-Or.field-0.0 c.in_err-test-in-Or.ensures)

pub expressions::value_of-returns-then-test : goal.expressions::value_of-returns-then-test
expressions::value_of-returns-then-test g t c =
    test_ends (meant c.args.known.now (g.F.FactBase.rows c.args.facts.now) c.args.setting.now c.args.depth c.args.e.now) c.args.env.now c.args.turns.now (decided true) (meant c.args.known.now (g.F.FactBase.rows c.args.facts.now) c.args.setting.now c.args.depth c.get-b.result.now c.args.env.now) (ap (λ (e : Expr). meant c.args.known.now (g.F.FactBase.rows c.args.facts.now) c.args.setting.now c.args.depth e c.args.env.now c.args.turns.now) (rw (c.get-a.ensures, c.get-b.ensures) c.in-Or.is) ∙ or_meant c.args.known.now (g.F.FactBase.rows c.args.facts.now) c.args.setting.now c.args.depth c.args.env.now c.args.turns.now c.get-a.result.now c.get-b.result.now) c.value_of-first.ensures c.in_ok-test-in-Or.test true (value.Bool true) c.if-test.true c.in_ok-test-in-Or.ensures (λ n. refl)

pub expressions::value_of-value_of-requires : goal.expressions::value_of-value_of-requires
expressions::value_of-value_of-requires g t c κs within =
    let falls : (room (call_room c.args.known.now c.args.depth) c.get-b.result.now) < (room (call_room c.args.known.now c.args.depth) c.args.e.now) = second_falls (room (call_room c.args.known.now c.args.depth) c.get-a.result.now) (room (call_room c.args.known.now c.args.depth) c.get-b.result.now) (room (call_room c.args.known.now c.args.depth) c.args.e.now) (ap (room (call_room c.args.known.now c.args.depth)) (rw (c.get-a.ensures, c.get-b.ensures) c.in-Or.is) ∙ or_room (call_room c.args.known.now c.args.depth) c.get-a.result.now c.get-b.result.now) in
    (omega arith, within)

pub expressions::value_of-returns-else-test : goal.expressions::value_of-returns-else-test
expressions::value_of-returns-else-test g t c =
    test_goes (meant c.args.known.now (g.F.FactBase.rows c.args.facts.now) c.args.setting.now c.args.depth c.args.e.now) c.args.env.now c.args.turns.now (decided true) (meant c.args.known.now (g.F.FactBase.rows c.args.facts.now) c.args.setting.now c.args.depth c.get-b.result.now c.args.env.now) (ap (λ (e : Expr). meant c.args.known.now (g.F.FactBase.rows c.args.facts.now) c.args.setting.now c.args.depth e c.args.env.now c.args.turns.now) (rw (c.get-a.ensures, c.get-b.ensures) c.in-Or.is) ∙ or_meant c.args.known.now (g.F.FactBase.rows c.args.facts.now) c.args.setting.now c.args.depth c.args.env.now c.args.turns.now c.get-a.result.now c.get-b.result.now) c.value_of-first.ensures c.in_ok-test-in-Or.test false c.if-test.false c.in_ok-test-in-Or.ensures (λ n. refl) c.value_of.ensures

pub expressions::value_of-value_of-first-requires-in-And : goal.expressions::value_of-value_of-first-requires-in-And
expressions::value_of-value_of-first-requires-in-And g t c κs within =
    let falls : (room (call_room c.args.known.now c.args.depth) c.get-a-in-And.result.now) < (room (call_room c.args.known.now c.args.depth) c.args.e.now) = first_falls (room (call_room c.args.known.now c.args.depth) c.get-a-in-And.result.now) (room (call_room c.args.known.now c.args.depth) c.get-b-in-And.result.now) (room (call_room c.args.known.now c.args.depth) c.args.e.now) (ap (room (call_room c.args.known.now c.args.depth)) (rw (c.get-a-in-And.ensures, c.get-b-in-And.ensures) c.in-And.is) ∙ and_room (call_room c.args.known.now c.args.depth) c.get-a-in-And.result.now c.get-b-in-And.result.now) in
    (omega arith, within)

pub expressions::value_of-returns-in_err-test-in-And : goal.expressions::value_of-returns-in_err-test-in-And
expressions::value_of-returns-in_err-test-in-And g t c =
    let p = err_from_is_err_and c.from_residual-in_err-test-in-And.result c.from_residual-in_err-test-in-And.ensures.1 in
    rw (p.1, p.2)
    (test_stops (meant c.args.known.now (g.F.FactBase.rows c.args.facts.now) c.args.setting.now c.args.depth c.args.e.now) c.args.env.now c.args.turns.now (meant c.args.known.now (g.F.FactBase.rows c.args.facts.now) c.args.setting.now c.args.depth c.get-b-in-And.result.now c.args.env.now) (decided false) (ap (λ (e : Expr). meant c.args.known.now (g.F.FactBase.rows c.args.facts.now) c.args.setting.now c.args.depth e c.args.env.now c.args.turns.now) (rw (c.get-a-in-And.ensures, c.get-b-in-And.ensures) c.in-And.is) ∙ and_meant c.args.known.now (g.F.FactBase.rows c.args.facts.now) c.args.setting.now c.args.depth c.args.env.now c.args.turns.now c.get-a-in-And.result.now c.get-b-in-And.result.now) c.value_of-first-in-And.ensures c.in_err-test-in-And.field-0.0 c.in_err-test-in-And.ensures)

pub expressions::value_of-value_of-requires-then-test-2 : goal.expressions::value_of-value_of-requires-then-test-2
expressions::value_of-value_of-requires-then-test-2 g t c κs within =
    let falls : (room (call_room c.args.known.now c.args.depth) c.get-b-in-And.result.now) < (room (call_room c.args.known.now c.args.depth) c.args.e.now) = second_falls (room (call_room c.args.known.now c.args.depth) c.get-a-in-And.result.now) (room (call_room c.args.known.now c.args.depth) c.get-b-in-And.result.now) (room (call_room c.args.known.now c.args.depth) c.args.e.now) (ap (room (call_room c.args.known.now c.args.depth)) (rw (c.get-a-in-And.ensures, c.get-b-in-And.ensures) c.in-And.is) ∙ and_room (call_room c.args.known.now c.args.depth) c.get-a-in-And.result.now c.get-b-in-And.result.now) in
    (omega arith, within)

pub expressions::value_of-returns-then-test-2 : goal.expressions::value_of-returns-then-test-2
expressions::value_of-returns-then-test-2 g t c =
    test_goes (meant c.args.known.now (g.F.FactBase.rows c.args.facts.now) c.args.setting.now c.args.depth c.args.e.now) c.args.env.now c.args.turns.now (meant c.args.known.now (g.F.FactBase.rows c.args.facts.now) c.args.setting.now c.args.depth c.get-b-in-And.result.now c.args.env.now) (decided false) (ap (λ (e : Expr). meant c.args.known.now (g.F.FactBase.rows c.args.facts.now) c.args.setting.now c.args.depth e c.args.env.now c.args.turns.now) (rw (c.get-a-in-And.ensures, c.get-b-in-And.ensures) c.in-And.is) ∙ and_meant c.args.known.now (g.F.FactBase.rows c.args.facts.now) c.args.setting.now c.args.depth c.args.env.now c.args.turns.now c.get-a-in-And.result.now c.get-b-in-And.result.now) c.value_of-first-in-And.ensures c.in_ok-test-in-And.test true c.if-test-2.true c.in_ok-test-in-And.ensures (λ n. refl) c.value_of-then-test-2.ensures

pub expressions::value_of-returns-else-test-2 : goal.expressions::value_of-returns-else-test-2
expressions::value_of-returns-else-test-2 g t c =
    test_ends (meant c.args.known.now (g.F.FactBase.rows c.args.facts.now) c.args.setting.now c.args.depth c.args.e.now) c.args.env.now c.args.turns.now (meant c.args.known.now (g.F.FactBase.rows c.args.facts.now) c.args.setting.now c.args.depth c.get-b-in-And.result.now c.args.env.now) (decided false) (ap (λ (e : Expr). meant c.args.known.now (g.F.FactBase.rows c.args.facts.now) c.args.setting.now c.args.depth e c.args.env.now c.args.turns.now) (rw (c.get-a-in-And.ensures, c.get-b-in-And.ensures) c.in-And.is) ∙ and_meant c.args.known.now (g.F.FactBase.rows c.args.facts.now) c.args.setting.now c.args.depth c.args.env.now c.args.turns.now c.get-a-in-And.result.now c.get-b-in-And.result.now) c.value_of-first-in-And.ensures c.in_ok-test-in-And.test false (value.Bool false) c.if-test-2.false c.in_ok-test-in-And.ensures (λ n. refl)

pub expressions::value_of-value_of-requires-in-Compare : goal.expressions::value_of-value_of-requires-in-Compare
expressions::value_of-value_of-requires-in-Compare g t c κs within =
    let falls : (room (call_room c.args.known.now c.args.depth) c.get-a-in-Compare.result.now) < (room (call_room c.args.known.now c.args.depth) c.args.e.now) = first_falls (room (call_room c.args.known.now c.args.depth) c.get-a-in-Compare.result.now) (room (call_room c.args.known.now c.args.depth) c.get-b-in-Compare.result.now) (room (call_room c.args.known.now c.args.depth) c.args.e.now) (ap (room (call_room c.args.known.now c.args.depth)) (rw (c.get-a-in-Compare.ensures, c.get-b-in-Compare.ensures) c.in-Compare.is) ∙ compare_room (call_room c.args.known.now c.args.depth) c.get-a-in-Compare.result.now c.in-Compare.op c.get-b-in-Compare.result.now) in
    (omega arith, within)

pub expressions::value_of-returns-in_err-first-in-Compare : goal.expressions::value_of-returns-in_err-first-in-Compare
expressions::value_of-returns-in_err-first-in-Compare g t c =
    let p = err_from_is_err_and c.from_residual-in_err-first-in-Compare.result c.from_residual-in_err-first-in-Compare.ensures.1 in
    rw (p.1, p.2)
    (first_stops (meant c.args.known.now (g.F.FactBase.rows c.args.facts.now) c.args.setting.now c.args.depth c.args.e.now) c.args.env.now c.args.turns.now c.in_err-first-in-Compare.field-0.0 (λ v n. compare_of c.in-Compare.op v (meant c.args.known.now (g.F.FactBase.rows c.args.facts.now) c.args.setting.now c.args.depth c.get-b-in-Compare.result.now c.args.env.now n)) (ap (λ (e : Expr). meant c.args.known.now (g.F.FactBase.rows c.args.facts.now) c.args.setting.now c.args.depth e c.args.env.now c.args.turns.now) (rw (c.get-a-in-Compare.ensures, c.get-b-in-Compare.ensures) c.in-Compare.is) ∙ compare_meant c.args.known.now (g.F.FactBase.rows c.args.facts.now) c.args.setting.now c.args.depth c.args.env.now c.args.turns.now c.get-a-in-Compare.result.now c.in-Compare.op c.get-b-in-Compare.result.now) c.in_err-first-in-Compare.ensures)

pub expressions::value_of-value_of-second-requires : goal.expressions::value_of-value_of-second-requires
expressions::value_of-value_of-second-requires g t c κs within =
    let falls : (room (call_room c.args.known.now c.args.depth) c.get-b-in-Compare.result.now) < (room (call_room c.args.known.now c.args.depth) c.args.e.now) = second_falls (room (call_room c.args.known.now c.args.depth) c.get-a-in-Compare.result.now) (room (call_room c.args.known.now c.args.depth) c.get-b-in-Compare.result.now) (room (call_room c.args.known.now c.args.depth) c.args.e.now) (ap (room (call_room c.args.known.now c.args.depth)) (rw (c.get-a-in-Compare.ensures, c.get-b-in-Compare.ensures) c.in-Compare.is) ∙ compare_room (call_room c.args.known.now c.args.depth) c.get-a-in-Compare.result.now c.in-Compare.op c.get-b-in-Compare.result.now) in
    (omega arith, within)

pub expressions::value_of-returns-in_ok-first-in-Compare : goal.expressions::value_of-returns-in_ok-first-in-Compare
expressions::value_of-returns-in_ok-first-in-Compare g t c =
    by_second (meant c.args.known.now (g.F.FactBase.rows c.args.facts.now) c.args.setting.now c.args.depth c.args.e.now) c.args.env.now c.args.turns.now c.in_ok-first-in-Compare.first (compare_of c.in-Compare.op) (ap (λ (e : Expr). meant c.args.known.now (g.F.FactBase.rows c.args.facts.now) c.args.setting.now c.args.depth e c.args.env.now c.args.turns.now) (rw (c.get-a-in-Compare.ensures, c.get-b-in-Compare.ensures) c.in-Compare.is) ∙ compare_meant c.args.known.now (g.F.FactBase.rows c.args.facts.now) c.args.setting.now c.args.depth c.args.env.now c.args.turns.now c.get-a-in-Compare.result.now c.in-Compare.op c.get-b-in-Compare.result.now) c.in_ok-first-in-Compare.ensures c.value_of-second.ensures c.compare_of.ensures

pub expressions::value_of-value_of-requires-in-Arithmetic : goal.expressions::value_of-value_of-requires-in-Arithmetic
expressions::value_of-value_of-requires-in-Arithmetic g t c κs within =
    let falls : (room (call_room c.args.known.now c.args.depth) c.get-a-in-Arithmetic.result.now) < (room (call_room c.args.known.now c.args.depth) c.args.e.now) = first_falls (room (call_room c.args.known.now c.args.depth) c.get-a-in-Arithmetic.result.now) (room (call_room c.args.known.now c.args.depth) c.get-b-in-Arithmetic.result.now) (room (call_room c.args.known.now c.args.depth) c.args.e.now) (ap (room (call_room c.args.known.now c.args.depth)) (rw (c.get-a-in-Arithmetic.ensures, c.get-b-in-Arithmetic.ensures) c.in-Arithmetic.is) ∙ calculation_room (call_room c.args.known.now c.args.depth) c.in-Arithmetic.op c.get-a-in-Arithmetic.result.now c.get-b-in-Arithmetic.result.now) in
    (omega arith, within)

pub expressions::value_of-returns-in_err-first-in-Arithmetic : goal.expressions::value_of-returns-in_err-first-in-Arithmetic
expressions::value_of-returns-in_err-first-in-Arithmetic g t c =
    let p = err_from_is_err_and c.from_residual-in_err-first-in-Arithmetic.result c.from_residual-in_err-first-in-Arithmetic.ensures.1 in
    rw (p.1, p.2)
    (first_stops (meant c.args.known.now (g.F.FactBase.rows c.args.facts.now) c.args.setting.now c.args.depth c.args.e.now) c.args.env.now c.args.turns.now c.in_err-first-in-Arithmetic.field-0.0 (λ v n. calculation_of c.in-Arithmetic.op v (meant c.args.known.now (g.F.FactBase.rows c.args.facts.now) c.args.setting.now c.args.depth c.get-b-in-Arithmetic.result.now c.args.env.now n)) (ap (λ (e : Expr). meant c.args.known.now (g.F.FactBase.rows c.args.facts.now) c.args.setting.now c.args.depth e c.args.env.now c.args.turns.now) (rw (c.get-a-in-Arithmetic.ensures, c.get-b-in-Arithmetic.ensures) c.in-Arithmetic.is) ∙ calculation_meant c.args.known.now (g.F.FactBase.rows c.args.facts.now) c.args.setting.now c.args.depth c.args.env.now c.args.turns.now c.in-Arithmetic.op c.get-a-in-Arithmetic.result.now c.get-b-in-Arithmetic.result.now) c.in_err-first-in-Arithmetic.ensures)

pub expressions::value_of-value_of-second-requires-in-Arithmetic : goal.expressions::value_of-value_of-second-requires-in-Arithmetic
expressions::value_of-value_of-second-requires-in-Arithmetic g t c κs within =
    let falls : (room (call_room c.args.known.now c.args.depth) c.get-b-in-Arithmetic.result.now) < (room (call_room c.args.known.now c.args.depth) c.args.e.now) = second_falls (room (call_room c.args.known.now c.args.depth) c.get-a-in-Arithmetic.result.now) (room (call_room c.args.known.now c.args.depth) c.get-b-in-Arithmetic.result.now) (room (call_room c.args.known.now c.args.depth) c.args.e.now) (ap (room (call_room c.args.known.now c.args.depth)) (rw (c.get-a-in-Arithmetic.ensures, c.get-b-in-Arithmetic.ensures) c.in-Arithmetic.is) ∙ calculation_room (call_room c.args.known.now c.args.depth) c.in-Arithmetic.op c.get-a-in-Arithmetic.result.now c.get-b-in-Arithmetic.result.now) in
    (omega arith, within)

pub expressions::value_of-returns-in_ok-first-in-Arithmetic : goal.expressions::value_of-returns-in_ok-first-in-Arithmetic
expressions::value_of-returns-in_ok-first-in-Arithmetic g t c =
    by_second (meant c.args.known.now (g.F.FactBase.rows c.args.facts.now) c.args.setting.now c.args.depth c.args.e.now) c.args.env.now c.args.turns.now c.in_ok-first-in-Arithmetic.first (calculation_of c.in-Arithmetic.op) (ap (λ (e : Expr). meant c.args.known.now (g.F.FactBase.rows c.args.facts.now) c.args.setting.now c.args.depth e c.args.env.now c.args.turns.now) (rw (c.get-a-in-Arithmetic.ensures, c.get-b-in-Arithmetic.ensures) c.in-Arithmetic.is) ∙ calculation_meant c.args.known.now (g.F.FactBase.rows c.args.facts.now) c.args.setting.now c.args.depth c.args.env.now c.args.turns.now c.in-Arithmetic.op c.get-a-in-Arithmetic.result.now c.get-b-in-Arithmetic.result.now) c.in_ok-first-in-Arithmetic.ensures c.value_of-second-in-Arithmetic.ensures c.calculation_of.ensures

pub expressions::value_of-value_of-found-requires : goal.expressions::value_of-value_of-found-requires
expressions::value_of-value_of-found-requires g t c κs within =
    let falls : (room (call_room c.args.known.now c.args.depth) c.get-a-in-Is.result.now) < (room (call_room c.args.known.now c.args.depth) c.args.e.now) = only_falls (room (call_room c.args.known.now c.args.depth) c.get-a-in-Is.result.now) (room (call_room c.args.known.now c.args.depth) c.args.e.now) (ap (room (call_room c.args.known.now c.args.depth)) (rw c.get-a-in-Is.ensures c.in-Is.is) ∙ presence_room (call_room c.args.known.now c.args.depth) c.get-a-in-Is.result.now c.in-Is.op) in
    (omega arith, within)

pub expressions::value_of-returns-in-Is : goal.expressions::value_of-returns-in-Is
expressions::value_of-returns-in-Is g t c =
    by_one (meant c.args.known.now (g.F.FactBase.rows c.args.facts.now) c.args.setting.now c.args.depth c.args.e.now) c.args.env.now c.args.turns.now (presence_of c.in-Is.op) (ap (λ (e : Expr). meant c.args.known.now (g.F.FactBase.rows c.args.facts.now) c.args.setting.now c.args.depth e c.args.env.now c.args.turns.now) (rw c.get-a-in-Is.ensures c.in-Is.is) ∙ presence_meant c.args.known.now (g.F.FactBase.rows c.args.facts.now) c.args.setting.now c.args.depth c.args.env.now c.args.turns.now c.get-a-in-Is.result.now c.in-Is.op) c.value_of-found.ensures c.presence_of.ensures

pub expressions::value_of-value_of-found-requires-in-Unary : goal.expressions::value_of-value_of-found-requires-in-Unary
expressions::value_of-value_of-found-requires-in-Unary g t c κs within =
    let falls : (room (call_room c.args.known.now c.args.depth) c.get-a-in-Unary.result.now) < (room (call_room c.args.known.now c.args.depth) c.args.e.now) = only_falls (room (call_room c.args.known.now c.args.depth) c.get-a-in-Unary.result.now) (room (call_room c.args.known.now c.args.depth) c.args.e.now) (ap (room (call_room c.args.known.now c.args.depth)) (rw c.get-a-in-Unary.ensures c.in-Unary.is) ∙ unary_room (call_room c.args.known.now c.args.depth) c.in-Unary.op c.get-a-in-Unary.result.now) in
    (omega arith, within)

pub expressions::value_of-returns-in-Unary : goal.expressions::value_of-returns-in-Unary
expressions::value_of-returns-in-Unary g t c =
    by_one (meant c.args.known.now (g.F.FactBase.rows c.args.facts.now) c.args.setting.now c.args.depth c.args.e.now) c.args.env.now c.args.turns.now (unary_of c.in-Unary.op) (ap (λ (e : Expr). meant c.args.known.now (g.F.FactBase.rows c.args.facts.now) c.args.setting.now c.args.depth e c.args.env.now c.args.turns.now) (rw c.get-a-in-Unary.ensures c.in-Unary.is) ∙ unary_meant c.args.known.now (g.F.FactBase.rows c.args.facts.now) c.args.setting.now c.args.depth c.args.env.now c.args.turns.now c.in-Unary.op c.get-a-in-Unary.result.now) c.value_of-found-in-Unary.ensures c.unary_of.ensures

pub expressions::value_of-value_of-found-requires-in-Field : goal.expressions::value_of-value_of-found-requires-in-Field
expressions::value_of-value_of-found-requires-in-Field g t c κs within =
    let falls : (room (call_room c.args.known.now c.args.depth) c.get-a-in-Field.result.now) < (room (call_room c.args.known.now c.args.depth) c.args.e.now) = only_falls (room (call_room c.args.known.now c.args.depth) c.get-a-in-Field.result.now) (room (call_room c.args.known.now c.args.depth) c.args.e.now) (ap (room (call_room c.args.known.now c.args.depth)) (rw c.get-a-in-Field.ensures c.in-Field.is) ∙ field_room (call_room c.args.known.now c.args.depth) c.get-a-in-Field.result.now c.in-Field.name) in
    (omega arith, within)

pub expressions::value_of-returns-in-Field : goal.expressions::value_of-returns-in-Field
expressions::value_of-returns-in-Field g t c =
    by_one (meant c.args.known.now (g.F.FactBase.rows c.args.facts.now) c.args.setting.now c.args.depth c.args.e.now) c.args.env.now c.args.turns.now (field_of c.args.known.now c.in-Field.name) (ap (λ (e : Expr). meant c.args.known.now (g.F.FactBase.rows c.args.facts.now) c.args.setting.now c.args.depth e c.args.env.now c.args.turns.now) (rw c.get-a-in-Field.ensures c.in-Field.is) ∙ field_meant c.args.known.now (g.F.FactBase.rows c.args.facts.now) c.args.setting.now c.args.depth c.args.env.now c.args.turns.now c.get-a-in-Field.result.now c.in-Field.name) c.value_of-found-in-Field.ensures c.field_of.ensures

pub expressions::value_of-value_of-found-requires-in-Some : goal.expressions::value_of-value_of-found-requires-in-Some
expressions::value_of-value_of-found-requires-in-Some g t c κs within =
    let falls : (room (call_room c.args.known.now c.args.depth) c.get-a-in-Some.result.now) < (room (call_room c.args.known.now c.args.depth) c.args.e.now) = only_falls (room (call_room c.args.known.now c.args.depth) c.get-a-in-Some.result.now) (room (call_room c.args.known.now c.args.depth) c.args.e.now) (ap (room (call_room c.args.known.now c.args.depth)) (rw c.get-a-in-Some.ensures c.in-Some.is) ∙ some_room (call_room c.args.known.now c.args.depth) c.get-a-in-Some.result.now) in
    (omega arith, within)

pub expressions::value_of-returns-in-Some : goal.expressions::value_of-returns-in-Some
expressions::value_of-returns-in-Some g t c =
    by_one (meant c.args.known.now (g.F.FactBase.rows c.args.facts.now) c.args.setting.now c.args.depth c.args.e.now) c.args.env.now c.args.turns.now (some_of) (ap (λ (e : Expr). meant c.args.known.now (g.F.FactBase.rows c.args.facts.now) c.args.setting.now c.args.depth e c.args.env.now c.args.turns.now) (rw c.get-a-in-Some.ensures c.in-Some.is) ∙ some_meant c.args.known.now (g.F.FactBase.rows c.args.facts.now) c.args.setting.now c.args.depth c.args.env.now c.args.turns.now c.get-a-in-Some.result.now) c.value_of-found-in-Some.ensures c.some_of.ensures

pub expressions::value_of-returns-in-Literal : goal.expressions::value_of-returns-in-Literal
expressions::value_of-returns-in-Literal g t c =
    by_none (meant c.args.known.now (g.F.FactBase.rows c.args.facts.now) c.args.setting.now c.args.depth c.args.e.now) c.args.env.now c.args.turns.now (or_stuck (literal_value c.args.known.now c.in-Literal.literal) c.args.turns.now) (ap (λ (e : Expr). meant c.args.known.now (g.F.FactBase.rows c.args.facts.now) c.args.setting.now c.args.depth e c.args.env.now c.args.turns.now) c.in-Literal.is ∙ literal_meant c.args.known.now (g.F.FactBase.rows c.args.facts.now) c.args.setting.now c.args.depth c.args.env.now c.args.turns.now c.in-Literal.literal) (c.literal_value.ensures c.args.turns.now)

pub expressions::value_of-returns-in-None : goal.expressions::value_of-returns-in-None
expressions::value_of-returns-in-None g t c =
    by_none (meant c.args.known.now (g.F.FactBase.rows c.args.facts.now) c.args.setting.now c.args.depth c.args.e.now) c.args.env.now c.args.turns.now (Done value.Nothing c.args.turns.now) (ap (λ (e : Expr). meant c.args.known.now (g.F.FactBase.rows c.args.facts.now) c.args.setting.now c.args.depth e c.args.env.now c.args.turns.now) c.in-None.is ∙ none_meant c.args.known.now (g.F.FactBase.rows c.args.facts.now) c.args.setting.now c.args.depth c.args.env.now c.args.turns.now) refl

pub expressions::value_of-returns-in-This : goal.expressions::value_of-returns-in-This
expressions::value_of-returns-in-This g t c =
    by_none (meant c.args.known.now (g.F.FactBase.rows c.args.facts.now) c.args.setting.now c.args.depth c.args.e.now) c.args.env.now c.args.turns.now (or_stuck c.args.setting.now.this c.args.turns.now) (ap (λ (e : Expr). meant c.args.known.now (g.F.FactBase.rows c.args.facts.now) c.args.setting.now c.args.depth e c.args.env.now c.args.turns.now) c.in-This.is ∙ this_meant c.args.known.now (g.F.FactBase.rows c.args.facts.now) c.args.setting.now c.args.depth c.args.env.now c.args.turns.now) (c.this_value.ensures c.args.turns.now)

pub expressions::value_of-returns-in-Name : goal.expressions::value_of-returns-in-Name
expressions::value_of-returns-in-Name g t c =
    by_none (meant c.args.known.now (g.F.FactBase.rows c.args.facts.now) c.args.setting.now c.args.depth c.args.e.now) c.args.env.now c.args.turns.now (or_stuck (name_value c.args.known.now c.args.env.now c.in-Name.name) c.args.turns.now) (ap (λ (e : Expr). meant c.args.known.now (g.F.FactBase.rows c.args.facts.now) c.args.setting.now c.args.depth e c.args.env.now c.args.turns.now) c.in-Name.is ∙ name_meant c.args.known.now (g.F.FactBase.rows c.args.facts.now) c.args.setting.now c.args.depth c.args.env.now c.args.turns.now c.in-Name.name) (c.name_value.ensures c.args.turns.now)

pub expressions::value_of-returns-in-ForeignCall : goal.expressions::value_of-returns-in-ForeignCall
expressions::value_of-returns-in-ForeignCall g t c =
    by_none (meant c.args.known.now (g.F.FactBase.rows c.args.facts.now) c.args.setting.now c.args.depth c.args.e.now) c.args.env.now c.args.turns.now (or_stuck (foreign_value c.args.setting.now c.in-ForeignCall.of c.in-ForeignCall.function) c.args.turns.now) (ap (λ (e : Expr). meant c.args.known.now (g.F.FactBase.rows c.args.facts.now) c.args.setting.now c.args.depth e c.args.env.now c.args.turns.now) c.in-ForeignCall.is ∙ foreign_call_meant c.args.known.now (g.F.FactBase.rows c.args.facts.now) c.args.setting.now c.args.depth c.args.env.now c.args.turns.now c.in-ForeignCall.of c.in-ForeignCall.function c.in-ForeignCall.field-2) (c.foreign_value.ensures c.args.turns.now)

pub expressions::value_of-values_of-requires : goal.expressions::value_of-values_of-requires
expressions::value_of-values_of-requires g t c κs within =
    let falls : (total (room (call_room c.args.known.now c.args.depth)) c.as_slice-arguments.result.now) + 1 < (room (call_room c.args.known.now c.args.depth) c.args.e.now) = arguments_fall (total (room (call_room c.args.known.now c.args.depth)) c.as_slice-arguments.result.now) (call_room c.args.known.now c.args.depth) (room (call_room c.args.known.now c.args.depth) c.args.e.now) (ap (room (call_room c.args.known.now c.args.depth)) (rw c.as_slice-arguments.ensures c.in-Call.is) ∙ call_takes (call_room c.args.known.now c.args.depth) c.in-Call.function c.as_slice-arguments.result.now) in
    (omega arith, within)

pub expressions::value_of-returns-in_err-values-in-Call : goal.expressions::value_of-returns-in_err-values-in-Call
expressions::value_of-returns-in_err-values-in-Call g t c =
    let p = err_from_is_err_and c.from_residual-in_err-values-in-Call.result c.from_residual-in_err-values-in-Call.ensures.1 in
    rw (p.1, p.2)
    (first_stops (meant c.args.known.now (g.F.FactBase.rows c.args.facts.now) c.args.setting.now c.args.depth c.args.e.now) c.args.env.now c.args.turns.now c.in_err-values-in-Call.field-0.0 (λ vs n. called c.args.known.now (g.F.FactBase.rows c.args.facts.now) c.args.depth c.in-Call.function vs n) (ap (λ (e : Expr). meant c.args.known.now (g.F.FactBase.rows c.args.facts.now) c.args.setting.now c.args.depth e c.args.env.now c.args.turns.now) (rw c.as_slice-arguments.ensures c.in-Call.is) ∙ call_meant c.args.known.now (g.F.FactBase.rows c.args.facts.now) c.args.setting.now c.args.depth c.args.env.now c.args.turns.now c.in-Call.function c.as_slice-arguments.result.now) c.in_err-values-in-Call.ensures)

pub expressions::value_of-called-requires : goal.expressions::value_of-called-requires
expressions::value_of-called-requires g t c κs within =
    let falls : (call_room c.args.known.now c.args.depth) + 1 < (room (call_room c.args.known.now c.args.depth) c.args.e.now) = call_falls (total (room (call_room c.args.known.now c.args.depth)) c.as_slice-arguments.result.now) (call_room c.args.known.now c.args.depth) (room (call_room c.args.known.now c.args.depth) c.args.e.now) (ap (room (call_room c.args.known.now c.args.depth)) (rw c.as_slice-arguments.ensures c.in-Call.is) ∙ call_takes (call_room c.args.known.now c.args.depth) c.in-Call.function c.as_slice-arguments.result.now) in
    (omega arith, within)

pub expressions::value_of-returns-in_ok-values-in-Call : goal.expressions::value_of-returns-in_ok-values-in-Call
expressions::value_of-returns-in_ok-values-in-Call g t c =
    by_next (meant c.args.known.now (g.F.FactBase.rows c.args.facts.now) c.args.setting.now c.args.depth c.args.e.now) c.args.env.now c.args.turns.now c.in_ok-values-in-Call.values (λ vs n. called c.args.known.now (g.F.FactBase.rows c.args.facts.now) c.args.depth c.in-Call.function vs n) (ap (λ (e : Expr). meant c.args.known.now (g.F.FactBase.rows c.args.facts.now) c.args.setting.now c.args.depth e c.args.env.now c.args.turns.now) (rw c.as_slice-arguments.ensures c.in-Call.is) ∙ call_meant c.args.known.now (g.F.FactBase.rows c.args.facts.now) c.args.setting.now c.args.depth c.args.env.now c.args.turns.now c.in-Call.function c.as_slice-arguments.result.now) c.in_ok-values-in-Call.ensures c.called.ensures

pub expressions::value_of-bound_values-found-requires : goal.expressions::value_of-bound_values-found-requires
expressions::value_of-bound_values-found-requires g t c κs within =
    let falls : (total (bind_room (call_room c.args.known.now c.args.depth)) c.as_slice-binds.result.now) + 1 < (room (call_room c.args.known.now c.args.depth) c.args.e.now) = binds_fall (total (bind_room (call_room c.args.known.now c.args.depth)) c.as_slice-binds.result.now) (room (call_room c.args.known.now c.args.depth) c.args.e.now) (ap (room (call_room c.args.known.now c.args.depth)) (rw c.as_slice-binds.ensures c.in-Struct.is) ∙ struct_room (call_room c.args.known.now c.args.depth) c.in-Struct.name c.as_slice-binds.result.now) in
    (omega arith, within)

pub expressions::value_of-returns-in-Struct : goal.expressions::value_of-returns-in-Struct
expressions::value_of-returns-in-Struct g t c =
    by_one (meant c.args.known.now (g.F.FactBase.rows c.args.facts.now) c.args.setting.now c.args.depth c.args.e.now) c.args.env.now c.args.turns.now (struct_of c.args.known.now c.in-Struct.name (bind_names c.as_slice-binds.result.now)) (ap (λ (e : Expr). meant c.args.known.now (g.F.FactBase.rows c.args.facts.now) c.args.setting.now c.args.depth e c.args.env.now c.args.turns.now) (rw c.as_slice-binds.ensures c.in-Struct.is) ∙ struct_meant c.args.known.now (g.F.FactBase.rows c.args.facts.now) c.args.setting.now c.args.depth c.args.env.now c.args.turns.now c.in-Struct.name c.as_slice-binds.result.now) c.bound_values-found.ensures c.struct_of.ensures

pub expressions::value_of-wanted_of-found-requires : goal.expressions::value_of-wanted_of-found-requires
expressions::value_of-wanted_of-found-requires g t c κs within =
    let falls : (pattern_takes (call_room c.args.known.now c.args.depth) c.in-Query.p) < (room (call_room c.args.known.now c.args.depth) c.args.e.now) = only_falls (pattern_takes (call_room c.args.known.now c.args.depth) c.in-Query.p) (room (call_room c.args.known.now c.args.depth) c.args.e.now) (ap (room (call_room c.args.known.now c.args.depth)) c.in-Query.is ∙ query_room (call_room c.args.known.now c.args.depth) c.in-Query.p) in
    (omega arith, within)

pub expressions::value_of-returns-in-Query : goal.expressions::value_of-returns-in-Query
expressions::value_of-returns-in-Query g t c =
    by_one (meant c.args.known.now (g.F.FactBase.rows c.args.facts.now) c.args.setting.now c.args.depth c.args.e.now) c.args.env.now c.args.turns.now (query_of (g.F.FactBase.rows c.args.facts.now)) (ap (λ (e : Expr). meant c.args.known.now (g.F.FactBase.rows c.args.facts.now) c.args.setting.now c.args.depth e c.args.env.now c.args.turns.now) c.in-Query.is ∙ query_meant c.args.known.now (g.F.FactBase.rows c.args.facts.now) c.args.setting.now c.args.depth c.args.env.now c.args.turns.now c.in-Query.p) c.wanted_of-found.ensures.gives c.query_of.ensures

pub expressions::value_of-wanted_of-found-requires-in-Exists : goal.expressions::value_of-wanted_of-found-requires-in-Exists
expressions::value_of-wanted_of-found-requires-in-Exists g t c κs within =
    let falls : (pattern_takes (call_room c.args.known.now c.args.depth) c.in-Exists.p) < (room (call_room c.args.known.now c.args.depth) c.args.e.now) = only_falls (pattern_takes (call_room c.args.known.now c.args.depth) c.in-Exists.p) (room (call_room c.args.known.now c.args.depth) c.args.e.now) (ap (room (call_room c.args.known.now c.args.depth)) c.in-Exists.is ∙ exists_room (call_room c.args.known.now c.args.depth) c.in-Exists.p) in
    (omega arith, within)

pub expressions::value_of-returns-in-Exists : goal.expressions::value_of-returns-in-Exists
expressions::value_of-returns-in-Exists g t c =
    by_one (meant c.args.known.now (g.F.FactBase.rows c.args.facts.now) c.args.setting.now c.args.depth c.args.e.now) c.args.env.now c.args.turns.now (exists_of (g.F.FactBase.rows c.args.facts.now)) (ap (λ (e : Expr). meant c.args.known.now (g.F.FactBase.rows c.args.facts.now) c.args.setting.now c.args.depth e c.args.env.now c.args.turns.now) c.in-Exists.is ∙ exists_meant c.args.known.now (g.F.FactBase.rows c.args.facts.now) c.args.setting.now c.args.depth c.args.env.now c.args.turns.now c.in-Exists.p) c.wanted_of-found-in-Exists.ensures.gives c.exists_of.ensures

pub expressions::value_of-wanted_of-found-requires-in-Count : goal.expressions::value_of-wanted_of-found-requires-in-Count
expressions::value_of-wanted_of-found-requires-in-Count g t c κs within =
    let falls : (pattern_takes (call_room c.args.known.now c.args.depth) c.in-Count.p) < (room (call_room c.args.known.now c.args.depth) c.args.e.now) = only_falls (pattern_takes (call_room c.args.known.now c.args.depth) c.in-Count.p) (room (call_room c.args.known.now c.args.depth) c.args.e.now) (ap (room (call_room c.args.known.now c.args.depth)) c.in-Count.is ∙ count_room (call_room c.args.known.now c.args.depth) c.in-Count.op c.in-Count.n c.in-Count.p) in
    (omega arith, within)

pub expressions::value_of-returns-in-Count : goal.expressions::value_of-returns-in-Count
expressions::value_of-returns-in-Count g t c =
    by_one (meant c.args.known.now (g.F.FactBase.rows c.args.facts.now) c.args.setting.now c.args.depth c.args.e.now) c.args.env.now c.args.turns.now (count_of (g.F.FactBase.rows c.args.facts.now) c.in-Count.op c.in-Count.n) (ap (λ (e : Expr). meant c.args.known.now (g.F.FactBase.rows c.args.facts.now) c.args.setting.now c.args.depth e c.args.env.now c.args.turns.now) c.in-Count.is ∙ count_meant c.args.known.now (g.F.FactBase.rows c.args.facts.now) c.args.setting.now c.args.depth c.args.env.now c.args.turns.now c.in-Count.op c.in-Count.n c.in-Count.p) c.wanted_of-found-in-Count.ensures.gives c.rows_counted.ensures

pub expressions::value_of-value_of-head-requires : goal.expressions::value_of-value_of-head-requires
expressions::value_of-value_of-head-requires g t c κs within =
    let falls : (room (call_room c.args.known.now c.args.depth) c.get-x.result.now.head) < (room (call_room c.args.known.now c.args.depth) c.args.e.now) = head_falls (room (call_room c.args.known.now c.args.depth) c.get-x.result.now.head) (block_takes (call_room c.args.known.now c.args.depth) c.get-x.result.now.then) (else_takes (call_room c.args.known.now c.args.depth) c.get-x.result.now.otherwise) (room (call_room c.args.known.now c.args.depth) c.args.e.now) (ap (room (call_room c.args.known.now c.args.depth)) (rw c.get-x.ensures c.in-If.is) ∙ choice_room (call_room c.args.known.now c.args.depth) c.get-x.result.now) in
    (omega arith, within)

pub expressions::value_of-returns-in_err-test-in-If : goal.expressions::value_of-returns-in_err-test-in-If
expressions::value_of-returns-in_err-test-in-If g t c =
    let p = err_from_is_err_and c.from_residual-in_err-test-in-If.result c.from_residual-in_err-test-in-If.ensures.1 in
    rw (p.1, p.2)
    (test_stops (meant c.args.known.now (g.F.FactBase.rows c.args.facts.now) c.args.setting.now c.args.depth c.args.e.now) c.args.env.now c.args.turns.now (block_meant c.args.known.now (g.F.FactBase.rows c.args.facts.now) c.args.setting.now c.args.depth c.get-x.result.now.then c.args.env.now) (else_meant c.args.known.now (g.F.FactBase.rows c.args.facts.now) c.args.setting.now c.args.depth c.get-x.result.now.otherwise c.args.env.now) (ap (λ (e : Expr). meant c.args.known.now (g.F.FactBase.rows c.args.facts.now) c.args.setting.now c.args.depth e c.args.env.now c.args.turns.now) (rw c.get-x.ensures c.in-If.is) ∙ choice_meant c.args.known.now (g.F.FactBase.rows c.args.facts.now) c.args.setting.now c.args.depth c.args.env.now c.args.turns.now c.get-x.result.now) c.value_of-head.ensures c.in_err-test-in-If.field-0.0 c.in_err-test-in-If.ensures)

pub expressions::value_of-block_value-requires : goal.expressions::value_of-block_value-requires
expressions::value_of-block_value-requires g t c κs within =
    let falls : (block_takes (call_room c.args.known.now c.args.depth) c.get-x.result.now.then) < (room (call_room c.args.known.now c.args.depth) c.args.e.now) = block_falls (room (call_room c.args.known.now c.args.depth) c.get-x.result.now.head) (block_takes (call_room c.args.known.now c.args.depth) c.get-x.result.now.then) (else_takes (call_room c.args.known.now c.args.depth) c.get-x.result.now.otherwise) (room (call_room c.args.known.now c.args.depth) c.args.e.now) (ap (room (call_room c.args.known.now c.args.depth)) (rw c.get-x.ensures c.in-If.is) ∙ choice_room (call_room c.args.known.now c.args.depth) c.get-x.result.now) in
    (omega arith, within)

pub expressions::value_of-returns-then-test-3 : goal.expressions::value_of-returns-then-test-3
expressions::value_of-returns-then-test-3 g t c =
    test_goes (meant c.args.known.now (g.F.FactBase.rows c.args.facts.now) c.args.setting.now c.args.depth c.args.e.now) c.args.env.now c.args.turns.now (block_meant c.args.known.now (g.F.FactBase.rows c.args.facts.now) c.args.setting.now c.args.depth c.get-x.result.now.then c.args.env.now) (else_meant c.args.known.now (g.F.FactBase.rows c.args.facts.now) c.args.setting.now c.args.depth c.get-x.result.now.otherwise c.args.env.now) (ap (λ (e : Expr). meant c.args.known.now (g.F.FactBase.rows c.args.facts.now) c.args.setting.now c.args.depth e c.args.env.now c.args.turns.now) (rw c.get-x.ensures c.in-If.is) ∙ choice_meant c.args.known.now (g.F.FactBase.rows c.args.facts.now) c.args.setting.now c.args.depth c.args.env.now c.args.turns.now c.get-x.result.now) c.value_of-head.ensures c.in_ok-test-in-If.test true c.if-test-3.true c.in_ok-test-in-If.ensures (λ n. refl) c.block_value.ensures

pub expressions::value_of-else_value-requires : goal.expressions::value_of-else_value-requires
expressions::value_of-else_value-requires g t c κs within =
    let falls : (else_takes (call_room c.args.known.now c.args.depth) c.get-x.result.now.otherwise) + 1 < (room (call_room c.args.known.now c.args.depth) c.args.e.now) = else_falls (room (call_room c.args.known.now c.args.depth) c.get-x.result.now.head) (block_takes (call_room c.args.known.now c.args.depth) c.get-x.result.now.then) (else_takes (call_room c.args.known.now c.args.depth) c.get-x.result.now.otherwise) (room (call_room c.args.known.now c.args.depth) c.args.e.now) (ap (room (call_room c.args.known.now c.args.depth)) (rw c.get-x.ensures c.in-If.is) ∙ choice_room (call_room c.args.known.now c.args.depth) c.get-x.result.now) in
    (omega arith, within)

pub expressions::value_of-returns-else-test-3 : goal.expressions::value_of-returns-else-test-3
expressions::value_of-returns-else-test-3 g t c =
    test_goes (meant c.args.known.now (g.F.FactBase.rows c.args.facts.now) c.args.setting.now c.args.depth c.args.e.now) c.args.env.now c.args.turns.now (block_meant c.args.known.now (g.F.FactBase.rows c.args.facts.now) c.args.setting.now c.args.depth c.get-x.result.now.then c.args.env.now) (else_meant c.args.known.now (g.F.FactBase.rows c.args.facts.now) c.args.setting.now c.args.depth c.get-x.result.now.otherwise c.args.env.now) (ap (λ (e : Expr). meant c.args.known.now (g.F.FactBase.rows c.args.facts.now) c.args.setting.now c.args.depth e c.args.env.now c.args.turns.now) (rw c.get-x.ensures c.in-If.is) ∙ choice_meant c.args.known.now (g.F.FactBase.rows c.args.facts.now) c.args.setting.now c.args.depth c.args.env.now c.args.turns.now c.get-x.result.now) c.value_of-head.ensures c.in_ok-test-in-If.test false c.if-test-3.false c.in_ok-test-in-If.ensures (λ n. refl) c.else_value.ensures

pub expressions::values_of-value_of-found-requires : goal.expressions::values_of-value_of-found-requires
expressions::values_of-value_of-found-requires g t c κs within =
    let falls : (room (call_room c.args.known.now c.args.depth)) (c.e-item.result) < total (room (call_room c.args.known.now c.args.depth)) (c.args.es.now) + 1 = item_falls (room (call_room c.args.known.now c.args.depth)) c.args.es.now c.loop-e.e-index c.e-item.result c.loop-e-test.true c.e-item.is in
    (omega arith, within)

pub expressions::bound_values-value_of-found-requires : goal.expressions::bound_values-value_of-found-requires
expressions::bound_values-value_of-found-requires g t c κs within =
    let falls : (bind_room (call_room c.args.known.now c.args.depth)) (c.bind-item.result) < total (bind_room (call_room c.args.known.now c.args.depth)) (c.args.binds.now) + 1 = item_falls (bind_room (call_room c.args.known.now c.args.depth)) c.args.binds.now c.loop-bind.bind-index c.bind-item.result c.loop-bind-test.true c.bind-item.is in
    (omega arith, within)

pub expressions::free_values-value_of-found-requires : goal.expressions::free_values-value_of-found-requires
expressions::free_values-value_of-found-requires g t c κs within =
    let falls : room (call_room c.args.known.now c.args.depth) (c.in-Some.e) < total (free_room (call_room c.args.known.now c.args.depth)) (c.args.frees.now) + 1 = gap_falls (call_room c.args.known.now c.args.depth) c.args.frees.now c.loop-free.free-index c.free-item.result c.in-Some.e c.loop-free-test.true c.free-item.is c.in-Some.is in
    (omega arith, within)

pub expressions::value_within-value_of-found-requires : goal.expressions::value_within-value_of-found-requires
expressions::value_within-value_of-found-requires g t c κs within =
    let falls : room (call_room c.args.known.now c.args.depth) (c.one-item.result.value) < total (let_room (call_room c.args.known.now c.args.depth)) c.args.b.now.lets + room (call_room c.args.known.now c.args.depth) c.args.b.now.value + 1 = let_falls (call_room c.args.known.now c.args.depth) c.args.b.now c.as_slice-one-items.result.now c.loop-one.one-index c.one-item.result c.as_slice-one-items.ensures c.loop-one-test.true c.one-item.is in
    (omega arith, within)

pub expressions::free_values-returns-in_err-push_gap : goal.expressions::free_values-returns-in_err-push_gap
expressions::free_values-returns-in_err-push_gap g t c =
    let p = err_from_is_err_and c.from_residual-in_err-push_gap.result c.from_residual-in_err-push_gap.ensures.1 in
    rw (p.1, p.2)
    (turn_stops (gaps_meant c.args.known.now (g.F.FactBase.rows c.args.facts.now) c.args.setting.now c.args.depth) (free_meant c.args.known.now (g.F.FactBase.rows c.args.facts.now) c.args.setting.now c.args.depth) (free_step c.args.known.now (g.F.FactBase.rows c.args.facts.now) c.args.setting.now c.args.depth) (λ env n. refl) Some c.in_err-push_gap.field-0.0 c.loop-free.invariant c.free-item.result c.loop-free-test.true c.free-item.is (value_gap c.args.known.now (g.F.FactBase.rows c.args.facts.now) c.args.setting.now c.args.depth c.free-item.result c.in-Some.e c.in-Some.is) c.value_of-found.ensures c.in_err-push_gap.ensures)

pub expressions::value_within-returns-in_err-let_in : goal.expressions::value_within-returns-in_err-let_in
expressions::value_within-returns-in_err-let_in g t c =
    let p = err_from_is_err_and c.from_residual.result c.from_residual.ensures.1 in
    rw (p.1, p.2, ← c.as_slice-one-items.ensures)
    (let_stops c.args.known.now (g.F.FactBase.rows c.args.facts.now) c.args.setting.now c.args.depth c.loop-one.invariant c.one-item.result c.args.b.now.value c.in_err-let_in.field-0.0 c.loop-one-test.true c.one-item.is c.value_of-found.ensures c.in_err-let_in.ensures.gives c.in_err-let_in.ensures.kept)

pub expressions::wanted_of-returns-in_err-keys-clause-gives : goal.expressions::wanted_of-returns-in_err-keys-clause-gives
expressions::wanted_of-returns-in_err-keys-clause-gives g t c =
    let p = err_from_is_err_and c.from_residual.result c.from_residual.ensures.1 in
    rw (p.1, p.2)
    (first_stops (wanted_meant c.args.known.now (g.F.FactBase.rows c.args.facts.now) c.args.setting.now c.args.depth c.args.p.now) c.args.env.now c.args.turns.now c.in_err-keys.field-0.0 (λ ks n. pattern_of c.args.known.now c.args.p.now ks (gaps_meant c.args.known.now (g.F.FactBase.rows c.args.facts.now) c.args.setting.now c.args.depth (value_part c.args.p.now.values) c.args.env.now n)) (ap (λ keys. gaps_meant c.args.known.now (g.F.FactBase.rows c.args.facts.now) c.args.setting.now c.args.depth keys c.args.env.now c.args.turns.now >>= λ ks n. pattern_of c.args.known.now c.args.p.now ks (gaps_meant c.args.known.now (g.F.FactBase.rows c.args.facts.now) c.args.setting.now c.args.depth (value_part c.args.p.now.values) c.args.env.now n)) (sym c.as_slice-keys.ensures)) c.in_err-keys.ensures)

pub expressions::wanted_of-returns-clause-gives : goal.expressions::wanted_of-returns-clause-gives
expressions::wanted_of-returns-clause-gives g t c =
    by_second (wanted_meant c.args.known.now (g.F.FactBase.rows c.args.facts.now) c.args.setting.now c.args.depth c.args.p.now) c.args.env.now c.args.turns.now c.in_ok-keys.keys (pattern_of c.args.known.now c.args.p.now) (ap (λ keys. gaps_meant c.args.known.now (g.F.FactBase.rows c.args.facts.now) c.args.setting.now c.args.depth keys c.args.env.now c.args.turns.now >>= λ ks n. pattern_of c.args.known.now c.args.p.now ks (gaps_meant c.args.known.now (g.F.FactBase.rows c.args.facts.now) c.args.setting.now c.args.depth (value_part c.args.p.now.values) c.args.env.now n)) (sym c.as_slice-keys.ensures) ∙ ap (λ fields. gaps_meant c.args.known.now (g.F.FactBase.rows c.args.facts.now) c.args.setting.now c.args.depth c.as_slice-keys.result.now c.args.env.now c.args.turns.now >>= λ ks n. pattern_of c.args.known.now c.args.p.now ks (gaps_meant c.args.known.now (g.F.FactBase.rows c.args.facts.now) c.args.setting.now c.args.depth fields c.args.env.now n)) (sym c.value_fields-fields.ensures)) c.in_ok-keys.ensures c.free_values-found.ensures c.pattern_of.ensures.gives

pub statements::run-value_of-found-requires : goal.statements::run-value_of-found-requires
statements::run-value_of-found-requires g t c κs within =
    let falls : (room (call_room c.args.known.now c.args.depth) c.in-Let.one.value) < (stmt_room (call_room c.args.known.now c.args.depth) c.args.s.now) = only_falls (room (call_room c.args.known.now c.args.depth) c.in-Let.one.value) (stmt_room (call_room c.args.known.now c.args.depth) c.args.s.now) (ap (stmt_room (call_room c.args.known.now c.args.depth)) c.in-Let.is ∙ let_stmt_room (call_room c.args.known.now c.args.depth) c.in-Let.one) in
    (omega arith, within)

pub statements::run-returns-in-Let : goal.statements::run-returns-in-Let
statements::run-returns-in-Let g t c =
    by_let (λ (lists : Lists). stmt_meant c.args.known.now (g.F.FactBase.rows c.args.facts.now) c.args.setting.now c.args.depth lists c.args.s.now) c.args.env.now c.args.turns.now (let_of c.in-Let.one.name) (λ lists. ap (λ (s : Stmt). stmt_meant c.args.known.now (g.F.FactBase.rows c.args.facts.now) c.args.setting.now c.args.depth lists s c.args.env.now c.args.turns.now) c.in-Let.is ∙ let_does c.args.known.now (g.F.FactBase.rows c.args.facts.now) c.args.setting.now c.args.depth lists c.args.env.now c.args.turns.now c.in-Let.one) c.value_of-found.ensures c.let_flow.ensures.comes c.let_flow.ensures.kept

pub statements::run-value_of-found-requires-in-Check : goal.statements::run-value_of-found-requires-in-Check
statements::run-value_of-found-requires-in-Check g t c κs within =
    let falls : (room (call_room c.args.known.now c.args.depth) c.in-Check.e) < (stmt_room (call_room c.args.known.now c.args.depth) c.args.s.now) = only_falls (room (call_room c.args.known.now c.args.depth) c.in-Check.e) (stmt_room (call_room c.args.known.now c.args.depth) c.args.s.now) (ap (stmt_room (call_room c.args.known.now c.args.depth)) c.in-Check.is ∙ check_room (call_room c.args.known.now c.args.depth) c.in-Check.e) in
    (omega arith, within)

pub statements::run-returns-in-Check : goal.statements::run-returns-in-Check
statements::run-returns-in-Check g t c =
    by_value (λ (lists : Lists). stmt_meant c.args.known.now (g.F.FactBase.rows c.args.facts.now) c.args.setting.now c.args.depth lists c.args.s.now) c.args.env.now c.args.turns.now checked_of (λ lists. ap (λ (s : Stmt). stmt_meant c.args.known.now (g.F.FactBase.rows c.args.facts.now) c.args.setting.now c.args.depth lists s c.args.env.now c.args.turns.now) c.in-Check.is ∙ check_does c.args.known.now (g.F.FactBase.rows c.args.facts.now) c.args.setting.now c.args.depth lists c.args.env.now c.args.turns.now c.in-Check.e) c.value_of-found-in-Check.ensures c.check_flow.ensures

pub statements::run-value_of-head-requires : goal.statements::run-value_of-head-requires
statements::run-value_of-head-requires g t c κs within =
    let falls : (room (call_room c.args.known.now c.args.depth) c.in-If.x.head) < (stmt_room (call_room c.args.known.now c.args.depth) c.args.s.now) = if_head_falls (room (call_room c.args.known.now c.args.depth) c.in-If.x.head) (total (stmt_room (call_room c.args.known.now c.args.depth)) c.in-If.x.then) (else_stmt_takes (call_room c.args.known.now c.args.depth) c.in-If.x.otherwise) (stmt_room (call_room c.args.known.now c.args.depth) c.args.s.now) (ap (stmt_room (call_room c.args.known.now c.args.depth)) c.in-If.is ∙ if_room (call_room c.args.known.now c.args.depth) c.in-If.x) in
    (omega arith, within)

pub statements::run-returns-in_err-test-in-If : goal.statements::run-returns-in_err-test-in-If
statements::run-returns-in_err-test-in-If g t c =
    let p = err_from_is_err_and c.from_residual.result c.from_residual.ensures.1 in
    rw (p.1, p.2)
    (head_stops (λ (lists : Lists). stmt_meant c.args.known.now (g.F.FactBase.rows c.args.facts.now) c.args.setting.now c.args.depth lists c.args.s.now) c.args.env.now c.args.turns.now (λ lists. within (stmts_meant c.args.known.now (g.F.FactBase.rows c.args.facts.now) c.args.setting.now c.args.depth lists c.in-If.x.then) c.args.env.now) (λ lists. within (else_stmt_meant c.args.known.now (g.F.FactBase.rows c.args.facts.now) c.args.setting.now c.args.depth lists c.in-If.x.otherwise) c.args.env.now) (λ lists. ap (λ (s : Stmt). stmt_meant c.args.known.now (g.F.FactBase.rows c.args.facts.now) c.args.setting.now c.args.depth lists s c.args.env.now c.args.turns.now) c.in-If.is ∙ choice_does c.args.known.now (g.F.FactBase.rows c.args.facts.now) c.args.setting.now c.args.depth lists c.args.env.now c.args.turns.now c.in-If.x) c.value_of-head.ensures c.in_err-test-in-If.field-0.0 c.in_err-test-in-If.ensures)

pub statements::run-run_all-flow-requires : goal.statements::run-run_all-flow-requires
statements::run-run_all-flow-requires g t c κs within =
    let falls : (total (stmt_room (call_room c.args.known.now c.args.depth)) c.as_slice-body.result.now) + 1 < (stmt_room (call_room c.args.known.now c.args.depth) c.args.s.now) = if_body_falls (room (call_room c.args.known.now c.args.depth) c.in-If.x.head) (total (stmt_room (call_room c.args.known.now c.args.depth)) c.as_slice-body.result.now) (else_stmt_takes (call_room c.args.known.now c.args.depth) c.in-If.x.otherwise) (stmt_room (call_room c.args.known.now c.args.depth) c.args.s.now) ((ap (stmt_room (call_room c.args.known.now c.args.depth)) c.in-If.is ∙ if_room (call_room c.args.known.now c.args.depth) c.in-If.x) ∙ ap (λ body. room (call_room c.args.known.now c.args.depth) c.in-If.x.head + total (stmt_room (call_room c.args.known.now c.args.depth)) body + else_stmt_takes (call_room c.args.known.now c.args.depth) c.in-If.x.otherwise + 3) (sym c.as_slice-body.ensures)) in
    (omega arith, within)

pub statements::run-returns-then-test : goal.statements::run-returns-then-test
statements::run-returns-then-test g t c =
    head_goes (λ (lists : Lists). stmt_meant c.args.known.now (g.F.FactBase.rows c.args.facts.now) c.args.setting.now c.args.depth lists c.args.s.now) c.args.env.now c.args.turns.now (λ lists. within (stmts_meant c.args.known.now (g.F.FactBase.rows c.args.facts.now) c.args.setting.now c.args.depth lists c.in-If.x.then) c.args.env.now) (λ lists. within (else_stmt_meant c.args.known.now (g.F.FactBase.rows c.args.facts.now) c.args.setting.now c.args.depth lists c.in-If.x.otherwise) c.args.env.now) (λ lists. ap (λ (s : Stmt). stmt_meant c.args.known.now (g.F.FactBase.rows c.args.facts.now) c.args.setting.now c.args.depth lists s c.args.env.now c.args.turns.now) c.in-If.is ∙ choice_does c.args.known.now (g.F.FactBase.rows c.args.facts.now) c.args.setting.now c.args.depth lists c.args.env.now c.args.turns.now c.in-If.x) c.value_of-head.ensures c.in_ok-test-in-If.test true c.if-test.true c.in_ok-test-in-If.ensures (λ lists n. ap (λ body. within (stmts_meant c.args.known.now (g.F.FactBase.rows c.args.facts.now) c.args.setting.now c.args.depth lists body) c.args.env.now n) (sym c.as_slice-body.ensures))
    (c.block_end.ensures (λ lists. stmts_meant c.args.known.now (g.F.FactBase.rows c.args.facts.now) c.args.setting.now c.args.depth lists c.as_slice-body.result.now) c.value_of-head.new.env c.value_of-head.new.turns c.run_all-flow.new.turns (c.len-outside.ensures ∙ ap (λ env. length env) (sym c.value_of-head.ensures.kept)) c.run_all-flow.ensures)

pub statements::run-run_else-flow-requires : goal.statements::run-run_else-flow-requires
statements::run-run_else-flow-requires g t c κs within =
    let falls : (else_stmt_takes (call_room c.args.known.now c.args.depth) c.in-If.x.otherwise) + 1 < (stmt_room (call_room c.args.known.now c.args.depth) c.args.s.now) = if_rest_falls (room (call_room c.args.known.now c.args.depth) c.in-If.x.head) (total (stmt_room (call_room c.args.known.now c.args.depth)) c.in-If.x.then) (else_stmt_takes (call_room c.args.known.now c.args.depth) c.in-If.x.otherwise) (stmt_room (call_room c.args.known.now c.args.depth) c.args.s.now) (ap (stmt_room (call_room c.args.known.now c.args.depth)) c.in-If.is ∙ if_room (call_room c.args.known.now c.args.depth) c.in-If.x) in
    (omega arith, within)

pub statements::run-returns-else-test : goal.statements::run-returns-else-test
statements::run-returns-else-test g t c =
    head_goes (λ (lists : Lists). stmt_meant c.args.known.now (g.F.FactBase.rows c.args.facts.now) c.args.setting.now c.args.depth lists c.args.s.now) c.args.env.now c.args.turns.now (λ lists. within (stmts_meant c.args.known.now (g.F.FactBase.rows c.args.facts.now) c.args.setting.now c.args.depth lists c.in-If.x.then) c.args.env.now) (λ lists. within (else_stmt_meant c.args.known.now (g.F.FactBase.rows c.args.facts.now) c.args.setting.now c.args.depth lists c.in-If.x.otherwise) c.args.env.now) (λ lists. ap (λ (s : Stmt). stmt_meant c.args.known.now (g.F.FactBase.rows c.args.facts.now) c.args.setting.now c.args.depth lists s c.args.env.now c.args.turns.now) c.in-If.is ∙ choice_does c.args.known.now (g.F.FactBase.rows c.args.facts.now) c.args.setting.now c.args.depth lists c.args.env.now c.args.turns.now c.in-If.x) c.value_of-head.ensures c.in_ok-test-in-If.test false c.if-test.false c.in_ok-test-in-If.ensures (λ lists n. refl)
    (c.block_end-else-test.ensures (λ lists. else_stmt_meant c.args.known.now (g.F.FactBase.rows c.args.facts.now) c.args.setting.now c.args.depth lists c.in-If.x.otherwise) c.value_of-head.new.env c.value_of-head.new.turns c.run_else-flow.new.turns (c.len-outside.ensures ∙ ap (λ env. length env) (sym c.value_of-head.ensures.kept)) c.run_else-flow.ensures)

pub statements::run-value_of-found-requires-in-Match : goal.statements::run-value_of-found-requires-in-Match
statements::run-value_of-found-requires-in-Match g t c κs within =
    let falls : (room (call_room c.args.known.now c.args.depth) c.in-Match.e) < (stmt_room (call_room c.args.known.now c.args.depth) c.args.s.now) = match_head_falls (room (call_room c.args.known.now c.args.depth) c.in-Match.e) (total (arm_room (call_room c.args.known.now c.args.depth)) c.as_slice-arms.result.now) (stmt_room (call_room c.args.known.now c.args.depth) c.args.s.now) (ap (stmt_room (call_room c.args.known.now c.args.depth)) (rw c.as_slice-arms.ensures c.in-Match.is) ∙ match_room (call_room c.args.known.now c.args.depth) c.in-Match.e c.as_slice-arms.result.now) in
    (omega arith, within)

pub statements::run-returns-in_err-body-in-Match : goal.statements::run-returns-in_err-body-in-Match
statements::run-returns-in_err-body-in-Match g t c =
    let p = err_from_is_err_and c.from_residual-in_err-body-in-Match.result c.from_residual-in_err-body-in-Match.ensures.1 in
    rw (p.1, p.2)
    (arm_stops (λ (lists : Lists). stmt_meant c.args.known.now (g.F.FactBase.rows c.args.facts.now) c.args.setting.now c.args.depth lists c.args.s.now) c.args.env.now c.args.turns.now (λ v. first_body c.args.known.now v c.as_slice-arms.result.now) (λ lists. arm_meant c.args.known.now (g.F.FactBase.rows c.args.facts.now) c.args.setting.now c.args.depth lists) (λ lists env n. refl) (λ lists. ap (λ (s : Stmt). stmt_meant c.args.known.now (g.F.FactBase.rows c.args.facts.now) c.args.setting.now c.args.depth lists s c.args.env.now c.args.turns.now) (rw c.as_slice-arms.ensures c.in-Match.is) ∙ match_does c.args.known.now (g.F.FactBase.rows c.args.facts.now) c.args.setting.now c.args.depth lists c.args.env.now c.args.turns.now c.in-Match.e c.as_slice-arms.result.now) c.value_of-found-in-Match.ensures c.in_err-body-in-Match.field-0.0 c.in_err-body-in-Match.ensures.gives)

pub statements::run-run_all-flow-requires-in-Match : goal.statements::run-run_all-flow-requires-in-Match
statements::run-run_all-flow-requires-in-Match g t c κs within =
    let falls : (total (stmt_room (call_room c.args.known.now c.args.depth)) c.in_ok-body-in-Match.body.now) + 1 < (stmt_room (call_room c.args.known.now c.args.depth) c.args.s.now) = match_body_falls (room (call_room c.args.known.now c.args.depth) c.in-Match.e) (total (arm_room (call_room c.args.known.now c.args.depth)) c.as_slice-arms.result.now) (total (stmt_room (call_room c.args.known.now c.args.depth)) c.in_ok-body-in-Match.body.now) (stmt_room (call_room c.args.known.now c.args.depth) c.args.s.now) (c.in_ok-body-in-Match.ensures.among (call_room c.args.known.now c.args.depth)) (ap (stmt_room (call_room c.args.known.now c.args.depth)) (rw c.as_slice-arms.ensures c.in-Match.is) ∙ match_room (call_room c.args.known.now c.args.depth) c.in-Match.e c.as_slice-arms.result.now) in
    (omega arith, within)

pub statements::run-returns-in_ok-body-in-Match : goal.statements::run-returns-in_ok-body-in-Match
statements::run-returns-in_ok-body-in-Match g t c =
    arm_goes (λ (lists : Lists). stmt_meant c.args.known.now (g.F.FactBase.rows c.args.facts.now) c.args.setting.now c.args.depth lists c.args.s.now) c.args.env.now c.args.turns.now (λ v. first_body c.args.known.now v c.as_slice-arms.result.now) (λ lists. arm_meant c.args.known.now (g.F.FactBase.rows c.args.facts.now) c.args.setting.now c.args.depth lists) (λ lists env n. refl) (λ lists. ap (λ (s : Stmt). stmt_meant c.args.known.now (g.F.FactBase.rows c.args.facts.now) c.args.setting.now c.args.depth lists s c.args.env.now c.args.turns.now) (rw c.as_slice-arms.ensures c.in-Match.is) ∙ match_does c.args.known.now (g.F.FactBase.rows c.args.facts.now) c.args.setting.now c.args.depth lists c.args.env.now c.args.turns.now c.in-Match.e c.as_slice-arms.result.now) c.value_of-found-in-Match.ensures c.in_ok-body-in-Match.body.now c.in_ok-body-in-Match.ensures.gives
    (c.block_end-in-Match.ensures (λ lists. stmts_meant c.args.known.now (g.F.FactBase.rows c.args.facts.now) c.args.setting.now c.args.depth lists c.in_ok-body-in-Match.body.now) c.value_of-found-in-Match.new.env c.value_of-found-in-Match.new.turns c.run_all-flow-in-Match.new.turns (c.len-outside-in-Match.ensures ∙ ap (λ env. length env) (sym c.value_of-found-in-Match.ensures.kept)) c.run_all-flow-in-Match.ensures)

pub statements::run-returns-in-Finish : goal.statements::run-returns-in-Finish
statements::run-returns-in-Finish g t c =
    by_itself (λ (lists : Lists). stmt_meant c.args.known.now (g.F.FactBase.rows c.args.facts.now) c.args.setting.now c.args.depth lists c.args.s.now) c.args.env.now c.args.turns.now (λ lists. (c.args.env.now, ap (λ (s : Stmt). stmt_meant c.args.known.now (g.F.FactBase.rows c.args.facts.now) c.args.setting.now c.args.depth lists s c.args.env.now c.args.turns.now) (rw c.as_slice-statements.ensures c.in-Finish.is) ∙ finish_does c.args.known.now (g.F.FactBase.rows c.args.facts.now) c.args.setting.now c.args.depth lists c.args.env.now c.args.turns.now c.as_slice-statements.result.now))

pub statements::run-returns-in-Map : goal.statements::run-returns-in-Map
statements::run-returns-in-Map g t c =
    by_itself (λ (lists : Lists). stmt_meant c.args.known.now (g.F.FactBase.rows c.args.facts.now) c.args.setting.now c.args.depth lists c.args.s.now) c.args.env.now c.args.turns.now (λ lists. ap (λ (s : Stmt). stmt_meant c.args.known.now (g.F.FactBase.rows c.args.facts.now) c.args.setting.now c.args.depth lists s c.args.env.now c.args.turns.now) c.in-Map.is ∙ map_does c.args.known.now (g.F.FactBase.rows c.args.facts.now) c.args.setting.now c.args.depth lists c.args.env.now c.args.turns.now c.in-Map.field-0 c.in-Map.field-1 c.in-Map.field-2)

pub statements::run-returns-in-Publish : goal.statements::run-returns-in-Publish
statements::run-returns-in-Publish g t c =
    by_itself (λ (lists : Lists). stmt_meant c.args.known.now (g.F.FactBase.rows c.args.facts.now) c.args.setting.now c.args.depth lists c.args.s.now) c.args.env.now c.args.turns.now (λ lists. ap (λ (s : Stmt). stmt_meant c.args.known.now (g.F.FactBase.rows c.args.facts.now) c.args.setting.now c.args.depth lists s c.args.env.now c.args.turns.now) c.in-Publish.is ∙ publish_does c.args.known.now (g.F.FactBase.rows c.args.facts.now) c.args.setting.now c.args.depth lists c.args.env.now c.args.turns.now c.in-Publish.field-0)

pub statements::run-value_of-found-requires-in-Return : goal.statements::run-value_of-found-requires-in-Return
statements::run-value_of-found-requires-in-Return g t c κs within =
    let falls : (room (call_room c.args.known.now c.args.depth) c.in-Return.e) < (stmt_room (call_room c.args.known.now c.args.depth) c.args.s.now) = only_falls (room (call_room c.args.known.now c.args.depth) c.in-Return.e) (stmt_room (call_room c.args.known.now c.args.depth) c.args.s.now) (ap (stmt_room (call_room c.args.known.now c.args.depth)) c.in-Return.is ∙ return_room (call_room c.args.known.now c.args.depth) c.in-Return.e) in
    (omega arith, within)

pub statements::run-returns-in-Return : goal.statements::run-returns-in-Return
statements::run-returns-in-Return g t c =
    by_value (λ (lists : Lists). stmt_meant c.args.known.now (g.F.FactBase.rows c.args.facts.now) c.args.setting.now c.args.depth lists c.args.s.now) c.args.env.now c.args.turns.now return_of (λ lists. ap (λ (s : Stmt). stmt_meant c.args.known.now (g.F.FactBase.rows c.args.facts.now) c.args.setting.now c.args.depth lists s c.args.env.now c.args.turns.now) c.in-Return.is ∙ return_does c.args.known.now (g.F.FactBase.rows c.args.facts.now) c.args.setting.now c.args.depth lists c.args.env.now c.args.turns.now c.in-Return.e) c.value_of-found-in-Return.ensures (λ lists env n out gives. c.return_flow.ensures lists env env n out gives)

pub statements::run_all-run-flow-requires : goal.statements::run_all-run-flow-requires
statements::run_all-run-flow-requires g t c κs within =
    let falls : (stmt_room (call_room c.args.known.now c.args.depth)) (c.s-item.result) < total (stmt_room (call_room c.args.known.now c.args.depth)) (c.args.body.now) + 1 = item_falls (stmt_room (call_room c.args.known.now c.args.depth)) c.args.body.now c.loop-s.s-index c.s-item.result c.loop-s-test.true c.s-item.is in
    (omega arith, within)

pub statements::run_all-returns-then-not-goes : goal.statements::run_all-returns-then-not-goes
statements::run_all-returns-then-not-goes g t c =
    through_ends c.args.known.now (g.F.FactBase.rows c.args.facts.now) c.args.setting.now c.args.depth c.loop-s.invariant c.s-item.result c.loop-s-test.true c.s-item.is c.run-flow.ensures (sym c.goes.ensures ∙ c.if-not-goes.true)

pub statements::run_all-loop-s-preserved : goal.statements::run_all-loop-s-preserved
statements::run_all-loop-s-preserved g t c =
    through_on c.args.known.now (g.F.FactBase.rows c.args.facts.now) c.args.setting.now c.args.depth c.loop-s.invariant c.s-item.result c.loop-s-test.true c.s-item.is c.run-flow.ensures (sym c.goes.ensures ∙ c.if-not-goes.false)

pub statements::run_all-returns : goal.statements::run_all-returns
statements::run_all-returns g t c =
    all_through c.args.known.now (g.F.FactBase.rows c.args.facts.now) c.args.setting.now c.args.depth c.loop-s.invariant (omega arith)

pub calls::called-run_all-flow-requires : goal.calls::called-run_all-flow-requires
calls::called-run_all-flow-requires g t c κs within =
    let falls : (total (stmt_room (call_room c.args.known.now (c.args.depth - 1))) c.in-Some.callee.body.now) + 1 < call_room c.args.known.now c.args.depth + 1 = body_falls c.args.known.now c.args.depth (total (stmt_room (call_room c.args.known.now (c.args.depth - 1))) c.in-Some.callee.body.now) (omega arith) (body_among c.args.known.now c.args.name.now (c.in-Some.callee.parameters.now, c.in-Some.callee.body.now) (sym c.in-Some.ensures) (call_room c.args.known.now (c.args.depth - 1))) in
    (omega arith, within)

pub calls::called-returns : goal.calls::called-returns
calls::called-returns g t c =
    called_on c.args.known.now (g.F.FactBase.rows c.args.facts.now) c.args.name.now c.args.values c.args.depth c.args.turns.now c.take_turn.new.turns c.run_all-flow.new.turns (c.in-Some.callee.parameters.now, c.in-Some.callee.body.now) c.in_ok-env.env c.run_all-flow.new.env c.returned.result c.run_all-flow.result (omega arith) (sym c.in-Some.ensures)
    c.in_ok-take_turn.ensures c.in_ok-env.ensures (subst (λ setting. Runs c.run_all-flow.result (λ lists. stmts_meant c.args.known.now (g.F.FactBase.rows c.args.facts.now) setting (c.args.depth - 1) lists c.in-Some.callee.body.now) c.in_ok-env.env c.run_all-flow.new.env c.take_turn.new.turns c.run_all-flow.new.turns) c.none-setting.ensures c.run_all-flow.ensures) c.returned.ensures
