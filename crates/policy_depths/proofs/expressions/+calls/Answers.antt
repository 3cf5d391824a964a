use Rattle.std.proofs.Common.{◌∙◌, ◌&&◌, ap, sym, refl}
use Rattle.std.specs.List.{list_all}
use Rattle.policy_ast.specs.declared.expr.Expr.TheOpen.{Expr-F}
use Rattle.policy_ast.specs.declared.expr.Expr.TheVariants as expr
use Rattle.policy_rules.specs.Calls.{a_function}
use Rattle.policy_rules.specs.Expressions.{value_part}
use Rattle.policy_depths.specs.working.Gathering.{call_passes, else_passes, expression_passes, gap_passes}
use Rattle.policy_depths.proofs.Gathering.{all_mapped, at_layer, binds_mapped, both_gather, both_gather_so, if_mapped, none_gather, pattern_mapped, same_gather}
use Rattle.policy_depths.proofs.expressions.+calls.Goals as goal

pub push_expression-returns-in_ok-push_expression-in-Or : goal.push_expression-returns-in_ok-push_expression-in-Or
push_expression-returns-in_ok-push_expression-in-Or t c =
    both_gather c.push_expression-in-Or.result c.args.numbers.now c.push_expression.new.numbers c.push_expression-in-Or.new.numbers
    (λ test. expression_passes c.args.heads.now test c.get.result.now) (λ test. expression_passes c.args.heads.now test c.get-in-Or.result.now) (λ test. expression_passes c.args.heads.now test c.args.e.now)
    (λ test. rw (c.get.ensures, c.get-in-Or.ensures) (at_layer c.args.heads.now test c.args.e.now (Expr-F.Or c.in-Or.a c.in-Or.b) (c.in-Or.is ∙ sym (expr.rolls-Or c.in-Or.a c.in-Or.b))))
    c.in_ok-push_expression-in-Or.ensures c.push_expression-in-Or.ensures

pub push_expression-returns-in_ok-push_expression-in-And : goal.push_expression-returns-in_ok-push_expression-in-And
push_expression-returns-in_ok-push_expression-in-And t c =
    both_gather c.push_expression-in-And-2.result c.args.numbers.now c.push_expression-in-And.new.numbers c.push_expression-in-And-2.new.numbers
    (λ test. expression_passes c.args.heads.now test c.get-in-And.result.now) (λ test. expression_passes c.args.heads.now test c.get-in-And-2.result.now) (λ test. expression_passes c.args.heads.now test c.args.e.now)
    (λ test. rw (c.get-in-And.ensures, c.get-in-And-2.ensures) (at_layer c.args.heads.now test c.args.e.now (Expr-F.And c.in-And.a c.in-And.b) (c.in-And.is ∙ sym (expr.rolls-And c.in-And.a c.in-And.b))))
    c.in_ok-push_expression-in-And.ensures c.push_expression-in-And-2.ensures

pub push_expression-returns-in_ok-push_expression-in-Compare : goal.push_expression-returns-in_ok-push_expression-in-Compare
push_expression-returns-in_ok-push_expression-in-Compare t c =
    both_gather c.push_expression-in-Compare-2.result c.args.numbers.now c.push_expression-in-Compare.new.numbers c.push_expression-in-Compare-2.new.numbers
    (λ test. expression_passes c.args.heads.now test c.get-in-Compare.result.now) (λ test. expression_passes c.args.heads.now test c.get-in-Compare-2.result.now) (λ test. expression_passes c.args.heads.now test c.args.e.now)
    (λ test. rw (c.get-in-Compare.ensures, c.get-in-Compare-2.ensures) (at_layer c.args.heads.now test c.args.e.now (Expr-F.Compare c.in-Compare.a c.in-Compare.field-1 c.in-Compare.b) (c.in-Compare.is ∙ sym (expr.rolls-Compare c.in-Compare.a c.in-Compare.field-1 c.in-Compare.b))))
    c.in_ok-push_expression-in-Compare.ensures c.push_expression-in-Compare-2.ensures

pub push_expression-returns-in_ok-push_expression-in-Arithmetic : goal.push_expression-returns-in_ok-push_expression-in-Arithmetic
push_expression-returns-in_ok-push_expression-in-Arithmetic t c =
    both_gather c.push_expression-in-Arithmetic-2.result c.args.numbers.now c.push_expression-in-Arithmetic.new.numbers c.push_expression-in-Arithmetic-2.new.numbers
    (λ test. expression_passes c.args.heads.now test c.get-in-Arithmetic.result.now) (λ test. expression_passes c.args.heads.now test c.get-in-Arithmetic-2.result.now) (λ test. expression_passes c.args.heads.now test c.args.e.now)
    (λ test. rw (c.get-in-Arithmetic.ensures, c.get-in-Arithmetic-2.ensures) (at_layer c.args.heads.now test c.args.e.now (Expr-F.Arithmetic c.in-Arithmetic.field-0 c.in-Arithmetic.a c.in-Arithmetic.b) (c.in-Arithmetic.is ∙ sym (expr.rolls-Arithmetic c.in-Arithmetic.field-0 c.in-Arithmetic.a c.in-Arithmetic.b))))
    c.in_ok-push_expression-in-Arithmetic.ensures c.push_expression-in-Arithmetic-2.ensures

pub push_expression-returns-in-Is : goal.push_expression-returns-in-Is
push_expression-returns-in-Is t c =
    same_gather c.push_expression-in-Is.result c.args.numbers.now c.push_expression-in-Is.new.numbers (λ test. expression_passes c.args.heads.now test c.get-in-Is.result.now) (λ test. expression_passes c.args.heads.now test c.args.e.now)
    (λ test. rw c.get-in-Is.ensures (at_layer c.args.heads.now test c.args.e.now (Expr-F.Is c.in-Is.a c.in-Is.field-1) (c.in-Is.is ∙ sym (expr.rolls-Is c.in-Is.a c.in-Is.field-1)))) c.push_expression-in-Is.ensures

pub push_expression-returns-in-Unary : goal.push_expression-returns-in-Unary
push_expression-returns-in-Unary t c =
    same_gather c.push_expression-in-Unary.result c.args.numbers.now c.push_expression-in-Unary.new.numbers (λ test. expression_passes c.args.heads.now test c.get-in-Unary.result.now) (λ test. expression_passes c.args.heads.now test c.args.e.now)
    (λ test. rw c.get-in-Unary.ensures (at_layer c.args.heads.now test c.args.e.now (Expr-F.Unary c.in-Unary.field-0 c.in-Unary.a) (c.in-Unary.is ∙ sym (expr.rolls-Unary c.in-Unary.field-0 c.in-Unary.a)))) c.push_expression-in-Unary.ensures

pub push_expression-returns-in-Field : goal.push_expression-returns-in-Field
push_expression-returns-in-Field t c =
    same_gather c.push_expression-in-Field.result c.args.numbers.now c.push_expression-in-Field.new.numbers (λ test. expression_passes c.args.heads.now test c.get-in-Field.result.now) (λ test. expression_passes c.args.heads.now test c.args.e.now)
    (λ test. rw c.get-in-Field.ensures (at_layer c.args.heads.now test c.args.e.now (Expr-F.Field c.in-Field.a c.in-Field.field-1) (c.in-Field.is ∙ sym (expr.rolls-Field c.in-Field.a c.in-Field.field-1)))) c.push_expression-in-Field.ensures

pub push_expression-returns-in-Some : goal.push_expression-returns-in-Some
push_expression-returns-in-Some t c =
    same_gather c.push_expression-in-Some.result c.args.numbers.now c.push_expression-in-Some.new.numbers (λ test. expression_passes c.args.heads.now test c.get-in-Some.result.now) (λ test. expression_passes c.args.heads.now test c.args.e.now)
    (λ test. rw c.get-in-Some.ensures (at_layer c.args.heads.now test c.args.e.now (Expr-F.Some c.in-Some.a) (c.in-Some.is ∙ sym (expr.rolls-Some c.in-Some.a)))) c.push_expression-in-Some.ensures

pub push_expression-returns-in-Literal : goal.push_expression-returns-in-Literal
push_expression-returns-in-Literal t c = none_gather c.args.numbers.now (λ test. expression_passes c.args.heads.now test c.args.e.now) (λ test. at_layer c.args.heads.now test c.args.e.now (Expr-F.Literal c.in-Literal.field-0) (c.in-Literal.is ∙ sym (expr.rolls-Literal c.in-Literal.field-0)))

pub push_expression-returns-in-None : goal.push_expression-returns-in-None
push_expression-returns-in-None t c = none_gather c.args.numbers.now (λ test. expression_passes c.args.heads.now test c.args.e.now) (λ test. at_layer c.args.heads.now test c.args.e.now Expr-F.None (c.in-None.is ∙ sym expr.rolls-None))

pub push_expression-returns-in-This : goal.push_expression-returns-in-This
push_expression-returns-in-This t c = none_gather c.args.numbers.now (λ test. expression_passes c.args.heads.now test c.args.e.now) (λ test. at_layer c.args.heads.now test c.args.e.now Expr-F.This (c.in-This.is ∙ sym expr.rolls-This))

pub push_expression-returns-in-Name : goal.push_expression-returns-in-Name
push_expression-returns-in-Name t c = none_gather c.args.numbers.now (λ test. expression_passes c.args.heads.now test c.args.e.now) (λ test. at_layer c.args.heads.now test c.args.e.now (Expr-F.Name c.in-Name.field-0) (c.in-Name.is ∙ sym (expr.rolls-Name c.in-Name.field-0)))

pub push_expression-returns-in-ForeignCall : goal.push_expression-returns-in-ForeignCall
push_expression-returns-in-ForeignCall t c =
    same_gather c.push_expressions.result c.args.numbers.now c.push_expressions.new.numbers (λ test. list_all (λ e. expression_passes c.args.heads.now test e) c.as_slice.result.now) (λ test. expression_passes c.args.heads.now test c.args.e.now)
    (λ test. rw c.as_slice.ensures (at_layer c.args.heads.now test c.args.e.now (Expr-F.ForeignCall c.in-ForeignCall.field-0 c.in-ForeignCall.field-1 c.in-ForeignCall.arguments) (c.in-ForeignCall.is ∙ sym (expr.rolls-ForeignCall c.in-ForeignCall.field-0 c.in-ForeignCall.field-1 c.in-ForeignCall.arguments)) ∙ all_mapped (expression_passes c.args.heads.now test) c.in-ForeignCall.arguments)) c.push_expressions.ensures

pub push_expression-returns-in_ok-push_function-in-Call : goal.push_expression-returns-in_ok-push_function-in-Call
push_expression-returns-in_ok-push_function-in-Call t c =
    both_gather c.push_expressions-in-Call.result c.args.numbers.now c.push_function.new.numbers c.push_expressions-in-Call.new.numbers
    (λ test. call_passes c.args.heads.now test a_function c.in-Call.name) (λ test. list_all (λ e. expression_passes c.args.heads.now test e) c.as_slice-in-Call.result.now) (λ test. expression_passes c.args.heads.now test c.args.e.now)
    (λ test. rw c.as_slice-in-Call.ensures (at_layer c.args.heads.now test c.args.e.now (Expr-F.Call c.in-Call.name c.in-Call.arguments) (c.in-Call.is ∙ sym (expr.rolls-Call c.in-Call.name c.in-Call.arguments)) ∙ ap (λ b. call_passes c.args.heads.now test a_function c.in-Call.name && b) (all_mapped (expression_passes c.args.heads.now test) c.in-Call.arguments)))
    c.in_ok-push_function-in-Call.ensures c.push_expressions-in-Call.ensures

pub push_expression-returns-in-Struct : goal.push_expression-returns-in-Struct
push_expression-returns-in-Struct t c =
    same_gather c.push_binds.result c.args.numbers.now c.push_binds.new.numbers (λ test. list_all (λ b. expression_passes c.args.heads.now test b.value) c.as_slice-in-Struct.result.now) (λ test. expression_passes c.args.heads.now test c.args.e.now)
    (λ test. rw c.as_slice-in-Struct.ensures (at_layer c.args.heads.now test c.args.e.now (Expr-F.Struct c.in-Struct.field-0 c.in-Struct.binds) (c.in-Struct.is ∙ sym (expr.rolls-Struct c.in-Struct.field-0 c.in-Struct.binds)) ∙ binds_mapped (expression_passes c.args.heads.now test) c.in-Struct.binds)) c.push_binds.ensures

pub push_expression-returns-in-Query : goal.push_expression-returns-in-Query
push_expression-returns-in-Query t c =
    same_gather c.push_pattern.result c.args.numbers.now c.push_pattern.new.numbers
    (λ test. list_all (λ f. gap_passes c.args.heads.now test f.value) c.in-Query.p.keys && list_all (λ f. gap_passes c.args.heads.now test f.value) (value_part c.in-Query.p.values)) (λ test. expression_passes c.args.heads.now test c.args.e.now)
    (λ test. at_layer c.args.heads.now test c.args.e.now (Expr-F.Query c.in-Query.p) (c.in-Query.is ∙ sym (expr.rolls-Query c.in-Query.p)) ∙ pattern_mapped c.args.heads.now test c.in-Query.p) c.push_pattern.ensures

pub push_expression-returns-in-Exists : goal.push_expression-returns-in-Exists
push_expression-returns-in-Exists t c =
    same_gather c.push_pattern-in-Exists.result c.args.numbers.now c.push_pattern-in-Exists.new.numbers
    (λ test. list_all (λ f. gap_passes c.args.heads.now test f.value) c.in-Exists.p.keys && list_all (λ f. gap_passes c.args.heads.now test f.value) (value_part c.in-Exists.p.values)) (λ test. expression_passes c.args.heads.now test c.args.e.now)
    (λ test. at_layer c.args.heads.now test c.args.e.now (Expr-F.Exists c.in-Exists.p) (c.in-Exists.is ∙ sym (expr.rolls-Exists c.in-Exists.p)) ∙ pattern_mapped c.args.heads.now test c.in-Exists.p) c.push_pattern-in-Exists.ensures

pub push_expression-returns-in-Count : goal.push_expression-returns-in-Count
push_expression-returns-in-Count t c =
    same_gather c.push_pattern-in-Count.result c.args.numbers.now c.push_pattern-in-Count.new.numbers
    (λ test. list_all (λ f. gap_passes c.args.heads.now test f.value) c.in-Count.p.keys && list_all (λ f. gap_passes c.args.heads.now test f.value) (value_part c.in-Count.p.values)) (λ test. expression_passes c.args.heads.now test c.args.e.now)
    (λ test. at_layer c.args.heads.now test c.args.e.now (Expr-F.Count c.in-Count.field-0 c.in-Count.field-1 c.in-Count.p) (c.in-Count.is ∙ sym (expr.rolls-Count c.in-Count.field-0 c.in-Count.field-1 c.in-Count.p)) ∙ pattern_mapped c.args.heads.now test c.in-Count.p) c.push_pattern-in-Count.ensures

pub push_expression-returns-in_ok-push_then-in-If : goal.push_expression-returns-in_ok-push_then-in-If
push_expression-returns-in_ok-push_then-in-If t c =
    let items = c.args.heads.now in
    let x = c.get-x.result.now in
    both_gather c.push_otherwise.result c.args.numbers.now c.push_then.new.numbers c.push_otherwise.new.numbers
    (λ test. expression_passes items test x.head && (list_all (λ l. expression_passes items test l.value) x.then.lets && expression_passes items test x.then.value))
    (λ test. else_passes items test x.otherwise) (λ test. expression_passes items test c.args.e.now)
    (λ test. rw c.get-x.ensures (at_layer items test c.args.e.now (Expr-F.If c.in-If.x) (c.in-If.is ∙ sym (expr.rolls-If c.in-If.x)) ∙ if_mapped items test c.in-If.x))
    (both_gather_so c.args.numbers.now c.push_expression-in-If.new.numbers c.push_then.new.numbers (λ test. expression_passes items test x.head)
    (λ test. list_all (λ l. expression_passes items test l.value) x.then.lets && expression_passes items test x.then.value)
    (λ test. expression_passes items test x.head && (list_all (λ l. expression_passes items test l.value) x.then.lets && expression_passes items test x.then.value)) (λ test. refl)
    c.in_ok-push_expression-in-If.ensures c.in_ok-push_then-in-If.ensures)
    c.push_otherwise.ensures
