use Rattle.std.proofs.Common.{◌∙◌, Some, None, length, map, refl, sym, ap, option_map, arith}
use Rattle.std.proofs.lemmas.Result.{err_from_is_err_and}
use Rattle.policy_ast.specs.declared.expr.Expr.{Expr}
use Rattle.policy_infer.proofs.Arms.{by_none, by_one, by_three, by_two, each, within}
use Rattle.policy_infer.proofs.FormTypes.{and_is, calculation_is, call_is, choice_is, compare_is, count_is, exists_is, field_is, foreign_call_is, literal_is, name_is, none_is, or_is, presence_is, query_is, some_is, struct_is, this_is, unary_is}
use Rattle.policy_infer.proofs.SoFar.{begins, ends, gap_turns, itself, lacks, led, led_on, let_ends, let_stops, stops, turns}
use Rattle.policy_infer.specs.working.Types.{bind_types, gap_type_of, gap_types_of, type_of, types_of}
use Rattle.policy_rules.specs.Expressions.{count_type, is_positive, value_part}
use Rattle.policy_rules.specs.declared.types.NamedType.TheVariants as ty
use Rattle.policy_rules.specs.Inference.{calculation_of, call_of, choice_of, compare_of, field_of, logic_of, only_if, presence_of, struct_literal_of, unary_of, with_pattern}
use Rattle.policy_infer.proofs.expressions.+infer.Goals as goal

pub infer-returns-in-Or : goal.infer-returns-in-Or
infer-returns-in-Or t c =
    by_two (type_of c.args.heads.now c.args.context.now c.args.e.now) c.args.scope.now logic_of
    (ap (λ (e : Expr). type_of c.args.heads.now c.args.context.now e c.args.scope.now) (rw (c.get.ensures, c.get-in-Or.ensures) c.in-Or.is) ∙ or_is c.args.heads.now c.args.context.now c.args.scope.now c.get.result.now c.get-in-Or.result.now)
    c.infer-first.ensures c.infer.ensures c.logic_of.ensures

pub infer-returns-in-And : goal.infer-returns-in-And
infer-returns-in-And t c =
    by_two (type_of c.args.heads.now c.args.context.now c.args.e.now) c.args.scope.now logic_of
    (ap (λ (e : Expr). type_of c.args.heads.now c.args.context.now e c.args.scope.now) (rw (c.get-in-And.ensures, c.get-in-And-2.ensures) c.in-And.is) ∙ and_is c.args.heads.now c.args.context.now c.args.scope.now c.get-in-And.result.now c.get-in-And-2.result.now)
    c.infer-first-in-And.ensures c.infer-in-And.ensures c.logic_of-in-And.ensures

pub infer-returns-in-Compare : goal.infer-returns-in-Compare
infer-returns-in-Compare t c =
    by_two (type_of c.args.heads.now c.args.context.now c.args.e.now) c.args.scope.now (compare_of c.in-Compare.op)
    (ap (λ (e : Expr). type_of c.args.heads.now c.args.context.now e c.args.scope.now) (rw (c.get-in-Compare.ensures, c.get-in-Compare-2.ensures) c.in-Compare.is) ∙ compare_is c.args.heads.now c.args.context.now c.args.scope.now c.get-in-Compare.result.now c.in-Compare.op c.get-in-Compare-2.result.now)
    c.infer-first-in-Compare.ensures c.infer-in-Compare.ensures c.compare_of.ensures

pub infer-returns-in-Is : goal.infer-returns-in-Is
infer-returns-in-Is t c =
    by_one (type_of c.args.heads.now c.args.context.now c.args.e.now) c.args.scope.now presence_of
    (ap (λ (e : Expr). type_of c.args.heads.now c.args.context.now e c.args.scope.now) (rw c.get-in-Is.ensures c.in-Is.is) ∙ presence_is c.args.heads.now c.args.context.now c.args.scope.now c.get-in-Is.result.now c.in-Is.field-1)
    c.infer-in-Is.ensures c.presence_of.ensures

pub infer-returns-in-Unary : goal.infer-returns-in-Unary
infer-returns-in-Unary t c =
    by_one (type_of c.args.heads.now c.args.context.now c.args.e.now) c.args.scope.now (unary_of c.in-Unary.op)
    (ap (λ (e : Expr). type_of c.args.heads.now c.args.context.now e c.args.scope.now) (rw c.get-in-Unary.ensures c.in-Unary.is) ∙ unary_is c.args.heads.now c.args.context.now c.args.scope.now c.in-Unary.op c.get-in-Unary.result.now)
    c.infer-in-Unary.ensures c.unary_of.ensures

pub infer-returns-in-Field : goal.infer-returns-in-Field
infer-returns-in-Field t c =
    by_one (type_of c.args.heads.now c.args.context.now c.args.e.now) c.args.scope.now (field_of c.args.heads.now c.in-Field.name)
    (ap (λ (e : Expr). type_of c.args.heads.now c.args.context.now e c.args.scope.now) (rw c.get-in-Field.ensures c.in-Field.is) ∙ field_is c.args.heads.now c.args.context.now c.args.scope.now c.get-in-Field.result.now c.in-Field.name)
    c.infer-found.ensures c.field_of.ensures

pub infer-returns-in-Literal : goal.infer-returns-in-Literal
infer-returns-in-Literal t c =
    by_none (type_of c.args.heads.now c.args.context.now c.args.e.now) c.args.scope.now
    (ap (λ (e : Expr). type_of c.args.heads.now c.args.context.now e c.args.scope.now) c.in-Literal.is ∙ literal_is c.args.heads.now c.args.context.now c.args.scope.now c.in-Literal.literal)
    c.literal_type.ensures

pub infer-returns-in-None : goal.infer-returns-in-None
infer-returns-in-None t c =
    by_none (type_of c.args.heads.now c.args.context.now c.args.e.now) c.args.scope.now
    (ap (λ (e : Expr). type_of c.args.heads.now c.args.context.now e c.args.scope.now) c.in-None.is ∙ none_is c.args.heads.now c.args.context.now c.args.scope.now)
    c.none_type.ensures

pub infer-returns-in-Some : goal.infer-returns-in-Some
infer-returns-in-Some t c =
    by_one (type_of c.args.heads.now c.args.context.now c.args.e.now) c.args.scope.now (option_map ty.Optional)
    (ap (λ (e : Expr). type_of c.args.heads.now c.args.context.now e c.args.scope.now) (rw c.get-in-Some.ensures c.in-Some.is) ∙ some_is c.args.heads.now c.args.context.now c.args.scope.now c.get-in-Some.result.now)
    c.infer-in-Some.ensures c.some_of.ensures

pub infer-returns-in-This : goal.infer-returns-in-This
infer-returns-in-This t c =
    by_none (type_of c.args.heads.now c.args.context.now c.args.e.now) c.args.scope.now
    (ap (λ (e : Expr). type_of c.args.heads.now c.args.context.now e c.args.scope.now) c.in-This.is ∙ this_is c.args.heads.now c.args.context.now c.args.scope.now)
    c.this_type.ensures

pub infer-returns-in-Name : goal.infer-returns-in-Name
infer-returns-in-Name t c =
    by_none (type_of c.args.heads.now c.args.context.now c.args.e.now) c.args.scope.now
    (ap (λ (e : Expr). type_of c.args.heads.now c.args.context.now e c.args.scope.now) c.in-Name.is ∙ name_is c.args.heads.now c.args.context.now c.args.scope.now c.in-Name.name)
    c.name_type.ensures

pub infer-returns-in-ForeignCall : goal.infer-returns-in-ForeignCall
infer-returns-in-ForeignCall t c =
    by_none (type_of c.args.heads.now c.args.context.now c.args.e.now) c.args.scope.now
    (ap (λ (e : Expr). type_of c.args.heads.now c.args.context.now e c.args.scope.now) (rw c.as_slice.ensures c.in-ForeignCall.is) ∙ foreign_call_is c.args.heads.now c.args.context.now c.args.scope.now c.in-ForeignCall.of c.in-ForeignCall.called c.as_slice.result.now)
    c.foreign_call_type.ensures

pub infer-returns-in-Call : goal.infer-returns-in-Call
infer-returns-in-Call t c =
    by_one (type_of c.args.heads.now c.args.context.now c.args.e.now) c.args.scope.now (call_of c.args.heads.now c.in-Call.called)
    (ap (λ (e : Expr). type_of c.args.heads.now c.args.context.now e c.args.scope.now) (rw c.as_slice-in-Call.ensures c.in-Call.is) ∙ call_is c.args.heads.now c.args.context.now c.args.scope.now c.in-Call.called c.as_slice-in-Call.result.now)
    (each c.infer_all-found.ensures) c.call_of.ensures

pub infer-returns-in-Struct : goal.infer-returns-in-Struct
infer-returns-in-Struct t c =
    by_one (type_of c.args.heads.now c.args.context.now c.args.e.now) c.args.scope.now (struct_literal_of c.args.heads.now c.in-Struct.name (map (λ b. b.name) c.as_slice-binds.result.now))
    (ap (λ (e : Expr). type_of c.args.heads.now c.args.context.now e c.args.scope.now) (rw c.as_slice-binds.ensures c.in-Struct.is) ∙ struct_is c.args.heads.now c.args.context.now c.args.scope.now c.in-Struct.name c.as_slice-binds.result.now)
    (each c.infer_binds-found.ensures) c.struct_literal_of.ensures

pub infer-returns-in-Arithmetic : goal.infer-returns-in-Arithmetic
infer-returns-in-Arithmetic t c =
    by_two (type_of c.args.heads.now c.args.context.now c.args.e.now) c.args.scope.now (calculation_of c.in-Arithmetic.op)
    (ap (λ (e : Expr). type_of c.args.heads.now c.args.context.now e c.args.scope.now) (rw (c.get-in-Arithmetic.ensures, c.get-in-Arithmetic-2.ensures) c.in-Arithmetic.is) ∙ calculation_is c.args.heads.now c.args.context.now c.args.scope.now c.in-Arithmetic.op c.get-in-Arithmetic.result.now c.get-in-Arithmetic-2.result.now)
    c.infer-first-in-Arithmetic.ensures c.infer-in-Arithmetic.ensures c.calculation_of.ensures

pub infer-returns-in-Query : goal.infer-returns-in-Query
infer-returns-in-Query t c =
    by_two (type_of c.args.heads.now c.args.context.now c.args.e.now) c.args.scope.now (λ ks vs. with_pattern c.args.heads.now c.in-Query.p.fact (map (λ f. f.name) c.in-Query.p.keys) ks (map (λ f. f.name) (value_part c.in-Query.p.values)) vs (ty.Optional (ty.Struct c.in-Query.p.fact)))
    (ap (λ (e : Expr). type_of c.args.heads.now c.args.context.now e c.args.scope.now) c.in-Query.is ∙ query_is c.args.heads.now c.args.context.now c.args.scope.now c.in-Query.p)
    (each c.pattern_keys-keys.ensures) (each c.pattern_values-values.ensures)
    (λ ks vs keys values. c.pattern_type.ensures ks vs (ty.Optional (ty.Struct c.in-Query.p.fact)) keys values c.query_type.ensures)

pub infer-returns-in-Exists : goal.infer-returns-in-Exists
infer-returns-in-Exists t c =
    by_two (type_of c.args.heads.now c.args.context.now c.args.e.now) c.args.scope.now (λ ks vs. with_pattern c.args.heads.now c.in-Exists.p.fact (map (λ f. f.name) c.in-Exists.p.keys) ks (map (λ f. f.name) (value_part c.in-Exists.p.values)) vs ty.Bool)
    (ap (λ (e : Expr). type_of c.args.heads.now c.args.context.now e c.args.scope.now) c.in-Exists.is ∙ exists_is c.args.heads.now c.args.context.now c.args.scope.now c.in-Exists.p)
    (each c.pattern_keys-keys-in-Exists.ensures) (each c.pattern_values-values-in-Exists.ensures)
    (λ ks vs keys values. c.pattern_type-in-Exists.ensures ks vs ty.Bool keys values refl)

pub infer-returns-in-Count : goal.infer-returns-in-Count
infer-returns-in-Count t c =
    by_two (type_of c.args.heads.now c.args.context.now c.args.e.now) c.args.scope.now (λ ks vs. only_if (is_positive c.in-Count.n) (with_pattern c.args.heads.now c.in-Count.p.fact (map (λ f. f.name) c.in-Count.p.keys) ks (map (λ f. f.name) (value_part c.in-Count.p.values)) vs (count_type c.in-Count.op)))
    (ap (λ (e : Expr). type_of c.args.heads.now c.args.context.now e c.args.scope.now) c.in-Count.is ∙ count_is c.args.heads.now c.args.context.now c.args.scope.now c.in-Count.op c.in-Count.n c.in-Count.p)
    (each c.pattern_keys-keys-in-Count.ensures) (each c.pattern_values-values-in-Count.ensures)
    (λ ks vs keys values.
    c.counted.ensures (with_pattern c.args.heads.now c.in-Count.p.fact (map (λ f. f.name) c.in-Count.p.keys) ks (map (λ f. f.name) (value_part c.in-Count.p.values)) vs (count_type c.in-Count.op))
    (c.pattern_type-in-Count.ensures ks vs (count_type c.in-Count.op) keys values (ap Some (sym c.count_type.ensures))))

pub infer-returns-in-If : goal.infer-returns-in-If
infer-returns-in-If t c =
    by_three (type_of c.args.heads.now c.args.context.now c.args.e.now) c.args.scope.now choice_of
    (ap (λ (e : Expr). type_of c.args.heads.now c.args.context.now e c.args.scope.now) (rw c.get-x.ensures c.in-If.is) ∙ choice_is c.args.heads.now c.args.context.now c.args.scope.now c.get-x.result.now)
    c.infer-head.ensures (within c.infer_then-first.ensures c.len-outside.result c.len-outside.ensures c.truncate.ensures)
    (within c.infer_otherwise-second.ensures c.len-outside.result (c.len-outside.ensures ∙ ap (λ scope. length scope) (sym (within c.infer_then-first.ensures c.len-outside.result c.len-outside.ensures c.truncate.ensures).kept)) c.truncate-in-If.ensures) c.choice_of.ensures

pub infer_all-loop-e-init : goal.infer_all-loop-e-init
infer_all-loop-e-init t c =
    rw c.new-types.ensures (begins (types_of c.args.heads.now c.args.context.now) (type_of c.args.heads.now c.args.context.now) (λ x xs scope. refl) (λ scope. refl) c.args.es.now c.args.scope.now)

pub infer_all-returns-in_err-types : goal.infer_all-returns-in_err-types
infer_all-returns-in_err-types t c =
    let p = err_from_is_err_and c.from_residual.result c.from_residual.ensures.1 in
    rw (p.1, p.2)
    (stops (types_of c.args.heads.now c.args.context.now) (type_of c.args.heads.now c.args.context.now) (λ x xs scope. refl) (λ scope. refl) c.loop-e.invariant c.e-item.result (λ t. t) c.in_err-types.field-0.0 (length c.args.es.now) c.loop-e-test.true c.e-item.is
    (λ scope. itself (type_of c.args.heads.now c.args.context.now c.e-item.result scope)) c.infer.ensures c.in_err-types.ensures)

pub infer_all-loop-e-preserved : goal.infer_all-loop-e-preserved
infer_all-loop-e-preserved t c =
    turns (types_of c.args.heads.now c.args.context.now) (type_of c.args.heads.now c.args.context.now) (λ x xs scope. refl) (λ scope. refl) c.loop-e.invariant c.e-item.result (λ t. t) c.loop-e-test.true c.e-item.is (λ scope. itself (type_of c.args.heads.now c.args.context.now c.e-item.result scope)) c.infer.ensures
    c.in_ok-types.ensures

pub infer_all-returns : goal.infer_all-returns
infer_all-returns t c =
    ends (types_of c.args.heads.now c.args.context.now) (type_of c.args.heads.now c.args.context.now) (λ x xs scope. refl) (λ scope. refl) c.loop-e.invariant (omega arith)

pub infer_binds-loop-bind-init : goal.infer_binds-loop-bind-init
infer_binds-loop-bind-init t c =
    rw c.new-types.ensures (begins (bind_types c.args.heads.now c.args.context.now) (λ b. type_of c.args.heads.now c.args.context.now b.value) (λ x xs scope. refl) (λ scope. refl) c.args.binds.now c.args.scope.now)

pub infer_binds-returns-in_err-types : goal.infer_binds-returns-in_err-types
infer_binds-returns-in_err-types t c =
    let p = err_from_is_err_and c.from_residual.result c.from_residual.ensures.1 in
    rw (p.1, p.2)
    (stops (bind_types c.args.heads.now c.args.context.now) (λ b. type_of c.args.heads.now c.args.context.now b.value) (λ x xs scope. refl) (λ scope. refl) c.loop-bind.invariant c.bind-item.result (λ t. t) c.in_err-types.field-0.0 (length c.args.binds.now) c.loop-bind-test.true c.bind-item.is
    (λ scope. itself (type_of c.args.heads.now c.args.context.now c.bind-item.result.value scope)) c.infer.ensures c.in_err-types.ensures)

pub infer_binds-loop-bind-preserved : goal.infer_binds-loop-bind-preserved
infer_binds-loop-bind-preserved t c =
    turns (bind_types c.args.heads.now c.args.context.now) (λ b. type_of c.args.heads.now c.args.context.now b.value) (λ x xs scope. refl) (λ scope. refl) c.loop-bind.invariant c.bind-item.result (λ t. t) c.loop-bind-test.true c.bind-item.is (λ scope. itself (type_of c.args.heads.now c.args.context.now c.bind-item.result.value scope)) c.infer.ensures
    c.in_ok-types.ensures

pub infer_binds-returns : goal.infer_binds-returns
infer_binds-returns t c =
    ends (bind_types c.args.heads.now c.args.context.now) (λ b. type_of c.args.heads.now c.args.context.now b.value) (λ x xs scope. refl) (λ scope. refl) c.loop-bind.invariant (omega arith)

pub pattern_keys-loop-field-init : goal.pattern_keys-loop-field-init
pattern_keys-loop-field-init t c =
    rw c.new-types.ensures (begins (gap_types_of c.args.heads.now c.args.context.now) (λ f. gap_type_of c.args.heads.now c.args.context.now f.value) (λ x xs scope. refl) (λ scope. refl) c.as_slice-field-items.result.now c.args.scope.now)

pub pattern_keys-returns-in_err-push : goal.pattern_keys-returns-in_err-push
pattern_keys-returns-in_err-push t c =
    let p = err_from_is_err_and c.from_residual.result c.from_residual.ensures.1 in
    rw (p.1, p.2, ← c.as_slice-field-items.ensures)
    (lacks (gap_types_of c.args.heads.now c.args.context.now) (λ f. gap_type_of c.args.heads.now c.args.context.now f.value) (λ x xs scope. refl) (λ scope. refl) c.loop-field.invariant (length c.as_slice-field-items.result.now))

pub pattern_keys-loop-field-preserved-in_default : goal.pattern_keys-loop-field-preserved-in_default
pattern_keys-loop-field-preserved-in_default t c =
    gap_turns (gap_types_of c.args.heads.now c.args.context.now) (λ f. gap_type_of c.args.heads.now c.args.context.now f.value) (λ x xs scope. refl) (λ scope. refl) c.loop-field.invariant c.field-item.result None c.loop-field-test.true c.field-item.is (λ scope. ap (λ v. gap_type_of c.args.heads.now c.args.context.now v scope) c.in_default.is)
    c.in_ok-push.ensures.ok

pub pattern_keys-returns-in_err-types : goal.pattern_keys-returns-in_err-types
pattern_keys-returns-in_err-types t c =
    let p = err_from_is_err_and c.from_residual-in_err-types.result c.from_residual-in_err-types.ensures.1 in
    rw (p.1, p.2, ← c.as_slice-field-items.ensures)
    (stops (gap_types_of c.args.heads.now c.args.context.now) (λ f. gap_type_of c.args.heads.now c.args.context.now f.value) (λ x xs scope. refl) (λ scope. refl) c.loop-field.invariant c.field-item.result Some c.in_err-types.field-0.0 (length c.as_slice-field-items.result.now) c.loop-field-test.true c.field-item.is
    (λ scope. ap (λ v. gap_type_of c.args.heads.now c.args.context.now v scope) c.in-Some.is) c.infer.ensures c.in_err-types.ensures)

pub pattern_keys-loop-field-preserved : goal.pattern_keys-loop-field-preserved
pattern_keys-loop-field-preserved t c =
    turns (gap_types_of c.args.heads.now c.args.context.now) (λ f. gap_type_of c.args.heads.now c.args.context.now f.value) (λ x xs scope. refl) (λ scope. refl) c.loop-field.invariant c.field-item.result Some c.loop-field-test.true c.field-item.is (λ scope. ap (λ v. gap_type_of c.args.heads.now c.args.context.now v scope) c.in-Some.is)
    c.infer.ensures c.in_ok-types.ensures

pub pattern_keys-returns : goal.pattern_keys-returns
pattern_keys-returns t c =
    rw (← c.as_slice-field-items.ensures) (ends (gap_types_of c.args.heads.now c.args.context.now) (λ f. gap_type_of c.args.heads.now c.args.context.now f.value) (λ x xs scope. refl) (λ scope. refl) c.loop-field.invariant (omega arith))

pub pattern_values-loop-field-init : goal.pattern_values-loop-field-init
pattern_values-loop-field-init t c =
    rw c.new-types.ensures (begins (gap_types_of c.args.heads.now c.args.context.now) (λ f. gap_type_of c.args.heads.now c.args.context.now f.value) (λ x xs scope. refl) (λ scope. refl) c.as_slice-field-items.result.now c.args.scope.now)

pub pattern_values-returns-in_err-push : goal.pattern_values-returns-in_err-push
pattern_values-returns-in_err-push t c =
    let p = err_from_is_err_and c.from_residual.result c.from_residual.ensures.1 in
    rw (p.1, p.2, c.in-Some.is, ← c.as_slice-field-items.ensures)
    (lacks (gap_types_of c.args.heads.now c.args.context.now) (λ f. gap_type_of c.args.heads.now c.args.context.now f.value) (λ x xs scope. refl) (λ scope. refl) c.loop-field.invariant (length c.as_slice-field-items.result.now))

pub pattern_values-loop-field-preserved-in_default-value : goal.pattern_values-loop-field-preserved-in_default-value
pattern_values-loop-field-preserved-in_default-value t c =
    gap_turns (gap_types_of c.args.heads.now c.args.context.now) (λ f. gap_type_of c.args.heads.now c.args.context.now f.value) (λ x xs scope. refl) (λ scope. refl) c.loop-field.invariant c.field-item.result None c.loop-field-test.true c.field-item.is (λ scope. ap (λ v. gap_type_of c.args.heads.now c.args.context.now v scope) c.in_default-value.is)
    c.in_ok-push.ensures.ok

pub pattern_values-returns-in_err-types : goal.pattern_values-returns-in_err-types
pattern_values-returns-in_err-types t c =
    let p = err_from_is_err_and c.from_residual-in_err-types.result c.from_residual-in_err-types.ensures.1 in
    rw (p.1, p.2, c.in-Some.is, ← c.as_slice-field-items.ensures)
    (stops (gap_types_of c.args.heads.now c.args.context.now) (λ f. gap_type_of c.args.heads.now c.args.context.now f.value) (λ x xs scope. refl) (λ scope. refl) c.loop-field.invariant c.field-item.result Some c.in_err-types.field-0.0 (length c.as_slice-field-items.result.now) c.loop-field-test.true c.field-item.is
    (λ scope. ap (λ v. gap_type_of c.args.heads.now c.args.context.now v scope) c.in-Some-value.is) c.infer.ensures c.in_err-types.ensures)

pub pattern_values-loop-field-preserved : goal.pattern_values-loop-field-preserved
pattern_values-loop-field-preserved t c =
    turns (gap_types_of c.args.heads.now c.args.context.now) (λ f. gap_type_of c.args.heads.now c.args.context.now f.value) (λ x xs scope. refl) (λ scope. refl) c.loop-field.invariant c.field-item.result Some c.loop-field-test.true c.field-item.is (λ scope. ap (λ v. gap_type_of c.args.heads.now c.args.context.now v scope) c.in-Some-value.is)
    c.infer.ensures c.in_ok-types.ensures

pub pattern_values-returns : goal.pattern_values-returns
pattern_values-returns t c =
    rw (c.in-Some.is, ← c.as_slice-field-items.ensures) (ends (gap_types_of c.args.heads.now c.args.context.now) (λ f. gap_type_of c.args.heads.now c.args.context.now f.value) (λ x xs scope. refl) (λ scope. refl) c.loop-field.invariant (omega arith))

pub infer_then-loop-one-init : goal.infer_then-loop-one-init
infer_then-loop-one-init t c =
    led c.args.heads.now c.args.context.now c.as_slice-one-items.result.now c.args.scope.now

pub infer_then-returns-in_err-introduce : goal.infer_then-returns-in_err-introduce
infer_then-returns-in_err-introduce t c =
    let p = err_from_is_err_and c.from_residual.result c.from_residual.ensures.1 in
    rw (p.1, p.2, ← c.as_slice-one-items.ensures)
    (let_stops c.args.heads.now c.args.context.now c.loop-one.invariant c.one-item.result c.args.x.now.then.value c.in_err-introduce.field-0.0 c.loop-one-test.true c.one-item.is c.infer-found.ensures
    c.in_err-introduce.ensures.judged c.in_err-introduce.ensures.kept)

pub infer_then-loop-one-preserved : goal.infer_then-loop-one-preserved
infer_then-loop-one-preserved t c =
    led_on c.args.heads.now c.args.context.now c.loop-one.invariant c.one-item.result c.loop-one-test.true c.one-item.is c.infer-found.ensures c.in_ok-introduce.ensures.judged c.in_ok-introduce.ensures.kept

pub infer_then-returns : goal.infer_then-returns
infer_then-returns t c =
    rw (← c.as_slice-one-items.ensures) (let_ends c.args.heads.now c.args.context.now c.loop-one.invariant c.args.x.now.then.value (omega arith) c.infer.ensures)

pub infer_otherwise-loop-one-init : goal.infer_otherwise-loop-one-init
infer_otherwise-loop-one-init t c =
    led c.args.heads.now c.args.context.now c.as_slice-one-items.result.now c.args.scope.now

pub infer_otherwise-returns-in_err-introduce : goal.infer_otherwise-returns-in_err-introduce
infer_otherwise-returns-in_err-introduce t c =
    let p = err_from_is_err_and c.from_residual.result c.from_residual.ensures.1 in
    rw (p.1, p.2, c.in-Block.is, ← c.as_slice-one-items.ensures)
    (let_stops c.args.heads.now c.args.context.now c.loop-one.invariant c.one-item.result c.in-Block.b.value c.in_err-introduce.field-0.0 c.loop-one-test.true c.one-item.is c.infer-found.ensures
    c.in_err-introduce.ensures.judged c.in_err-introduce.ensures.kept)

pub infer_otherwise-loop-one-preserved : goal.infer_otherwise-loop-one-preserved
infer_otherwise-loop-one-preserved t c =
    led_on c.args.heads.now c.args.context.now c.loop-one.invariant c.one-item.result c.loop-one-test.true c.one-item.is c.infer-found.ensures c.in_ok-introduce.ensures.judged c.in_ok-introduce.ensures.kept

pub infer_otherwise-returns : goal.infer_otherwise-returns
infer_otherwise-returns t c =
    rw (c.in-Block.is, ← c.as_slice-one-items.ensures) (let_ends c.args.heads.now c.args.context.now c.loop-one.invariant c.in-Block.b.value (omega arith) c.infer-2.ensures)
