use Rattle.std.proofs.Common.{◌≡◌, ◌∙◌, ◌&&◌, refl}
use Rattle.policy_rules.specs.Heads.{type_exists}
use Rattle.policy_rules.specs.Items.{are_parameters, in_action, in_finish_function, in_function}
use Rattle.policy_rules.specs.Statements.{ends_in_return}
use Rattle.policy_rules.specs.Types.{declared, written_type}
use Rattle.policy_rules.specs.ItemJudging.{is_of_kind}
use Rattle.policy_rules.specs.Judging.{body_is, finish_stmts_are}
use Rattle.policy_check.proofs.Scopes.{answer_same}
use Rattle.policy_check.proofs.judge.is_of_kind.Goals as goal

pub is_function-requires : goal.is_function-requires
is_function-requires c = c.fields_at.ensures c.args.item.now c.requires.there ∙ rw (c.in-Function.is, c.as_slice-in-Function.ensures) refl

pub returns-in-Function : goal.returns-in-Function
returns-in-Function c =
    let items = c.args.heads.now in
    let scope : c.fields_at.result.now ≡ declared c.in-Function.parameters = c.fields_at.ensures c.args.item.now c.requires.there ∙ rw c.in-Function.is refl in
    answer_same c.is_function.result (are_parameters items c.as_slice-in-Function.result.now && (type_exists items c.in-Function.result && (body_is items (in_function (written_type c.in-Function.result)) c.as_slice-in-Function-2.result.now c.fields_at.result.now && ends_in_return c.as_slice-in-Function-2.result.now))) (is_of_kind items c.args.item.now)
    (rw (scope, c.as_slice-in-Function.ensures, c.as_slice-in-Function-2.ensures, c.in-Function.is) refl) c.is_function.ensures

pub is_finish_function-requires : goal.is_finish_function-requires
is_finish_function-requires c = c.fields_at-in-FinishFunction.ensures c.args.item.now c.requires.there ∙ rw (c.in-FinishFunction.is, c.as_slice-in-FinishFunction.ensures) refl

pub returns-in-FinishFunction : goal.returns-in-FinishFunction
returns-in-FinishFunction c =
    let items = c.args.heads.now in
    let scope : c.fields_at-in-FinishFunction.result.now ≡ declared c.in-FinishFunction.parameters = c.fields_at-in-FinishFunction.ensures c.args.item.now c.requires.there ∙ rw c.in-FinishFunction.is refl in
    answer_same c.is_finish_function.result (are_parameters items c.as_slice-in-FinishFunction.result.now && finish_stmts_are items in_finish_function c.as_slice-in-FinishFunction-2.result.now c.fields_at-in-FinishFunction.result.now) (is_of_kind items c.args.item.now)
    (rw (scope, c.as_slice-in-FinishFunction.ensures, c.as_slice-in-FinishFunction-2.ensures, c.in-FinishFunction.is) refl) c.is_finish_function.ensures

pub is_action-requires : goal.is_action-requires
is_action-requires c = c.fields_at-in-Action.ensures c.args.item.now c.requires.there ∙ rw (c.in-Action.is, c.as_slice-in-Action.ensures) refl

pub returns-in-Action : goal.returns-in-Action
returns-in-Action c =
    let items = c.args.heads.now in
    let scope : c.fields_at-in-Action.result.now ≡ declared c.in-Action.parameters = c.fields_at-in-Action.ensures c.args.item.now c.requires.there ∙ rw c.in-Action.is refl in
    answer_same c.is_action.result (are_parameters items c.as_slice-in-Action.result.now && body_is items in_action c.as_slice-in-Action-2.result.now c.fields_at-in-Action.result.now) (is_of_kind items c.args.item.now)
    (rw (scope, c.as_slice-in-Action.ensures, c.as_slice-in-Action-2.ensures, c.in-Action.is) refl) c.is_action.ensures
