use Rattle.std.proofs.Common.{◌≡◌, Bool, IfOk, subst, sym}
use Rattle.policy_infer.proofs.StatementForms.{stmts_same}
use Rattle.policy_infer.specs.working.Answers.{Allows}
use Rattle.policy_infer.specs.working.Behind.{are_stmts}
use Rattle.policy_rules.specs.Scopes.{Scope}
use Rattle.policy_infer.proofs.bodies.body_is.Goals as goal

pub returns : goal.returns
returns c =
    let items = c.args.heads.now in
    let context = c.args.context.now in
    let body = c.args.body.now in
    subst (λ (b : Bool). IfOk c.is_allowed.result (λ is. is ≡ b)) (sym (stmts_same items context body c.args.parameters.now))
    (c.is_allowed.ensures (are_stmts items context body c.args.parameters.now)
    (subst (λ (scope : Scope). Allows c.judge_all.result (are_stmts items context body scope)) c.in_ok-scope.ensures c.judge_all.ensures.judged))
