use Rattle.std.proofs.Common.{◌≡◌, Bool, IfOk, subst, sym}
use Rattle.policy_infer.proofs.StatementForms.{finishes_same}
use Rattle.policy_infer.specs.working.Answers.{Allows}
use Rattle.policy_infer.specs.working.Behind.{finish_are}
use Rattle.policy_rules.specs.Scopes.{Scope}
use Rattle.policy_infer.proofs.bodies.finish_stmts_are.Goals as goal

pub returns : goal.returns
returns c =
    let items = c.args.heads.now in
    let context = c.args.context.now in
    let body = c.args.body.now in
    subst (λ (b : Bool). IfOk c.is_allowed.result (λ is. is ≡ b)) (sym (finishes_same items context body c.args.parameters.now))
    (c.is_allowed.ensures (finish_are items context body c.args.parameters.now)
    (subst (λ (scope : Scope). Allows c.finish_stmts.result (finish_are items context body scope)) c.in_ok-scope.ensures c.finish_stmts.ensures.judged))
