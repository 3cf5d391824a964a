use Rattle.std.proofs.Common.{◌≡◌, ◌∙◌, [], ◌∷◌, None, ap, sym, subst, string_bytes}
use Rattle.policy_rules.specs.Scopes.{type_in, with_name}
use Rattle.policy_infer.proofs.ScopeFacts.{inserted, keeps_more}
use Rattle.policy_infer.specs.working.Answers.{Keeps}
use Rattle.policy_infer.specs.working.ScopeViews.{scope_of}
use Rattle.policy_infer.proofs.scope.Scope.push.Goals as goal

pub returns-clause-added : goal.returns-clause-added
returns-clause-added c =
    let name : string_bytes c.in_ok-name.name ≡ c.args.name.now = c.in_ok-name.ensures.ok ∙ c.as_str.ensures.text in
    let absent : type_in (scope_of c.self.inside.names.entries) (string_bytes c.in_ok-name.name) ≡ None = rw (c.self.view_is, name) c.requires in
    ap scope_of c.in_ok-insert.ensures.entries ∙ inserted c.in_ok-name.name c.args.ty c.self.inside.names.entries absent ∙ ap (λ scope. with_name scope (string_bytes c.in_ok-name.name) c.args.ty) c.self.view_is
    ∙ ap (λ x. with_name c.args.self.now x c.args.ty) name

pub returns-clause-kept : goal.returns-clause-kept
returns-clause-kept c =
    subst (Keeps c.args.self.now) (sym (returns-clause-added c)) (keeps_more c.args.self.now (record { name = c.args.name.now; ty = c.args.ty } ∷ []))
