-- The types of expressions, from both directions of the inference.
use Rattle.std.proofs.Common.{List, sym, ◌∙◌}
use Rattle.std.proofs.lemmas.Option.{same_Some}
use Rattle.policy_ast.specs.declared.expr.Expr.{Expr}
use Rattle.policy_ast.specs.declared.item.Item.{Item}
use Rattle.policy_rules.proofs.Finding.{finds}
use Rattle.policy_rules.proofs.Inferring.{infers}
use Rattle.policy_rules.specs.Laws.{HasOneType}
use Rattle.policy_rules.specs.Scopes.{Scope}
use Rattle.policy_rules.specs.declared.context.Context.{Context}

pub has_one_type : (items : List Item) (context : Context) (scope : Scope) (e : Expr) → HasOneType items context scope e
has_one_type items context scope e = record {
  one = λ t u p q. same_Some t u (sym (infers items context p) ∙ infers items context q);
  is_inferred = λ t. (λ p. infers items context p, finds items context e scope t);
}
