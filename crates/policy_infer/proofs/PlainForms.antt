-- A struct literal may stand inside `finish` where all of its expressions may.
use Rattle.std.proofs.Common.{◌≡◌, ◌&&◌, List, [], ◌∷◌, map, refl, ap, ◌∙◌}
use Rattle.std.specs.List.{list_all}
use Rattle.policy_ast.specs.declared.bind.Bind.{Bind}
use Rattle.policy_ast.specs.declared.expr.Expr.{Expr}
use Rattle.policy_ast.specs.declared.expr.Expr.TheVariants as expr
use Rattle.policy_rules.proofs.Folds.{fold-expr-Struct}
use Rattle.policy_rules.proofs.Maps.{map_bind}
use Rattle.policy_rules.specs.Finish.{are_plain, is_plain, is_plain_layer}
use Rattle.policy_rules.specs.Names.{Name}

binds_same : (binds : List (Bind Expr)) → list_all (λ b. b.value) (map (map_bind is_plain) binds) ≡ are_plain (map (λ b. b.value) binds)
binds_same [] = refl
binds_same (b ∷ binds) = ap (λ rest. is_plain b.value && rest) (binds_same binds)

pub plain_struct : (name : Name) (binds : List (Bind Expr)) → is_plain (expr.Struct name binds) ≡ are_plain (map (λ b. b.value) binds)
plain_struct name binds = fold-expr-Struct is_plain_layer name binds ∙ binds_same binds
