-- Lists of statements that end in a return.
use Rattle.std.proofs.Common.{◌≡◌, ℕ, ◌+◌, ◌-◌, ◌<◌, Bool, false, ◌&&◌, ◌==◌, zero, suc, List, [], ◌∷◌, length, drop, get_or, map, Option, Some, None, refl, sym, ap, ◌∙◌, arith}
use Rattle.std.specs.List.{list_all}
use Rattle.std.proofs.lemmas.Bool.{false≢true}
use Rattle.policy_infer.proofs.FieldFacts.{left_at}
use Rattle.policy_ast.specs.declared.expr.Expr.{Expr}
use Rattle.policy_ast.specs.declared.statement.Arm.{Arm}
use Rattle.policy_ast.specs.declared.statement.Else.{Else}
use Rattle.policy_ast.specs.declared.statement.Else.TheVariants as else_stmt
use Rattle.policy_ast.specs.declared.statement.IfStmt.{IfStmt}
use Rattle.policy_ast.specs.declared.statement.Stmt.{Stmt}
use Rattle.policy_ast.specs.declared.statement.Stmt.TheVariants as stmt
use Rattle.policy_infer.specs.working.Returns.{arms_return, else_returns_always}
use Rattle.policy_rules.proofs.Folds.{fold-stmt-If, fold-stmt-Match}
use Rattle.policy_rules.proofs.StatementMaps.{map_arm, map_else}
use Rattle.policy_rules.specs.Statements.{always_returns, else_returns, ends_in_return, last_does, returns_layer}

arms_same : (arms : List (Arm Stmt)) → list_all (λ a. last_does a.body) (map (map_arm always_returns) arms) ≡ arms_return arms
arms_same [] = refl
arms_same (a ∷ arms) = ap (λ rest. ends_in_return a.body && rest) (arms_same arms)

pub match_returns : (e : Expr) (arms : List (Arm Stmt)) → always_returns (stmt.Match e arms) ≡ arms_return arms
match_returns e arms = fold-stmt-Match returns_layer e arms ∙ arms_same arms

else_same : (o : Option (Else Stmt)) → else_returns (map_else always_returns o) ≡ else_returns_always o
else_same None = refl
else_same (Some (else_stmt.Block body)) = refl
else_same (Some (else_stmt.If s)) = refl

pub if_returns : (x : IfStmt Stmt) → always_returns (stmt.If x) ≡ (ends_in_return x.then && else_returns_always x.otherwise)
if_returns x = fold-stmt-If returns_layer x ∙ ap (λ b. ends_in_return x.then && b) (else_same x.otherwise)

-- the place of the last of a list that isn't empty
pub last_place : {A : Type 0} (xs : List A) (is_empty : Bool) → is_empty ≡ (length xs == 0) → is_empty ≡ false → (length xs - 1) + 1 ≡ length xs
last_place [] is_empty says isnt = absurd (false≢true (sym isnt ∙ says))
last_place (x ∷ xs) is_empty says isnt = omega arith

-- the last statement of a list decides
pub last_decides : (body : List Stmt) (i : ℕ) (s : Stmt) → i + 1 ≡ length body → s ≡ get_or body i s → ends_in_return body ≡ always_returns s
last_decides [] i s last is = absurd (omega arith)
last_decides (x ∷ []) zero s last is = ap always_returns (sym is)
last_decides (x ∷ []) (suc i) s last is = absurd (omega arith)
last_decides (x ∷ y ∷ body) zero s last is = absurd (omega arith)
last_decides (x ∷ y ∷ body) (suc i) s last is = last_decides (y ∷ body) i s (omega arith) is

-- the arm at a place decides with the arms behind it
pub arm_turn : (arms : List (Arm Stmt)) (i : ℕ) (a : Arm Stmt) (body : List Stmt) (s : Stmt) (is_empty returns : Bool) → i < length arms → a ≡ get_or arms i a → body ≡ a.body
    → is_empty ≡ (length body == 0) → is_empty ≡ false → s ≡ get_or body (length body - 1) s → returns ≡ always_returns s → arms_return (drop i arms) ≡ arms_return arms
    → arms_return arms ≡ (returns && arms_return (drop (i + 1) arms))
arm_turn arms i a body s is_empty returns lt is same says isnt last decides so_far =
    sym so_far ∙ ap arms_return (left_at arms i a lt is)
    ∙ ap (λ b. b && arms_return (drop (i + 1) arms)) (ap ends_in_return (sym same) ∙ last_decides body (length body - 1) s (last_place body is_empty says isnt) last ∙ sym decides)
