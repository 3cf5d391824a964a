-- The room of a statement is more than that of what stands in it.
use Rattle.std.proofs.Common.{◌≡◌, ◌≤◌, ◌<◌, ℕ, zero, suc, ◌+◌, Bool, true, false, cond, List, [], ◌∷◌, length, map, get_or, Option, Some, None, refl, ap, ◌∙◌, arith}
use Rattle.std.proofs.lemmas.Option.{same_Some}
use Rattle.base_bytes.specs.declared.value.Value.{Value}
use Rattle.policy_ast.specs.declared.expr.Expr.{Expr}
use Rattle.policy_ast.specs.declared.item.Item.{Item}
use Rattle.policy_ast.specs.declared.pattern.Pattern.{Pattern}
use Rattle.policy_ast.specs.declared.statement.Arm.{Arm}
use Rattle.policy_ast.specs.declared.statement.Else.{Else}
use Rattle.policy_ast.specs.declared.statement.Else.TheVariants as else_stmt
use Rattle.policy_ast.specs.declared.statement.IfStmt.{IfStmt}
use Rattle.policy_ast.specs.declared.statement.Stmt.{Stmt}
use Rattle.policy_ast.specs.declared.statement.Stmt.TheVariants as stmt
use Rattle.policy_meaning.specs.Arms.{first_body, takes}
use Rattle.policy_rules.proofs.Folds.{fold-stmt-If, fold-stmt-Map, fold-stmt-Match}
use Rattle.policy_rules.proofs.StatementMaps.{map_arm, map_else}
use Rattle.policy_rules.specs.Names.{Name}
use Rattle.policy_eval.specs.working.ActionRooms.{arms_room, deed_layer, deed_room, deeds_room, else_deed_room, else_layer}
use Rattle.policy_eval.specs.working.Rooms.{of_number, total}

total_map : {A : Type 0} (f : A → ℕ) (xs : List A) → total of_number (map f xs) ≡ total f xs
total_map f [] = refl
total_map f (x ∷ xs) = ap (λ n. f x + n) (total_map f xs)

arms_total : (f : Stmt → ℕ) (arms : List (Arm Stmt)) → total (λ a. total of_number a.body) (map (map_arm f) arms) ≡ total (λ a. total f a.body) arms
arms_total f [] = refl
arms_total f (a ∷ arms) = ap (λ n. n + total (λ a. total of_number a.body) (map (map_arm f) arms)) (total_map f a.body) ∙ ap (λ n. total f a.body + n) (arms_total f arms)

else_total : (o : Option (Else Stmt)) → else_layer (map_else deed_room o) ≡ else_deed_room o
else_total None = refl
else_total (Some (else_stmt.Block body)) = total_map deed_room body
else_total (Some (else_stmt.If s)) = refl

pub choice_room : (x : IfStmt Stmt) → deed_room (stmt.If x) ≡ deeds_room x.then + else_deed_room x.otherwise + 4
unfolding deed_room
choice_room x = fold-stmt-If deed_layer x ∙ ap (λ n. n + else_layer (map_else deed_room x.otherwise) + 4) (total_map deed_room x.then) ∙ ap (λ n. deeds_room x.then + n + 4) (else_total x.otherwise)

pub match_room : (e : Expr) (arms : List (Arm Stmt)) → deed_room (stmt.Match e arms) ≡ arms_room arms + 4
unfolding deed_room
match_room e arms = fold-stmt-Match deed_layer e arms ∙ ap (λ n. n + 4) (arms_total deed_room arms)

pub map_room : (p : Pattern Expr) (name : Name) (body : List Stmt) → deed_room (stmt.Map p name body) ≡ deeds_room body + 4
unfolding deed_room
map_room p name body = fold-stmt-Map deed_layer p name body ∙ ap (λ n. n + 4) (total_map deed_room body)

-- the body of an arm
pub arm_within : (items : List Item) (v : Value) (arms : List (Arm Stmt)) (body : List Stmt) → first_body items v arms ≡ Some body → deeds_room body ≤ arms_room arms
arm_within items v [] body is = absurd (cc)
arm_within items v (a ∷ arms) body is = by (takes items v a.pattern) is (arm_within items v arms body)
  where
    by : (b : Bool) → cond b (Some a.body) (first_body items v arms) ≡ Some body → (first_body items v arms ≡ Some body → deeds_room body ≤ arms_room arms)
        → deeds_room body ≤ deeds_room a.body + arms_room arms
    by true is later = let same = ap (λ body. deeds_room body) (same_Some a.body body is) in omega (arith, same)
    by false is later = let le = later is in omega (arith, le)

-- a statement of a list
pub within : {A : Type 0} (f : A → ℕ) (xs : List A) (i : ℕ) (x : A) → i < length xs → x ≡ get_or xs i x → f x ≤ total f xs
within f [] i x lt is = absurd (omega (arith, lt))
within f (y ∷ ys) zero x lt is = let same = ap f is in omega (arith, same)
within f (y ∷ ys) (suc i) x lt is = let le = within f ys i x (omega (arith, lt)) is in omega (arith, le)
