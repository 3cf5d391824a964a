-- The room of each form, by those of its parts.
use Rattle.std.proofs.Common.{◌≡◌, ℤ, ℕ, zero, suc, ◌+◌, ◌-◌, ◌<◌, ◌≤◌, List, [], ◌∷◌, length, get_or, map, Option, Some, None, refl, sym, ap, ◌∙◌, arith}
use Rattle.policy_ast.specs.declared.bind.Bind.{Bind}
use Rattle.policy_ast.specs.declared.expr.Arithmetic.{Arithmetic}
use Rattle.policy_ast.specs.declared.expr.Comparison.{Comparison}
use Rattle.policy_ast.specs.declared.expr.Count.{Count}
use Rattle.policy_ast.specs.declared.expr.ElseExpr.{ElseExpr}
use Rattle.policy_ast.specs.declared.expr.ElseExpr.TheVariants as else_expr
use Rattle.policy_ast.specs.declared.expr.Expr.{Expr}
use Rattle.policy_ast.specs.declared.expr.Expr.TheVariants as expr
use Rattle.policy_ast.specs.declared.expr.ExprBlock.{ExprBlock}
use Rattle.policy_ast.specs.declared.expr.IfExpr.{IfExpr}
use Rattle.policy_ast.specs.declared.expr.Let.{Let}
use Rattle.policy_ast.specs.declared.expr.Presence.{Presence}
use Rattle.policy_ast.specs.declared.expr.Unary.{Unary}
use Rattle.policy_ast.specs.declared.item.Item.{Item}
use Rattle.policy_ast.specs.declared.pattern.Free.{Free}
use Rattle.policy_ast.specs.declared.pattern.Pattern.{Pattern}
use Rattle.policy_ast.specs.declared.statement.Arm.{Arm}
use Rattle.policy_ast.specs.declared.statement.Else.{Else}
use Rattle.policy_ast.specs.declared.statement.Else.TheVariants as else_stmt
use Rattle.policy_ast.specs.declared.statement.IfStmt.{IfStmt}
use Rattle.policy_ast.specs.declared.statement.Stmt.{Stmt}
use Rattle.policy_ast.specs.declared.statement.Stmt.TheVariants as stmt
use Rattle.policy_eval.specs.working.Rooms.{arm_room, bind_room, block_room, call_room, else_room, else_stmt_room, free_room, gap_room, item_room, let_room, of_number, opt_room, room, room_layer, stmt_layer, stmt_room, total}
use Rattle.policy_rules.proofs.Folds.{fold-expr-And, fold-expr-Arithmetic, fold-expr-Call, fold-expr-Compare, fold-expr-Count, fold-expr-Exists, fold-expr-Field, fold-expr-If, fold-expr-Is, fold-expr-Or, fold-expr-Query, fold-expr-Some, fold-expr-Struct, fold-expr-Unary, fold-stmt-Check, fold-stmt-If, fold-stmt-Let, fold-stmt-Match, fold-stmt-Return}
use Rattle.policy_rules.proofs.Maps.{map_bind, map_block, map_else, map_free, map_gap, map_let, map_values, value_part_map}
use Rattle.policy_rules.proofs.StatementMaps.{map_arm, map_else as map_else_stmt}
use Rattle.policy_rules.specs.Expressions.{value_part}
use Rattle.policy_rules.specs.Names.{Name}

-- ---- sums

pub total_over : {A B : Type 0} (f : A → B) (g : B → ℕ) (xs : List A) → total g (map f xs) ≡ total (λ x. g (f x)) xs
total_over f g [] = refl
total_over f g (x ∷ xs) = ap (λ n. g (f x) + n) (total_over f g xs)

-- an element takes no more room than all of them
pub among : {A : Type 0} (f : A → ℕ) (xs : List A) (i : ℕ) (x : A) → i < length xs → x ≡ get_or xs i x → f x ≤ total f xs
among f [] i x lt is = absurd (omega arith)
among f (y ∷ xs) zero x lt is =
    let same : f x ≡ f y = ap f is in
    omega arith
among f (y ∷ xs) (suc i) x lt is =
    let later : f x ≤ total f xs = among f xs i x (omega arith) is in
    omega arith

module _ (below : ℕ) where
  abbrev of_expr : Expr → ℕ
  of_expr = room below

  abbrev of_stmt : Stmt → ℕ
  of_stmt = stmt_room below

  -- ---- expressions

  -- what stands in a block
  abbrev pub block_takes : ExprBlock Expr → ℕ
  block_takes b = total (let_room below) b.lets + room below b.value + 2

  abbrev pub else_takes : ElseExpr Expr → ℕ
  else_takes (else_expr.Block b) = block_takes b
  else_takes (else_expr.If e) = room below e

  abbrev pub pattern_takes : Pattern Expr → ℕ
  pattern_takes p = total (free_room below) p.keys + total (free_room below) (value_part p.values) + 2

  gap_same : (o : Option Expr) → gap_room (map_gap of_expr o) ≡ opt_room below o
  gap_same None = refl
  gap_same (Some e) = refl

  frees_same : (frees : List (Free Expr)) → total (λ f. gap_room f.value) (map (map_free of_expr) frees) ≡ total (free_room below) frees
  frees_same [] = refl
  frees_same (f ∷ frees) = ap (λ n. n + total (λ f. gap_room f.value) (map (map_free of_expr) frees)) (gap_same f.value) ∙ ap (λ n. opt_room below f.value + n) (frees_same frees)

  pattern_same : (p : Pattern Expr) → total (λ f. gap_room f.value) (map (map_free of_expr) p.keys) + total (λ f. gap_room f.value) (value_part (map_values of_expr p.values)) + 2 ≡ pattern_takes p
  pattern_same p =
      ap (λ n. n + total (λ f. gap_room f.value) (value_part (map_values of_expr p.values)) + 2) (frees_same p.keys)
      ∙ ap (λ n. total (free_room below) p.keys + n + 2) (ap (total (λ f. gap_room f.value)) (value_part_map of_expr p.values) ∙ frees_same (value_part p.values))

  block_same : (b : ExprBlock Expr) → block_room (map_block of_expr b) ≡ block_takes b
  block_same b = ap (λ n. n + room below b.value + 2) (total_over (map_let of_expr) (λ l. l.value) b.lets)

  else_same : (x : IfExpr Expr) (e : ElseExpr Expr) → else_room (map_else of_expr x e) ≡ else_takes e
  else_same x (else_expr.Block b) = block_same b
  else_same x (else_expr.If e) = refl

  pub or_room : (a b : Expr) → room below (expr.Or a b) ≡ room below a + room below b + 1
  unfolding room
  or_room a b = fold-expr-Or (room_layer below) a b

  pub and_room : (a b : Expr) → room below (expr.And a b) ≡ room below a + room below b + 1
  unfolding room
  and_room a b = fold-expr-And (room_layer below) a b

  pub compare_room : (a : Expr) (op : Comparison) (b : Expr) → room below (expr.Compare a op b) ≡ room below a + room below b + 1
  unfolding room
  compare_room a op b = fold-expr-Compare (room_layer below) a op b

  pub presence_room : (a : Expr) (op : Presence) → room below (expr.Is a op) ≡ room below a + 1
  unfolding room
  presence_room a op = fold-expr-Is (room_layer below) a op

  pub unary_room : (op : Unary) (a : Expr) → room below (expr.Unary op a) ≡ room below a + 1
  unfolding room
  unary_room op a = fold-expr-Unary (room_layer below) op a

  pub field_room : (a : Expr) (name : Name) → room below (expr.Field a name) ≡ room below a + 1
  unfolding room
  field_room a name = fold-expr-Field (room_layer below) a name

  pub some_room : (a : Expr) → room below (expr.Some a) ≡ room below a + 1
  unfolding room
  some_room a = fold-expr-Some (room_layer below) a

  pub call_takes : (function : Name) (arguments : List Expr) → room below (expr.Call function arguments) ≡ total (room below) arguments + below + 2
  unfolding room
  call_takes function arguments = fold-expr-Call (room_layer below) function arguments ∙ ap (λ n. n + below + 2) (total_over of_expr of_number arguments)

  pub struct_room : (name : Name) (binds : List (Bind Expr)) → room below (expr.Struct name binds) ≡ total (bind_room below) binds + 2
  unfolding room
  struct_room name binds = fold-expr-Struct (room_layer below) name binds ∙ ap (λ n. n + 2) (total_over (map_bind of_expr) (λ b. b.value) binds)

  pub calculation_room : (op : Arithmetic) (a b : Expr) → room below (expr.Arithmetic op a b) ≡ room below a + room below b + 1
  unfolding room
  calculation_room op a b = fold-expr-Arithmetic (room_layer below) op a b

  pub query_room : (p : Pattern Expr) → room below (expr.Query p) ≡ pattern_takes p + 1
  unfolding room
  query_room p = fold-expr-Query (room_layer below) p ∙ ap (λ n. n + 1) (pattern_same p)

  pub exists_room : (p : Pattern Expr) → room below (expr.Exists p) ≡ pattern_takes p + 1
  unfolding room
  exists_room p = fold-expr-Exists (room_layer below) p ∙ ap (λ n. n + 1) (pattern_same p)

  pub count_room : (op : Count) (n : ℤ) (p : Pattern Expr) → room below (expr.Count op n p) ≡ pattern_takes p + 1
  unfolding room
  count_room op n p = fold-expr-Count (room_layer below) op n p ∙ ap (λ n. n + 1) (pattern_same p)

  pub choice_room : (x : IfExpr Expr) → room below (expr.If x) ≡ room below x.head + block_takes x.then + else_takes x.otherwise + 2
  unfolding room
  choice_room x =
      fold-expr-If (room_layer below) x ∙ ap (λ n. room below x.head + n + else_room (map_else of_expr x x.otherwise) + 2) (block_same x.then)
      ∙ ap (λ n. room below x.head + block_takes x.then + n + 2) (else_same x x.otherwise)

  -- ---- statements

  abbrev pub else_stmt_takes : Option (Else Stmt) → ℕ
  else_stmt_takes None = 0
  else_stmt_takes (Some (else_stmt.Block body)) = total (stmt_room below) body + 1
  else_stmt_takes (Some (else_stmt.If s)) = stmt_room below s

  else_stmt_same : (o : Option (Else Stmt)) → else_stmt_room (map_else_stmt of_stmt o) ≡ else_stmt_takes o
  else_stmt_same None = refl
  else_stmt_same (Some (else_stmt.Block body)) = ap (λ n. n + 1) (total_over of_stmt of_number body)
  else_stmt_same (Some (else_stmt.If s)) = refl

  arms_same : (arms : List (Arm Stmt)) → total (λ a. total of_number a.body) (map (map_arm of_stmt) arms) ≡ total (arm_room below) arms
  arms_same [] = refl
  arms_same (a ∷ arms) =
      ap (λ n. n + total (λ a. total of_number a.body) (map (map_arm of_stmt) arms)) (total_over of_stmt of_number a.body) ∙ ap (λ n. total (stmt_room below) a.body + n) (arms_same arms)

  pub let_stmt_room : (l : Let Expr) → stmt_room below (stmt.Let l) ≡ room below l.value + 1
  unfolding stmt_room
  let_stmt_room l = fold-stmt-Let (stmt_layer below) l

  pub check_room : (e : Expr) → stmt_room below (stmt.Check e) ≡ room below e + 1
  unfolding stmt_room
  check_room e = fold-stmt-Check (stmt_layer below) e

  pub if_room : (x : IfStmt Stmt) → stmt_room below (stmt.If x) ≡ room below x.head + total (stmt_room below) x.then + else_stmt_takes x.otherwise + 3
  unfolding stmt_room
  if_room x =
      fold-stmt-If (stmt_layer below) x ∙ ap (λ n. room below x.head + n + else_stmt_room (map_else_stmt of_stmt x.otherwise) + 3) (total_over of_stmt of_number x.then)
      ∙ ap (λ n. room below x.head + total (stmt_room below) x.then + n + 3) (else_stmt_same x.otherwise)

  pub match_room : (e : Expr) (arms : List (Arm Stmt)) → stmt_room below (stmt.Match e arms) ≡ room below e + total (arm_room below) arms + 3
  unfolding stmt_room
  match_room e arms = fold-stmt-Match (stmt_layer below) e arms ∙ ap (λ n. room below e + n + 3) (arms_same arms)

  pub return_room : (e : Expr) → stmt_room below (stmt.Return e) ≡ room below e + 1
  unfolding stmt_room
  return_room e = fold-stmt-Return (stmt_layer below) e

-- ---- calls

pub deeper : (items : List Item) (depth : ℕ) → 0 < depth → call_room items depth ≡ total (item_room (call_room items (depth - 1))) items + 2
deeper items zero lt = absurd (omega arith)
deeper items (suc depth) lt =
    let less : suc depth - 1 ≡ depth = omega arith in
    ap (λ d. total (item_room (call_room items d)) items + 2) (sym less)

-- ---- each call falls

pub only_falls : (a n : ℕ) → n ≡ a + 1 → a < n
only_falls a n is = omega arith

pub first_falls : (a b n : ℕ) → n ≡ a + b + 1 → a < n
first_falls a b n is = omega arith

pub second_falls : (a b n : ℕ) → n ≡ a + b + 1 → b < n
second_falls a b n is = omega arith

pub arguments_fall : (a b n : ℕ) → n ≡ a + b + 2 → a + 1 < n
arguments_fall a b n is = omega arith

pub call_falls : (a b n : ℕ) → n ≡ a + b + 2 → b + 1 < n
call_falls a b n is = omega arith

pub binds_fall : (a n : ℕ) → n ≡ a + 2 → a + 1 < n
binds_fall a n is = omega arith

pub head_falls : (a b c n : ℕ) → n ≡ a + b + c + 2 → a < n
head_falls a b c n is = omega arith

pub block_falls : (a b c n : ℕ) → n ≡ a + b + c + 2 → b < n
block_falls a b c n is = omega arith

pub else_falls : (a b c n : ℕ) → n ≡ a + b + c + 2 → c + 1 < n
else_falls a b c n is = omega arith

pub if_head_falls : (a b c n : ℕ) → n ≡ a + b + c + 3 → a < n
if_head_falls a b c n is = omega arith

pub if_body_falls : (a b c n : ℕ) → n ≡ a + b + c + 3 → b + 1 < n
if_body_falls a b c n is = omega arith

pub if_rest_falls : (a b c n : ℕ) → n ≡ a + b + c + 3 → c + 1 < n
if_rest_falls a b c n is = omega arith

pub match_head_falls : (a b n : ℕ) → n ≡ a + b + 3 → a < n
match_head_falls a b n is = omega arith

pub match_body_falls : (a b c n : ℕ) → c ≤ b → n ≡ a + b + 3 → c + 1 < n
match_body_falls a b c n among is = omega arith

pub item_falls : {A : Type 0} (f : A → ℕ) (xs : List A) (i : ℕ) (x : A) → i < length xs → x ≡ get_or xs i x → f x < total f xs + 1
item_falls f xs i x lt is =
    let le : f x ≤ total f xs = among f xs i x lt is in
    omega arith

pub gap_falls : (below : ℕ) (frees : List (Free Expr)) (i : ℕ) (f : Free Expr) (e : Expr) → i < length frees → f ≡ get_or frees i f → f.value ≡ Some e
    → room below e < total (free_room below) frees + 1
gap_falls below frees i f e lt is some =
    let le : free_room below f ≤ total (free_room below) frees = among (free_room below) frees i f lt is in
    let same : free_room below f ≡ room below e = ap (opt_room below) some in
    omega arith

pub let_falls : (below : ℕ) (b : ExprBlock Expr) (lets : List (Let Expr)) (i : ℕ) (l : Let Expr) → lets ≡ b.lets → i < length lets → l ≡ get_or lets i l
    → room below l.value < total (let_room below) b.lets + room below b.value + 1
let_falls below b lets i l seen lt is =
    let le : room below l.value ≤ total (let_room below) lets = among (let_room below) lets i l lt is in
    let same : total (let_room below) lets ≡ total (let_room below) b.lets = ap (total (let_room below)) seen in
    omega arith

pub body_falls : (items : List Item) (depth n : ℕ) → 0 < depth → n ≤ total (item_room (call_room items (depth - 1))) items → n + 1 < call_room items depth + 1
body_falls items depth n lt le =
    let is : call_room items depth ≡ total (item_room (call_room items (depth - 1))) items + 2 = deeper items depth lt in
    omega arith
