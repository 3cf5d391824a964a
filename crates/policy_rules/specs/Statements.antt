-- The statements of policy and recall blocks, functions and actions.
use Rattle.std.specs.Prelude.{◌≡◌, Bool, true, false, not, ◌&&◌, List, [], ◌∷◌, map, Option, Some, None}
use Rattle.std.specs.List.{list_all}
use Rattle.policy_ast.specs.declared.expr.Expr.{Expr}
use Rattle.policy_ast.specs.declared.expr.Let.{Let}
use Rattle.policy_ast.specs.declared.finish.FinishStmt.{FinishStmt}
use Rattle.policy_ast.specs.declared.item.Item.{Item}
use Rattle.policy_ast.specs.declared.pattern.Pattern.{Pattern}
use Rattle.policy_ast.specs.declared.statement.Arm.{Arm}
use Rattle.policy_ast.specs.declared.statement.Else.{Else}
use Rattle.policy_ast.specs.declared.statement.Else.TheVariants as else_stmt
use Rattle.policy_ast.specs.declared.statement.IfStmt.{IfStmt}
use Rattle.policy_ast.specs.declared.statement.Stmt.{Stmt, out-Stmt, fold-Stmt}
use Rattle.policy_ast.specs.declared.statement.Stmt.TheOpen.{Stmt-F}
use Rattle.policy_rules.specs.Coverage.{are_arm_patterns}
use Rattle.policy_rules.specs.Expressions.{HasType, IsPattern}
use Rattle.policy_rules.specs.Finish.{AreFinishStmts}
use Rattle.policy_rules.specs.Heads.{is_command, names_item}
use Rattle.policy_rules.specs.Names.{Name}
use Rattle.policy_rules.specs.Scopes.{Scope, may_introduce, with_name}
use Rattle.policy_rules.specs.Types.{fits}
use Rattle.policy_rules.specs.declared.context.Block.TheVariants as block
use Rattle.policy_rules.specs.declared.context.Context.{Context}
use Rattle.policy_rules.specs.declared.types.NamedType.{NamedType}
use Rattle.policy_rules.specs.declared.types.NamedType.TheVariants as ty

-- `finish` and `return`, behind which nothing stands.
abbrev pub is_last_layer : {S : Type 0} → Stmt-F S → Bool
is_last_layer (Stmt-F.Finish statements) = true
is_last_layer (Stmt-F.Return e) = true
is_last_layer other = false

-- A statement may stand before these.
abbrev pub may_precede : Stmt → List Stmt → Bool
may_precede s [] = true
may_precede s more = not (is_last_layer (out-Stmt s))

-- The context inside a `finish` block.
abbrev pub within_finish : Context → Context
within_finish context = record context { block = block.Finish }

module _ (items : List Item) (context : Context) where
  mutual
    -- The statement may stand in this scope; the second is the scope behind it.
    pub data IsStmt : Scope → Stmt → Scope → Type 0 where
      stmt : {scope after : Scope} {s : Stmt} → IsStmtByForm scope (out-Stmt s) after → IsStmt scope s after

    -- The rules, form by form.
    pub data IsStmtByForm : Scope → Stmt-F Stmt → Scope → Type 0 where
      introduces : {scope : Scope} {l : Let Expr} (t : NamedType) → HasType items context scope l.value t → may_introduce items context scope l.name ≡ true
          → IsStmtByForm scope (Stmt-F.Let l) (with_name scope l.name t)
      checks : {scope : Scope} {e : Expr} → HasType items context scope e ty.Bool → IsStmtByForm scope (Stmt-F.Check e) scope
      chooses : {scope : Scope} {x : IfStmt Stmt} → HasType items context scope x.head ty.Bool → IsBlock scope x.then → IsElse scope x.otherwise → IsStmtByForm scope (Stmt-F.If x) scope
      matches : {scope : Scope} {e : Expr} {arms : List (Arm Stmt)} (t : NamedType) → HasType items context scope e t → are_arm_patterns items t (map (λ a. a.pattern) arms) ≡ true
          → AreArms scope arms → IsStmtByForm scope (Stmt-F.Match e arms) scope
      -- in policy and recall blocks
      finishes : {scope : Scope} {statements : List FinishStmt} → context.block ≡ block.Command → AreFinishStmts items (within_finish context) scope statements
          → IsStmtByForm scope (Stmt-F.Finish statements) scope
      -- in actions; the name has the fact's struct type
      maps : {scope : Scope} {p : Pattern Expr} {name : Name} {body : List Stmt} → context.block ≡ block.Action → IsPattern items context scope p
          → may_introduce items context scope name ≡ true → IsBlock (with_name scope name (ty.Struct p.fact)) body → IsStmtByForm scope (Stmt-F.Map p name body) scope
      -- in actions, a command's struct
      publishes : {scope : Scope} {e : Expr} (command : Name) → context.block ≡ block.Action → HasType items context scope e (ty.Struct command)
          → names_item is_command items command ≡ true → IsStmtByForm scope (Stmt-F.Publish e) scope
      -- in functions, a type that fits the declared one
      returns : {scope : Scope} {e : Expr} (t result : NamedType) → context.result ≡ Some result → HasType items context scope e t → fits t result ≡ true
          → IsStmtByForm scope (Stmt-F.Return e) scope

    -- A list of statements. The names that it introduces end with it.
    pub data IsBlock : Scope → List Stmt → Type 0 where
      no_stmts : {scope : Scope} → IsBlock scope []
      more_stmts : {scope : Scope} {s : Stmt} {more : List Stmt} (after : Scope) → IsStmt scope s after → may_precede s more ≡ true → IsBlock after more → IsBlock scope (s ∷ more)

    -- What follows `else`, if anything: a block, or an `if` again.
    pub data IsElse : Scope → Option (Else Stmt) → Type 0 where
      no_else : {scope : Scope} → IsElse scope None
      else_block : {scope : Scope} {body : List Stmt} → IsBlock scope body → IsElse scope (Some (else_stmt.Block body))
      else_if : {scope : Scope} {s : Stmt} (after : Scope) → IsStmt scope s after → IsElse scope (Some (else_stmt.If s))

    -- The bodies of all arms.
    pub data AreArms : Scope → List (Arm Stmt) → Type 0 where
      no_arms : {scope : Scope} → AreArms scope []
      more_arms : {scope : Scope} {a : Arm Stmt} {more : List (Arm Stmt)} → IsBlock scope a.body → AreArms scope more → AreArms scope (a ∷ more)

-- ---- lists that end in a return

-- The last of these; an empty list has none.
abbrev pub last_does : List Bool → Bool
last_does [] = false
last_does (b ∷ []) = b
last_does (b ∷ more) = last_does more

-- What follows `else` is there, and ends in a return.
abbrev pub else_returns : Option (Else Bool) → Bool
else_returns None = false
else_returns (Some (else_stmt.Block body)) = last_does body
else_returns (Some (else_stmt.If s)) = s

-- A `return`, an `if` with `else` whose branches all end so, or a `match` whose arms all do.
abbrev pub returns_layer : Stmt-F Bool → Bool
returns_layer (Stmt-F.Return e) = true
returns_layer (Stmt-F.If x) = last_does x.then && else_returns x.otherwise
returns_layer (Stmt-F.Match e arms) = list_all (λ a. last_does a.body) arms
returns_layer other = false

-- The statement ends in a return, whichever way it goes.
abbrev pub always_returns : Stmt → Bool
always_returns = fold-Stmt Bool returns_layer

-- A list of statements ends in a return.
abbrev pub ends_in_return : List Stmt → Bool
ends_in_return body = last_does (map always_returns body)
