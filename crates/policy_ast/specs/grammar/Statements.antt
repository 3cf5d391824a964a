-- Statements, blocks, and the statements of finish blocks.
use Rattle.std.specs.Prelude.{ℕ, zero, suc, List, [], ◌∷◌}
use Rattle.policy_ast.specs.declared.bind.Bind.{Bind}
use Rattle.policy_ast.specs.declared.pattern.Pattern.{Pattern}
use Rattle.policy_ast.specs.declared.expr.Expr.{Expr}
use Rattle.policy_ast.specs.declared.expr.Let.{Let}
use Rattle.policy_ast.specs.declared.finish.FinishStmt.{FinishStmt}
use Rattle.policy_ast.specs.declared.finish.FinishStmt.TheVariants as finish_stmt
use Rattle.policy_ast.specs.declared.part.Part.{Part}
use Rattle.policy_ast.specs.declared.statement.Arm.{Arm}
use Rattle.policy_ast.specs.declared.statement.Else.{Else}
use Rattle.policy_ast.specs.declared.statement.Else.TheVariants as otherwise
use Rattle.policy_ast.specs.declared.statement.Stmt.{Stmt}
use Rattle.policy_ast.specs.declared.statement.Stmt.TheVariants as stmt
use Rattle.policy_ast.specs.grammar.Expressions.{BindOver, IsExpr, LetOver, whole}
use Rattle.policy_ast.specs.grammar.Fields.{IsName}
use Rattle.policy_ast.specs.grammar.Fixed.{arrow, close_brace, close_bracket, close_paren, comma, open_brace, open_bracket, open_paren, word}
use Rattle.policy_ast.specs.grammar.Forms.{◌▸◌, ◌⊗◌, Empty, Listed, Made, Many, Node, Optional}
use Rattle.policy_ast.specs.grammar.Parts.{Nonterminal, Kinds}
use Rattle.policy_ast.specs.grammar.Patterns.{IsArmPattern, PatternOver}
use Rattle.std.specs.Prelude.{true, false}

-- an expression, and a head, which has no `Name {` outside of brackets
abbrev pub IsWhole : Nonterminal Expr
IsWhole = IsExpr (whole false)

abbrev pub IsHead : Nonterminal Expr
IsHead = IsExpr (whole true)

abbrev pub IsBind : Nonterminal (Bind Expr)
IsBind = BindOver IsExpr

abbrev pub IsPattern : Nonterminal (Pattern Expr)
IsPattern = PatternOver IsWhole

abbrev pub IsLet : Nonterminal (Let Expr)
IsLet = LetOver IsExpr

-- fstmt = "create" Name "[" list(bind) "]" "=>" "{" list(bind) "}"
--       | "update" pattern "to" "{" list(bind) "}" | "delete" Name "[" list(bind) "]"
--       | "emit" expr | Name "(" list(expr) ")"
pub data IsFinishStmt (ts rest : Kinds) (a : Part FinishStmt) : Type 0 where
  create : (word "create" ▸ Node (λ t. finish_stmt.Create t.0 t.1.0 t.1.1) (IsName ⊗ open_bracket ▸ Listed IsBind close_bracket ⊗ arrow ▸ open_brace ▸ Listed IsBind close_brace)) ts rest a → IsFinishStmt ts rest a
  update : (word "update" ▸ Node (λ t. finish_stmt.Update t.0 t.1) (IsPattern ⊗ word "to" ▸ open_brace ▸ Listed IsBind close_brace)) ts rest a → IsFinishStmt ts rest a
  delete : (word "delete" ▸ Node (λ t. finish_stmt.Delete t.0 t.1) (IsName ⊗ open_bracket ▸ Listed IsBind close_bracket)) ts rest a → IsFinishStmt ts rest a
  emit : (word "emit" ▸ Node finish_stmt.Emit IsWhole) ts rest a → IsFinishStmt ts rest a
  call : Node (λ t. finish_stmt.Call t.0 t.1) (IsName ⊗ open_paren ▸ Listed IsWhole close_paren) ts rest a → IsFinishStmt ts rest a

-- fblock = "{" fstmt* "}"
abbrev pub IsFinishBlock : Nonterminal (List FinishStmt)
IsFinishBlock = open_brace ▸ Many IsFinishStmt close_brace

-- what lies inside a statement
pub data Inner : Type 0 where
  statement : Inner
  if_statement : Inner

-- Below is what lies inside.
module _ (Below : Inner → Nonterminal Stmt) where
  -- block = "{" stmt* "}"
  abbrev pub BlockOver : Nonterminal (List Stmt)
  BlockOver = open_brace ▸ Many (Below statement) close_brace

  -- block | ifstmt
  pub data ElseOver (ts rest : Kinds) (a : Part (Else Stmt)) : Type 0 where
    block : Made otherwise.Block BlockOver ts rest a → ElseOver ts rest a
    else_if : Made otherwise.If (Below if_statement) ts rest a → ElseOver ts rest a

  -- ifstmt = "if" head block ("else" (block | ifstmt))?
  abbrev pub IfOver : Nonterminal Stmt
  IfOver = word "if" ▸ Node (λ t. stmt.If (record { head = t.0; then = t.1.0; otherwise = t.1.1 })) (IsHead ⊗ BlockOver ⊗ Optional (word "else") ElseOver)

  -- arm = ("_" | patlit ("|" patlit)*) "=>" block ","?
  abbrev pub ArmOver : Nonterminal (Arm Stmt)
  ArmOver = Made (λ t. record { pattern = t.0; body = t.1.0 }) (IsArmPattern ⊗ arrow ▸ BlockOver ⊗ Optional comma Empty)

  -- stmt = let | "check" expr | ifstmt | "match" head "{" arm* "}" | "finish" fblock
  --      | "map" pattern "as" Name block | "publish" expr | "return" expr
  pub data StmtOver (ts rest : Kinds) (a : Part Stmt) : Type 0 where
    «let» : Made stmt.Let IsLet ts rest a → StmtOver ts rest a
    check : (word "check" ▸ Node stmt.Check IsWhole) ts rest a → StmtOver ts rest a
    «if» : IfOver ts rest a → StmtOver ts rest a
    «match» : (word "match" ▸ Node (λ t. stmt.Match t.0 t.1) (IsHead ⊗ open_brace ▸ Many ArmOver close_brace)) ts rest a → StmtOver ts rest a
    finish : (word "finish" ▸ Node stmt.Finish IsFinishBlock) ts rest a → StmtOver ts rest a
    map : (word "map" ▸ Node (λ t. stmt.Map t.0 t.1.0 t.1.1) (IsPattern ⊗ word "as" ▸ IsName ⊗ BlockOver)) ts rest a → StmtOver ts rest a
    publish : (word "publish" ▸ Node stmt.Publish IsWhole) ts rest a → StmtOver ts rest a
    return : (word "return" ▸ Node stmt.Return IsWhole) ts rest a → StmtOver ts rest a

  abbrev pub InnerOver : Inner → Nonterminal Stmt
  InnerOver statement = StmtOver
  InnerOver if_statement = IfOver

-- statements that lie in one another fewer than n deep
abbrev pub StmtWithin : ℕ → Inner → Nonterminal Stmt
StmtWithin zero inner = λ ts rest a. ⊥
StmtWithin (suc n) inner = InnerOver (StmtWithin n) inner

-- a statement: the number is any that is large enough
pub data IsStmt (inner : Inner) (ts rest : Kinds) (a : Part Stmt) : Type 0 where
  nested : (n : ℕ) → StmtWithin n inner ts rest a → IsStmt inner ts rest a

abbrev pub IsBlock : Nonterminal (List Stmt)
IsBlock = BlockOver IsStmt
