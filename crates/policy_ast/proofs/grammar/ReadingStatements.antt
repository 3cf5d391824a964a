-- How statements and blocks are read.
use Rattle.std.specs.Prelude.{ℕ, zero, suc, true, false, List, [], ◌∷◌, None}
use Rattle.policy_ast.specs.declared.expr.Expr.{Expr}
use Rattle.policy_ast.specs.declared.finish.FinishStmt.{FinishStmt}
use Rattle.policy_ast.specs.declared.finish.FinishStmt.TheVariants as finish_stmt
use Rattle.policy_ast.specs.declared.pattern.PatternLiteral.{PatternLiteral}
use Rattle.policy_ast.specs.declared.statement.Arm.{Arm}
use Rattle.policy_ast.specs.declared.pattern.ArmPattern.{ArmPattern}
use Rattle.policy_ast.specs.declared.pattern.ArmPattern.TheVariants as arm_pattern
use Rattle.policy_ast.specs.declared.statement.Else.{Else}
use Rattle.policy_ast.specs.declared.statement.Else.TheVariants as otherwise
use Rattle.policy_ast.specs.declared.statement.Stmt.{Stmt}
use Rattle.policy_ast.specs.declared.statement.Stmt.TheVariants as stmt
use Rattle.policy_ast.specs.grammar.Expressions.{whole}
use Rattle.policy_ast.specs.grammar.Fixed.{arrow, bar, close_brace, close_bracket, close_paren, comma, open_brace, open_bracket, open_paren, underscore, word}
use Rattle.policy_ast.specs.grammar.Statements.{Inner, if_statement, statement}
use Rattle.policy_ast.proofs.grammar.Reading.{Reader, behind, chained, list_added, listed, making, many, noded, on, optional, pair, read_empty}
use Rattle.policy_ast.proofs.grammar.ReadingExpressions.{bind_over, let_over, pattern_over, read_expr}
use Rattle.policy_ast.proofs.grammar.ReadingFields.{read_name, read_pattern_literal}

module _ (limit : ℕ) where
  abbrev pub read_whole : Reader Expr
  read_whole = read_expr limit (whole false)

  abbrev pub read_head : Reader Expr
  read_head = read_expr limit (whole true)

  abbrev pub read_create : Reader FinishStmt
  read_create = noded limit (λ t. finish_stmt.Create t.0 t.1.0 t.1.1) (pair read_name (behind open_bracket (pair (listed close_bracket (bind_over (read_expr limit) limit))
      (behind arrow (behind open_brace (listed close_brace (bind_over (read_expr limit) limit)))))))

  abbrev pub read_update : Reader FinishStmt
  read_update = noded limit (λ t. finish_stmt.Update t.0 t.1) (pair (pattern_over (read_expr limit) limit) (behind (word "to") (behind open_brace (listed close_brace (bind_over (read_expr limit) limit)))))

  abbrev pub read_delete : Reader FinishStmt
  read_delete = noded limit (λ t. finish_stmt.Delete t.0 t.1) (pair read_name (behind open_bracket (listed close_bracket (bind_over (read_expr limit) limit))))

  abbrev pub read_finish_call : Reader FinishStmt
  read_finish_call = noded limit (λ t. finish_stmt.Call t.0 t.1) (pair read_name (behind open_paren (listed close_paren read_whole)))

  unfoldable pub read_finish_stmt : Reader FinishStmt
  read_finish_stmt = on (word "create") read_create (on (word "update") read_update (on (word "delete") read_delete (on (word "emit") (noded limit finish_stmt.Emit read_whole) read_finish_call)))

  abbrev pub read_finish_block : Reader (List FinishStmt)
  read_finish_block = behind open_brace (many close_brace read_finish_stmt)

abbrev pub read_alternatives : Reader (List PatternLiteral)
read_alternatives = chained bar list_added (making (λ x. x ∷ []) read_pattern_literal) read_pattern_literal

unfoldable pub read_arm_pattern : Reader ArmPattern
read_arm_pattern = on underscore (making (λ none. arm_pattern.Any) read_empty) (making arm_pattern.Literals read_alternatives)

-- over the reading of what lies inside, of parts that are at most so high
module _ (below : Inner → Reader Stmt) (limit : ℕ) where
  abbrev pub block_over : Reader (List Stmt)
  block_over = behind open_brace (many close_brace (below statement))

  abbrev pub else_over : Reader (Else Stmt)
  else_over = on open_brace (making otherwise.Block (many close_brace (below statement))) (making otherwise.If (below if_statement))

  -- what stands behind the word
  abbrev pub if_over : Reader Stmt
  if_over = noded (suc limit) (λ t. stmt.If (record { head = t.0; then = t.1.0; otherwise = t.1.1 })) (pair (read_head limit) (pair block_over (optional (word "else") else_over)))

  abbrev pub arm_over : Reader (Arm Stmt)
  arm_over = making (λ t. record { pattern = t.0; body = t.1.0 }) (pair read_arm_pattern (behind arrow (pair block_over (optional comma read_empty))))

  abbrev pub match_over : Reader Stmt
  match_over = noded (suc limit) (λ t. stmt.Match t.0 t.1) (pair (read_head limit) (behind open_brace (many close_brace arm_over)))

  abbrev pub map_over : Reader Stmt
  map_over = noded (suc limit) (λ t. stmt.Map t.0 t.1.0 t.1.1) (pair (pattern_over (read_expr limit) limit) (behind (word "as") (pair read_name block_over)))

  abbrev pub stmt_over : Reader Stmt
  stmt_over =
      on (word "check") (noded (suc limit) stmt.Check (read_whole limit))
      (on (word "if") if_over
      (on (word "match") match_over
      (on (word "finish") (noded (suc limit) stmt.Finish (read_finish_block limit))
      (on (word "map") map_over
      (on (word "publish") (noded (suc limit) stmt.Publish (read_whole limit))
      (on (word "return") (noded (suc limit) stmt.Return (read_whole limit))
      (making stmt.Let (let_over (read_expr (suc limit)) (suc limit)))))))))

  abbrev pub inner_over : Inner → Reader Stmt
  inner_over statement = stmt_over
  inner_over if_statement = behind (word "if") if_over

-- a statement of at most this height
unfoldable pub read_stmt : ℕ → Inner → Reader Stmt
read_stmt zero inner ts = None
read_stmt (suc limit) inner ts = inner_over (read_stmt limit) limit inner ts

abbrev pub read_block : ℕ → Reader (List Stmt)
read_block limit = block_over (read_stmt limit) limit
