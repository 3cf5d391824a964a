-- The laws of the readings of statements and blocks.
use Rattle.std.proofs.Common.{◌≡◌, ℕ, zero, suc, ◌≤◌, true, false, List, [], ◌∷◌, Option, Some, None, refl, arith}
use Rattle.policy_ast.specs.declared.expr.Expr.{Expr}
use Rattle.policy_ast.specs.declared.finish.FinishStmt.{FinishStmt}
use Rattle.policy_ast.specs.declared.finish.FinishStmt.TheVariants as finish_stmt
use Rattle.policy_ast.specs.declared.pattern.PatternLiteral.{PatternLiteral}
use Rattle.policy_ast.specs.declared.part.Part.{Part}
use Rattle.policy_ast.specs.declared.pattern.ArmPattern.{ArmPattern}
use Rattle.policy_ast.specs.declared.pattern.ArmPattern.TheVariants as arm_pattern
use Rattle.policy_ast.specs.declared.statement.Else.{Else}
use Rattle.policy_ast.specs.declared.statement.Else.TheVariants as otherwise
use Rattle.policy_ast.specs.declared.statement.Stmt.{Stmt}
use Rattle.policy_ast.specs.declared.statement.Stmt.TheVariants as stmt
use Rattle.policy_ast.specs.grammar.Expressions.{IsExpr, whole}
use Rattle.policy_ast.specs.grammar.Fields as fields
use Rattle.policy_ast.specs.grammar.Fields.{IsLiteral, IsName}
use Rattle.policy_ast.specs.grammar.Fixed.{arrow, bar, close_brace, close_bracket, close_paren, comma, open_brace, open_bracket, open_paren, underscore, word}
use Rattle.policy_ast.specs.grammar.Forms as forms
use Rattle.policy_ast.specs.grammar.Forms.{◌▸◌, ◌⊗◌, Chained, Empty, Listed, Made, Many, Node, Optional}
use Rattle.policy_ast.specs.grammar.Parts.{Nonterminal, Kinds, appended}
use Rattle.policy_ast.specs.grammar.Patterns as patterns
use Rattle.policy_ast.specs.grammar.Patterns.{IsArmPattern, IsPatternLiteral}
use Rattle.policy_ast.specs.grammar.Statements as rows
use Rattle.policy_ast.specs.grammar.Statements.{ArmOver, BlockOver, ElseOver, IfOver, Inner, InnerOver, IsBind, IsBlock, IsFinishBlock, IsFinishStmt, IsHead, IsLet, IsPattern, IsStmt, IsWhole, StmtOver, StmtWithin, if_statement, statement}
use Rattle.policy_ast.specs.Words.{is_reserved}
use Rattle.policy_ast.proofs.grammar.Ends.{EndsPattern, EndsWhole, before_close_brace, ends_before_brace}
use Rattle.policy_ast.proofs.grammar.ExpressionFacts.{expr_parts}
use Rattle.policy_ast.proofs.grammar.ExpressionLaws.{expr_is_read}
use Rattle.policy_ast.proofs.grammar.Facts.{AreParts, forward, not_after, unclosed}
use Rattle.policy_ast.proofs.grammar.FieldLaws.{name_is_read, not_word, pattern_literal_is_read, pattern_literal_parts}
use Rattle.policy_ast.proofs.grammar.Laws.{Always, Finds, IsRead, behind_is_read, empty_is_read, ends_before, found_by, made_is_read, node_above, node_is_read, on_finds, optional_is_read, pair_is_read, starts_with}
use Rattle.policy_ast.proofs.grammar.Loops.{chained_is_read, list_is_added, many_is_read}
use Rattle.policy_ast.proofs.grammar.PatternLaws.{arguments_are_read, binds_are_read, keys_are_read, let_is_read, pattern_is_read}
use Rattle.policy_ast.proofs.grammar.Reading.{Reader, after, listed, making, many, noded}
use Rattle.policy_ast.proofs.grammar.ReadingExpressions.{bind_over, let_over, pattern_over, read_expr}
use Rattle.policy_ast.proofs.grammar.ReadingStatements.{arm_over, block_over, else_over, if_over, inner_over, map_over, match_over, read_alternatives, read_arm_pattern, read_block, read_create, read_delete, read_finish_block, read_finish_call, read_finish_stmt, read_head, read_stmt, read_update, read_whole, stmt_over}
use Rattle.policy_ast.proofs.grammar.StatementFacts.{EndsIf, EndsInner, EndsStmt, arm_parts, finish_stmt_follows, finish_stmt_parts, inner_over_high, is_stmt_follows, is_stmt_parts, stmt_within_follows, stmt_within_parts}

module _ (limit : ℕ) where
  whole_is_read : IsRead IsWhole IsWhole (read_whole limit) limit (EndsWhole false)
  whole_is_read = expr_is_read limit (whole false)

  head_is_read : IsRead IsHead IsHead (read_head limit) limit (EndsWhole true)
  head_is_read = expr_is_read limit (whole true)

  values_are_read : IsRead (Listed IsBind close_brace) (Listed IsBind close_brace) (listed close_brace (bind_over (read_expr limit) limit)) limit Always
  values_are_read = binds_are_read IsExpr IsExpr (read_expr limit) limit expr_parts (expr_is_read limit)

  bound_keys_are_read : IsRead (Listed IsBind close_bracket) (Listed IsBind close_bracket) (listed close_bracket (bind_over (read_expr limit) limit)) limit Always
  bound_keys_are_read = keys_are_read IsExpr IsExpr (read_expr limit) limit expr_parts (expr_is_read limit)

  whole_pattern_is_read : IsRead IsPattern IsPattern (pattern_over (read_expr limit) limit) limit EndsPattern
  whole_pattern_is_read = pattern_is_read IsExpr IsExpr (read_expr limit) limit expr_parts (expr_is_read limit)

  -- statements of finish blocks
  create_is_read : IsRead (Node (λ t. finish_stmt.Create t.0 t.1.0 t.1.1) (IsName ⊗ open_bracket ▸ Listed IsBind close_bracket ⊗ arrow ▸ open_brace ▸ Listed IsBind close_brace))
      (Node (λ t. finish_stmt.Create t.0 t.1.0 t.1.1) (IsName ⊗ open_bracket ▸ Listed IsBind close_bracket ⊗ arrow ▸ open_brace ▸ Listed IsBind close_brace)) (read_create limit) limit Always
  create_is_read = node_is_read (pair_is_read name_is_read (behind_is_read (pair_is_read bound_keys_are_read (behind_is_read (behind_is_read values_are_read open_brace) arrow)
      (λ ts rest b y. tt)) open_bracket) (λ ts rest b y. tt)) (λ t. finish_stmt.Create t.0 t.1.0 t.1.1)

  update_is_read : IsRead (Node (λ t. finish_stmt.Update t.0 t.1) (IsPattern ⊗ word "to" ▸ open_brace ▸ Listed IsBind close_brace))
      (Node (λ t. finish_stmt.Update t.0 t.1) (IsPattern ⊗ word "to" ▸ open_brace ▸ Listed IsBind close_brace)) (read_update limit) limit Always
  update_is_read = node_is_read (pair_is_read whole_pattern_is_read (behind_is_read (behind_is_read values_are_read open_brace) (word "to"))
      (starts_with EndsPattern (word "to") (λ ts. (refl, tt)))) (λ t. finish_stmt.Update t.0 t.1)

  delete_is_read : IsRead (Node (λ t. finish_stmt.Delete t.0 t.1) (IsName ⊗ open_bracket ▸ Listed IsBind close_bracket))
      (Node (λ t. finish_stmt.Delete t.0 t.1) (IsName ⊗ open_bracket ▸ Listed IsBind close_bracket)) (read_delete limit) limit Always
  delete_is_read = node_is_read (pair_is_read name_is_read (behind_is_read bound_keys_are_read open_bracket) (λ ts rest b y. tt)) (λ t. finish_stmt.Delete t.0 t.1)

  emit_is_read : IsRead (Node finish_stmt.Emit IsWhole) (Node finish_stmt.Emit IsWhole) (noded limit finish_stmt.Emit (read_whole limit)) limit (EndsWhole false)
  emit_is_read = node_is_read whole_is_read finish_stmt.Emit

  finish_call_is_read : IsRead (Node (λ t. finish_stmt.Call t.0 t.1) (IsName ⊗ open_paren ▸ Listed IsWhole close_paren)) (Node (λ t. finish_stmt.Call t.0 t.1) (IsName ⊗ open_paren ▸ Listed IsWhole close_paren))
      (read_finish_call limit) limit Always
  finish_call_is_read = node_is_read (pair_is_read name_is_read (behind_is_read (arguments_are_read IsExpr IsExpr (read_expr limit) limit expr_parts (expr_is_read limit)) open_paren) (λ ts rest b y. tt)) (λ t. finish_stmt.Call t.0 t.1)

  finish_stmt_reads : (ts rest : Kinds) (a : Part FinishStmt) → IsFinishStmt ts rest a → a.height ≤ limit → EndsWhole false rest → read_finish_stmt limit ts ≡ Some (a, rest)
  unfolding read_finish_stmt is_reserved
  finish_stmt_reads ts rest a (rows.create (forms.behind {ts = inner} x)) low ends = create_is_read.reads inner rest a x low tt
  finish_stmt_reads ts rest a (rows.update (forms.behind {ts = inner} x)) low ends = update_is_read.reads inner rest a x low tt
  finish_stmt_reads ts rest a (rows.delete (forms.behind {ts = inner} x)) low ends = delete_is_read.reads inner rest a x low tt
  finish_stmt_reads ts rest a (rows.emit (forms.behind {ts = inner} x)) low ends = emit_is_read.reads inner rest a x low ends
  finish_stmt_reads ts rest a (rows.call (forms.node_of (forms.pair {mid = mid} (fields.name {text = text} is) x))) low ends =
      rw (not_word "create" refl text is mid, not_word "update" refl text is mid, not_word "delete" refl text is mid, not_word "emit" refl text is mid)
      (finish_call_is_read.reads ts rest a (forms.node_of (forms.pair (fields.name is) x)) low tt)

  finish_stmt_finds : Finds IsFinishStmt (read_finish_stmt limit) limit
  unfolding read_finish_stmt
  finish_stmt_finds =
      on_finds (word "create") create_is_read.finds (λ ts rest a x. rows.create x)
      (on_finds (word "update") update_is_read.finds (λ ts rest a x. rows.update x)
      (on_finds (word "delete") delete_is_read.finds (λ ts rest a x. rows.delete x)
      (on_finds (word "emit") emit_is_read.finds (λ ts rest a x. rows.emit x)
      (λ ts p is. found_by rows.call (finish_call_is_read.finds ts p is)))))

  finish_stmt_is_read : IsRead IsFinishStmt IsFinishStmt (read_finish_stmt limit) limit (EndsWhole false)
  finish_stmt_is_read = record { reads = finish_stmt_reads; finds = finish_stmt_finds }

  pub finish_block_is_read : IsRead IsFinishBlock IsFinishBlock (read_finish_block limit) limit Always
  finish_block_is_read = behind_is_read (many_is_read close_brace finish_stmt_is_read (forward finish_stmt_parts) (unclosed finish_stmt_parts close_brace refl) before_close_brace finish_stmt_follows) open_brace

-- arms
alternatives_are_read : {limit : ℕ} → IsRead (Chained bar appended (Made (λ x. x ∷ []) IsPatternLiteral) IsPatternLiteral) (Chained bar appended (Made (λ x. x ∷ []) IsPatternLiteral) IsPatternLiteral)
    read_alternatives limit (λ ts. (after bar ts ≡ None) × Always ts × Always ts)
alternatives_are_read = chained_is_read bar (made_is_read pattern_literal_is_read (λ x. x ∷ [])) pattern_literal_is_read list_is_added (forward pattern_literal_parts) (λ ts. tt) (λ ts. tt)

pattern_literal_not_any : (ts rest : Kinds) (a : Part PatternLiteral) → IsPatternLiteral ts rest a → after underscore ts ≡ None
pattern_literal_not_any ts rest a (patterns.none (forms.behind x)) = refl
pattern_literal_not_any ts rest a (patterns.written (forms.made_of (fields.IsLiteral.number (forms.made_of fields.IsNumber.number)))) = refl
pattern_literal_not_any ts rest a (patterns.written (forms.made_of (fields.IsLiteral.quoted (forms.made_of fields.IsQuoted.quoted)))) = refl
pattern_literal_not_any ts rest a (patterns.written (forms.made_of (fields.IsLiteral.true (forms.behind x)))) = refl
pattern_literal_not_any ts rest a (patterns.written (forms.made_of (fields.IsLiteral.false (forms.behind x)))) = refl
pattern_literal_not_any ts rest a (patterns.written (forms.made_of (fields.IsLiteral.variant (forms.made_of (forms.pair (fields.name is) x))))) = refl

abbrev EndsArmPattern : Kinds → Type 0
EndsArmPattern ts = (after bar ts ≡ None) × Always ts × Always ts

arm_pattern_reads : (limit : ℕ) (ts rest : Kinds) (a : Part ArmPattern) → IsArmPattern ts rest a → a.height ≤ limit → EndsArmPattern rest → read_arm_pattern ts ≡ Some (a, rest)
unfolding read_arm_pattern
arm_pattern_reads limit ts rest a (patterns.any (forms.behind {ts = inner} x)) low ends = (made_is_read empty_is_read (λ none. arm_pattern.Any)).reads inner rest a x low tt
arm_pattern_reads limit ts rest a (patterns.literals (forms.made_of (forms.chained {mid = mid} (forms.made_of {a = b} x) xs))) low ends =
    rw (pattern_literal_not_any ts mid b x) ((made_is_read alternatives_are_read arm_pattern.Literals).reads ts rest a (forms.made_of (forms.chained (forms.made_of x) xs)) low ends)

arm_pattern_finds : (limit : ℕ) → Finds IsArmPattern read_arm_pattern limit
unfolding read_arm_pattern
arm_pattern_finds limit = on_finds underscore ((made_is_read empty_is_read (λ none. arm_pattern.Any)).finds) (λ ts rest a x. patterns.any x)
    (λ ts p is. found_by patterns.literals ((made_is_read alternatives_are_read arm_pattern.Literals).finds ts p is))

arm_pattern_is_read : {limit : ℕ} → IsRead IsArmPattern IsArmPattern read_arm_pattern limit EndsArmPattern
arm_pattern_is_read {limit} = record { reads = arm_pattern_reads limit; finds = arm_pattern_finds limit }

module _ (Below Below' : Inner → Nonterminal Stmt) (below : Inner → Reader Stmt) (limit : ℕ) (parts : (inner : Inner) → AreParts (Below inner))
    (follows : (ts rest : Kinds) (a : Part Stmt) → Below statement ts rest a → EndsStmt ts)
    (law : (inner : Inner) → IsRead (Below inner) (Below' inner) (below inner) limit (EndsInner inner)) where
  statements_are_read : IsRead (Many (Below statement) close_brace) (Many (Below' statement) close_brace) (many close_brace (below statement)) limit Always
  statements_are_read = many_is_read close_brace (law statement) (forward (parts statement)) (unclosed (parts statement) close_brace refl) (λ rest. (refl, before_close_brace rest)) follows

  pub block_over_is_read : IsRead (BlockOver Below) (BlockOver Below') (block_over below limit) limit Always
  block_over_is_read = behind_is_read statements_are_read open_brace

  else_is_read : IsRead (ElseOver Below) (ElseOver Below') (else_over below limit) limit EndsIf
  else_is_read = record {
    reads = reads;
    finds = on_finds open_brace ((made_is_read statements_are_read otherwise.Block).finds) blocks (λ ts p is. found_by rows.else_if ((made_is_read (law if_statement) otherwise.If).finds ts p is));
  }
    where
      blocks : (ts rest : Kinds) (a : Part (Else Stmt)) → (open_brace ▸ Made otherwise.Block (Many (Below' statement) close_brace)) ts rest a → ElseOver Below' ts rest a
      blocks ts rest a (forms.behind (forms.made_of x)) = rows.block (forms.made_of (forms.behind x))

      reads : (ts rest : Kinds) (a : Part (Else Stmt)) → ElseOver Below ts rest a → a.height ≤ limit → EndsIf rest → else_over below limit ts ≡ Some (a, rest)
      reads ts rest a (rows.block (forms.made_of (forms.behind {ts = inner} x))) low ends = (made_is_read statements_are_read otherwise.Block).reads inner rest a (forms.made_of x) low tt
      reads ts rest a (rows.else_if (forms.made_of {a = b} x)) low ends =
          rw (not_after open_brace refl ts ((parts if_statement ts rest b x).opens)) ((made_is_read (law if_statement) otherwise.If).reads ts rest a (forms.made_of x) low ends)

  -- behind the word
  abbrev if_of : Expr × (List Stmt × Option (Else Stmt)) → Stmt
  if_of t = stmt.If (record { head = t.0; then = t.1.0; otherwise = t.1.1 })

  if_is_read : IsRead (Node if_of (IsHead ⊗ BlockOver Below ⊗ Optional (word "else") (ElseOver Below))) (Node if_of (IsHead ⊗ BlockOver Below' ⊗ Optional (word "else") (ElseOver Below'))) (if_over below limit) (suc limit) EndsIf
  if_is_read = ends_before (node_above (pair_is_read (head_is_read limit) (pair_is_read block_over_is_read (optional_is_read else_is_read (word "else")) (λ ts rest b y. tt)) block_first) if_of) EndsIf (λ ts ends. (ends.0, ends))
    where
      block_first : (ts rest : Kinds) (b : Part (List Stmt × Option (Else Stmt))) → (BlockOver Below ⊗ Optional (word "else") (ElseOver Below)) ts rest b → EndsWhole true ts
      block_first ts rest b (forms.pair (forms.behind {ts = inner} x) y) = ends_before_brace inner

  arm_is_read : IsRead (ArmOver Below) (ArmOver Below') (arm_over below limit) limit (λ ts. (after comma ts ≡ None) × Always ts)
  arm_is_read = made_is_read (pair_is_read arm_pattern_is_read (behind_is_read (pair_is_read block_over_is_read (optional_is_read empty_is_read comma) (λ ts rest b y. tt)) arrow)
      (starts_with EndsArmPattern arrow (λ ts. (refl, tt, tt)))) _

  arms_are_read : IsRead (Many (ArmOver Below) close_brace) (Many (ArmOver Below') close_brace) (many close_brace (arm_over below limit)) limit Always
  arms_are_read = many_is_read close_brace arm_is_read (forward (arm_parts Below parts)) (unclosed (arm_parts Below parts) close_brace refl) (λ rest. (refl, tt))
      (λ ts rest a x. (not_after comma refl ts ((arm_parts Below parts ts rest a x).opens), tt))

  match_is_read : IsRead (Node (λ t. stmt.Match t.0 t.1) (IsHead ⊗ open_brace ▸ Many (ArmOver Below) close_brace)) (Node (λ t. stmt.Match t.0 t.1) (IsHead ⊗ open_brace ▸ Many (ArmOver Below') close_brace))
      (match_over below limit) (suc limit) Always
  match_is_read = node_above (pair_is_read (head_is_read limit) (behind_is_read arms_are_read open_brace) (starts_with (EndsWhole true) open_brace ends_before_brace)) (λ t. stmt.Match t.0 t.1)

  map_is_read : IsRead (Node (λ t. stmt.Map t.0 t.1.0 t.1.1) (IsPattern ⊗ word "as" ▸ IsName ⊗ BlockOver Below)) (Node (λ t. stmt.Map t.0 t.1.0 t.1.1) (IsPattern ⊗ word "as" ▸ IsName ⊗ BlockOver Below'))
      (map_over below limit) (suc limit) Always
  map_is_read = node_above (pair_is_read (whole_pattern_is_read limit) (behind_is_read (pair_is_read name_is_read block_over_is_read (λ ts rest b y. tt)) (word "as"))
      (starts_with EndsPattern (word "as") (λ ts. (refl, tt)))) (λ t. stmt.Map t.0 t.1.0 t.1.1)

  check_is_read : IsRead (Node stmt.Check IsWhole) (Node stmt.Check IsWhole) (noded (suc limit) stmt.Check (read_whole limit)) (suc limit) (EndsWhole false)
  check_is_read = node_above (whole_is_read limit) stmt.Check

  publish_is_read : IsRead (Node stmt.Publish IsWhole) (Node stmt.Publish IsWhole) (noded (suc limit) stmt.Publish (read_whole limit)) (suc limit) (EndsWhole false)
  publish_is_read = node_above (whole_is_read limit) stmt.Publish

  return_is_read : IsRead (Node stmt.Return IsWhole) (Node stmt.Return IsWhole) (noded (suc limit) stmt.Return (read_whole limit)) (suc limit) (EndsWhole false)
  return_is_read = node_above (whole_is_read limit) stmt.Return

  finish_is_read : IsRead (Node stmt.Finish IsFinishBlock) (Node stmt.Finish IsFinishBlock) (noded (suc limit) stmt.Finish (read_finish_block limit)) (suc limit) Always
  finish_is_read = node_above (finish_block_is_read limit) stmt.Finish

  let_stmt_is_read : IsRead (Made stmt.Let IsLet) (Made stmt.Let IsLet) (making stmt.Let (let_over (read_expr (suc limit)) (suc limit))) (suc limit) (EndsWhole false)
  let_stmt_is_read = made_is_read (let_is_read IsExpr IsExpr (read_expr (suc limit)) (suc limit) expr_parts (expr_is_read (suc limit))) stmt.Let

  stmt_over_reads : (ts rest : Kinds) (a : Part Stmt) → StmtOver Below ts rest a → a.height ≤ suc limit → EndsStmt rest → stmt_over below limit ts ≡ Some (a, rest)
  stmt_over_reads ts rest a (rows.let (forms.made_of (forms.behind x))) low ends = let_stmt_is_read.reads ts rest a (forms.made_of (forms.behind x)) low ends.1
  stmt_over_reads ts rest a (rows.check (forms.behind {ts = inner} x)) low ends = check_is_read.reads inner rest a x low ends.1
  stmt_over_reads ts rest a (rows.if (forms.behind {ts = inner} x)) low ends = if_is_read.reads inner rest a x low (ends.0, tt)
  stmt_over_reads ts rest a (rows.match (forms.behind {ts = inner} x)) low ends = match_is_read.reads inner rest a x low tt
  stmt_over_reads ts rest a (rows.finish (forms.behind {ts = inner} x)) low ends = finish_is_read.reads inner rest a x low tt
  stmt_over_reads ts rest a (rows.map (forms.behind {ts = inner} x)) low ends = map_is_read.reads inner rest a x low tt
  stmt_over_reads ts rest a (rows.publish (forms.behind {ts = inner} x)) low ends = publish_is_read.reads inner rest a x low ends.1
  stmt_over_reads ts rest a (rows.return (forms.behind {ts = inner} x)) low ends = return_is_read.reads inner rest a x low ends.1

  stmt_over_finds : Finds (StmtOver Below') (stmt_over below limit) (suc limit)
  stmt_over_finds =
      on_finds (word "check") check_is_read.finds (λ ts rest a x. rows.check x)
      (on_finds (word "if") if_is_read.finds (λ ts rest a x. rows.if x)
      (on_finds (word "match") match_is_read.finds (λ ts rest a x. rows.match x)
      (on_finds (word "finish") finish_is_read.finds (λ ts rest a x. rows.finish x)
      (on_finds (word "map") map_is_read.finds (λ ts rest a x. rows.map x)
      (on_finds (word "publish") publish_is_read.finds (λ ts rest a x. rows.publish x)
      (on_finds (word "return") return_is_read.finds (λ ts rest a x. rows.return x)
      (λ ts p is. found_by rows.let (let_stmt_is_read.finds ts p is))))))))

  inner_over_is_read : (inner : Inner) → IsRead (InnerOver Below inner) (InnerOver Below' inner) (inner_over below limit inner) (suc limit) (EndsInner inner)
  inner_over_is_read statement = record { reads = stmt_over_reads; finds = stmt_over_finds }
  inner_over_is_read if_statement = behind_is_read if_is_read (word "if")

-- the knot
stmt_within_finds : (limit : ℕ) (inner : Inner) → Finds (StmtWithin limit inner) (read_stmt limit inner) limit
unfolding read_stmt
stmt_within_finds zero inner ts p is = absurd (cc)
stmt_within_finds (suc limit) inner ts p is = (inner_over_is_read (StmtWithin zero) (StmtWithin limit) (read_stmt limit) limit (stmt_within_parts zero) (stmt_within_follows zero)
    (λ inner. record { reads = λ ts rest a x low ends. absurd x; finds = stmt_within_finds limit inner }) inner).finds ts p is

stmt_within_reads : (n limit : ℕ) (inner : Inner) (ts rest : Kinds) (a : Part Stmt) → StmtWithin n inner ts rest a → a.height ≤ limit → EndsInner inner rest → read_stmt limit inner ts ≡ Some (a, rest)
unfolding read_stmt
stmt_within_reads zero limit inner ts rest a x low ends = absurd x
stmt_within_reads (suc n) zero inner ts rest a x low ends = let high = inner_over_high (StmtWithin n) inner ts rest a x in absurd (omega (arith, high, low))
stmt_within_reads (suc n) (suc limit) inner ts rest a x low ends = (inner_over_is_read (StmtWithin n) (StmtWithin limit) (read_stmt limit) limit (stmt_within_parts n) (stmt_within_follows n)
    (λ inner. record { reads = λ ts rest a x low ends. stmt_within_reads n limit inner ts rest a x low ends; finds = stmt_within_finds limit inner }) inner).reads ts rest a x low ends

stmt_reads : (limit : ℕ) (inner : Inner) (ts rest : Kinds) (a : Part Stmt) → IsStmt inner ts rest a → a.height ≤ limit → EndsInner inner rest → read_stmt limit inner ts ≡ Some (a, rest)
stmt_reads limit inner ts rest a (rows.nested n x) low ends = stmt_within_reads n limit inner ts rest a x low ends

stmt_is_read : (limit : ℕ) (inner : Inner) → IsRead (IsStmt inner) (IsStmt inner) (read_stmt limit inner) limit (EndsInner inner)
stmt_is_read limit inner = record {
  reads = stmt_reads limit inner;
  finds = λ ts p is. let found = stmt_within_finds limit inner ts p is in record { spelled = rows.nested limit found.spelled; low = found.low };
}

pub block_is_read : (limit : ℕ) → IsRead IsBlock IsBlock (read_block limit) limit Always
block_is_read limit = block_over_is_read IsStmt IsStmt (read_stmt limit) limit is_stmt_parts is_stmt_follows (stmt_is_read limit)
