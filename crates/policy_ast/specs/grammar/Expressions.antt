-- Expressions, with the patterns and the blocks that stand in them.
use Rattle.std.specs.Prelude.{◌≡◌, ℕ, zero, suc, Bool, true, false}
use Rattle.policy_ast.specs.declared.bind.Bind.{Bind}
use Rattle.policy_ast.specs.declared.expr.Arithmetic.{Arithmetic}
use Rattle.policy_ast.specs.declared.expr.Comparison.{Comparison}
use Rattle.policy_ast.specs.declared.expr.Count.{Count}
use Rattle.policy_ast.specs.declared.expr.ElseExpr.{ElseExpr}
use Rattle.policy_ast.specs.declared.expr.ElseExpr.TheVariants as else_expr
use Rattle.policy_ast.specs.declared.expr.Expr.{Expr}
use Rattle.policy_ast.specs.declared.expr.Expr.TheVariants as expr
use Rattle.policy_ast.specs.declared.expr.ExprBlock.{ExprBlock}
use Rattle.policy_ast.specs.declared.expr.Let.{Let}
use Rattle.policy_ast.specs.declared.expr.Presence.{Presence}
use Rattle.policy_ast.specs.declared.expr.Unary.{Unary}
use Rattle.policy_ast.specs.declared.part.Part.{Part}
use Rattle.policy_ast.specs.grammar.Fields.{IsLiteral, IsName, IsNumber}
use Rattle.policy_ast.specs.grammar.Fixed.{and, arithmetic_token, close_brace, close_paren, colon, comma, comparison_token, count_token, dot, equals, open_brace, open_paren, or, path, presence_token, unary_token, word}
use Rattle.policy_ast.specs.grammar.Forms.{◌▸◌, ◌◂◌, ◌⊗◌, Chained, Empty, Listed, Made, Many, Node}
use Rattle.policy_ast.specs.grammar.Parts.{Nonterminal, Kinds, node_both}
use Rattle.policy_ast.specs.grammar.Patterns.{PatternOver}

-- what lies inside an expression. The Bool says whether it is a head, which has no `Name {` outside of brackets.
pub data Level : Type 0 where
  whole : Bool → Level
  operand : Bool → Level
  conditional : Level

-- Below is what lies inside.
module _ (Below : Level → Nonterminal Expr) where
  -- bind = Name ":" expr
  abbrev pub BindOver : Nonterminal (Bind Expr)
  BindOver = Made (λ t. record { name = t.0; value = t.1 }) (IsName ⊗ colon ▸ Below (whole false))

  -- let = "let" Name "=" expr
  abbrev pub LetOver : Nonterminal (Let Expr)
  LetOver = word "let" ▸ Node (λ t. record { name = t.0; value = t.1 }) (IsName ⊗ equals ▸ Below (whole false))

  -- ebody = "{" let* ":" expr "}"
  abbrev pub BodyOver : Nonterminal (ExprBlock Expr)
  BodyOver = open_brace ▸ Made (λ t. record { lets = t.0; value = t.1 }) (Many LetOver colon ⊗ Below (whole false) ◂ close_brace)

  -- ebody | an "if" of this kind
  pub data ElseExprOver (ts rest : Kinds) (a : Part (ElseExpr Expr)) : Type 0 where
    body : Made else_expr.Block BodyOver ts rest a → ElseExprOver ts rest a
    else_if : Made else_expr.If (Below conditional) ts rest a → ElseExprOver ts rest a

  -- "if" head ebody "else" (ebody | an "if" of this kind)
  abbrev pub ConditionalOver : Nonterminal Expr
  ConditionalOver = word "if" ▸ Node (λ t. expr.If (record { head = t.0; then = t.1.0; otherwise = t.1.1 }))
      (Below (whole true) ⊗ BodyOver ⊗ word "else" ▸ ElseExprOver)

  -- prim = literal | "None" | "Some" "(" expr ")" | "this" | Name | "(" expr ")"
  --      | Name "::" Name "(" list(expr) ")" | Name "(" list(expr) ")" | Name "{" list(bind) "}"
  --      | ("add" | "sub" | "saturating_add" | "saturating_sub") "(" expr "," expr ")"
  --      | ("query" | "exists") pattern
  --      | ("at_least" | "at_most" | "exactly" | "count_up_to") Number pattern
  --      | "if" head ebody "else" (ebody | an "if" of this kind)
  pub data PrimaryOver (is_head : Bool) (ts rest : Kinds) (a : Part Expr) : Type 0 where
    literal : Node expr.Literal IsLiteral ts rest a → PrimaryOver is_head ts rest a
    none : (word "None" ▸ Node (λ none. expr.None) Empty) ts rest a → PrimaryOver is_head ts rest a
    some : (word "Some" ▸ Node expr.Some (open_paren ▸ Below (whole false) ◂ close_paren)) ts rest a → PrimaryOver is_head ts rest a
    this : (word "this" ▸ Node (λ none. expr.This) Empty) ts rest a → PrimaryOver is_head ts rest a
    name : Node expr.Name IsName ts rest a → PrimaryOver is_head ts rest a
    parens : (open_paren ▸ Node (λ inner. inner) (Below (whole false) ◂ close_paren)) ts rest a → PrimaryOver is_head ts rest a
    foreign_call : Node (λ t. expr.ForeignCall t.0 t.1.0 t.1.1) (IsName ⊗ path ▸ IsName ⊗ open_paren ▸ Listed (Below (whole false)) close_paren) ts rest a → PrimaryOver is_head ts rest a
    call : Node (λ t. expr.Call t.0 t.1) (IsName ⊗ open_paren ▸ Listed (Below (whole false)) close_paren) ts rest a → PrimaryOver is_head ts rest a
    fields : is_head ≡ false → Node (λ t. expr.Struct t.0 t.1) (IsName ⊗ open_brace ▸ Listed BindOver close_brace) ts rest a → PrimaryOver is_head ts rest a
    arithmetic : (op : Arithmetic) → (arithmetic_token op ▸ Node (λ t. expr.Arithmetic op t.0 t.1) (open_paren ▸ Below (whole false) ⊗ comma ▸ Below (whole false) ◂ close_paren)) ts rest a → PrimaryOver is_head ts rest a
    query : (word "query" ▸ Node expr.Query (PatternOver (Below (whole false)))) ts rest a → PrimaryOver is_head ts rest a
    exists : (word "exists" ▸ Node expr.Exists (PatternOver (Below (whole false)))) ts rest a → PrimaryOver is_head ts rest a
    count : (op : Count) → (count_token op ▸ Node (λ t. expr.Count op t.0 t.1) (IsNumber ⊗ PatternOver (Below (whole false)))) ts rest a → PrimaryOver is_head ts rest a
    «if» : ConditionalOver ts rest a → PrimaryOver is_head ts rest a

  -- unary = ("!" | "unwrap" | "check_unwrap") unary | prim ("." Name)*
  pub data UnaryOver (is_head : Bool) (ts rest : Kinds) (a : Part Expr) : Type 0 where
    prefixed : (op : Unary) → (unary_token op ▸ Node (expr.Unary op) (Below (operand is_head))) ts rest a → UnaryOver is_head ts rest a
    plain : Chained dot (node_both expr.Field) (PrimaryOver is_head) IsName ts rest a → UnaryOver is_head ts rest a

  -- cmp = unary (("==" | "!=" | "<" | "<=" | ">" | ">=") unary | "is" ("Some" | "None"))?
  pub data ComparisonOver (is_head : Bool) (ts rest : Kinds) (a : Part Expr) : Type 0 where
    alone : UnaryOver is_head ts rest a → ComparisonOver is_head ts rest a
    compared : (op : Comparison) → Node (λ t. expr.Compare t.0 op t.1) (UnaryOver is_head ⊗ comparison_token op ▸ UnaryOver is_head) ts rest a → ComparisonOver is_head ts rest a
    is : (op : Presence) → Node (λ x. expr.Is x op) (UnaryOver is_head ◂ word "is" ◂ presence_token op) ts rest a → ComparisonOver is_head ts rest a

  -- and = cmp ("&&" cmp)*, grouped to the left
  abbrev pub AndOver : Bool → Nonterminal Expr
  AndOver is_head = Chained and (node_both expr.And) (ComparisonOver is_head) (ComparisonOver is_head)

  -- expr = and ("||" and)*, grouped to the left
  abbrev pub OrOver : Bool → Nonterminal Expr
  OrOver is_head = Chained or (node_both expr.Or) (AndOver is_head) (AndOver is_head)

  abbrev pub ExprOver : Level → Nonterminal Expr
  ExprOver (whole is_head) = OrOver is_head
  ExprOver (operand is_head) = UnaryOver is_head
  ExprOver conditional = ConditionalOver

-- expressions that lie in one another fewer than n deep
abbrev pub ExprWithin : ℕ → Level → Nonterminal Expr
ExprWithin zero level = λ ts rest a. ⊥
ExprWithin (suc n) level = ExprOver (ExprWithin n) level

-- an expression: the number is any that is large enough
pub data IsExpr (level : Level) (ts rest : Kinds) (a : Part Expr) : Type 0 where
  nested : (n : ℕ) → ExprWithin n level ts rest a → IsExpr level ts rest a
