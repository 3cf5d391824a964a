-- Patterns: those of facts, and those of the arms of a `match`.
use Rattle.std.specs.Prelude.{List, [], ◌∷◌, Option, Some, None}
use Rattle.policy_ast.specs.declared.part.Part.{Part}
use Rattle.policy_ast.specs.declared.pattern.ArmPattern.{ArmPattern}
use Rattle.policy_ast.specs.declared.pattern.ArmPattern.TheVariants as arm_pattern
use Rattle.policy_ast.specs.declared.pattern.Free.{Free}
use Rattle.policy_ast.specs.declared.pattern.Pattern.{Pattern}
use Rattle.policy_ast.specs.declared.pattern.PatternLiteral.{PatternLiteral}
use Rattle.policy_ast.specs.declared.pattern.PatternLiteral.TheVariants as pattern_literal
use Rattle.policy_ast.specs.declared.expr.Expr.{Expr}
use Rattle.policy_ast.specs.grammar.Fields.{IsLiteral, IsName}
use Rattle.policy_ast.specs.grammar.Fixed.{arrow, bar, close_brace, close_bracket, colon, open_brace, open_bracket, question_mark, underscore, word}
use Rattle.policy_ast.specs.grammar.Forms.{◌▸◌, ◌⊗◌, Chained, Empty, Listed, Made, Optional}
use Rattle.policy_ast.specs.grammar.Parts.{Nonterminal, Kinds, appended}

-- IsValue is an expression that lies inside.
module _ (IsValue : Nonterminal Expr) where
  -- "?" | expr
  pub data FreeValueOver (ts rest : Kinds) (a : Part (Option Expr)) : Type 0 where
    free : (question_mark ▸ Made (λ none. None) Empty) ts rest a → FreeValueOver ts rest a
    value : Made Some IsValue ts rest a → FreeValueOver ts rest a

  -- free = Name ":" ("?" | expr)
  abbrev pub FreeOver : Nonterminal (Free Expr)
  FreeOver = Made (λ t. record { name = t.0; value = t.1 }) (IsName ⊗ colon ▸ FreeValueOver)

  -- pattern = Name "[" list(free) "]" ("=>" "{" list(free) "}")?
  abbrev pub PatternOver : Nonterminal (Pattern Expr)
  PatternOver = Made (λ t. record { fact = t.0; keys = t.1.0; values = t.1.1 })
      (IsName ⊗ open_bracket ▸ Listed FreeOver close_bracket ⊗ Optional arrow (open_brace ▸ Listed FreeOver close_brace))

-- patlit = literal | "None"
pub data IsPatternLiteral (ts rest : Kinds) (a : Part PatternLiteral) : Type 0 where
  written : Made pattern_literal.Literal IsLiteral ts rest a → IsPatternLiteral ts rest a
  none : (word "None" ▸ Made (λ none. pattern_literal.None) Empty) ts rest a → IsPatternLiteral ts rest a

-- "_" | patlit ("|" patlit)*
pub data IsArmPattern (ts rest : Kinds) (a : Part ArmPattern) : Type 0 where
  any : (underscore ▸ Made (λ none. arm_pattern.Any) Empty) ts rest a → IsArmPattern ts rest a
  literals : Made arm_pattern.Literals (Chained bar appended (Made (λ x. x ∷ []) IsPatternLiteral) IsPatternLiteral) ts rest a → IsArmPattern ts rest a
