-- A few pieces of text, held to the grammar.
use Rattle.std.proofs.Common.{ℕ, suc, false, [], ◌∷◌, pos, refl}
use Rattle.std.specs.Prelude.{codes}
use Rattle.policy_ast.specs.declared.expr.Expr.{Expr}
use Rattle.policy_ast.specs.declared.expr.Expr.TheVariants as expr
use Rattle.policy_ast.specs.declared.literal.Literal.TheVariants as literal
use Rattle.policy_ast.specs.declared.part.Part.{Part}
use Rattle.policy_ast.specs.declared.token.TokenKind.{TokenKind}
use Rattle.policy_ast.specs.declared.token.TokenKind.TheVariants as token
use Rattle.policy_ast.specs.grammar.Expressions.{ExprWithin, IsExpr, PrimaryOver, whole}
use Rattle.policy_ast.specs.grammar.Expressions as expressions
use Rattle.policy_ast.specs.grammar.Fields.{IsLiteral, IsName}
use Rattle.policy_ast.specs.grammar.Fields as fields
use Rattle.policy_ast.specs.grammar.Fixed.{close_paren, comma, open_paren, word}
use Rattle.policy_ast.specs.grammar.Forms as forms
use Rattle.policy_ast.specs.grammar.Parts.{Kinds, part}
use Rattle.policy_ast.specs.Words.{is_reserved}

-- a primary alone is an expression
alone : (n : ℕ) {ts rest : Kinds} {a : Part Expr} → PrimaryOver (ExprWithin n) false ts rest a → ExprWithin (suc n) (whole false) ts rest a
alone n is = forms.chained (forms.chained (expressions.alone (expressions.plain (forms.chained is forms.done))) forms.done) forms.done

abbrev number : ℕ → TokenKind
number n = token.Number (pos n)

abbrev numeral : ℕ → Expr
numeral n = expr.Literal (literal.Number (pos n))

a_numeral : (n k : ℕ) (rest : Kinds) → ExprWithin (suc n) (whole false) (number k ∷ rest) rest (part (numeral k) 1)
a_numeral n k rest = alone n (expressions.literal (forms.node_of (fields.number (forms.made_of fields.number))))

-- `1`
pub one : (rest : Kinds) → IsExpr (whole false) (number 1 ∷ rest) rest (part (numeral 1) 1)
one rest = expressions.nested 1 (a_numeral 0 1 rest)

-- `(1)`: a node more, and the same tree
pub one_in_parens : (rest : Kinds) → IsExpr (whole false) (open_paren ∷ number 1 ∷ close_paren ∷ rest) rest (part (numeral 1) 2)
one_in_parens rest = expressions.nested 2 (alone 1 (expressions.parens (forms.behind (forms.node_of (forms.before (a_numeral 0 1 (close_paren ∷ rest)))))))

-- `f(1)` and `f(1,)`
abbrev call_of_one : Part Expr
call_of_one = part (expr.Call (codes "f") (numeral 1 ∷ [])) 2

pub call : (rest : Kinds) → IsExpr (whole false) (word "f" ∷ open_paren ∷ number 1 ∷ close_paren ∷ rest) rest call_of_one
unfolding is_reserved
call rest = expressions.nested 2 (alone 1 (expressions.call (forms.node_of (forms.pair (fields.name refl)
    (forms.behind (forms.last (a_numeral 0 1 (close_paren ∷ rest))))))))

pub call_with_last_comma : (rest : Kinds) → IsExpr (whole false) (word "f" ∷ open_paren ∷ number 1 ∷ comma ∷ close_paren ∷ rest) rest call_of_one
unfolding is_reserved
call_with_last_comma rest = expressions.nested 2 (alone 1 (expressions.call (forms.node_of (forms.pair (fields.name refl)
    (forms.behind (forms.ListedMore.more (a_numeral 0 1 (comma ∷ close_paren ∷ rest)) forms.ListedMore.none))))))
