-- The fixed tokens of the grammar: its symbols, and its words as they stand.
use Rattle.std.specs.Prelude.{codes}
use Prim.Native.String.{String}
use Rattle.policy_ast.specs.declared.token.TokenKind.{TokenKind}
use Rattle.policy_ast.specs.declared.token.TokenKind.TheVariants.{Word}
use Rattle.policy_ast.specs.declared.expr.Arithmetic.{Arithmetic}
use Rattle.policy_ast.specs.declared.expr.Arithmetic.TheVariants as arithmetic
use Rattle.policy_ast.specs.declared.expr.Comparison.{Comparison}
use Rattle.policy_ast.specs.declared.expr.Comparison.TheVariants as comparison
use Rattle.policy_ast.specs.declared.expr.Count.{Count}
use Rattle.policy_ast.specs.declared.expr.Count.TheVariants as count
use Rattle.policy_ast.specs.declared.expr.Presence.{Presence}
use Rattle.policy_ast.specs.declared.expr.Presence.TheVariants as presence
use Rattle.policy_ast.specs.declared.expr.Unary.{Unary}
use Rattle.policy_ast.specs.declared.expr.Unary.TheVariants as unary
use Rattle.policy_ast.specs.Symbols.{symbol}
use Rattle.policy_ast.specs.Version.{Two}

abbrev pub word : String → TokenKind
word text = Word (codes text)

abbrev pub open_brace : TokenKind
open_brace = symbol Two "{"

abbrev pub close_brace : TokenKind
close_brace = symbol Two "}"

abbrev pub open_bracket : TokenKind
open_bracket = symbol Two "["

abbrev pub close_bracket : TokenKind
close_bracket = symbol Two "]"

abbrev pub open_paren : TokenKind
open_paren = symbol Two "("

abbrev pub close_paren : TokenKind
close_paren = symbol Two ")"

abbrev pub comma : TokenKind
comma = symbol Two ","

abbrev pub colon : TokenKind
colon = symbol Two ":"

abbrev pub path : TokenKind
path = symbol Two "::"

abbrev pub dot : TokenKind
dot = symbol Two "."

abbrev pub question_mark : TokenKind
question_mark = symbol Two "?"

abbrev pub equals : TokenKind
equals = symbol Two "="

abbrev pub arrow : TokenKind
arrow = symbol Two "=>"

abbrev pub and : TokenKind
and = symbol Two "&&"

abbrev pub or : TokenKind
or = symbol Two "||"

abbrev pub bar : TokenKind
bar = symbol Two "|"

abbrev pub underscore : TokenKind
underscore = symbol Two "_"

-- `==` `!=` `<` `<=` `>` `>=`
abbrev pub comparison_token : Comparison → TokenKind
comparison_token comparison.Equal = symbol Two "=="
comparison_token comparison.NotEqual = symbol Two "!="
comparison_token comparison.Less = symbol Two "<"
comparison_token comparison.LessOrEqual = symbol Two "<="
comparison_token comparison.Greater = symbol Two ">"
comparison_token comparison.GreaterOrEqual = symbol Two ">="

-- what stands behind `is`
abbrev pub presence_token : Presence → TokenKind
presence_token presence.Some = word "Some"
presence_token presence.None = word "None"

-- the operators before an operand
abbrev pub unary_token : Unary → TokenKind
unary_token unary.Not = symbol Two "!"
unary_token unary.Unwrap = word "unwrap"
unary_token unary.CheckUnwrap = word "check_unwrap"

abbrev pub arithmetic_token : Arithmetic → TokenKind
arithmetic_token arithmetic.Add = word "add"
arithmetic_token arithmetic.Sub = word "sub"
arithmetic_token arithmetic.SaturatingAdd = word "saturating_add"
arithmetic_token arithmetic.SaturatingSub = word "saturating_sub"

abbrev pub count_token : Count → TokenKind
count_token count.AtLeast = word "at_least"
count_token count.AtMost = word "at_most"
count_token count.Exactly = word "exactly"
count_token count.CountUpTo = word "count_up_to"
