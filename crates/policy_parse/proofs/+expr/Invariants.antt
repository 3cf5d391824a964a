use Rattle.std.proofs.Common.{◌≡◌, ◌+◌, ◌*◌, ◌-◌, suc, length, false}
use Rattle.policy_ast.specs.declared.expr.Expr.TheVariants.{And, Or}
use Rattle.policy_ast.specs.declared.token.TokenKind.TheVariants.{Symbol}
use Rattle.policy_ast.specs.grammar.Expressions.{whole}
use Rattle.policy_ast.specs.grammar.Fixed.{and, close_paren, colon, or}
use Rattle.policy_ast.specs.grammar.Policies.{kinds}
use Rattle.policy_ast.proofs.grammar.Reading.{chain, listed, listed_more, many, many_more, node_added}
use Rattle.policy_ast.proofs.grammar.ReadingExpressions.{and_over, bind_over, comparison_over, free_over, let_over, read_expr}
use Rattle.policy_parse.proofs.+expr.Given as goal

abbrev pub decreases-expressions::expression : goal.decreases-expressions::expression
decreases-expressions::expression l = 100 * l.depth + 40

abbrev pub decreases-expressions::operand : goal.decreases-expressions::operand
decreases-expressions::operand l = 100 * l.depth + 25

abbrev pub decreases-expressions::else_if_expression : goal.decreases-expressions::else_if_expression
decreases-expressions::else_if_expression l = 100 * l.depth + 15

abbrev pub decreases-expressions::disjunction : goal.decreases-expressions::disjunction
decreases-expressions::disjunction l = 100 * l.depth + 30

abbrev pub decreases-expressions::or_more : goal.decreases-expressions::or_more
decreases-expressions::or_more l = 100 * l.depth + 29

abbrev pub decreases-expressions::conjunction : goal.decreases-expressions::conjunction
decreases-expressions::conjunction l = 100 * l.depth + 28

abbrev pub decreases-expressions::and_more : goal.decreases-expressions::and_more
decreases-expressions::and_more l = 100 * l.depth + 27

abbrev pub decreases-expressions::comparison : goal.decreases-expressions::comparison
decreases-expressions::comparison l = 100 * l.depth + 26

abbrev pub decreases-expressions::compared : goal.decreases-expressions::compared
decreases-expressions::compared l = 100 * l.depth + 25

abbrev pub decreases-expressions::unary : goal.decreases-expressions::unary
decreases-expressions::unary l = 100 * l.depth + 24

abbrev pub decreases-primaries::primary : goal.decreases-primaries::primary
decreases-primaries::primary l = 100 * l.depth + 22

abbrev pub decreases-primaries::named : goal.decreases-primaries::named
decreases-primaries::named l = 100 * l.depth + 21

abbrev pub decreases-primaries::keyword : goal.decreases-primaries::keyword
decreases-primaries::keyword l = 100 * l.depth + 20

abbrev pub decreases-primaries::two_names : goal.decreases-primaries::two_names
decreases-primaries::two_names l = 100 * l.depth + 19

abbrev pub decreases-primaries::arithmetic : goal.decreases-primaries::arithmetic
decreases-primaries::arithmetic l = 100 * l.depth + 18

abbrev pub decreases-primaries::counted : goal.decreases-primaries::counted
decreases-primaries::counted l = 100 * l.depth + 17

abbrev pub decreases-patterns::pattern : goal.decreases-patterns::pattern
decreases-patterns::pattern l = 100 * l.limit + 65

abbrev pub decreases-if_expressions::if_expression : goal.decreases-if_expressions::if_expression
decreases-if_expressions::if_expression l = 100 * l.depth + 14

abbrev pub decreases-if_expressions::else_expression : goal.decreases-if_expressions::else_expression
decreases-if_expressions::else_expression l = 100 * l.limit + 63

abbrev pub decreases-patterns::frees : goal.decreases-patterns::frees
decreases-patterns::frees l = 100 * l.limit + 61

abbrev pub decreases-patterns::free : goal.decreases-patterns::free
decreases-patterns::free l = 100 * l.limit + 60

abbrev pub decreases-if_expressions::body : goal.decreases-if_expressions::body
decreases-if_expressions::body l = 100 * l.limit + 62

abbrev pub decreases-if_expressions::lets : goal.decreases-if_expressions::lets
decreases-if_expressions::lets l = 100 * l.limit + 59

abbrev pub decreases-if_expressions::binding : goal.decreases-if_expressions::binding
decreases-if_expressions::binding l = 100 * l.limit + 58

abbrev pub decreases-patterns::binds : goal.decreases-patterns::binds
decreases-patterns::binds l = 100 * l.limit + 57

abbrev pub decreases-patterns::bind : goal.decreases-patterns::bind
decreases-patterns::bind l = 100 * l.limit + 56

abbrev pub decreases-patterns::arguments : goal.decreases-patterns::arguments
decreases-patterns::arguments l = 100 * l.limit + 55

abbrev pub decreases-primaries::closed : goal.decreases-primaries::closed
decreases-primaries::closed l = 100 * l.limit + 54

abbrev pub invariant-expressions::or_more-loop-behind : goal.invariant-expressions::or_more-loop-behind
invariant-expressions::or_more-loop-behind l = chain or (node_added (suc (l.depth - 1)) Or) (and_over (read_expr (l.depth - 1)) (l.depth - 1) l.is_head) l.turns l.whole (kinds l.rest) ≡ chain or (node_added (suc (l.depth - 1)) Or) (and_over (read_expr (l.depth - 1)) (l.depth - 1) l.is_head) (length l.tokens) l.fn.first (kinds l.tokens)

abbrev pub decreases-expressions::or_more-loop-behind : goal.decreases-expressions::or_more-loop-behind
decreases-expressions::or_more-loop-behind l = l.turns

abbrev pub invariant-expressions::and_more-loop-behind : goal.invariant-expressions::and_more-loop-behind
invariant-expressions::and_more-loop-behind l = chain and (node_added (suc (l.depth - 1)) And) (comparison_over (read_expr (l.depth - 1)) (l.depth - 1) l.is_head) l.turns l.whole (kinds l.rest) ≡ chain and (node_added (suc (l.depth - 1)) And) (comparison_over (read_expr (l.depth - 1)) (l.depth - 1) l.is_head) (length l.tokens) l.fn.first (kinds l.tokens)

abbrev pub decreases-expressions::and_more-loop-behind : goal.decreases-expressions::and_more-loop-behind
decreases-expressions::and_more-loop-behind l = l.turns

abbrev pub invariant-patterns::arguments-loop : goal.invariant-patterns::arguments-loop
invariant-patterns::arguments-loop l = listed_more close_paren (read_expr l.limit (whole false)) (length l.tokens - l.counter) l.found (kinds l.rest) ≡ listed close_paren (read_expr l.limit (whole false)) (kinds l.tokens)

abbrev pub invariant-patterns::binds-loop : goal.invariant-patterns::binds-loop
invariant-patterns::binds-loop l = listed_more (Symbol l.close) (bind_over (read_expr l.limit) l.limit) (length l.tokens - l.counter) l.found (kinds l.rest) ≡ listed (Symbol l.close) (bind_over (read_expr l.limit) l.limit) (kinds l.tokens)

abbrev pub invariant-patterns::frees-loop : goal.invariant-patterns::frees-loop
invariant-patterns::frees-loop l = listed_more (Symbol l.close) (free_over (read_expr l.limit) l.limit) (length l.tokens - l.counter) l.found (kinds l.rest) ≡ listed (Symbol l.close) (free_over (read_expr l.limit) l.limit) (kinds l.tokens)

abbrev pub invariant-if_expressions::lets-loop : goal.invariant-if_expressions::lets-loop
invariant-if_expressions::lets-loop l = many_more colon (let_over (read_expr l.limit) l.limit) (length l.tokens - l.counter) l.found (kinds l.rest) ≡ many colon (let_over (read_expr l.limit) l.limit) (kinds l.tokens)
