use Rattle.std.proofs.Common.{◌≡◌, ◌+◌, ◌*◌, ◌-◌, length}
use Rattle.policy_ast.specs.grammar.Fixed.{close_brace}
use Rattle.policy_ast.specs.grammar.Policies.{kinds}
use Rattle.policy_ast.specs.grammar.Statements.{statement}
use Rattle.policy_ast.proofs.grammar.Reading.{many, many_more}
use Rattle.policy_ast.proofs.grammar.ReadingStatements.{arm_over, read_stmt}
use Rattle.policy_parse.proofs.statements.+stmt.Given as goal

abbrev pub decreases-statement : goal.decreases-statement
decreases-statement l = 100 * l.depth + 20

abbrev pub decreases-else_if_stmt : goal.decreases-else_if_stmt
decreases-else_if_stmt l = 100 * l.depth + 15

abbrev pub decreases-stmt_by_word : goal.decreases-stmt_by_word
decreases-stmt_by_word l = 100 * l.depth + 18

abbrev pub decreases-if_stmt : goal.decreases-if_stmt
decreases-if_stmt l = 100 * l.depth + 14

abbrev pub decreases-match_stmt : goal.decreases-match_stmt
decreases-match_stmt l = 100 * l.depth + 13

abbrev pub decreases-map_stmt : goal.decreases-map_stmt
decreases-map_stmt l = 100 * l.depth + 12

abbrev pub decreases-else_stmt : goal.decreases-else_stmt
decreases-else_stmt l = 100 * l.limit + 57

abbrev pub decreases-block : goal.decreases-block
decreases-block l = 100 * l.limit + 52

abbrev pub decreases-statements : goal.decreases-statements
decreases-statements l = 100 * l.limit + 51

abbrev pub decreases-arms : goal.decreases-arms
decreases-arms l = 100 * l.limit + 54

abbrev pub decreases-arm : goal.decreases-arm
decreases-arm l = 100 * l.limit + 53

abbrev pub invariant-statements-loop : goal.invariant-statements-loop
invariant-statements-loop l = many_more close_brace (read_stmt l.limit statement) (length l.tokens - l.counter) l.found (kinds l.rest) ≡ many close_brace (read_stmt l.limit statement) (kinds l.tokens)

abbrev pub invariant-arms-loop : goal.invariant-arms-loop
invariant-arms-loop l = many_more close_brace (arm_over (read_stmt l.limit) l.limit) (length l.tokens - l.counter) l.found (kinds l.rest) ≡ many close_brace (arm_over (read_stmt l.limit) l.limit) (kinds l.tokens)
