use Rattle.std.proofs.Common.{◌≡◌, ◌-◌, suc, length}
use Rattle.policy_ast.specs.declared.expr.Expr.TheVariants.{Field}
use Rattle.policy_ast.specs.grammar.Fixed.{dot}
use Rattle.policy_ast.specs.grammar.Policies.{kinds}
use Rattle.policy_ast.proofs.grammar.Reading.{chain, node_added}
use Rattle.policy_ast.proofs.grammar.ReadingFields.{read_name}
use Rattle.policy_parse.proofs.parts.dots.Given as goal

abbrev pub invariant-loop-behind : goal.invariant-loop-behind
invariant-loop-behind l = chain dot (node_added (suc (l.depth - 1)) Field) read_name l.turns l.whole (kinds l.rest) ≡ chain dot (node_added (suc (l.depth - 1)) Field) read_name (length l.tokens) l.fn.first (kinds l.tokens)

abbrev pub decreases-loop-behind : goal.decreases-loop-behind
decreases-loop-behind l = l.turns
