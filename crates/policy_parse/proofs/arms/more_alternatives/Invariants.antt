use Rattle.std.proofs.Common.{◌≡◌, length}
use Rattle.policy_ast.specs.grammar.Fixed.{bar}
use Rattle.policy_ast.specs.grammar.Parts.{part}
use Rattle.policy_ast.specs.grammar.Policies.{kinds}
use Rattle.policy_ast.proofs.grammar.Reading.{chain, list_added}
use Rattle.policy_ast.proofs.grammar.ReadingFields.{read_pattern_literal}
use Rattle.policy_parse.proofs.arms.more_alternatives.Given as goal

abbrev pub invariant-loop-behind : goal.invariant-loop-behind
invariant-loop-behind l = chain bar list_added read_pattern_literal l.turns (part l.found 0) (kinds l.rest) ≡ chain bar list_added read_pattern_literal (length l.tokens) (part l.fn.first 0) (kinds l.tokens)

abbrev pub decreases-loop-behind : goal.decreases-loop-behind
decreases-loop-behind l = l.turns
