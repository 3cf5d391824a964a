use Rattle.std.proofs.Common.{◌≡◌, drop}
use Rattle.policy_ast.specs.TokenForms.{comment_end}
use Rattle.policy_lex.proofs.Comments.{with_more}
use Rattle.policy_lex.proofs.trivia.comment_end.Given as goal

abbrev pub invariant-loop-i : goal.invariant-loop-i
invariant-loop-i l = with_more l.i (comment_end (drop l.i l.bytes)) ≡ comment_end l.bytes
