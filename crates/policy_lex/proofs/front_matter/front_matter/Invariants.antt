use Rattle.std.proofs.Common.{◌≡◌, ◌<◌, ◌≤◌, ◌-◌, length, IfSome, option_map}
use Rattle.policy_ast.specs.FrontMatter.{front_matter}
use Rattle.policy_ast.specs.Lines.{document_lines}
use Rattle.policy_lex.specs.working.FrontMatters.{placed}
use Rattle.policy_lex.specs.working.LineViews.{lines_at}
use Rattle.policy_lex.proofs.FrontSteps.{read_on}
use Rattle.policy_lex.proofs.front_matter.front_matter.Given as goal

abbrev pub invariant-loop-place : goal.invariant-loop-place
invariant-loop-place l = record {
  read : read_on l.key (lines_at l.document l.place) ≡ option_map placed (front_matter (document_lines l.document));
  within : l.place ≤ length l.document;
  key : IfSome l.key (λ k. k.start < length l.document);
}

abbrev pub decreases-loop-place : goal.decreases-loop-place
decreases-loop-place l = length l.document - l.place
