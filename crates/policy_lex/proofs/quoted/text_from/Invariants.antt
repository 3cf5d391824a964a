use Rattle.std.proofs.Common.{◌≡◌, ◌≤◌, ◌-◌, drop, length}
use Rattle.policy_ast.specs.TokenForms.{text_from}
use Rattle.policy_lex.proofs.Texts.{with_prefix}
use Rattle.policy_lex.proofs.quoted.text_from.Given as goal

abbrev pub invariant-loop-place : goal.invariant-loop-place
invariant-loop-place l = record {
  text : with_prefix l.text l.place (text_from (drop l.place l.bytes)) ≡ text_from l.bytes;
  within : l.place ≤ length l.bytes;
}

abbrev pub decreases-loop-place : goal.decreases-loop-place
decreases-loop-place l = length l.bytes - l.place
