use Rattle.std.proofs.Common.{◌≡◌, drop}
use Rattle.policy_meaning.specs.Blocks.{policy_body}
use Rattle.policy_eval.proofs.blocks.policy_body.Given as goal

abbrev pub invariant-loop-section : goal.invariant-loop-section
invariant-loop-section l = policy_body (drop l.section-index l.sections) ≡ policy_body l.fn.sections
