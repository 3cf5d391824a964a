use Rattle.std.proofs.Common.{◌≡◌, drop}
use Rattle.policy_meaning.specs.Blocks.{recall_body}
use Rattle.policy_eval.proofs.blocks.recall_body.Given as goal

abbrev pub invariant-loop-section : goal.invariant-loop-section
invariant-loop-section l = recall_body (drop l.section-index l.sections) ≡ recall_body l.fn.sections
