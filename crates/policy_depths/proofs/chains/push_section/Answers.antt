use Rattle.std.specs.List.{list_all}
use Rattle.policy_rules.specs.Calls.{section_calls}
use Rattle.policy_depths.specs.working.Gathering.{call_passes, statement_passes}
use Rattle.policy_depths.proofs.Forms.{policy_is, recall_is}
use Rattle.policy_depths.proofs.Gathering.{same_gather}
use Rattle.policy_depths.proofs.chains.push_section.Goals as goal

pub returns-in-Policy : goal.returns-in-Policy
returns-in-Policy c =
    same_gather c.push_statements.result c.args.numbers.now c.push_statements.new.numbers
    (λ test. list_all (λ s. statement_passes c.args.heads.now test s) c.as_slice.result.now) (λ test. section_calls (call_passes c.args.heads.now test) c.args.section.now)
    (λ test. rw c.as_slice.ensures (policy_is c.args.heads.now test c.args.section.now c.in-Policy.body c.in-Policy.is))
    c.push_statements.ensures

pub returns-in-Recall : goal.returns-in-Recall
returns-in-Recall c =
    same_gather c.push_statements-in-Recall.result c.args.numbers.now c.push_statements-in-Recall.new.numbers
    (λ test. list_all (λ s. statement_passes c.args.heads.now test s) c.as_slice-in-Recall.result.now) (λ test. section_calls (call_passes c.args.heads.now test) c.args.section.now)
    (λ test. rw c.as_slice-in-Recall.ensures (recall_is c.args.heads.now test c.args.section.now c.in-Recall.body c.in-Recall.is))
    c.push_statements-in-Recall.ensures
