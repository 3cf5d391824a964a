use Rattle.braid_run.proofs.PublishedFacts.{facts_behind_all, next_sole_head, one_head_is_sole, published_batch, published_extends, runs_last}
use Rattle.braid_run.proofs.laws.published_commands_run_last.Goals as goal

pub returns : goal.returns
returns c = record {
  run = runs_last;
  place = facts_behind_all;
  sound = published_extends;
  batch = published_batch;
  tip = λ commands closed. record { head = one_head_is_sole commands closed; next = next_sole_head commands };
}
