use Rattle.braid_run.proofs.BatchFacts.{follow_all}
use Rattle.braid_run.proofs.CutFacts.{found_batch, one_batch}
use Rattle.braid_run.proofs.laws.batches.Goals as goal

pub returns : goal.returns
returns c = record { one = one_batch; found = found_batch; followed = follow_all }
