use Rattle.braid_run.specs.Runs.{no_run}
use Rattle.braid_run.proofs.FinalFacts.{has_one_run}
use Rattle.braid_run.proofs.RunFacts.{run_names}
use Rattle.braid_run.proofs.laws.lists_have_one_run.Goals as goal

pub returns : goal.returns
returns c = record { named = λ policy commands. run_names policy no_run commands; one = has_one_run }
