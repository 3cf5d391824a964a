use Rattle.std.proofs.Common.{ap}
use Rattle.policy_eval.specs.working.Steps.{return_of}
use Rattle.policy_eval.proofs.flow.return_flow.Goals as goal

pub returns : goal.returns
returns c = λ lists env behind turns out gives. (behind, ap (return_of behind) (rw c.in_ok-value.was at gives))
