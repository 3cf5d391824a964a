use Rattle.std.proofs.Common.{map}
use Rattle.policy_rules.specs.Calls.{may_chain}
use Rattle.policy_depths.specs.working.Rounds.{round}
use Rattle.policy_depths.proofs.Steps.{chains_are, ok_same}
use Rattle.policy_depths.proofs.chains.allowed_chains.Goals as goal

pub returns : goal.returns
returns c =
    let items = c.args.heads.now in
    ok_same c.round.result (round c.as_slice.result.now 17) (map (may_chain items) items) (rw c.as_slice.ensures (chains_are items c.in_ok-all.all c.in_ok-all.ensures)) c.round.ensures
