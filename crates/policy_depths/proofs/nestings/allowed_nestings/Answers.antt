use Rattle.std.proofs.Common.{map}
use Rattle.policy_rules.specs.Nesting.{may_nest}
use Rattle.policy_depths.specs.working.Rounds.{round}
use Rattle.policy_depths.proofs.Steps.{nestings_are, ok_same}
use Rattle.policy_depths.proofs.nestings.allowed_nestings.Goals as goal

pub returns : goal.returns
returns c =
    let items = c.args.heads.now in
    ok_same c.round.result (round c.as_slice.result.now 8) (map (may_nest items) items) (rw c.as_slice.ensures (nestings_are items c.in_ok-all.all c.in_ok-all.ensures)) c.round.ensures
