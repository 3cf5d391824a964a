use Rattle.std.proofs.Common.{[]}
use Rattle.command.proofs.bodies.body_of.Goals as goal

pub returns : goal.returns
returns c = c.in_ok-write_body.ensures.told.more [] c.new-out.ensures
