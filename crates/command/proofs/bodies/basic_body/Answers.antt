use Rattle.std.proofs.Common.{[]}
use Rattle.command.proofs.bodies.basic_body.Goals as goal

pub returns : goal.returns
returns c = c.in_ok-write_basic.ensures.told.more [] c.new-out.ensures
