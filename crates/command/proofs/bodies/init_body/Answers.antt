use Rattle.std.proofs.Common.{[]}
use Rattle.command.proofs.bodies.init_body.Goals as goal

pub returns : goal.returns
returns c = c.in_ok-write_init.ensures.told.more [] c.new-out.ensures
