use Rattle.std.proofs.Common.{[]}
use Rattle.command.proofs.bodies.finalize_body.Goals as goal

pub returns : goal.returns
returns c = c.in_ok-write_finalize.ensures.told.more [] c.new-out.ensures
