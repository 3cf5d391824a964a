use Rattle.aranyad.proofs.Goings.{said_in_part}
use Rattle.aranyad.proofs.printing.say.Goals as goal

pub returns-in-Err-clause-goes : goal.returns-in-Err-clause-goes
returns-in-Err-clause-goes g c = said_in_part c.args.ending c.args.line.now _ _ c.in-Err.ensures.written
