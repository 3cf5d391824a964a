use Rattle.std.proofs.Common.{rules}
use Rattle.transaction.proofs.DraftFacts.{first_formed}
use Rattle.transaction.proofs.applying.name_by_first.Goals as goal

pub id_of-requires : goal.id_of-requires
id_of-requires g c = first_formed c.args.state.now.held.commands c.args.commands.now c.in-Some.first.now c.requires.closed (search rules)
