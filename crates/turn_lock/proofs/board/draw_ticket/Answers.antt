use Rattle.std.proofs.Common.{rules}
use Rattle.turn_lock.proofs.Unchanged.{same_allowed}
use Rattle.turn_lock.proofs.Drawing.{ticket_allowed}
use Rattle.turn_lock.proofs.board.draw_ticket.Goals as goal

pub load-next-requires : goal.load-next-requires
load-next-requires g c = (search rules, search rules, same_allowed _ _ _ _ _ _)

pub compare_exchange-requires : goal.compare_exchange-requires
compare_exchange-requires g c = (search rules, search rules, ticket_allowed _ _ _ _ _ c.args.number _ (search rules) (search rules) (search rules) (search rules))
