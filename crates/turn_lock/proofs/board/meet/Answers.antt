use Rattle.std.proofs.Common.{rules}
use Rattle.turn_lock.proofs.Seating.{join_allowed, settle_allowed}
use Rattle.turn_lock.proofs.board.meet.Goals as goal

pub join_seat-requires : goal.join_seat-requires
join_seat-requires g c = (search rules, search rules, search rules, search rules, join_allowed _ _ _ _ _ _ (search rules) (search rules))

pub load-requires : goal.load-requires
load-requires g c = (search rules, search rules, settle_allowed _ _ _ _ _ (search rules))
