use Rattle.std.proofs.Common.{rules}
use Rattle.turn_lock.proofs.Unchanged.{same_allowed}
use Rattle.turn_lock.proofs.Drawing.{number_allowed}
use Rattle.turn_lock.proofs.board.draw_number.Goals as goal

pub load-next-requires : goal.load-next-requires
load-next-requires g c = (search rules, search rules, same_allowed _ _ _ _ _ _)

pub compare_exchange-requires : goal.compare_exchange-requires
compare_exchange-requires g c = (search rules, search rules, number_allowed _ _ _ _ _ _ (search rules))
