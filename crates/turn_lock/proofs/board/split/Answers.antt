use Rattle.std.proofs.Common.{rules}
use Rattle.turn_lock.proofs.Seating.{split_allowed}
use Rattle.turn_lock.proofs.board.split.Goals as goal

pub split_seat-requires : goal.split_seat-requires
split_seat-requires g c = (search rules, search rules, split_allowed _ _ _ _)
