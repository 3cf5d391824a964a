use Rattle.std.proofs.Common.{sym, arith, length-take}
use Rattle.std.proofs.lemmas.List.{take_all}
use Rattle.sync_peer.proofs.answering.first.Goals as goal

pub slice_bounds-result-end : goal.slice_bounds-result-end
slice_bounds-result-end c = let longer = c.if-places-gt-MOST_SENT.true in omega (arith, length-take 64 c.args.places.now, longer)

pub returns-else-places-gt-MOST_SENT : goal.returns-else-places-gt-MOST_SENT
returns-else-places-gt-MOST_SENT c = sym (take_all 64 c.args.places.now c.if-places-gt-MOST_SENT.false)
