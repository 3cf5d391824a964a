use Rattle.std.proofs.Common.{sym, arith, append-nil}
use Rattle.std.proofs.lemmas.Option.{slice_get_past}
use Rattle.sync_peer.proofs.asking.add_id.Goals as goal

pub returns-else-place-len : goal.returns-else-place-len
returns-else-place-len g c =
    let past = c.if-place-len.false in
    rw (slice_get_past (g.G.Graph.commands c.args.graph.now) c.args.place (omega (arith, past, c.len.ensures))) (sym (append-nil c.args.ids.now))
