use Rattle.std.specs.Prelude.{◌++◌, take}
use Rattle.sync_peer.specs.working.Walks.{HaveSame}
use Rattle.sync_peer.proofs.known.add_all.Given as goal

abbrev pub invariant-loop-one : goal.invariant-loop-one
invariant-loop-one l = HaveSame l.ids.keys (take l.one-index l.all ++ l.fn.ids.keys)
