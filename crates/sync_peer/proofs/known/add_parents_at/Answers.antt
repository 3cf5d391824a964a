use Rattle.std.proofs.Common.{◌≡◌, ℕ, List, OnOk, Result, Ok, Err, subst}
use Rattle.command.specs.Ancestors.{IsAt}
use Rattle.command.specs.declared.command.Command.{Command as TheCommand}
use Rattle.sync_peer.specs.working.Walks.{HaveSame, with_parents}
use Rattle.sync_peer.proofs.known.add_parents_at.Goals as goal

-- the command at a place is the one that was looked at
one_there : {X E : Type 0} (cs : List TheCommand) (place : ℕ) (x : TheCommand) (now before : List (List ℕ)) (r : Result X E) → IsAt cs place x → OnOk r (HaveSame now (with_parents x before)) → OnOk r ((c : TheCommand) → IsAt cs place c → HaveSame now (with_parents c before))
one_there cs place x now before (Ok u) at has = λ c there. let same : x ≡ c = cc in subst (λ z. HaveSame now (with_parents z before)) same has
one_there cs place x now before (Err e) at has = tt

pub returns : goal.returns
returns g c = one_there (g.G.Graph.commands c.args.graph.now) c.args.place c.at.result.now c.add_parents.new.known.keys c.args.known.now.keys c.add_parents.result c.at.ensures c.add_parents.ensures
