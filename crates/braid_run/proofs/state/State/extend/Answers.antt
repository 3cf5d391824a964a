use Rattle.std.proofs.Common.{◌≡◌, rules, subst, sym}
use Rattle.braid_run.specs.Soundness.{IsSound}
use Rattle.braid_run.specs.States.{Held, extended}
use Rattle.braid_run.proofs.SoundFacts.{sound_on}
use Rattle.braid_run.proofs.state.State.extend.Goals as goal

pub returns-clause-sound : goal.returns-clause-sound
returns-clause-sound g c =
    let rows = g.F.FactBase.rows c.args.ran.facts in
    let now : Held = record { graph_id = c.self.inside.id; commands = g.G.Graph.commands c.append_all.new.graph; rows = rows; entries = c.append.new.self.all } in
    let held : now ≡ extended c.args.self.now.held c.args.commands c.args.cut rows c.args.ran.entries.all = search rules in
    λ criteria sound on. subst (λ h. IsSound criteria h) (sym held) (sound_on criteria c.args.self.now.held c.args.commands c.args.cut rows c.args.ran.entries.all c.requires.standing sound on)
