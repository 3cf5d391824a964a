use Rattle.std.proofs.Common.{◌≡◌, length, rules, ap, ◌∙◌}
use Rattle.transaction.specs.Applying.{graph_named}
use Rattle.transaction.proofs.SoundFacts.{stays_sound}
use Rattle.transaction.proofs.applying.apply.Goals as goal

pub returns-clause-sound : goal.returns-clause-sound
returns-clause-sound g c = λ criteria sound on.
    let p = c.args.prepared in
    let held = c.args.state.now.held in
    let same : c.as_slice.result.now ≡ p.commands = search rules in
    let cuts : c.len-cut.result ≡ length c.name_by_first.new.state.held.entries = search rules in
    stays_sound criteria held (record { commands = p.commands; merges = p.merges; entries = p.entries.all; rows = g.F.FactBase.rows p.facts }) c.name_by_first.new.state.held c.extend.new.self.held c.len-cut.result
    (c.name_by_first.ensures.held ∙ ap (λ cs. record held { graph_id = graph_named held.graph_id cs }) same) cuts c.extend.ensures.held c.requires.ready.standing sound on
