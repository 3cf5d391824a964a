use Rattle.std.proofs.Common.{sym, ◌∙◌, rules}
use Rattle.braid.specs.working.Links.{listed}
use Rattle.braid.proofs.Skipping.{adds_left, adds_skipped, number_left, number_skipped, settled_id}
use Rattle.braid.proofs.closure.add_place.Goals as goal

pub returns-then-branch-clause-adds : goal.returns-then-branch-clause-adds
returns-then-branch-clause-adds g c = λ skip skips.
    let cs = g.G.Graph.commands c.args.graph.now in
    let is = sym c.place_of.ensures ∙ c.in-Some.is in
    adds_skipped cs skip c.args.id.now c.in-Some.place is (settled_id cs (listed c.args.base) skip skips c.args.id.now c.in-Some.place is c.in_ok-is_settled.field-0 c.in_ok-is_settled.ensures ∙ c.if-branch.true) c.args.places.now.keys

pub returns-then-branch-clause-number : goal.returns-then-branch-clause-number
returns-then-branch-clause-number g c = λ skip skips.
    let cs = g.G.Graph.commands c.args.graph.now in
    let is = sym c.place_of.ensures ∙ c.in-Some.is in
    number_skipped cs skip c.args.id.now c.in-Some.place is (settled_id cs (listed c.args.base) skip skips c.args.id.now c.in-Some.place is c.in_ok-is_settled.field-0 c.in_ok-is_settled.ensures ∙ c.if-branch.true) c.args.places.now.keys

pub returns-clause-adds : goal.returns-clause-adds
returns-clause-adds g c = λ skip skips.
    let cs = g.G.Graph.commands c.args.graph.now in
    let is = sym c.place_of.ensures ∙ c.in-Some.is in
    adds_left cs skip c.args.id.now c.in-Some.place is (settled_id cs (listed c.args.base) skip skips c.args.id.now c.in-Some.place is c.in_ok-is_settled.field-0 c.in_ok-is_settled.ensures ∙ c.if-branch.false) c.args.places.now.keys
    c.insert_full.new.self.keys c.in_ok-number.ensures.keys

pub returns-clause-number : goal.returns-clause-number
returns-clause-number g c = λ skip skips.
    let cs = g.G.Graph.commands c.args.graph.now in
    let is = sym c.place_of.ensures ∙ c.in-Some.is in
    number_left cs skip c.args.id.now c.in-Some.place is (settled_id cs (listed c.args.base) skip skips c.args.id.now c.in-Some.place is c.in_ok-is_settled.field-0 c.in_ok-is_settled.ensures ∙ c.if-branch.false)
    c.insert_full.new.self.keys c.in_ok-number.number (search rules)
