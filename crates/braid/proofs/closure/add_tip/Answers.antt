use Rattle.std.proofs.Common.{sym, subst, ◌∙◌, ◌↔◌, ℕ, rules}
use Rattle.std.specs.List.{Contains}
use Rattle.braid.specs.working.Links.{listed}
use Rattle.braid.specs.working.Placing.{HasOrIs}
use Rattle.braid.proofs.PickOrder.{command_at}
use Rattle.braid.proofs.Skipping.{put_tip, settled_is, skip_tip}
use Rattle.braid.proofs.closure.add_tip.Goals as goal

pub returns-then-branch : goal.returns-then-branch
returns-then-branch g c = λ skip skips.
    let cs = g.G.Graph.commands c.args.graph.now in
    let x = command_at cs c.args.tip c.requires.tip in
    skip_tip (skip c.args.tip) c.args.tip c.args.places.now.keys (settled_is cs (listed c.args.base) skip skips c.args.tip x.0 x.1 c.in_ok-is_settled.field-0 c.in_ok-is_settled.ensures ∙ c.if-branch.true)

pub returns : goal.returns
returns g c = λ skip skips.
    let cs = g.G.Graph.commands c.args.graph.now in
    let x = command_at cs c.args.tip c.requires.tip in
    subst (λ b. (p : ℕ) → Contains c.insert.new.self.keys p ↔ HasOrIs b c.args.tip c.args.places.now.keys p)
    (sym (settled_is cs (listed c.args.base) skip skips c.args.tip x.0 x.1 c.in_ok-is_settled.field-0 c.in_ok-is_settled.ensures ∙ c.if-branch.false))
    (put_tip c.args.tip c.args.places.now.keys c.insert.new.self.keys c.in_ok-insert.ensures.keys)
