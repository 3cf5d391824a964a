use Rattle.std.proofs.Common.{rules}
use Rattle.fact_readers.proofs.Lessons.{sees}
use Rattle.fact_readers.proofs.duty.Duty.allows.Goals as goal

pub returns : goal.returns
returns g c = let d = c.self.inside in λ is. rw (← c.self.view_is) (sees d.longest c.args.front.now d.seen d.learnt d.most d.fewest c.self.invariant (search rules) (search rules) (search rules))
