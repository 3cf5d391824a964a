use Rattle.std.specs.Prelude.{◌≡◌, ◌+◌}
use Rattle.std.specs.Vec.Iter.{into_iter_items}
use Rattle.policy_eval.specs.working.Acting.{standing}
use Rattle.policy_eval.specs.working.ActionRooms.{deed_room, deeds_room, else_deed_room}
use Rattle.policy_eval.specs.working.ActionSteps.{BlockSoFar, RowsSoFar}
use Rattle.policy_eval.proofs.acting.+act.Given as goal

abbrev pub decreases-act : goal.decreases-act
decreases-act g l = deed_room l.s.now

abbrev pub decreases-act_block : goal.decreases-act_block
decreases-act_block g l = deeds_room l.body.now + 1

abbrev pub decreases-act_else : goal.decreases-act_else
decreases-act_else g l = else_deed_room l.x.now.otherwise + 2

abbrev pub decreases-act_rows : goal.decreases-act_rows
decreases-act_rows g l = deeds_room l.body.now + 2

abbrev pub invariant-act_block-loop-s : goal.invariant-act_block-loop-s
invariant-act_block-loop-s g l = record {
  so_far : BlockSoFar g.P.Desk.publishes (g.P.Desk.policy l.fn.desk) l.known l.setting l.body l.fn.env l.s-index l.env
      (standing l.fn.desk (g.F.FactBase.rows l.fn.facts) l.fn.turns l.fn.steps) (standing l.desk (g.F.FactBase.rows l.facts) l.turns l.steps);
  policy : g.P.Desk.policy l.desk ≡ g.P.Desk.policy l.fn.desk;
  keeps : g.P.Desk.keeps l.fn.desk l.desk;
}

abbrev pub invariant-act_rows-loop-row : goal.invariant-act_rows-loop-row
invariant-act_rows-loop-row g l = record {
  so_far : RowsSoFar g.P.Desk.publishes (g.P.Desk.policy l.fn.desk) l.known l.setting l.name l.body l.fn.rows.items (into_iter_items l.row-iterator) l.fn.env l.env
      (standing l.fn.desk (g.F.FactBase.rows l.fn.facts) l.fn.turns l.fn.steps) (standing l.desk (g.F.FactBase.rows l.facts) l.turns l.steps);
  policy : g.P.Desk.policy l.desk ≡ g.P.Desk.policy l.fn.desk;
  keeps : g.P.Desk.keeps l.fn.desk l.desk;
}
