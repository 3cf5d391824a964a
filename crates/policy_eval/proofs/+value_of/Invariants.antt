use Rattle.std.proofs.Common.{◌+◌}
use Rattle.policy_eval.proofs.Loops.{Led, SoFar}
use Rattle.policy_eval.proofs.RoomForms.{block_takes, else_stmt_takes, else_takes, pattern_takes}
use Rattle.policy_eval.proofs.Running.{Through}
use Rattle.policy_eval.specs.working.Rooms.{bind_room, call_room, free_room, let_room, room, stmt_room, total}
use Rattle.policy_expressions.specs.Meant.{binds_meant, gaps_meant, values_meant}
use Rattle.policy_eval.proofs.+value_of.Given as goal

abbrev pub decreases-expressions::value_of : goal.decreases-expressions::value_of
decreases-expressions::value_of g l = room (call_room l.known.now l.depth) l.e.now

abbrev pub decreases-expressions::values_of : goal.decreases-expressions::values_of
decreases-expressions::values_of g l = total (room (call_room l.known.now l.depth)) l.es.now + 1

abbrev pub decreases-expressions::bound_values : goal.decreases-expressions::bound_values
decreases-expressions::bound_values g l = total (bind_room (call_room l.known.now l.depth)) l.binds.now + 1

abbrev pub decreases-expressions::free_values : goal.decreases-expressions::free_values
decreases-expressions::free_values g l = total (free_room (call_room l.known.now l.depth)) l.frees.now + 1

abbrev pub decreases-expressions::wanted_of : goal.decreases-expressions::wanted_of
decreases-expressions::wanted_of g l = pattern_takes (call_room l.known.now l.depth) l.p.now

abbrev pub decreases-expressions::block_value : goal.decreases-expressions::block_value
decreases-expressions::block_value g l = block_takes (call_room l.known.now l.depth) l.b.now

abbrev pub decreases-expressions::value_within : goal.decreases-expressions::value_within
decreases-expressions::value_within g l = total (let_room (call_room l.known.now l.depth)) l.b.now.lets + room (call_room l.known.now l.depth) l.b.now.value + 1

abbrev pub decreases-expressions::else_value : goal.decreases-expressions::else_value
decreases-expressions::else_value g l = else_takes (call_room l.known.now l.depth) l.otherwise.now + 1

abbrev pub decreases-calls::called : goal.decreases-calls::called
decreases-calls::called g l = call_room l.known.now l.depth + 1

abbrev pub decreases-statements::run : goal.decreases-statements::run
decreases-statements::run g l = stmt_room (call_room l.known.now l.depth) l.s.now

abbrev pub decreases-statements::run_all : goal.decreases-statements::run_all
decreases-statements::run_all g l = total (stmt_room (call_room l.known.now l.depth)) l.body.now + 1

abbrev pub decreases-statements::run_else : goal.decreases-statements::run_else
decreases-statements::run_else g l = else_stmt_takes (call_room l.known.now l.depth) l.otherwise.now + 1

abbrev pub invariant-expressions::values_of-loop-e : goal.invariant-expressions::values_of-loop-e
invariant-expressions::values_of-loop-e g l = SoFar (values_meant l.known (g.F.FactBase.rows l.facts) l.setting l.depth) l.es l.fn.env l.env l.fn.turns l.turns l.e-index l.values

abbrev pub invariant-expressions::bound_values-loop-bind : goal.invariant-expressions::bound_values-loop-bind
invariant-expressions::bound_values-loop-bind g l =
    SoFar (binds_meant l.known (g.F.FactBase.rows l.facts) l.setting l.depth) l.binds l.fn.env l.env l.fn.turns l.turns l.bind-index l.values

abbrev pub invariant-expressions::free_values-loop-free : goal.invariant-expressions::free_values-loop-free
invariant-expressions::free_values-loop-free g l =
    SoFar (gaps_meant l.known (g.F.FactBase.rows l.facts) l.setting l.depth) l.frees l.fn.env l.env l.fn.turns l.turns l.free-index l.values

abbrev pub invariant-expressions::value_within-loop-one : goal.invariant-expressions::value_within-loop-one
invariant-expressions::value_within-loop-one g l = Led l.known (g.F.FactBase.rows l.facts) l.setting l.depth l.one-items l.fn.env l.env l.fn.turns l.turns l.one-index

abbrev pub invariant-statements::run_all-loop-s : goal.invariant-statements::run_all-loop-s
invariant-statements::run_all-loop-s g l = Through l.known (g.F.FactBase.rows l.facts) l.setting l.depth l.body l.fn.env l.env l.fn.turns l.turns l.s-index
