use Rattle.std.proofs.Common.{◌≡◌, ◌∙◌, Option, Some, Ok, Err, [], ap, arith, length, refl, rules, subst, sym, take}
use Rattle.std.proofs.lemmas.List.{nil_from_length}
use Rattle.std.proofs.lemmas.Result.{err_from_is_err_and}
use Rattle.std.specs.Vec.Iter.{into_iter_items}
use Rattle.policy_ast.specs.declared.statement.Else.{Else}
use Rattle.policy_ast.specs.declared.statement.Else.TheVariants as else_stmt
use Rattle.policy_ast.specs.declared.statement.Stmt.{Stmt}
use Rattle.policy_ast.specs.declared.statement.Stmt.TheVariants as stmt
use Rattle.policy_expressions.specs.Answers.{Stops as HaltsBy}
use Rattle.policy_meaning.specs.Actions.{Did, inside}
use Rattle.policy_meaning.specs.Outcomes.{Done}
use Rattle.policy_meaning.specs.Typed.{AreTyped}
use Rattle.policy_meaning.specs.Values.{struct_parts}
use Rattle.policy_rules.specs.WellTyped.{items_of}
use Rattle.policy_eval.proofs.ActArms.{check_arm, choice_fails, else_block_goes, else_block_on, else_goes, else_if_goes, else_if_on, else_if_stops, else_none, else_on, finish_sticks, kept_more, kept_same, let_arm, map_fails, map_goes, map_on, match_fails, match_goes, match_on, publish_fails, publish_on, publish_typed, return_sticks, then_goes, then_on}
use Rattle.policy_eval.proofs.ActionLoops.{block_begins, block_ends, block_goes, block_on, block_stops, keeps_all, row_fails, row_goes, row_on, row_stops, rows_begin, rows_end}
use Rattle.policy_eval.proofs.ActionRoomFacts.{choice_room, map_room, match_room, within as within_total}
use Rattle.policy_eval.specs.working.Acting.{Acted, GoesWell, StopsFor, reason, standing}
use Rattle.policy_eval.specs.working.ActionRooms.{deed_room, deeds_room, else_deed_room}
use Rattle.policy_eval.specs.working.ActionSteps.{RowsSoFar}
use Rattle.policy_eval.specs.working.Deeds.{deed, deeds, row_entered}
use Rattle.policy_eval.proofs.acting.+act.Goals as goal

pub act-returns-in-Let-clause-acts : goal.act-returns-in-Let-clause-acts
act-returns-in-Let-clause-acts g t c =
    let_arm g.P.Desk.publishes (g.P.Desk.policy c.args.desk.now) c.args.known.now c.args.setting.now c.args.s.now c.args.env.now c.args.desk.now (g.F.FactBase.rows c.args.facts.now) c.args.turns.now c.args.steps.now c.requires.typed
    c.in-Let.one c.in-Let.is c.value_of-found.result c.let_in.result c.caused.result c.value_of-found.new.env c.let_in.new.env c.value_of-found.new.turns c.value_of-found.ensures c.let_in.ensures.gives c.caused.ensures

pub act-returns-in-Let-clause-kept : goal.act-returns-in-Let-clause-kept
act-returns-in-Let-clause-kept g t c =
    kept_more c.caused.result c.args.env.now c.value_of-found.new.env c.let_in.new.env c.let_in.ensures.kept c.value_of-found.ensures.kept

pub act-returns-in-Check-clause-acts : goal.act-returns-in-Check-clause-acts
act-returns-in-Check-clause-acts g t c =
    check_arm g.P.Desk.publishes (g.P.Desk.policy c.args.desk.now) c.args.known.now c.args.setting.now c.args.s.now c.args.env.now c.args.desk.now (g.F.FactBase.rows c.args.facts.now) c.args.turns.now c.args.steps.now c.requires.typed
    c.in-Check.e c.in-Check.is c.value_of-found-in-Check.result c.check_of.result c.caused-in-Check.result c.value_of-found-in-Check.new.env c.value_of-found-in-Check.new.turns c.value_of-found-in-Check.ensures c.check_of.ensures c.caused-in-Check.ensures

pub act-returns-in-Check-clause-kept : goal.act-returns-in-Check-clause-kept
act-returns-in-Check-clause-kept g t c =
    kept_more c.caused-in-Check.result c.args.env.now c.value_of-found-in-Check.new.env c.value_of-found-in-Check.new.env (keeps_all c.value_of-found-in-Check.new.env) c.value_of-found-in-Check.ensures.kept

pub act-returns-in_err-holds-in-If-clause-acts : goal.act-returns-in_err-holds-in-If-clause-acts
act-returns-in_err-holds-in-If-clause-acts g t c =
    let p = err_from_is_err_and c.from_residual.result c.from_residual.ensures.1 in
    rw (p.1, p.2)
    (choice_fails g.P.Desk.publishes (g.P.Desk.policy c.args.desk.now) c.args.known.now c.args.setting.now c.args.s.now c.args.env.now c.args.desk.now (g.F.FactBase.rows c.args.facts.now) c.args.turns.now c.args.steps.now c.requires.typed
    c.in-If.x c.in-If.is c.value_of-found-in-If.result c.value_of-found-in-If.new.env c.value_of-found-in-If.new.turns c.value_of-found-in-If.ensures (Err c.in_err-holds-in-If.field-0.0) c.in_err-holds-in-If.ensures c.in_err-holds-in-If.field-0.0 refl)

pub act-act_block-requires : goal.act-act_block-requires
act-act_block-requires g t c κs within =
    let e = ap deed_room c.in-If.is ∙ choice_room c.in-If.x in
    let b = ap deeds_room c.as_slice.ensures in (
      omega (arith, e, b),
      (
        within.0,
        (
          within.1.0,
          (
            within.1.1,
            (
              c.requires.policy,
              (
                c.requires.typed,
                then_goes g.P.Desk.publishes (g.P.Desk.policy c.args.desk.now) c.args.known.now c.args.setting.now c.args.s.now c.args.env.now c.args.desk.now (g.F.FactBase.rows c.args.facts.now) c.args.turns.now c.args.steps.now c.requires.typed
                    c.in-If.x c.in-If.is c.value_of-found-in-If.result c.value_of-found-in-If.new.env c.value_of-found-in-If.new.turns c.value_of-found-in-If.ensures (Ok c.in_ok-holds-in-If.holds) c.in_ok-holds-in-If.ensures (ap Ok c.if-holds.true) c.as_slice.result.now c.as_slice.ensures c.requires.goes,
              ),
            ),
          ),
        ),
      ),
    )

pub act-returns-then-holds-clause-acts : goal.act-returns-then-holds-clause-acts
act-returns-then-holds-clause-acts g t c =
    then_on g.P.Desk.publishes (g.P.Desk.policy c.args.desk.now) c.args.known.now c.args.setting.now c.args.s.now c.args.env.now c.args.desk.now (g.F.FactBase.rows c.args.facts.now) c.args.turns.now c.args.steps.now c.requires.typed
    c.in-If.x c.in-If.is c.value_of-found-in-If.result c.value_of-found-in-If.new.env c.value_of-found-in-If.new.turns c.value_of-found-in-If.ensures (Ok c.in_ok-holds-in-If.holds) c.in_ok-holds-in-If.ensures (ap Ok c.if-holds.true) c.as_slice.result.now c.as_slice.ensures c.act_block.result c.act_block.new.env (standing c.act_block.new.desk (g.F.FactBase.rows c.act_block.new.facts) c.act_block.new.turns c.act_block.new.steps) c.act_block.ensures.acts

pub act-returns-then-holds-clause-kept : goal.act-returns-then-holds-clause-kept
act-returns-then-holds-clause-kept g t c =
    kept_same c.act_block.result c.args.env.now c.value_of-found-in-If.new.env c.act_block.new.env c.act_block.ensures.kept c.value_of-found-in-If.ensures.kept

pub act-act_else-requires : goal.act-act_else-requires
act-act_else-requires g t c κs within =
    let e = ap deed_room c.in-If.is ∙ choice_room c.in-If.x in (
      omega (arith, e),
      (
        within.0,
        (
          within.1.0,
          (
            within.1.1,
            (
              c.requires.policy,
              (
                c.requires.typed,
                else_goes g.P.Desk.publishes (g.P.Desk.policy c.args.desk.now) c.args.known.now c.args.setting.now c.args.s.now c.args.env.now c.args.desk.now (g.F.FactBase.rows c.args.facts.now) c.args.turns.now c.args.steps.now c.requires.typed
                    c.in-If.x c.in-If.is c.value_of-found-in-If.result c.value_of-found-in-If.new.env c.value_of-found-in-If.new.turns c.value_of-found-in-If.ensures (Ok c.in_ok-holds-in-If.holds) c.in_ok-holds-in-If.ensures (ap Ok c.if-holds.false) c.requires.goes,
              ),
            ),
          ),
        ),
      ),
    )

pub act-returns-else-holds-clause-acts : goal.act-returns-else-holds-clause-acts
act-returns-else-holds-clause-acts g t c =
    else_on g.P.Desk.publishes (g.P.Desk.policy c.args.desk.now) c.args.known.now c.args.setting.now c.args.s.now c.args.env.now c.args.desk.now (g.F.FactBase.rows c.args.facts.now) c.args.turns.now c.args.steps.now c.requires.typed
    c.in-If.x c.in-If.is c.value_of-found-in-If.result c.value_of-found-in-If.new.env c.value_of-found-in-If.new.turns c.value_of-found-in-If.ensures (Ok c.in_ok-holds-in-If.holds) c.in_ok-holds-in-If.ensures (ap Ok c.if-holds.false) c.act_else.result c.act_else.new.env (standing c.act_else.new.desk (g.F.FactBase.rows c.act_else.new.facts) c.act_else.new.turns c.act_else.new.steps) c.act_else.ensures.acts

pub act-returns-else-holds-clause-kept : goal.act-returns-else-holds-clause-kept
act-returns-else-holds-clause-kept g t c =
    kept_same c.act_else.result c.args.env.now c.value_of-found-in-If.new.env c.act_else.new.env c.act_else.ensures.kept c.value_of-found-in-If.ensures.kept

pub act-returns-in_err-body-in-Match-clause-acts : goal.act-returns-in_err-body-in-Match-clause-acts
act-returns-in_err-body-in-Match-clause-acts g t c =
    let is : c.args.s.now ≡ stmt.Match c.in-Match.e c.as_slice-in-Match.result.now = rw c.as_slice-in-Match.ensures c.in-Match.is in
    let p = err_from_is_err_and c.from_residual-in_err-body-in-Match.result c.from_residual-in_err-body-in-Match.ensures.1 in
    rw (p.1, p.2)
    (match_fails g.P.Desk.publishes (g.P.Desk.policy c.args.desk.now) c.args.known.now c.args.setting.now c.args.s.now c.args.env.now c.args.desk.now (g.F.FactBase.rows c.args.facts.now) c.args.turns.now c.args.steps.now c.requires.typed
    c.in-Match.e c.as_slice-in-Match.result.now is c.value_of-found-in-Match.result c.value_of-found-in-Match.new.env c.value_of-found-in-Match.new.turns c.value_of-found-in-Match.ensures (Err c.in_err-body-in-Match.field-0.0) c.in_err-body-in-Match.ensures.gives c.in_err-body-in-Match.field-0.0 refl)

pub act-act_block-requires-in-Match : goal.act-act_block-requires-in-Match
act-act_block-requires-in-Match g t c κs within =
    let is : c.args.s.now ≡ stmt.Match c.in-Match.e c.as_slice-in-Match.result.now = rw c.as_slice-in-Match.ensures c.in-Match.is in
    let e = ap deed_room is ∙ match_room c.in-Match.e c.as_slice-in-Match.result.now in
    let le = c.in_ok-body-in-Match.ensures.within in (
      omega (arith, e, le),
      (
        within.0,
        (
          within.1.0,
          (
            within.1.1,
            (
              c.requires.policy,
              (
                c.requires.typed,
                match_goes g.P.Desk.publishes (g.P.Desk.policy c.args.desk.now) c.args.known.now c.args.setting.now c.args.s.now c.args.env.now c.args.desk.now (g.F.FactBase.rows c.args.facts.now) c.args.turns.now c.args.steps.now c.requires.typed
                    c.in-Match.e c.as_slice-in-Match.result.now is c.value_of-found-in-Match.result c.value_of-found-in-Match.new.env c.value_of-found-in-Match.new.turns c.value_of-found-in-Match.ensures (Ok c.in_ok-body-in-Match.body) c.in_ok-body-in-Match.ensures.gives c.in_ok-body-in-Match.body refl c.requires.goes,
              ),
            ),
          ),
        ),
      ),
    )

pub act-returns-in_ok-body-in-Match-clause-acts : goal.act-returns-in_ok-body-in-Match-clause-acts
act-returns-in_ok-body-in-Match-clause-acts g t c =
    let is : c.args.s.now ≡ stmt.Match c.in-Match.e c.as_slice-in-Match.result.now = rw c.as_slice-in-Match.ensures c.in-Match.is in
    match_on g.P.Desk.publishes (g.P.Desk.policy c.args.desk.now) c.args.known.now c.args.setting.now c.args.s.now c.args.env.now c.args.desk.now (g.F.FactBase.rows c.args.facts.now) c.args.turns.now c.args.steps.now c.requires.typed
    c.in-Match.e c.as_slice-in-Match.result.now is c.value_of-found-in-Match.result c.value_of-found-in-Match.new.env c.value_of-found-in-Match.new.turns c.value_of-found-in-Match.ensures (Ok c.in_ok-body-in-Match.body) c.in_ok-body-in-Match.ensures.gives c.in_ok-body-in-Match.body refl c.act_block-in-Match.result c.act_block-in-Match.new.env (standing c.act_block-in-Match.new.desk (g.F.FactBase.rows c.act_block-in-Match.new.facts) c.act_block-in-Match.new.turns c.act_block-in-Match.new.steps) c.act_block-in-Match.ensures.acts

pub act-returns-in_ok-body-in-Match-clause-kept : goal.act-returns-in_ok-body-in-Match-clause-kept
act-returns-in_ok-body-in-Match-clause-kept g t c =
    kept_same c.act_block-in-Match.result c.args.env.now c.value_of-found-in-Match.new.env c.act_block-in-Match.new.env c.act_block-in-Match.ensures.kept c.value_of-found-in-Match.ensures.kept

pub act-returns-in_err-rows-in-Map-clause-acts : goal.act-returns-in_err-rows-in-Map-clause-acts
act-returns-in_err-rows-in-Map-clause-acts g t c =
    let p = err_from_is_err_and c.from_residual-in_err-rows-in-Map.result c.from_residual-in_err-rows-in-Map.ensures.1 in
    rw (p.1, p.2)
    (map_fails g.P.Desk.publishes (g.P.Desk.policy c.args.desk.now) c.args.known.now c.args.setting.now c.args.s.now c.args.env.now c.args.desk.now (g.F.FactBase.rows c.args.facts.now) c.args.turns.now c.args.steps.now c.requires.typed
    c.in-Map.p c.in-Map.name c.in-Map.body c.in-Map.is c.wanted_of-found.result c.wanted_of-found.new.env c.wanted_of-found.new.turns c.wanted_of-found.ensures.gives (Err c.in_err-rows-in-Map.field-0.0) c.in_err-rows-in-Map.ensures c.in_err-rows-in-Map.field-0.0 refl)

pub act-act_rows-requires : goal.act-act_rows-requires
act-act_rows-requires g t c κs within =
    let e = ap deed_room c.in-Map.is ∙ map_room c.in-Map.p c.in-Map.name c.in-Map.body in
    let b = ap deeds_room c.as_slice-in-Map.ensures in (
      omega (arith, e, b),
      (
        within.0,
        (
          within.1.0,
          (
            within.1.1,
            (
              c.requires.policy,
              (
                c.requires.typed,
                map_goes g.P.Desk.publishes (g.P.Desk.policy c.args.desk.now) c.args.known.now c.args.setting.now c.args.s.now c.args.env.now c.args.desk.now (g.F.FactBase.rows c.args.facts.now) c.args.turns.now c.args.steps.now c.requires.typed
                    c.in-Map.p c.in-Map.name c.in-Map.body c.in-Map.is c.wanted_of-found.result c.wanted_of-found.new.env c.wanted_of-found.new.turns c.wanted_of-found.ensures.gives (Ok c.in_ok-rows-in-Map.rows) c.in_ok-rows-in-Map.ensures c.in_ok-rows-in-Map.rows refl c.as_slice-in-Map.result.now c.as_slice-in-Map.ensures c.requires.goes,
              ),
            ),
          ),
        ),
      ),
    )

pub act-returns-in_ok-rows-in-Map-clause-acts : goal.act-returns-in_ok-rows-in-Map-clause-acts
act-returns-in_ok-rows-in-Map-clause-acts g t c =
    map_on g.P.Desk.publishes (g.P.Desk.policy c.args.desk.now) c.args.known.now c.args.setting.now c.args.s.now c.args.env.now c.args.desk.now (g.F.FactBase.rows c.args.facts.now) c.args.turns.now c.args.steps.now c.requires.typed
    c.in-Map.p c.in-Map.name c.in-Map.body c.in-Map.is c.wanted_of-found.result c.wanted_of-found.new.env c.wanted_of-found.new.turns c.wanted_of-found.ensures.gives (Ok c.in_ok-rows-in-Map.rows) c.in_ok-rows-in-Map.ensures c.in_ok-rows-in-Map.rows refl c.as_slice-in-Map.result.now c.as_slice-in-Map.ensures c.act_rows.result c.act_rows.new.env (standing c.act_rows.new.desk (g.F.FactBase.rows c.act_rows.new.facts) c.act_rows.new.turns c.act_rows.new.steps) c.act_rows.ensures.acts

pub act-returns-in_ok-rows-in-Map-clause-kept : goal.act-returns-in_ok-rows-in-Map-clause-kept
act-returns-in_ok-rows-in-Map-clause-kept g t c =
    kept_same c.act_rows.result c.args.env.now c.wanted_of-found.new.env c.act_rows.new.env c.act_rows.ensures.kept c.wanted_of-found.ensures.gives.kept

pub act-returns-in_err-value-in-Publish-clause-acts : goal.act-returns-in_err-value-in-Publish-clause-acts
act-returns-in_err-value-in-Publish-clause-acts g t c =
    let p = err_from_is_err_and c.from_residual-in_err-value-in-Publish.result c.from_residual-in_err-value-in-Publish.ensures.1 in
    rw (p.1, p.2)
    (publish_fails g.P.Desk.publishes (g.P.Desk.policy c.args.desk.now) c.args.known.now c.args.setting.now c.args.s.now c.args.env.now c.args.desk.now (g.F.FactBase.rows c.args.facts.now) c.args.turns.now c.args.steps.now c.requires.typed
    c.in-Publish.e c.in-Publish.is (Err c.in_err-value-in-Publish.field-0.0) c.value_of.new.env c.value_of.new.turns c.in_err-value-in-Publish.ensures c.in_err-value-in-Publish.field-0.0 refl)

pub act-publish-requires-clause-declared : goal.act-publish-requires-clause-declared
act-publish-requires-clause-declared g t c =
    publish_typed g.P.Desk.publishes (g.P.Desk.policy c.args.desk.now) c.args.known.now c.args.setting.now c.args.s.now c.args.env.now c.args.desk.now (g.F.FactBase.rows c.args.facts.now) c.args.turns.now c.args.steps.now c.requires.typed
    c.in-Publish.e c.in-Publish.is (Ok c.in_ok-value-in-Publish.value) c.value_of.new.env c.value_of.new.turns c.in_ok-value-in-Publish.ensures c.in_ok-value-in-Publish.value refl c.requires.goes (struct_parts c.in_ok-value-in-Publish.value) refl

pub act-returns-in_ok-value-in-Publish-clause-acts : goal.act-returns-in_ok-value-in-Publish-clause-acts
act-returns-in_ok-value-in-Publish-clause-acts g t c =
    publish_on g.P.Desk.publishes (g.P.Desk.policy c.args.desk.now) c.args.known.now c.args.setting.now c.args.s.now c.args.env.now c.args.desk.now (g.F.FactBase.rows c.args.facts.now) c.args.turns.now c.args.steps.now c.requires.typed
    c.in-Publish.e c.in-Publish.is (Ok c.in_ok-value-in-Publish.value) c.value_of.new.env c.value_of.new.turns c.in_ok-value-in-Publish.ensures c.in_ok-value-in-Publish.value refl c.publish.result (standing c.publish.new.desk (g.F.FactBase.rows c.publish.new.facts) c.value_of.new.turns c.publish.new.steps) (c.publish.ensures.acts c.value_of.new.turns)

pub act-returns-in_ok-value-in-Publish-clause-kept : goal.act-returns-in_ok-value-in-Publish-clause-kept
act-returns-in_ok-value-in-Publish-clause-kept g t c =
    kept_more c.publish.result c.args.env.now c.value_of.new.env c.value_of.new.env (keeps_all c.value_of.new.env) c.in_ok-value-in-Publish.ensures.kept

pub act-returns-in-Finish-clause-acts : goal.act-returns-in-Finish-clause-acts
act-returns-in-Finish-clause-acts g t c =
    finish_sticks g.P.Desk.publishes (g.P.Desk.policy c.args.desk.now) c.args.known.now c.args.setting.now c.args.s.now c.args.env.now c.args.desk.now (g.F.FactBase.rows c.args.facts.now) c.args.turns.now c.args.steps.now c.requires.typed _ c.in-Finish.is

pub act-returns-in-Return-clause-acts : goal.act-returns-in-Return-clause-acts
act-returns-in-Return-clause-acts g t c =
    return_sticks g.P.Desk.publishes (g.P.Desk.policy c.args.desk.now) c.args.known.now c.args.setting.now c.args.s.now c.args.env.now c.args.desk.now (g.F.FactBase.rows c.args.facts.now) c.args.turns.now c.args.steps.now c.requires.typed _ c.in-Return.is

pub act_block-loop-s-init : goal.act_block-loop-s-init
act_block-loop-s-init g t c =
    record { so_far = block_begins g.P.Desk.publishes (g.P.Desk.policy c.args.desk.now) c.args.known.now c.args.setting.now c.args.body.now c.args.env.now (standing c.args.desk.now (g.F.FactBase.rows c.args.facts.now) c.args.turns.now c.args.steps.now) c.requires.typed; policy = refl; keeps = g.met.P.Desk.keeps_itself c.args.desk.now }

pub act_block-act-requires : goal.act_block-act-requires
act_block-act-requires g t c κs within =
    let inv = c.loop-s.invariant in
    let le = within_total deed_room c.args.body.now c.loop-s.s-index c.s-item.result c.loop-s-test.true c.s-item.is in (
      omega (arith, le),
      (
        within.0,
        (
          within.1.0,
          (
            within.1.1,
            (
              ap items_of inv.policy ∙ c.requires.policy,
              (
                subst (λ policy. AreTyped policy (g.F.FactBase.rows c.loop-s.facts)) (sym inv.policy) inv.so_far.acted.typed,
                subst (λ policy. GoesWell policy (deed c.args.known.now c.args.setting.now c.s-item.result c.loop-s.env) (g.F.FactBase.rows c.loop-s.facts) c.loop-s.turns) (sym inv.policy) (block_goes g.P.Desk.publishes (g.P.Desk.policy c.args.desk.now) c.args.known.now c.args.setting.now c.args.body.now c.args.env.now inv.so_far c.s-item.result c.loop-s-test.true c.s-item.is c.requires.goes),
              ),
            ),
          ),
        ),
      ),
    )

pub act_block-loop-s-preserved : goal.act_block-loop-s-preserved
act_block-loop-s-preserved g t c =
    let inv = c.loop-s.invariant in
    record {
      so_far = block_on g.P.Desk.publishes (g.P.Desk.policy c.args.desk.now) c.args.known.now c.args.setting.now c.args.body.now c.args.env.now inv.so_far c.s-item.result c.loop-s-test.true c.s-item.is c.act.new.env (standing c.act.new.desk (g.F.FactBase.rows c.act.new.facts) c.act.new.turns c.act.new.steps)
          (subst (λ policy. Acted g.P.Desk.publishes policy (deed c.args.known.now c.args.setting.now c.s-item.result c.loop-s.env) (Did c.act.new.env) (standing c.loop-s.desk (g.F.FactBase.rows c.loop-s.facts) c.loop-s.turns c.loop-s.steps) (standing c.act.new.desk (g.F.FactBase.rows c.act.new.facts) c.act.new.turns c.act.new.steps)) inv.policy c.in_ok-act.ensures.acts) c.in_ok-act.ensures.kept;
      policy = c.act.ensures.policy ∙ inv.policy;
      keeps = g.met.P.Desk.keeps_on c.args.desk.now c.loop-s.desk c.act.new.desk inv.keeps c.act.ensures.keeps;
    }

pub act_block-returns-clause-acts : goal.act_block-returns-clause-acts
act_block-returns-clause-acts g t c =
    let same : c.truncate.new.self ≡ c.args.env.now = c.truncate.ensures ∙ ap (λ n. take n c.loop-s.env) c.len-outside.ensures ∙ c.loop-s.invariant.so_far.kept in
    subst (λ env. Acted g.P.Desk.publishes (g.P.Desk.policy c.args.desk.now) (inside (deeds c.args.known.now c.args.setting.now c.args.body.now) c.args.env.now) (Did env) (standing c.args.desk.now (g.F.FactBase.rows c.args.facts.now) c.args.turns.now c.args.steps.now) (standing c.loop-s.desk (g.F.FactBase.rows c.loop-s.facts) c.loop-s.turns c.loop-s.steps)) (sym same) (block_ends g.P.Desk.publishes (g.P.Desk.policy c.args.desk.now) c.args.known.now c.args.setting.now c.args.body.now c.args.env.now c.loop-s.invariant.so_far (omega arith))

pub act_block-returns-clause-kept : goal.act_block-returns-clause-kept
act_block-returns-clause-kept g t c =
    c.truncate.ensures ∙ ap (λ n. take n c.loop-s.env) c.len-outside.ensures ∙ c.loop-s.invariant.so_far.kept

pub act_block-returns-in_err-act-clause-acts : goal.act_block-returns-in_err-act-clause-acts
act_block-returns-in_err-act-clause-acts g t c =
    let p = err_from_is_err_and c.from_residual.result c.from_residual.ensures.1 in
    rw (p.1, p.2)
    (block_stops g.P.Desk.publishes (g.P.Desk.policy c.args.desk.now) c.args.known.now c.args.setting.now c.args.body.now c.args.env.now c.loop-s.invariant.so_far c.s-item.result c.loop-s-test.true c.s-item.is c.in_err-act.field-0.0 (standing c.act.new.desk (g.F.FactBase.rows c.act.new.facts) c.act.new.turns c.act.new.steps)
    (subst (λ policy. StopsFor g.P.Desk.publishes policy (reason c.in_err-act.field-0.0) (deed c.args.known.now c.args.setting.now c.s-item.result c.loop-s.env) (standing c.loop-s.desk (g.F.FactBase.rows c.loop-s.facts) c.loop-s.turns c.loop-s.steps) (standing c.act.new.desk (g.F.FactBase.rows c.act.new.facts) c.act.new.turns c.act.new.steps)) c.loop-s.invariant.policy c.in_err-act.ensures.acts))

pub act_else-returns-in-None-clause-acts : goal.act_else-returns-in-None-clause-acts
act_else-returns-in-None-clause-acts g t c =
    else_none g.P.Desk.publishes (g.P.Desk.policy c.args.desk.now) c.args.known.now c.args.setting.now c.args.env.now c.args.x.now.otherwise c.in-None.is (standing c.args.desk.now (g.F.FactBase.rows c.args.facts.now) c.args.turns.now c.args.steps.now) c.requires.typed

pub act_else-act_block-requires : goal.act_else-act_block-requires
act_else-act_block-requires g t c κs within =
    let there : ◌≡◌ {A = Option (Else Stmt)} c.args.x.now.otherwise (Some (else_stmt.Block c.in-Some-Block.body)) = search rules in
    let e = ap else_deed_room there in
    let b = ap deeds_room c.as_slice.ensures in
    (omega (arith, e, b), (within.0, (within.1.0, (within.1.1, (c.requires.policy, (c.requires.typed, else_block_goes g.P.Desk.publishes (g.P.Desk.policy c.args.desk.now) c.args.known.now c.args.setting.now c.args.env.now c.args.x.now.otherwise c.in-Some-Block.body c.as_slice.result.now there c.as_slice.ensures (g.F.FactBase.rows c.args.facts.now) c.args.turns.now c.requires.goes))))))

pub act_else-returns-in-Some-Block-clause-acts : goal.act_else-returns-in-Some-Block-clause-acts
act_else-returns-in-Some-Block-clause-acts g t c =
    let there : ◌≡◌ {A = Option (Else Stmt)} c.args.x.now.otherwise (Some (else_stmt.Block c.in-Some-Block.body)) = search rules in
    else_block_on g.P.Desk.publishes (g.P.Desk.policy c.args.desk.now) c.args.known.now c.args.setting.now c.args.env.now c.args.x.now.otherwise c.in-Some-Block.body c.as_slice.result.now there c.as_slice.ensures c.act_block.result c.act_block.new.env (standing c.args.desk.now (g.F.FactBase.rows c.args.facts.now) c.args.turns.now c.args.steps.now) (standing c.act_block.new.desk (g.F.FactBase.rows c.act_block.new.facts) c.act_block.new.turns c.act_block.new.steps) c.act_block.ensures.acts

pub act_else-act-requires : goal.act_else-act-requires
act_else-act-requires g t c κs within =
    let there : ◌≡◌ {A = Option (Else Stmt)} c.args.x.now.otherwise (Some (else_stmt.If c.in-Some-If.s)) = search rules in
    let e = ap else_deed_room there in
    let b = ap deed_room c.get.ensures in
    (omega (arith, e, b), (within.0, (within.1.0, (within.1.1, (c.requires.policy, (c.requires.typed, else_if_goes g.P.Desk.publishes (g.P.Desk.policy c.args.desk.now) c.args.known.now c.args.setting.now c.args.env.now c.args.x.now.otherwise c.in-Some-If.s c.get.result.now there c.get.ensures (g.F.FactBase.rows c.args.facts.now) c.args.turns.now c.requires.goes))))))

pub act_else-returns-in_err-act-in-Some-If-clause-acts : goal.act_else-returns-in_err-act-in-Some-If-clause-acts
act_else-returns-in_err-act-in-Some-If-clause-acts g t c =
    let there : ◌≡◌ {A = Option (Else Stmt)} c.args.x.now.otherwise (Some (else_stmt.If c.in-Some-If.s)) = search rules in
    let p = err_from_is_err_and c.from_residual.result c.from_residual.ensures.1 in
    rw (p.1, p.2)
    (else_if_stops g.P.Desk.publishes (g.P.Desk.policy c.args.desk.now) c.args.known.now c.args.setting.now c.args.env.now c.args.x.now.otherwise c.in-Some-If.s c.get.result.now there c.get.ensures c.in_err-act-in-Some-If.field-0.0 (standing c.args.desk.now (g.F.FactBase.rows c.args.facts.now) c.args.turns.now c.args.steps.now) (standing c.act.new.desk (g.F.FactBase.rows c.act.new.facts) c.act.new.turns c.act.new.steps) c.in_err-act-in-Some-If.ensures.acts)

pub act_else-returns-in_ok-act-in-Some-If-clause-acts : goal.act_else-returns-in_ok-act-in-Some-If-clause-acts
act_else-returns-in_ok-act-in-Some-If-clause-acts g t c =
    let there : ◌≡◌ {A = Option (Else Stmt)} c.args.x.now.otherwise (Some (else_stmt.If c.in-Some-If.s)) = search rules in
    else_if_on g.P.Desk.publishes (g.P.Desk.policy c.args.desk.now) c.args.known.now c.args.setting.now c.args.env.now c.args.x.now.otherwise c.in-Some-If.s c.get.result.now there c.get.ensures c.act.new.env c.truncate.new.self (standing c.args.desk.now (g.F.FactBase.rows c.args.facts.now) c.args.turns.now c.args.steps.now) (standing c.act.new.desk (g.F.FactBase.rows c.act.new.facts) c.act.new.turns c.act.new.steps) c.in_ok-act-in-Some-If.ensures.acts (c.truncate.ensures ∙ ap (λ n. take n c.act.new.env) c.len-outside.ensures ∙ c.in_ok-act-in-Some-If.ensures.kept)

pub act_else-returns-in_ok-act-in-Some-If-clause-kept : goal.act_else-returns-in_ok-act-in-Some-If-clause-kept
act_else-returns-in_ok-act-in-Some-If-clause-kept g t c =
    c.truncate.ensures ∙ ap (λ n. take n c.act.new.env) c.len-outside.ensures ∙ c.in_ok-act-in-Some-If.ensures.kept

pub act_rows-loop-row-init : goal.act_rows-loop-row-init
act_rows-loop-row-init g t c =
    let same : into_iter_items c.into_iter-row-iterator.result ≡ c.args.rows.items = search rules in
    record { so_far = subst (λ left. RowsSoFar g.P.Desk.publishes (g.P.Desk.policy c.args.desk.now) c.args.known.now c.args.setting.now c.args.name.now c.args.body.now c.args.rows.items left c.args.env.now c.args.env.now (standing c.args.desk.now (g.F.FactBase.rows c.args.facts.now) c.args.turns.now c.args.steps.now) (standing c.args.desk.now (g.F.FactBase.rows c.args.facts.now) c.args.turns.now c.args.steps.now)) (sym same) (rows_begin g.P.Desk.publishes (g.P.Desk.policy c.args.desk.now) c.args.known.now c.args.setting.now c.args.name.now c.args.body.now c.args.rows.items c.args.env.now (standing c.args.desk.now (g.F.FactBase.rows c.args.facts.now) c.args.turns.now c.args.steps.now) c.requires.typed); policy = refl; keeps = g.met.P.Desk.keeps_itself c.args.desk.now }

pub act_rows-returns-in_err-enter_row-clause-acts : goal.act_rows-returns-in_err-enter_row-clause-acts
act_rows-returns-in_err-enter_row-clause-acts g t c =
    let inv = c.loop-row.invariant in
    let so_far = subst (λ left. RowsSoFar g.P.Desk.publishes (g.P.Desk.policy c.args.desk.now) c.args.known.now c.args.setting.now c.args.name.now c.args.body.now c.args.rows.items left c.args.env.now c.loop-row.env (standing c.args.desk.now (g.F.FactBase.rows c.args.facts.now) c.args.turns.now c.args.steps.now) (standing c.loop-row.desk (g.F.FactBase.rows c.loop-row.facts) c.loop-row.turns c.loop-row.steps)) c.in-Some.ensures.steps.0 inv.so_far in
    let p = err_from_is_err_and c.from_residual.result c.from_residual.ensures.1 in
    rw (p.1, p.2)
    (row_fails g.P.Desk.publishes (g.P.Desk.policy c.args.desk.now) c.args.known.now c.args.setting.now c.args.name.now c.args.body.now c.args.rows.items c.args.env.now so_far c.enter_row.new.turns c.in_err-enter_row.field-0.0
    (subst (λ env. HaltsBy c.in_err-enter_row.field-0.0 (row_entered c.args.name.now env c.in-Some.row c.loop-row.turns)) inv.so_far.same c.in_err-enter_row.ensures.gives))

pub act_rows-act_block-requires : goal.act_rows-act_block-requires
act_rows-act_block-requires g t c κs within =
    let inv = c.loop-row.invariant in
    let so_far = subst (λ left. RowsSoFar g.P.Desk.publishes (g.P.Desk.policy c.args.desk.now) c.args.known.now c.args.setting.now c.args.name.now c.args.body.now c.args.rows.items left c.args.env.now c.loop-row.env (standing c.args.desk.now (g.F.FactBase.rows c.args.facts.now) c.args.turns.now c.args.steps.now) (standing c.loop-row.desk (g.F.FactBase.rows c.loop-row.facts) c.loop-row.turns c.loop-row.steps)) c.in-Some.ensures.steps.0 inv.so_far in
    let entered = subst (λ env. row_entered c.args.name.now env c.in-Some.row c.loop-row.turns ≡ Done c.enter_row.new.env c.enter_row.new.turns) inv.so_far.same c.in_ok-enter_row.ensures.gives in (
      omega arith,
      (
        within.0,
        (
          within.1.0,
          (
            within.1.1,
            (
              ap items_of inv.policy ∙ c.requires.policy,
              (
                subst (λ policy. AreTyped policy (g.F.FactBase.rows c.loop-row.facts)) (sym inv.policy) inv.so_far.acted.typed,
                subst (λ policy. GoesWell policy (inside (deeds c.args.known.now c.args.setting.now c.args.body.now) c.enter_row.new.env) (g.F.FactBase.rows c.loop-row.facts) c.enter_row.new.turns) (sym inv.policy) (row_goes g.P.Desk.publishes (g.P.Desk.policy c.args.desk.now) c.args.known.now c.args.setting.now c.args.name.now c.args.body.now c.args.rows.items c.args.env.now so_far c.enter_row.new.turns c.enter_row.new.env entered c.requires.goes),
              ),
            ),
          ),
        ),
      ),
    )

pub act_rows-returns-in_err-act_block-clause-acts : goal.act_rows-returns-in_err-act_block-clause-acts
act_rows-returns-in_err-act_block-clause-acts g t c =
    let inv = c.loop-row.invariant in
    let so_far = subst (λ left. RowsSoFar g.P.Desk.publishes (g.P.Desk.policy c.args.desk.now) c.args.known.now c.args.setting.now c.args.name.now c.args.body.now c.args.rows.items left c.args.env.now c.loop-row.env (standing c.args.desk.now (g.F.FactBase.rows c.args.facts.now) c.args.turns.now c.args.steps.now) (standing c.loop-row.desk (g.F.FactBase.rows c.loop-row.facts) c.loop-row.turns c.loop-row.steps)) c.in-Some.ensures.steps.0 inv.so_far in
    let entered = subst (λ env. row_entered c.args.name.now env c.in-Some.row c.loop-row.turns ≡ Done c.enter_row.new.env c.enter_row.new.turns) inv.so_far.same c.in_ok-enter_row.ensures.gives in
    let p = err_from_is_err_and c.from_residual-in_err-act_block.result c.from_residual-in_err-act_block.ensures.1 in
    rw (p.1, p.2)
    (row_stops g.P.Desk.publishes (g.P.Desk.policy c.args.desk.now) c.args.known.now c.args.setting.now c.args.name.now c.args.body.now c.args.rows.items c.args.env.now so_far c.enter_row.new.turns c.enter_row.new.env entered c.in_err-act_block.field-0.0 (standing c.act_block.new.desk (g.F.FactBase.rows c.act_block.new.facts) c.act_block.new.turns c.act_block.new.steps)
    (subst (λ policy. StopsFor g.P.Desk.publishes policy (reason c.in_err-act_block.field-0.0) (inside (deeds c.args.known.now c.args.setting.now c.args.body.now) c.enter_row.new.env) (standing c.loop-row.desk (g.F.FactBase.rows c.loop-row.facts) c.enter_row.new.turns c.loop-row.steps) (standing c.act_block.new.desk (g.F.FactBase.rows c.act_block.new.facts) c.act_block.new.turns c.act_block.new.steps)) inv.policy c.in_err-act_block.ensures.acts))

pub act_rows-loop-row-preserved : goal.act_rows-loop-row-preserved
act_rows-loop-row-preserved g t c =
    let inv = c.loop-row.invariant in
    let so_far = subst (λ left. RowsSoFar g.P.Desk.publishes (g.P.Desk.policy c.args.desk.now) c.args.known.now c.args.setting.now c.args.name.now c.args.body.now c.args.rows.items left c.args.env.now c.loop-row.env (standing c.args.desk.now (g.F.FactBase.rows c.args.facts.now) c.args.turns.now c.args.steps.now) (standing c.loop-row.desk (g.F.FactBase.rows c.loop-row.facts) c.loop-row.turns c.loop-row.steps)) c.in-Some.ensures.steps.0 inv.so_far in
    let entered = subst (λ env. row_entered c.args.name.now env c.in-Some.row c.loop-row.turns ≡ Done c.enter_row.new.env c.enter_row.new.turns) inv.so_far.same c.in_ok-enter_row.ensures.gives in
    record {
      so_far = row_on g.P.Desk.publishes (g.P.Desk.policy c.args.desk.now) c.args.known.now c.args.setting.now c.args.name.now c.args.body.now c.args.rows.items c.args.env.now so_far c.enter_row.new.turns c.enter_row.new.env entered c.act_block.new.env (standing c.act_block.new.desk (g.F.FactBase.rows c.act_block.new.facts) c.act_block.new.turns c.act_block.new.steps) c.truncate.new.self
          (subst (λ policy. Acted g.P.Desk.publishes policy (inside (deeds c.args.known.now c.args.setting.now c.args.body.now) c.enter_row.new.env) (Did c.act_block.new.env) (standing c.loop-row.desk (g.F.FactBase.rows c.loop-row.facts) c.enter_row.new.turns c.loop-row.steps) (standing c.act_block.new.desk (g.F.FactBase.rows c.act_block.new.facts) c.act_block.new.turns c.act_block.new.steps)) inv.policy c.in_ok-act_block.ensures.acts)
          (c.truncate.ensures ∙ ap (take c.len-outside.result) c.in_ok-act_block.ensures.kept ∙ ap (λ n. take n c.enter_row.new.env) (c.len-outside.ensures ∙ ap length (sym inv.so_far.same)) ∙ c.in_ok-enter_row.ensures.kept ∙ inv.so_far.same);
      policy = c.act_block.ensures.policy ∙ inv.policy;
      keeps = g.met.P.Desk.keeps_on c.args.desk.now c.loop-row.desk c.act_block.new.desk inv.keeps c.act_block.ensures.keeps;
    }

pub act_rows-returns-clause-acts : goal.act_rows-returns-clause-acts
act_rows-returns-clause-acts g t c =
    let none : c.loop-row.row-iterator.rest.items ≡ [] = nil_from_length c.loop-row.row-iterator.rest.items (omega (arith, c.in-None.ensures.steps.0, c.loop-row.row-iterator.rest.ok)) in
    rows_end g.P.Desk.publishes (g.P.Desk.policy c.args.desk.now) c.args.known.now c.args.setting.now c.args.name.now c.args.body.now c.args.rows.items c.args.env.now c.loop-row.invariant.so_far none

pub act_rows-returns-clause-kept : goal.act_rows-returns-clause-kept
act_rows-returns-clause-kept g t c =
    c.loop-row.invariant.so_far.same

pub act-returns-in-Let-clause-keeps : goal.act-returns-in-Let-clause-keeps
act-returns-in-Let-clause-keeps g t c = g.met.P.Desk.keeps_itself c.args.desk.now

pub act-returns-in-Let-clause-policy : goal.act-returns-in-Let-clause-policy
act-returns-in-Let-clause-policy g t c = refl

pub act-returns-in-Check-clause-keeps : goal.act-returns-in-Check-clause-keeps
act-returns-in-Check-clause-keeps g t c = g.met.P.Desk.keeps_itself c.args.desk.now

pub act-returns-in-Check-clause-policy : goal.act-returns-in-Check-clause-policy
act-returns-in-Check-clause-policy g t c = refl

pub act-returns-in_err-holds-in-If-clause-keeps : goal.act-returns-in_err-holds-in-If-clause-keeps
act-returns-in_err-holds-in-If-clause-keeps g t c = g.met.P.Desk.keeps_itself c.args.desk.now

pub act-returns-in_err-holds-in-If-clause-policy : goal.act-returns-in_err-holds-in-If-clause-policy
act-returns-in_err-holds-in-If-clause-policy g t c = refl

pub act-returns-in_err-body-in-Match-clause-keeps : goal.act-returns-in_err-body-in-Match-clause-keeps
act-returns-in_err-body-in-Match-clause-keeps g t c = g.met.P.Desk.keeps_itself c.args.desk.now

pub act-returns-in_err-body-in-Match-clause-policy : goal.act-returns-in_err-body-in-Match-clause-policy
act-returns-in_err-body-in-Match-clause-policy g t c = refl

pub act-returns-in_err-rows-in-Map-clause-keeps : goal.act-returns-in_err-rows-in-Map-clause-keeps
act-returns-in_err-rows-in-Map-clause-keeps g t c = g.met.P.Desk.keeps_itself c.args.desk.now

pub act-returns-in_err-rows-in-Map-clause-policy : goal.act-returns-in_err-rows-in-Map-clause-policy
act-returns-in_err-rows-in-Map-clause-policy g t c = refl

pub act-returns-in_err-value-in-Publish-clause-keeps : goal.act-returns-in_err-value-in-Publish-clause-keeps
act-returns-in_err-value-in-Publish-clause-keeps g t c = g.met.P.Desk.keeps_itself c.args.desk.now

pub act-returns-in_err-value-in-Publish-clause-policy : goal.act-returns-in_err-value-in-Publish-clause-policy
act-returns-in_err-value-in-Publish-clause-policy g t c = refl

pub act-returns-in-Finish-clause-keeps : goal.act-returns-in-Finish-clause-keeps
act-returns-in-Finish-clause-keeps g t c = g.met.P.Desk.keeps_itself c.args.desk.now

pub act-returns-in-Finish-clause-policy : goal.act-returns-in-Finish-clause-policy
act-returns-in-Finish-clause-policy g t c = refl

pub act-returns-in-Return-clause-keeps : goal.act-returns-in-Return-clause-keeps
act-returns-in-Return-clause-keeps g t c = g.met.P.Desk.keeps_itself c.args.desk.now

pub act-returns-in-Return-clause-policy : goal.act-returns-in-Return-clause-policy
act-returns-in-Return-clause-policy g t c = refl

pub act_else-returns-in-None-clause-keeps : goal.act_else-returns-in-None-clause-keeps
act_else-returns-in-None-clause-keeps g t c = g.met.P.Desk.keeps_itself c.args.desk.now

pub act_else-returns-in-None-clause-policy : goal.act_else-returns-in-None-clause-policy
act_else-returns-in-None-clause-policy g t c = refl

pub act-returns-then-holds-clause-keeps : goal.act-returns-then-holds-clause-keeps
act-returns-then-holds-clause-keeps g t c = c.act_block.ensures.keeps

pub act-returns-then-holds-clause-policy : goal.act-returns-then-holds-clause-policy
act-returns-then-holds-clause-policy g t c = c.act_block.ensures.policy

pub act-returns-else-holds-clause-keeps : goal.act-returns-else-holds-clause-keeps
act-returns-else-holds-clause-keeps g t c = c.act_else.ensures.keeps

pub act-returns-else-holds-clause-policy : goal.act-returns-else-holds-clause-policy
act-returns-else-holds-clause-policy g t c = c.act_else.ensures.policy

pub act-returns-in_ok-body-in-Match-clause-keeps : goal.act-returns-in_ok-body-in-Match-clause-keeps
act-returns-in_ok-body-in-Match-clause-keeps g t c = c.act_block-in-Match.ensures.keeps

pub act-returns-in_ok-body-in-Match-clause-policy : goal.act-returns-in_ok-body-in-Match-clause-policy
act-returns-in_ok-body-in-Match-clause-policy g t c = c.act_block-in-Match.ensures.policy

pub act-returns-in_ok-rows-in-Map-clause-keeps : goal.act-returns-in_ok-rows-in-Map-clause-keeps
act-returns-in_ok-rows-in-Map-clause-keeps g t c = c.act_rows.ensures.keeps

pub act-returns-in_ok-rows-in-Map-clause-policy : goal.act-returns-in_ok-rows-in-Map-clause-policy
act-returns-in_ok-rows-in-Map-clause-policy g t c = c.act_rows.ensures.policy

pub act-returns-in_ok-value-in-Publish-clause-keeps : goal.act-returns-in_ok-value-in-Publish-clause-keeps
act-returns-in_ok-value-in-Publish-clause-keeps g t c = c.publish.ensures.keeps

pub act-returns-in_ok-value-in-Publish-clause-policy : goal.act-returns-in_ok-value-in-Publish-clause-policy
act-returns-in_ok-value-in-Publish-clause-policy g t c = c.publish.ensures.policy

pub act_else-returns-in-Some-Block-clause-keeps : goal.act_else-returns-in-Some-Block-clause-keeps
act_else-returns-in-Some-Block-clause-keeps g t c = c.act_block.ensures.keeps

pub act_else-returns-in-Some-Block-clause-policy : goal.act_else-returns-in-Some-Block-clause-policy
act_else-returns-in-Some-Block-clause-policy g t c = c.act_block.ensures.policy

pub act_else-returns-in_err-act-in-Some-If-clause-keeps : goal.act_else-returns-in_err-act-in-Some-If-clause-keeps
act_else-returns-in_err-act-in-Some-If-clause-keeps g t c = c.act.ensures.keeps

pub act_else-returns-in_err-act-in-Some-If-clause-policy : goal.act_else-returns-in_err-act-in-Some-If-clause-policy
act_else-returns-in_err-act-in-Some-If-clause-policy g t c = c.act.ensures.policy

pub act_else-returns-in_ok-act-in-Some-If-clause-keeps : goal.act_else-returns-in_ok-act-in-Some-If-clause-keeps
act_else-returns-in_ok-act-in-Some-If-clause-keeps g t c = c.act.ensures.keeps

pub act_else-returns-in_ok-act-in-Some-If-clause-policy : goal.act_else-returns-in_ok-act-in-Some-If-clause-policy
act_else-returns-in_ok-act-in-Some-If-clause-policy g t c = c.act.ensures.policy
