use Rattle.std.proofs.Common.{◌≡◌, ◌∙◌, Some, ap, option_map, sym}
use Rattle.policy_rules.specs.WellTyped.{items_of}
use Rattle.policy_eval.proofs.ActionEnds.{action_there, begin_goes, never_stuck, runs_on}
use Rattle.policy_eval.specs.working.Deeds.{action_parts, kept_action}
use Rattle.policy_eval.proofs.actions.action_end.Goals as goal

pub unreachable-requires : goal.unreachable-requires
unreachable-requires g c =
    action_there c.args.checked.now c.args.action c.args.args.now c.requires.declared
    (ap (λ policy. action_parts (items_of policy) c.args.action) (sym (c.items.ensures.value ∙ c.policy-policy.ensures.policy)) ∙ sym c.action_parts.ensures ∙ ap (option_map kept_action) c.in_default.is)

pub act_body-done-requires-clause-goes : goal.act_body-done-requires-clause-goes
act_body-done-requires-clause-goes g c =
    let well = c.actions_are_never_stuck.ensures c.args.checked.now c.args.action c.args.args.now c.args.device.now (g.F.FactBase.rows c.args.facts.now) c.policy-policy.ensures.well_typed c.requires.declared c.is_id.ensures c.requires.typed in
    let some : action_parts (items_of c.args.checked.now) c.args.action ≡ Some (kept_action c.in-Some.parts) =
    ap (λ policy. action_parts (items_of policy) c.args.action) (sym (c.items.ensures.value ∙ c.policy-policy.ensures.policy)) ∙ sym c.in-Some.ensures in
    begin_goes g.P.Desk.publishes c.args.checked.now c.args.action c.args.args.now c.args.device.now (g.F.FactBase.rows c.args.facts.now) c.requires.typed well (kept_action c.in-Some.parts) some c.args.desk.now c.args.steps.now
    (g.P.Desk.policy c.args.desk.now) c.requires.policy c.in_ok-known.known c.in_ok-known.ensures c.in_ok-values.values (c.in_ok-values.ensures ∙ c.as_slice.ensures)

pub end_of-requires : goal.end_of-requires
end_of-requires g c =
    let well = c.actions_are_never_stuck.ensures c.args.checked.now c.args.action c.args.args.now c.args.device.now (g.F.FactBase.rows c.args.facts.now) c.policy-policy.ensures.well_typed c.requires.declared c.is_id.ensures c.requires.typed in
    let some : action_parts (items_of c.args.checked.now) c.args.action ≡ Some (kept_action c.in-Some.parts) =
    ap (λ policy. action_parts (items_of policy) c.args.action) (sym (c.items.ensures.value ∙ c.policy-policy.ensures.policy)) ∙ sym c.in-Some.ensures in
    record {
      never = λ is. never_stuck g.P.Desk.publishes c.args.checked.now c.args.action c.args.args.now c.args.device.now (g.F.FactBase.rows c.args.facts.now) c.requires.typed well (kept_action c.in-Some.parts) some c.args.desk.now c.args.steps.now
          (g.P.Desk.policy c.args.desk.now) c.requires.policy c.in_ok-known.known c.in_ok-known.ensures c.in_ok-values.values (c.in_ok-values.ensures ∙ c.as_slice.ensures)
          c.act_body-done.result c.act_body-done.new.desk (g.F.FactBase.rows c.act_body-done.new.facts) c.act_body-done.new.steps c.act_body-done.ensures.acts is;
    }

pub returns-clause-runs : goal.returns-clause-runs
returns-clause-runs g c =
    let well = c.actions_are_never_stuck.ensures c.args.checked.now c.args.action c.args.args.now c.args.device.now (g.F.FactBase.rows c.args.facts.now) c.policy-policy.ensures.well_typed c.requires.declared c.is_id.ensures c.requires.typed in
    let some : action_parts (items_of c.args.checked.now) c.args.action ≡ Some (kept_action c.in-Some.parts) =
    ap (λ policy. action_parts (items_of policy) c.args.action) (sym (c.items.ensures.value ∙ c.policy-policy.ensures.policy)) ∙ sym c.in-Some.ensures in
    runs_on g.P.Desk.publishes c.args.checked.now c.args.action c.args.args.now c.args.device.now (g.F.FactBase.rows c.args.facts.now) c.requires.typed well (kept_action c.in-Some.parts) some c.args.desk.now c.args.steps.now
    (g.P.Desk.policy c.args.desk.now) c.requires.policy c.in_ok-known.known c.in_ok-known.ensures c.in_ok-values.values (c.in_ok-values.ensures ∙ c.as_slice.ensures)
    c.act_body-done.result c.act_body-done.new.desk (g.F.FactBase.rows c.act_body-done.new.facts) c.act_body-done.new.steps c.act_body-done.ensures.acts c.end_of.result c.end_of.ensures
