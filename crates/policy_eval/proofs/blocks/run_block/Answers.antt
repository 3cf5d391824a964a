use Rattle.std.proofs.lemmas.Result.{err_from_is_err_and}
use Rattle.policy_eval.proofs.EndingFacts.{reached_applies, reached_fails, run_fails, run_goes, run_returns}
use Rattle.policy_eval.proofs.blocks.run_block.Goals as goal

pub returns-in_err-run_all : goal.returns-in_err-run_all
returns-in_err-run_all g c =
    let p = err_from_is_err_and c.from_residual.result c.from_residual.ensures.1 in
    rw (p.1, p.2) (run_fails c.args.known.now c.args.call.now (g.F.FactBase.rows c.args.facts.now) c.args.body.now c.of_command-setting.result c.of_command-setting.ensures c.new-env.result c.new-env.ensures c.run_all.new.env c.run_all.new.turns c.in_err-run_all.field-0.0 c.in_err-run_all.ensures)

pub returns-in-Goes : goal.returns-in-Goes
returns-in-Goes g c = run_goes c.args.known.now c.args.call.now (g.F.FactBase.rows c.args.facts.now) c.args.body.now c.of_command-setting.result c.of_command-setting.ensures c.new-env.result c.new-env.ensures c.run_all.new.env c.run_all.new.turns c.in_ok-run_all.field-0 c.in-Goes.is c.in_ok-run_all.ensures c.new.result c.new.ensures

pub returns-in-Returns : goal.returns-in-Returns
returns-in-Returns g c = run_returns c.args.known.now c.args.call.now (g.F.FactBase.rows c.args.facts.now) c.args.body.now c.of_command-setting.result c.of_command-setting.ensures c.new-env.result c.new-env.ensures c.run_all.new.env c.run_all.new.turns c.in_ok-run_all.field-0 c.in-Returns.field-0 c.in-Returns.is c.in_ok-run_all.ensures

pub returns-in_err-changes-in-Reached : goal.returns-in_err-changes-in-Reached
returns-in_err-changes-in-Reached g c =
    let p = err_from_is_err_and c.from_residual-in_err-changes-in-Reached.result c.from_residual-in_err-changes-in-Reached.ensures.1 in
    rw (p.1, p.2) (reached_fails c.args.known.now c.args.call.now (g.F.FactBase.rows c.args.facts.now) c.args.body.now c.of_command-setting.result c.of_command-setting.ensures c.new-env.result c.new-env.ensures c.run_all.new.env c.run_all.new.turns c.in_ok-run_all.field-0 c.in-Reached.statements c.in-Reached.is c.in_ok-run_all.ensures c.in_err-changes-in-Reached.field-0.0 c.in_err-changes-in-Reached.ensures)

pub returns : goal.returns
returns g c =
    reached_applies c.args.known.now c.args.call.now (g.F.FactBase.rows c.args.facts.now) c.args.body.now c.of_command-setting.result c.of_command-setting.ensures c.new-env.result c.new-env.ensures c.run_all.new.env c.run_all.new.turns c.in_ok-run_all.field-0 c.in-Reached.statements c.in-Reached.is c.in_ok-run_all.ensures c.apply_or_leave.result c.in_ok-changes-in-Reached.changes c.listed.new.turns
    (g.F.FactBase.rows c.apply_or_leave.new.facts) c.in_ok-changes-in-Reached.ensures c.apply_or_leave.ensures.ends c.apply_or_leave.ensures.rows
