use Rattle.std.proofs.Common.{◌-◌, ◌+◌, length, sym, ◌∙◌, arith}
use Rattle.policy_ast.proofs.grammar.ReadingItems.{read_placed}
use Rattle.policy_parse.specs.working.Runs.{placed_read}
use Rattle.policy_parse.proofs.Steps.{read_none, read_some}
use Rattle.policy_parse.proofs.Whole.{placed_within, run_ends, run_full, run_goes_on}
use Rattle.policy_parse.proofs.policy.items.Goals as goal

pub returns-in_default : goal.returns-in_default
returns-in_default c =
    sym (run_ends (length c.args.tokens.now - c.loop.counter) c.loop.found c.loop.rest.now (sym (read_none placed_read c.placed.result (read_placed c.loop.rest.now) (rw c.in_default.is at c.in_ok-one.ensures) c.placed.ensures))) ∙ c.loop.invariant.read

pub loop-preserved : goal.loop-preserved
loop-preserved c = record {
  read = rw c.in_ok-push.ensures.ok
      (sym (run_goes_on (length c.args.tokens.now - c.loop.counter) (length c.args.tokens.now - (c.loop.counter + 1)) c.loop.found c.loop.rest.now c.in-Some.behind.now c.in-Some.one
      (omega (arith, c.loop-test.true)) (sym (read_some placed_read c.placed.result (c.in-Some.one, c.in-Some.behind) (read_placed c.loop.rest.now) (rw c.in-Some.is at c.in_ok-one.ensures) c.placed.ensures)))
      ∙ c.loop.invariant.read);
  within = let less = placed_within c.loop.rest.now c.in-Some.behind.now c.in-Some.one (sym (read_some placed_read c.placed.result (c.in-Some.one, c.in-Some.behind) (read_placed c.loop.rest.now) (rw c.in-Some.is at c.in_ok-one.ensures) c.placed.ensures)) in let within = c.loop.invariant.within in omega (arith, less, within);
}

pub returns : goal.returns
returns c = sym (run_full (length c.args.tokens.now - c.loop.counter) c.loop.found c.loop.rest.now (omega (arith, c.loop-test.false))) ∙ c.loop.invariant.read
