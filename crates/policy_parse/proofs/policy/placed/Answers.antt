use Rattle.std.proofs.Common.{sym}
use Rattle.policy_parse.proofs.Whole.{item_leaves}
use Rattle.policy_parse.proofs.policy.placed.Goals as goal

pub overflow_sub-behind : goal.overflow_sub-behind
overflow_sub-behind c = item_leaves c.args.tokens.now c.in_ok-one.left.now c.in_ok-one.one (sym c.in_ok-one.ensures)
