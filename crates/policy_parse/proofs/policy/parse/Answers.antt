use Rattle.std.proofs.Common.{◌∙◌, arith}
use Rattle.policy_parse.proofs.Whole.{fault_line, whole_few, whole_left, whole_one, whole_spelled}
use Rattle.policy_parse.proofs.policy.parse.Goals as goal

pub new-requires : goal.new-requires
new-requires c = let few = whole_few c.args.tokens.now c.in-Ok.found c.in-Ok.rest.now c.in-Ok.ensures in let all = c.requires in omega (arith, few, all)

pub returns-in-empty-clause-policy : goal.returns-in-empty-clause-policy
returns-in-empty-clause-policy c = rw c.new.ensures (whole_spelled c.args.tokens.now c.in-Ok.found c.in-Ok.rest.now c.in-Ok.ensures c.in-empty.len_below)

pub returns-in-empty-clause-only : goal.returns-in-empty-clause-only
returns-in-empty-clause-only c policy spelled = c.new.ensures ∙ whole_one c.args.tokens.now c.in-Ok.found c.in-Ok.rest.now c.in-Ok.ensures policy spelled

pub returns-in-len1-up-clause-only : goal.returns-in-len1-up-clause-only
returns-in-len1-up-clause-only c policy spelled =
    let none = whole_left c.args.tokens.now c.in-Ok.found c.in-Ok.rest.now c.in-Ok.ensures policy spelled in
    let some = c.in-len1-up.len_at_least in
    absurd (omega (arith, none, some))

pub returns-in-len1-up-clause-cause : goal.returns-in-len1-up-clause-cause
returns-in-len1-up-clause-cause c = fault_line c.args.tokens.now c.in-Ok.found c.in-Ok.rest.now c.first-item.result c.in-Ok.ensures c.in-len1-up.len_at_least c.first-item.is
