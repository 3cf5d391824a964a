use Rattle.braid_run.proofs.KeptFacts.{child_rows, head_rows, rows_behind_place, rows_stay}
use Rattle.braid_run.proofs.laws.kept_facts_go_on.Goals as goal

pub returns-clause-behind : goal.returns-clause-behind
returns-clause-behind c = λ policy commands command rows closed plain at. rows_behind_place policy commands command rows closed plain at

pub returns-clause-head : goal.returns-clause-head
returns-clause-head c = λ policy commands f rows sole are. head_rows policy commands f rows sole are

pub returns-clause-stay : goal.returns-clause-stay
returns-clause-stay c = λ policy commands more f rows closed longer inside are. rows_stay policy commands more f rows closed longer inside are

pub returns-clause-child : goal.returns-clause-child
returns-clause-child c = λ policy commands f command rows closed inside one are. child_rows policy commands f command rows closed inside one are
