use Rattle.std.proofs.Common.{length}
use Rattle.policy_expressions.proofs.structs.+are_in_place.Given as goal

abbrev pub decreases-are_in_place : goal.decreases-are_in_place
decreases-are_in_place l = length l.fields.now
