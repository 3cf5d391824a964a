use Rattle.std.proofs.Common.{◌≡◌, drop}
use Rattle.std.specs.List.{list_all}
use Rattle.policy_depths.specs.working.Rounds.{passes_in}
use Rattle.policy_depths.proofs.rounds.all_pass.Given as goal

abbrev pub invariant-loop-place : goal.invariant-loop-place
invariant-loop-place l = list_all (passes_in l.table) (drop l.place-index l.places) ≡ list_all (passes_in l.table) l.places
