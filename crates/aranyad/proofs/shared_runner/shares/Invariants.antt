use Rattle.std.proofs.Common.{◌≡◌, All, length}
use Rattle.std.specs.Arc.{arc_value}
use Rattle.aranyad.proofs.shared_runner.shares.Given as goal

abbrev pub invariant-loop : goal.invariant-loop
invariant-loop g l = record {
  number : length l.shares.items ≡ l.counter;
  rules : All (λ share. g.R.Runner.rules (arc_value share.runner) ≡ g.R.Runner.rules l.fn.runner) l.shares.items;
}
