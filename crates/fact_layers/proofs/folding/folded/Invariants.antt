use Rattle.std.proofs.Common.{◌≡◌, ◌-◌, IsTrue, drop, length}
use Rattle.fact_store.specs.declared.wanted.Wanted.{Wanted}
use Rattle.fact_layers.specs.Layers.{Said, shared}
use Rattle.fact_layers.specs.working.Said.{MayBeBelow, above, are_keyed, held_over, said}
use Rattle.fact_layers.proofs.folding.folded.Given as goal

abbrev pub invariant-loop-done : goal.invariant-loop-done
invariant-loop-done l = record {
  keyed : IsTrue (are_keyed l.all.entries);
  says : (q : Wanted) (below : Said) → MayBeBelow l.is_lowest below → above (said q l.all.entries) below ≡ held_over q (shared (drop (length l.layers - l.done) l.layers)) below;
}
