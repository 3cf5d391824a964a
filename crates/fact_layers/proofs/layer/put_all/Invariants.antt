use Rattle.std.proofs.Common.{◌≡◌, IsTrue}
use Rattle.std.specs.List.Sorted.{IsStrictlySortedBy}
use Rattle.std.specs.Map.{keys_of}
use Rattle.fact_store.specs.declared.wanted.Wanted.{Wanted}
use Rattle.fact_store.specs.working.Orders.{wanted_order}
use Rattle.fact_layers.specs.Layers.{Said}
use Rattle.fact_layers.specs.working.Said.{MayBeBelow, above, are_keyed, said}
use Rattle.fact_layers.proofs.layer.put_all.Given as goal

abbrev pub invariant-loop-place : goal.invariant-loop-place
invariant-loop-place l = record {
  sorted : IsStrictlySortedBy wanted_order (keys_of l.place-iterator);
  left : IsTrue (are_keyed l.place-iterator);
  keyed : IsTrue (are_keyed l.initial.layer.entries) → IsTrue (are_keyed l.layer.entries);
  goes : (q : Wanted) (below : Said) → MayBeBelow l.is_lowest below → above (said q l.place-iterator) (above (said q l.layer.entries) below) ≡ above (said q l.upper.entries) (above (said q l.initial.layer.entries) below);
}
