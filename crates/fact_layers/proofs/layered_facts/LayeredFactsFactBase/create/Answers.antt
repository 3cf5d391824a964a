use Rattle.std.proofs.Common.{true, false, inr, refl}
use Rattle.fact_store.specs.declared.wanted.Wanted.{Wanted}
use Rattle.fact_layers.specs.Layers.{shared}
use Rattle.fact_layers.proofs.Writes.{create-done, create-exists, if-some}
use Rattle.fact_layers.proofs.layered_facts.LayeredFactsFactBase.create.Goals as goal

pub returns-then-is_some : goal.returns-then-is_some
returns-then-is_some c =
    let key : Wanted = record { fact = c.args.row.fact; keys = c.args.row.keys; values = c.new.result } in
    let found = if-some c.held.result key c.args.self.now.layers.items c.as_slice.result.now c.held.ensures c.as_slice.ensures.value c.is_some.result true c.is_some.ensures c.if-is_some.true in
    (refl, inr (create-exists key c.requires (shared c.args.self.now.layers.items) c.args.self.now.keyed c.args.row.values found))

pub returns : goal.returns
returns c =
    let key : Wanted = record { fact = c.args.row.fact; keys = c.args.row.keys; values = c.new.result } in
    let none = if-some c.held.result key c.args.self.now.layers.items c.as_slice.result.now c.held.ensures c.as_slice.ensures.value c.is_some.result false c.is_some.ensures c.if-is_some.false in
    create-done key c.requires (shared c.args.self.now.layers.items) c.args.self.now.keyed c.args.row.values (shared c.put.new.layers.items) none c.in_ok-put.ensures.ok
