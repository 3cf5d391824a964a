use Rattle.std.proofs.Common.{inr, refl, sym, ◌∙◌}
use Rattle.fact_store.specs.declared.wanted.Wanted.{Wanted}
use Rattle.fact_store.proofs.Written.{create-done, create-exists, insert-base}
use Rattle.fact_store.proofs.facts.FactsFactBase.create.Goals as goal

pub returns-then-contains_key : goal.returns-then-contains_key
returns-then-contains_key c =
    let key : Wanted = record { fact = c.args.row.fact; keys = c.args.row.keys; values = c.new.result } in
    (refl, inr (create-exists key c.requires c.args.self.now.stored.entries c.args.self.now.base c.args.row.values (sym c.contains_key.ensures ∙ c.if-contains_key.true)))

pub invariant_of-self : goal.invariant_of-self
invariant_of-self c =
    let key : Wanted = record { fact = c.args.row.fact; keys = c.args.row.keys; values = c.new.result } in
    record {
      base = insert-base key c.requires c.args.self.now.stored.entries c.args.self.now.base c.args.row.values c.insert.new.self.entries (sym c.contains_key.ensures ∙ c.if-contains_key.false) c.insert.result c.insert.ensures.entries c.insert.ensures.err;
    }

pub returns : goal.returns
returns c =
    let key : Wanted = record { fact = c.args.row.fact; keys = c.args.row.keys; values = c.new.result } in
    create-done key c.requires c.args.self.now.stored.entries c.args.self.now.base c.args.row.values c.insert.new.self.entries (sym c.contains_key.ensures ∙ c.if-contains_key.false) c.in_ok-insert.ensures.entries
