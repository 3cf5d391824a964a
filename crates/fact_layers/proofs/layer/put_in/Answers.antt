use Rattle.fact_layers.proofs.Keyed.{keyed-inserted, keyed-removed}
use Rattle.fact_layers.proofs.layer.put_in.Goals as goal

pub returns-in-None-clause-keyed : goal.returns-in-None-clause-keyed
returns-in-None-clause-keyed c = λ keys keyed. keyed-removed _ c.args.layer.now.entries c.remove.new.self.entries c.remove.ensures.entries keyed

pub returns-in_ok-insert-in_default-clause-keyed : goal.returns-in_ok-insert-in_default-clause-keyed
returns-in_ok-insert-in_default-clause-keyed c =
    λ keys keyed. keyed-inserted c.args.place _ c.args.layer.now.entries c.insert.new.self.entries c.in_ok-insert-in_default.ensures.entries keys keyed
