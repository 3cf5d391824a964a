use Rattle.std.proofs.Common.{◌∙◌, ap, sym, ◌∷◌}
use Rattle.fact_store.specs.Writes.{created, deleted, updated}
use Rattle.policy_expressions.proofs.ChangeFacts.{effect_applies, write_applies}
use Rattle.policy_expressions.specs.Applying.{with_effects}
use Rattle.policy_meaning.specs.Applying.{applied}
use Rattle.policy_expressions.proofs.applying.apply.Goals as goal

pub returns-in-Create-clause-applies : goal.returns-in-Create-clause-applies
returns-in-Create-clause-applies g c =
    write_applies c.written.result (created c.in-Create.row (g.F.FactBase.rows c.args.facts.now)) c.args.change (g.F.FactBase.rows c.args.facts.now) (g.F.FactBase.rows c.create.new.self) c.args.effects.now
    (λ more. ap (λ change. applied (change ∷ more) (g.F.FactBase.rows c.args.facts.now)) (sym c.in-Create.ensures.change))
    (c.written.ensures (created c.in-Create.row (g.F.FactBase.rows c.args.facts.now)) (g.F.FactBase.rows c.args.facts.now) (g.F.FactBase.rows c.create.new.self) c.create.ensures)

pub returns-in-Update-clause-applies : goal.returns-in-Update-clause-applies
returns-in-Update-clause-applies g c =
    write_applies c.written-in-Update.result (updated c.in-Update.old c.in-Update.values (g.F.FactBase.rows c.args.facts.now)) c.args.change (g.F.FactBase.rows c.args.facts.now) (g.F.FactBase.rows c.update.new.self) c.args.effects.now
    (λ more. ap (λ change. applied (change ∷ more) (g.F.FactBase.rows c.args.facts.now)) (sym c.in-Update.ensures.change))
    (c.written-in-Update.ensures (updated c.in-Update.old c.in-Update.values (g.F.FactBase.rows c.args.facts.now)) (g.F.FactBase.rows c.args.facts.now) (g.F.FactBase.rows c.update.new.self) c.update.ensures)

pub returns-in-Delete-clause-applies : goal.returns-in-Delete-clause-applies
returns-in-Delete-clause-applies g c =
    write_applies c.written-in-Delete.result (deleted c.in-Delete.fact c.in-Delete.keys (g.F.FactBase.rows c.args.facts.now)) c.args.change (g.F.FactBase.rows c.args.facts.now) (g.F.FactBase.rows c.delete.new.self) c.args.effects.now
    (λ more. ap (λ change. applied (change ∷ more) (g.F.FactBase.rows c.args.facts.now)) (sym c.in-Delete.ensures.change))
    (c.written-in-Delete.ensures (deleted c.in-Delete.fact c.in-Delete.keys (g.F.FactBase.rows c.args.facts.now)) (g.F.FactBase.rows c.args.facts.now) (g.F.FactBase.rows c.delete.new.self) c.delete.ensures)

pub returns-in_ok-push-in-Emit-clause-applies : goal.returns-in_ok-push-in-Emit-clause-applies
returns-in_ok-push-in-Emit-clause-applies g c more =
    ap (λ change. with_effects c.args.effects.now (applied (change ∷ more) (g.F.FactBase.rows c.args.facts.now))) (sym c.in-Emit.ensures.change)
    ∙ effect_applies c.args.effects.now c.in-Emit.effect (applied more (g.F.FactBase.rows c.args.facts.now))
    ∙ ap (λ effects. with_effects effects (applied more (g.F.FactBase.rows c.args.facts.now))) (sym c.in_ok-push-in-Emit.ensures.ok)
