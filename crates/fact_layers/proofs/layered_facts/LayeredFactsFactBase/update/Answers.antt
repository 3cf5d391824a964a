use Rattle.std.proofs.Common.{◌≡◌, Some, inr, refl, sym, ap, ◌∙◌}
use Rattle.fact_store.specs.declared.wanted.Wanted.{Wanted}
use Rattle.fact_store.specs.Matching.{has_named}
use Rattle.fact_layers.specs.Layers.{shared}
use Rattle.fact_layers.specs.working.Said.{held}
use Rattle.fact_layers.proofs.Writes.{replaces-alike, update-differs, update-done, update-missing}
use Rattle.fact_layers.proofs.layered_facts.LayeredFactsFactBase.update.Goals as goal

pub returns-in_default : goal.returns-in_default
returns-in_default c =
    let none = ap (λ ls. held c.args.old.now (shared ls)) (sym c.as_slice.ensures.value) ∙ sym c.in_default.ensures in
    (refl, inr (update-missing c.args.old.now c.requires (shared c.args.self.now.layers.items) c.args.self.now.keyed c.args.values none))

pub returns-then-not-has_named : goal.returns-then-not-has_named
returns-then-not-has_named c =
    let there : held c.args.old.now (shared c.args.self.now.layers.items) ≡ Some c.in-Some.there.now = ap (λ ls. held c.args.old.now (shared ls)) (sym c.as_slice.ensures.value) ∙ sym c.in-Some.ensures in
    let same : has_named c.as_slice-2.result.now c.as_slice-3.result.now ≡ has_named c.args.old.now.values c.in-Some.there.now = λ i. has_named (c.as_slice-2.ensures i) (c.as_slice-3.ensures i) in
    let lacks = sym same ∙ sym c.has_named.ensures ∙ c.if-not-has_named.true in
    (refl, inr (update-differs c.args.old.now c.requires (shared c.args.self.now.layers.items) c.args.self.now.keyed c.args.values c.in-Some.there.now there lacks))

pub returns : goal.returns
returns c =
    let there : held c.args.old.now (shared c.args.self.now.layers.items) ≡ Some c.in-Some.there.now = ap (λ ls. held c.args.old.now (shared ls)) (sym c.as_slice.ensures.value) ∙ sym c.in-Some.ensures in
    let same : has_named c.as_slice-2.result.now c.as_slice-3.result.now ≡ has_named c.args.old.now.values c.in-Some.there.now = λ i. has_named (c.as_slice-2.ensures i) (c.as_slice-3.ensures i) in
    let has = sym same ∙ sym c.has_named.ensures ∙ c.if-not-has_named.false in
    let key : Wanted = record { fact = c.args.old.now.fact; keys = c.in_ok-copy_values.field-0; values = c.new.result } in
    let replaces = replaces-alike key c.args.old.now (Some c.args.values) (shared c.args.self.now.layers.items) (shared c.put.new.layers.items) refl (c.in_ok-copy_values.ensures ∙ c.as_slice-4.ensures) c.in_ok-put.ensures.ok in
    update-done c.args.old.now c.requires (shared c.args.self.now.layers.items) c.args.self.now.keyed c.args.values c.in-Some.there.now (shared c.put.new.layers.items) there has replaces
