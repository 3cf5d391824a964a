use Rattle.std.proofs.Common.{◌≡◌, inr, sym, ap, ◌∙◌}
use Rattle.fact_store.specs.Matching.{has_named}
use Rattle.fact_store.specs.Stored.{rows_of}
use Rattle.fact_store.proofs.Written.{update-base, update-differs, update-done, update-kept, update-missing}
use Rattle.fact_store.proofs.facts.FactsFactBase.update.Goals as goal

pub returns-in_default : goal.returns-in_default
returns-in_default c =
    (ap (λ m. rows_of m.entries) c.get_mut.follows.holds-at-none, inr (update-missing c.args.old.now c.requires c.args.self.now.stored.entries c.args.self.now.base c.args.values (sym c.in_default.ensures.value)))

pub invariant_of-self-then-not-has_named : goal.invariant_of-self-then-not-has_named
invariant_of-self-then-not-has_named c =
    record { base = update-base c.args.old.now c.requires c.args.self.now.stored.entries c.args.self.now.base c.in-Some.held.now (c.get_mut.follows.lender c.in-Some.held.now).entries (c.get_mut.follows.holds c.in-Some.held.now).0 }

pub returns-then-not-has_named : goal.returns-then-not-has_named
returns-then-not-has_named c =
    let lacks = sym c.has_named.ensures ∙ c.if-not-has_named.true in
    let same : has_named c.as_slice.result.now c.as_slice-2.result.now ≡ has_named c.args.old.now.values c.in-Some.held.now = λ i. has_named (c.as_slice.ensures i) (c.as_slice-2.ensures i) in (
      update-kept c.args.old.now c.requires c.args.self.now.stored.entries c.args.self.now.base c.args.values c.in-Some.held.now (sym c.in-Some.ensures.value) (c.get_mut.follows.lender c.in-Some.held.now).entries (c.get_mut.follows.holds c.in-Some.held.now).0,
      inr (update-differs c.args.old.now c.requires c.args.self.now.stored.entries c.args.self.now.base c.args.values c.in-Some.held.now (sym c.in-Some.ensures.value) (sym same ∙ lacks)),
    )

pub invariant_of-self-2 : goal.invariant_of-self-2
invariant_of-self-2 c =
    record { base = update-base c.args.old.now c.requires c.args.self.now.stored.entries c.args.self.now.base c.args.values (c.get_mut.follows.lender c.args.values).entries (c.get_mut.follows.holds c.args.values).0 }

pub returns : goal.returns
returns c =
    let has = sym c.has_named.ensures ∙ c.if-not-has_named.false in
    let same : has_named c.as_slice.result.now c.as_slice-2.result.now ≡ has_named c.args.old.now.values c.in-Some.held.now = λ i. has_named (c.as_slice.ensures i) (c.as_slice-2.ensures i) in
    update-done c.args.old.now c.requires c.args.self.now.stored.entries c.args.self.now.base c.args.values c.in-Some.held.now (sym c.in-Some.ensures.value) (c.get_mut.follows.lender c.args.values).entries (sym same ∙ has) (c.get_mut.follows.holds c.args.values).0
