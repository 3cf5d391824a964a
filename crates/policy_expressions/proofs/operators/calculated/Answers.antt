use Rattle.std.proofs.Common.{rules, ◌≡◌, ◌+ℤ◌, ◌-ℤ◌, ◌∙◌, IfOk, ap, subst, sym, of_z, to_z, w64}
use Rattle.std.proofs.lemmas.Int.{to_z-of_z}
use Rattle.std.specs.Int.RustNames.{FitsSigned}
use Rattle.policy_meaning.specs.Values.{calculated}
use Rattle.policy_expressions.proofs.NumberFacts.{in_range_by}
use Rattle.policy_expressions.proofs.operators.calculated.Goals as goal

pub returns-in-Add : goal.returns-in-Add
returns-in-Add c =
    let m_fits : FitsSigned w64 c.args.m = search rules in
    let n_fits : FitsSigned w64 c.args.n = search rules in
    let same : to_z w64 (of_z w64 c.args.m) +ℤ to_z w64 (of_z w64 c.args.n) ≡ c.args.m +ℤ c.args.n =
    ap (λ x. x +ℤ to_z w64 (of_z w64 c.args.n)) (to_z-of_z w64 c.args.m m_fits) ∙ ap (λ y. c.args.m +ℤ y) (to_z-of_z w64 c.args.n n_fits) in
    subst (λ op. IfOk c.optional.result (λ v. v ≡ calculated op c.args.m c.args.n)) (sym c.in-Add.is)
    (in_range_by c.optional.result c.checked_add.result (c.args.m +ℤ c.args.n) same c.optional.ensures c.checked_add.ensures)

pub returns-in-Sub : goal.returns-in-Sub
returns-in-Sub c =
    let m_fits : FitsSigned w64 c.args.m = search rules in
    let n_fits : FitsSigned w64 c.args.n = search rules in
    let same : to_z w64 (of_z w64 c.args.m) -ℤ to_z w64 (of_z w64 c.args.n) ≡ c.args.m -ℤ c.args.n =
    ap (λ x. x -ℤ to_z w64 (of_z w64 c.args.n)) (to_z-of_z w64 c.args.m m_fits) ∙ ap (λ y. c.args.m -ℤ y) (to_z-of_z w64 c.args.n n_fits) in
    subst (λ op. IfOk c.optional-in-Sub.result (λ v. v ≡ calculated op c.args.m c.args.n)) (sym c.in-Sub.is)
    (in_range_by c.optional-in-Sub.result c.checked_sub.result (c.args.m -ℤ c.args.n) same c.optional-in-Sub.ensures c.checked_sub.ensures)
