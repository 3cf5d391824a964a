use Rattle.std.proofs.Common.{◌∙◌, refl}
use Rattle.policy_rules.specs.Nesting.{struct_passes}
use Rattle.policy_depths.specs.working.Gathering.{struct_passes_by}
use Rattle.policy_depths.proofs.Gathering.{none_gather, same_gather}
use Rattle.policy_depths.proofs.nestings.push_type.Goals as goal

pub returns-in-Some : goal.returns-in-Some
returns-in-Some c =
    let items = c.args.heads.now in
    same_gather c.push_struct.result c.args.numbers.now c.push_struct.new.numbers (λ test. struct_passes_by items test c.in-Some.name.now)
    (λ test. struct_passes (struct_passes_by items test) c.args.t.now) (λ test. c.struct_inside.ensures (struct_passes_by items test) ∙ rw c.in-Some.is refl) c.push_struct.ensures

pub returns-in-None : goal.returns-in-None
returns-in-None c =
    let items = c.args.heads.now in
    none_gather c.args.numbers.now (λ test. struct_passes (struct_passes_by items test) c.args.t.now) (λ test. c.struct_inside.ensures (struct_passes_by items test) ∙ rw c.in-None.is refl)
