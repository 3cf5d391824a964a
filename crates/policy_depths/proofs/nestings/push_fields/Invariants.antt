use Rattle.std.proofs.Common.{◌≡◌, ◌&&◌, ℕ, Bool, drop}
use Rattle.std.specs.List.{list_all}
use Rattle.policy_depths.specs.working.Gathering.{fields_pass_by}
use Rattle.policy_depths.proofs.nestings.push_fields.Given as goal

abbrev pub invariant-loop-field : goal.invariant-loop-field
invariant-loop-field l =
    (test : ℕ → Bool) → (list_all test l.numbers && fields_pass_by l.heads test (drop l.field-index l.fields)) ≡ (list_all test l.initial.numbers && fields_pass_by l.heads test l.fields)
