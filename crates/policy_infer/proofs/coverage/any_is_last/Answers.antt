use Rattle.std.proofs.Common.{◌+◌, ◌-◌, ◌&&◌, ◌∙◌, ap, arith, drop, length, map, not, sym}
use Rattle.std.proofs.lemmas.List.{length-drop, length-map}
use Rattle.policy_infer.proofs.FieldFacts.{left_at}
use Rattle.policy_infer.proofs.PatternFacts.{last_turn}
use Rattle.policy_rules.specs.Coverage.{any_is_last}
use Rattle.policy_infer.proofs.coverage.any_is_last.Goals as goal

pub returns-then-is_misplaced : goal.returns-then-is_misplaced
returns-then-is_misplaced c =
    let arms = c.args.arms.now in
    let i = c.loop-i.i in
    sym
    (sym c.loop-i.invariant ∙ ap (λ arms. any_is_last (map (λ a. a.pattern) arms)) (left_at arms i c.index-arms-i.result c.loop-i-test.true c.index-arms-i.is)
    ∙ last_turn c.index-arms-i.result.pattern (map (λ a. a.pattern) (drop (i + 1) arms)) ((length arms - i) - 1) (omega (arith, length-map (drop (i + 1) arms) (λ a. a.pattern), length-drop (i + 1) arms))
    ∙ ap (λ b. not b && any_is_last (map (λ a. a.pattern) (drop (i + 1) arms))) (sym c.is_misplaced.ensures ∙ c.if-is_misplaced.true))
