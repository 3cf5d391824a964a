use Rattle.std.proofs.Common.{◌∙◌, ◌++◌, Some, ap, map, reverse, sym}
use Rattle.std.proofs.lemmas.List.{append-nil}
use Rattle.policy_expressions.proofs.GapFacts.{all_before, one_back}
use Rattle.policy_meaning.specs.Patterns.{before_gap}
use Rattle.policy_expressions.proofs.patterns.before_gap.Goals as goal

pub loop-value-init : goal.loop-value-init
loop-value-init c = ap (λ behind. before_gap (c.args.values ++ map Some (reverse behind))) c.new-behind.ensures.items ∙ ap before_gap (append-nil c.args.values)

pub loop-value-preserved : goal.loop-value-preserved
loop-value-preserved c =
    ap (λ behind. before_gap (c.pop.new.self ++ map Some (reverse behind))) c.in_ok-put_front.ensures
    ∙ one_back c.pop.new.self c.in-Some.value c.loop-value.behind.items
    ∙ ap (λ values. before_gap (values ++ map Some (reverse c.loop-value.behind.items))) (sym c.in-Some.ensures)
    ∙ c.loop-value.invariant

pub returns : goal.returns
returns c =
    c.from_vec.ensures ∙ c.reverse.ensures.items ∙ sym (all_before (reverse c.loop-value.behind.items))
    ∙ ap (λ values. before_gap (values ++ map Some (reverse c.loop-value.behind.items))) (sym c.in_default.ensures.0) ∙ c.loop-value.invariant
