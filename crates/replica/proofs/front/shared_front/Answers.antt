use Rattle.std.proofs.Common.{◌≡◌, ℕ, ◌+◌, drop, sym, ap, ◌∙◌, arith}
use Rattle.std.specs.List.{common_prefix_len}
use Rattle.replica.specs.working.Changes.{same_entry}
use Rattle.replica.proofs.FrontFacts.{shared_whole}
use Rattle.replica.proofs.front.shared_front.Goals as goal

pub returns-clause-shared : goal.returns-clause-shared
returns-clause-shared c =
    let end : c.loop-place.place ≡ c.shorter-len.result = omega (arith, c.loop-place-test.false, c.loop-place.auto.place-end) in
    let none = shared_whole c.shorter-len.result c.args.olds.now c.args.news.now c.shorter-len.ensures.whole in
    sym (c.loop-place.invariant ∙ ap (λ n. n + common_prefix_len same_entry (drop n c.args.olds.now) (drop n c.args.news.now)) end ∙ ap (λ n. c.shorter-len.result + n) none ∙ zero c.shorter-len.result)
  where
    zero : (n : ℕ) → n + 0 ≡ n
    zero n = omega arith
