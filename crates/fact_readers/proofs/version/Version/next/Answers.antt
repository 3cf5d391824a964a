use Rattle.std.proofs.Common.{rules, ◌≡◌, ◌++◌, ◌∷◌, [], sym, ap, ◌∙◌}
use Rattle.fact_readers.specs.Changes.{committed, version}
use Rattle.fact_readers.proofs.Fronts.{next_is}
use Rattle.fact_readers.proofs.Versions.{version-more}
use Rattle.fact_readers.proofs.version.Version.next.Goals as goal

pub invariant_of-result : goal.invariant_of-result
invariant_of-result g c =
    let is = c.is_next.ensures (search rules) in
    let front : c.front-front.result.now ≡ c.self.inside.front ++ c.args.commit.now ∷ [] = next_is c.self.inside.front c.front-front.result.now c.args.commit.now is.0 is.1 c.front-front.ensures in
    let more : committed (version c.self.inside.front) c.args.commit.now ≡ version c.again.result = sym (version-more c.self.inside.front c.args.commit.now) ∙ ap version (sym (c.again.ensures ∙ front)) in
    rw (← more) (search rules)

pub returns : goal.returns
returns g c =
    let is = c.is_next.ensures (search rules) in
    let front : c.front-front.result.now ≡ c.self.inside.front ++ c.args.commit.now ∷ [] = next_is c.self.inside.front c.front-front.result.now c.args.commit.now is.0 is.1 c.front-front.ensures in
    c.again.ensures ∙ (front ∙ ap (λ zs. zs ++ c.args.commit.now ∷ []) c.self.view_is)
