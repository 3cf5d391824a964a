use Rattle.std.proofs.Common.{◌≡◌, ◌∙◌, false, true, sym, rules}
use Rattle.braid_run.proofs.AboveFacts.{among_more, not_among}
use Rattle.braid_run.proofs.facts.are_among.Goals as goal

pub returns-then-not-contains : goal.returns-then-not-contains
returns-then-not-contains c =
    let missing : c.contains.result ≡ false = search rules in
    ((λ h. absurd cc), (λ all. absurd (not_among c.args.places.now c.args.others.now c.loop-place.place-index c.loop-place-test.true (sym c.contains.ensures.value ∙ missing) all)))

pub loop-place-preserved : goal.loop-place-preserved
loop-place-preserved c =
    let found : c.contains.result ≡ true = search rules in
    among_more c.args.places.now c.args.others.now c.loop-place.place-index c.loop-place-test.true (sym c.contains.ensures.value ∙ found) c.loop-place.invariant
