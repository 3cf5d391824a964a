use Rattle.std.proofs.Common.{◌≤◌, ◌+◌, sym, ◌∙◌, arith, ap, length}
use Rattle.policy_ast.specs.Fences.{blocks_from}
use Rattle.policy_lex.proofs.BlockSteps.{blocks_more, blocks_until, no_blocks, with_no_more, with_one_more, with_plain}
use Rattle.policy_lex.proofs.LineNumbers.{number_counted}
use Rattle.policy_lex.proofs.blocks.policy_blocks.Goals as goal
use Rattle.policy_lex.proofs.blocks.policy_blocks.Goals.{in-Block+in_ok-push_block-in-Block, in-Other}

pub loop-place-preserved : goal.loop-place-preserved
loop-place-preserved c =
    let document = c.args.document.now in
    let place = c.loop-place.place in
    elim c.match-part_at.branch [
      | in-Block+in_ok-push_block-in-Block w ↦
          let places = w.in-Block.ensures.places in
          let after : place ≤ w.in-Block.next = omega (arith, places.0, places.1, places.2) in
          let before : place ≤ w.in-Block.from = omega (arith, places.0) in
          let line = c.loop-place.number + w.line_feeds.result in
          record {
            rest = rw (w.blocks-is, w.next-is, w.in_ok-push_block-in-Block.ensures)
                (with_one_more c.loop-place.blocks (record { from = w.in-Block.from; to = w.in-Block.to; line = line }) _
                ∙ ap (with_plain c.loop-place.blocks) (sym w.in-Block.ensures.blocks ∙ sym (ap (blocks_from 0 document) c.line_at-line.ensures.line))
                ∙ c.loop-place.invariant.rest);
            number = number_counted document place c.match-part_at.next _ _ (rw w.next-is after) c.loop-place.invariant.number c.line_feeds-number-in-loop-place.ensures.count;
            places = rw (w.blocks-is, w.next-is, w.in_ok-push_block-in-Block.ensures)
                (blocks_until document c.args.start _ w.in-Block.to w.in-Block.next (omega (arith, places.2))
                (blocks_more document c.args.start c.loop-place.blocks place (record { from = w.in-Block.from; to = w.in-Block.to; line = line }) c.loop-place.invariant.places
                (record {
                  behind = before;
                  ordered = places.1;
                  within = omega (arith, places.2, places.3);
                  line = number_counted document place w.in-Block.from _ _ before c.loop-place.invariant.number w.line_feeds.ensures.count;
                })));
            within = rw w.next-is places.3;
          }
      | in-Other w ↦
          let places = w.in-Other.ensures.places in
          let after : place ≤ w.in-Other.next = omega (arith, places.0) in
          record {
            rest = rw (w.blocks-is, w.next-is)
                (ap (with_plain c.loop-place.blocks) (sym w.in-Other.ensures.blocks ∙ sym (ap (blocks_from 0 document) c.line_at-line.ensures.line)) ∙ c.loop-place.invariant.rest);
            number = number_counted document place c.match-part_at.next _ _ (rw w.next-is after) c.loop-place.invariant.number c.line_feeds-number-in-loop-place.ensures.count;
            places = rw (w.blocks-is, w.next-is) (blocks_until document c.args.start c.loop-place.blocks place w.in-Other.next after c.loop-place.invariant.places);
            within = rw w.next-is places.1;
          }
    ]

pub returns-clause-blocks : goal.returns-clause-blocks
returns-clause-blocks c =
    sym c.loop-place.invariant.rest
    ∙ ap (with_plain c.loop-place.blocks) (no_blocks c.args.document.now c.loop-place.place (omega arith))
    ∙ with_no_more c.loop-place.blocks

pub returns-in-Open-clause-places : goal.returns-in-Open-clause-places
returns-in-Open-clause-places c =
    blocks_until c.args.document.now c.args.start c.loop-place.blocks c.loop-place.place (length c.args.document.now) c.loop-place.invariant.within c.loop-place.invariant.places
