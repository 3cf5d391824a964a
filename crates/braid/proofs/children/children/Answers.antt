use Rattle.std.proofs.Common.{◌<◌, None, length, get_or, subst, sym, ◌∙◌, arith}
use Rattle.std.specs.List.{All}
use Rattle.braid.specs.declared.closure.Links.{Links}
use Rattle.braid.specs.working.Links.{listed}
use Rattle.braid.proofs.Linking.{also, count_small, counted_more, left_within, one_few, right_within}
use Rattle.braid.proofs.children.children.Goals as goal

pub add_child-requires : goal.add_child-requires
add_child-requires c =
    let links = c.args.links.now in
    let i = c.loop-them.them-index in
    let now = c.loop-them.children.items in
    let them : Links = get_or links i (record { left = None; right = None }) in
    let inside = left_within (length links) them (c.requires.within i (record { left = None; right = None }) c.loop-them-test.true) in
    also (λ k. k < length now) (λ k. get_or now k 0 < 4294967296) (listed them.left) (subst (λ n. All (λ k. k < n) (listed them.left)) (sym c.loop-them.invariant.length) inside)
    (λ k. let small = count_small links i c.requires.few k (get_or now k 0) (c.loop-them.invariant.counted k) in omega (arith, small))

pub add_child-requires-in-loop-them : goal.add_child-requires-in-loop-them
add_child-requires-in-loop-them c =
    let links = c.args.links.now in
    let i = c.loop-them.them-index in
    let now = c.add_child.new.children.items in
    let them : Links = get_or links i (record { left = None; right = None }) in
    let inside = right_within (length links) them (c.requires.within i (record { left = None; right = None }) c.loop-them-test.true) in
    also (λ k. k < length now) (λ k. get_or now k 0 < 4294967296) (listed them.right) (subst (λ n. All (λ k. k < n) (listed them.right)) (sym (c.add_child.ensures.length ∙ c.loop-them.invariant.length)) inside)
    (λ k. one_few k (get_or c.loop-them.children.items k 0) (get_or now k 0) them.left (count_small links i c.requires.few k (get_or c.loop-them.children.items k 0) (c.loop-them.invariant.counted k)) (c.add_child.ensures.counted k))

pub loop-them-preserved : goal.loop-them-preserved
loop-them-preserved c = record {
  length = c.add_child-in-loop-them.ensures.length ∙ c.add_child.ensures.length ∙ c.loop-them.invariant.length;
  counted = λ k.
      counted_more c.args.links.now c.loop-them.them-index (record { left = None; right = None }) c.loop-them-test.true k (get_or c.loop-them.children.items k 0) (get_or c.add_child.new.children.items k 0)
      (get_or c.add_child-in-loop-them.new.children.items k 0) (c.loop-them.invariant.counted k) (c.add_child.ensures.counted k) (c.add_child-in-loop-them.ensures.counted k);
}
