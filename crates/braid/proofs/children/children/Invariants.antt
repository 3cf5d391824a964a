use Rattle.std.proofs.Common.{◌≡◌, ℕ, length, get_or, take}
use Rattle.braid.specs.working.Links.{listed_links, sum_of, times}
use Rattle.braid.proofs.children.children.Given as goal

abbrev pub invariant-loop-them : goal.invariant-loop-them
invariant-loop-them l = record {
  length : length l.children.items ≡ length l.links;
  counted : (k : ℕ) → get_or l.children.items k 0 ≡ sum_of (λ them. times k (listed_links them)) (take l.them-index l.links);
}
