use Rattle.braid_run.proofs.PublishedFacts.{covered_behind, heads_cover, next_covers}
use Rattle.braid_run.proofs.laws.heads_cover_all.Goals as goal

pub returns : goal.returns
returns c = record { heads = heads_cover; next = next_covers; behind = covered_behind }
