use Rattle.fact_layers.proofs.Folds.{begun-replaces, newer-keyed}
use Rattle.fact_layers.proofs.folding.begun.Goals as goal

pub folded-requires : goal.folded-requires
folded-requires c = newer-keyed c.args.layers.now c.split_at.result.0.now c.split_at.result.1.now c.fold_count.result c.split_at.ensures.front c.split_at.ensures.back c.requires.keyed

pub returns : goal.returns
returns c =
    begun-replaces c.args.layers.now c.split_at.result.0.now c.split_at.result.1.now c.fold_count.result c.split_at.ensures.front c.split_at.ensures.back c.requires.keyed c.args.place c.args.said c.is_empty-is_lowest.result
    c.in_ok-newest.newest.entries c.put_in.new.layer c.in_ok-new.field-0 c.in_ok-next.next.items c.push.new.self.items c.share.new.next.items
    c.is_empty-is_lowest.ensures c.in_ok-newest.ensures c.in_ok-put_in.ensures.puts (c.in_ok-put_in.ensures.keyed c.requires.keys c.in_ok-newest.ensures.keyed) c.in_ok-new.ensures.ok c.in_ok-next.ensures.items c.in_ok-push.ensures.items c.in_ok-share.ensures
