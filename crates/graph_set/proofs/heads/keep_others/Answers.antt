use Rattle.std.proofs.Common.{rules, arith}
use Rattle.std.proofs.lemmas.Fn.{filter_same}
use Rattle.graph_set.proofs.heads.keep_others.Goals as goal

pub returns : goal.returns
returns c = record { items = filter_same _ _ _ (λ x b f' k. search rules) _ _ c.retain.ensures.filtered; capacity = omega (arith, c.retain.ensures.capacity) }
