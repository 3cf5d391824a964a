use Rattle.std.proofs.Common.{◌≡◌, ◌++◌, ◌<◌, ℕ, List, length, get_or, map, drop}
use Rattle.std.specs.List.{concat}
use Rattle.sync_codec.proofs.front.write_ids.Given as goal

abbrev pub invariant-loop-id : goal.invariant-loop-id
invariant-loop-id l = record {
  told : l.into ++ concat (map (λ id. id) (drop l.id-index l.ids)) ≡ l.initial.into ++ concat (map (λ id. id) l.ids);
  sizes : (d : List ℕ) (k : ℕ) → k < l.id-index → length (get_or l.ids k d) ≡ 32;
}
