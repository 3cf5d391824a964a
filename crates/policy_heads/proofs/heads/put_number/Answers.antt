use Rattle.std.proofs.Common.{◌∙◌, rules, Some}
use Rattle.std.proofs.lemmas.Map.Text.{btree_map_updates_str}
use Rattle.policy_heads.specs.working.Kept.{kept_number}
use Rattle.policy_heads.proofs.Numbers.{number_came}
use Rattle.policy_heads.proofs.heads.put_number.Goals as goal

pub returns-in_ok-insert : goal.returns-in_ok-insert
returns-in_ok-insert c = λ q.
    btree_map_updates_str c.as_bytes-name.result.now c.args.numbers.now c.insert.new.self (Some c.args.number) c.in_ok-insert.ensures.updates q
    ∙ number_came (kept_number c.args.numbers.now) c.args.item.now c.as_bytes-name.result.now q c.args.number (search rules) (search rules)
