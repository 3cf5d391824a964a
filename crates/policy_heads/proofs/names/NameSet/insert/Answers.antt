use Rattle.std.proofs.Common.{◌∙◌, ap, not, refl}
use Rattle.policy_heads.proofs.NameSets.{among_inserted, contained}
use Rattle.policy_heads.proofs.names.NameSet.insert.Goals as goal

pub returns-clause-is_new : goal.returns-clause-is_new
returns-clause-is_new c =
    c.in_ok-insert.ensures.added ∙ rw (c.as_bytes.ensures.value, c.as_str.ensures.text, ← c.self.view_is) (ap not (contained c.args.name.now c.self.inside.names.keys))

pub returns-clause-added : goal.returns-clause-added
returns-clause-added c = λ q.
    rw c.in_ok-insert.ensures.keys (among_inserted c.as_bytes.result q c.self.inside.names.keys ∙ rw (c.as_bytes.ensures.value, c.as_str.ensures.text, ← c.self.view_is) refl)
