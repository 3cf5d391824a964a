use Rattle.policy_heads.proofs.NameSets.{contained}
use Rattle.policy_heads.proofs.names.NameSet.contains.Goals as goal

pub returns : goal.returns
returns c = rw (c.contains.ensures, c.as_bytes.ensures.value, c.as_str.ensures.text, ← c.self.view_is) (contained c.args.name.now c.self.inside.names.keys)
