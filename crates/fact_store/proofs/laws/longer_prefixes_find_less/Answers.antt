use Rattle.fact_store.proofs.RowLaws.{prefixes}
use Rattle.fact_store.proofs.laws.longer_prefixes_find_less.Goals as goal

pub returns : goal.returns
returns c = prefixes
