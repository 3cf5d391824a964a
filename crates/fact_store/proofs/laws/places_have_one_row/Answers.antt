use Rattle.fact_store.proofs.RowLaws.{one_row}
use Rattle.fact_store.proofs.laws.places_have_one_row.Goals as goal

pub returns : goal.returns
returns c = one_row
