use Rattle.fact_store.proofs.Telling.{told_by_places}
use Rattle.fact_store.proofs.laws.bases_are_told_by_places.Goals as goal

pub returns : goal.returns
returns c = told_by_places
