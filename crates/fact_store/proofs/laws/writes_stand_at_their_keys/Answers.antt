use Rattle.fact_store.proofs.RowLaws.{create_stands, delete_stands, update_stands}
use Rattle.fact_store.proofs.laws.writes_stand_at_their_keys.Goals as goal

pub returns : goal.returns
returns c = record { create = λ row rows are base. create_stands row are rows base; update = update_stands; delete = delete_stands }
