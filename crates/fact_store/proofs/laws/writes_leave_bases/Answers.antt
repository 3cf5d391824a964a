use Rattle.fact_store.proofs.RowLaws.{create_leaves_base, delete_leaves_base, update_leaves_base}
use Rattle.fact_store.proofs.laws.writes_leave_bases.Goals as goal

pub returns : goal.returns
returns c = record { create = create_leaves_base; update = update_leaves_base; delete = delete_leaves_base }
