use Rattle.fact_store.proofs.RowLaws.{create_leaves, delete_leaves, update_leaves}
use Rattle.fact_store.proofs.laws.writes_leave_other_rows.Goals as goal

pub returns : goal.returns
returns c = record { create = λ test row rows are base lacks. create_leaves row are test rows base lacks; update = update_leaves; delete = delete_leaves }
