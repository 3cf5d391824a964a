use Rattle.std.proofs.Common.{ap, is_eq, sym, ◌∙◌}
use Rattle.std.specs.Cmp.{tied_itself}
use Rattle.base_bytes.specs.KeyOrder.{key_order}
use Rattle.fact_store.specs.working.Orders.{key_order_total}
use Rattle.fact_store.proofs.Places.{key_ties}
use Rattle.fact_store.proofs.Sameness.{same_value_decides}
use Rattle.fact_store.proofs.laws.sameness_is_equality.Goals as goal

pub returns : goal.returns
returns c = record {
  values = same_value_decides;
  keys = λ key other may. (
    λ tied. (same_value_decides key other).0 (sym (key_ties key other may) ∙ ap is_eq tied),
    λ same. ap (key_order key) (sym same) ∙ tied_itself key_order_total key,
  );
}
