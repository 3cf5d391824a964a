-- What operations give, computed on small values.
use Rattle.std.proofs.Common.{◌≡◌, ℤ, pos, negsuc, ◌^◌, ◌-◌, refl, ap, Some, true}
use Rattle.base_bytes.specs.declared.value.Value.{Value}
use Rattle.base_bytes.specs.declared.value.Value.TheVariants as value
use Rattle.fact_store.proofs.Sameness.{same_value_decides}
use Rattle.policy_ast.specs.declared.expr.Arithmetic.TheVariants as arithmetic
use Rattle.policy_ast.specs.declared.expr.Comparison.TheVariants as comparison
use Rattle.policy_meaning.specs.Values.{calculated, comparison_value}

greatest : ℤ
greatest = pos (2 ^ 63 - 1)

least : ℤ
least = negsuc (2 ^ 63 - 1)

sum_in_range : calculated arithmetic.Add (pos 2) (negsuc 2) ≡ value.Some (value.Int (negsuc 0))
sum_in_range = refl

sum_out_of_range : calculated arithmetic.Add greatest (pos 1) ≡ value.Nothing
unfolding greatest
sum_out_of_range = refl

difference_out_of_range : calculated arithmetic.Sub least (pos 1) ≡ value.Nothing
unfolding least
difference_out_of_range = refl

least_is_in_range : calculated arithmetic.Sub (negsuc (2 ^ 63 - 2)) (pos 1) ≡ value.Some (value.Int least)
unfolding least
least_is_in_range = refl

sum_stops_at_the_end : calculated arithmetic.SaturatingAdd greatest (pos 1) ≡ value.Int greatest
unfolding greatest
sum_stops_at_the_end = refl

difference_stops_at_the_end : calculated arithmetic.SaturatingSub least (pos 1) ≡ value.Int least
unfolding least
difference_stops_at_the_end = refl

-- Equality is equality of values.
equal_values : (v w : Value) → v ≡ w → comparison_value comparison.Equal v w ≡ Some (value.Bool true)
equal_values v w is = ap (λ b. Some (value.Bool b)) ((same_value_decides v w).1 is)
