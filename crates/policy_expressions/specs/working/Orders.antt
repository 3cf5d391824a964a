-- The orders of numbers.
use Rattle.std.specs.Prelude.{ℤ, int_lt, int_le, Bool, false}
use Rattle.policy_ast.specs.declared.expr.Comparison.{Comparison}
use Rattle.policy_ast.specs.declared.expr.Comparison.TheVariants as comparison

-- Two numbers are in the order that a comparison asks for; the two that are no orders ask for none.
abbrev pub order_of : Comparison → ℤ → ℤ → Bool
order_of comparison.Equal m n = false
order_of comparison.NotEqual m n = false
order_of comparison.Less m n = int_lt m n
order_of comparison.LessOrEqual m n = int_le m n
order_of comparison.Greater m n = int_lt n m
order_of comparison.GreaterOrEqual m n = int_le n m
