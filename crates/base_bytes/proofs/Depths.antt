-- How many structs nest in a value.
use Rattle.std.proofs.Common.{ℕ, suc}
use Rattle.base_bytes.specs.declared.value.Value.{Value, fold-Value}
use Rattle.base_bytes.specs.declared.value.Value.TheOpen.{Value-F}
use Rattle.base_bytes.proofs.Rooms.{greatest}

abbrev pub depth_layer : Value-F ℕ → ℕ
depth_layer (Value-F.Struct item fields) = suc (greatest (λ n. n) fields)
depth_layer (Value-F.Some inner) = inner
depth_layer _ = 0

abbrev pub depth : Value → ℕ
depth = fold-Value ℕ depth_layer
