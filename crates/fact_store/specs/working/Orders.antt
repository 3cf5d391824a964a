-- Fact order is an order: the laws that a map of std asks of its keys.
use Rattle.std.specs.Prelude.{◌≡◌, ℕ, ℤ, pos, Bool, true, false, List, [], ◌∷◌, refl}
use Rattle.std.proofs.Common.{ap, subst}
use Rattle.std.specs.declared.cmp.Ordering.{Ordering}
use Rattle.std.specs.declared.cmp.Ordering.TheVariants.{Less, Equal, Greater}
use Rattle.std.specs.Ordering.{nat_cmp, int_cmp, on, then_cmp, ordering_then}
use Rattle.std.specs.Cmp.{IsTotalOrder, on_total, then_total, nat_cmp_total, int_cmp_total}
use Rattle.std.specs.Cmp.Lexicographic.{slice_cmp, lists_total, nat_list_cmp_total}
use Rattle.base_bytes.specs.declared.value.Value.{Value, out-Value}
use Rattle.base_bytes.specs.declared.value.Value.TheOpen.{Value-F}
use Rattle.base_bytes.specs.KeyOrder.{layer_order, key_order, keys_order}
use Rattle.fact_store.specs.declared.wanted.Wanted.{Wanted}
use Rattle.fact_store.specs.Rows.{place_order}

-- What a value is ordered by: the place of its variant, then whichever of the others the variant has.
record Rank : Type 0 where
  place : ℕ
  number : ℤ
  bytes : List ℕ
  item : ℕ
  ordinal : ℕ

abbrev plain : ℕ → Rank
plain place = record { place = place; number = pos 0; bytes = []; item = 0; ordinal = 0 }

abbrev truth : Bool → ℕ
truth true = 1
truth false = 0

abbrev rank : Value-F Value → Rank
rank (Value-F.Int n) = record { place = 0; number = n; bytes = []; item = 0; ordinal = 0 }
rank (Value-F.Bool b) = record { place = 1; number = pos 0; bytes = []; item = truth b; ordinal = 0 }
rank (Value-F.Str text) = record { place = 2; number = pos 0; bytes = text; item = 0; ordinal = 0 }
rank (Value-F.Raw bytes) = record { place = 3; number = pos 0; bytes = bytes; item = 0; ordinal = 0 }
rank (Value-F.Ident id) = record { place = 4; number = pos 0; bytes = id; item = 0; ordinal = 0 }
rank (Value-F.Enum item ordinal) = record { place = 5; number = pos 0; bytes = []; item = item; ordinal = ordinal }
rank (Value-F.Struct item fields) = plain 6
rank Value-F.Nothing = plain 7
rank (Value-F.Some inner) = plain 8

abbrev rank_order : Rank → Rank → Ordering
rank_order =
    then_cmp (on (λ r. r.place) nat_cmp)
    (then_cmp (on (λ r. r.number) int_cmp) (then_cmp (on (λ r. r.bytes) (slice_cmp nat_cmp)) (then_cmp (on (λ r. r.item) nat_cmp) (on (λ r. r.ordinal) nat_cmp))))

rank_order_total : IsTotalOrder rank_order
rank_order_total =
    then_total (on_total (λ r. r.place) nat_cmp_total)
    (then_total (on_total (λ r. r.number) int_cmp_total) (then_total (on_total (λ r. r.bytes) nat_list_cmp_total) (then_total (on_total (λ r. r.item) nat_cmp_total) (on_total (λ r. r.ordinal) nat_cmp_total))))

then_equal : (o : Ordering) → ordering_then o Equal ≡ o
then_equal Less = refl
then_equal Equal = refl
then_equal Greater = refl

ranks : (a b : Value-F Value) → rank_order (rank a) (rank b) ≡ layer_order a b
ranks (Value-F.Int m) (Value-F.Int n) = then_equal (int_cmp m n)
ranks (Value-F.Bool true) (Value-F.Bool true) = refl
ranks (Value-F.Bool true) (Value-F.Bool false) = refl
ranks (Value-F.Bool false) (Value-F.Bool true) = refl
ranks (Value-F.Bool false) (Value-F.Bool false) = refl
ranks (Value-F.Str s) (Value-F.Str t) = then_equal (slice_cmp nat_cmp s t)
ranks (Value-F.Raw s) (Value-F.Raw t) = then_equal (slice_cmp nat_cmp s t)
ranks (Value-F.Ident s) (Value-F.Ident t) = then_equal (slice_cmp nat_cmp s t)
ranks (Value-F.Enum item ordinal) (Value-F.Enum other place) = refl
ranks (Value-F.Struct item fields) (Value-F.Int n) = refl
ranks Value-F.Nothing (Value-F.Int n) = refl
ranks (Value-F.Some inner) (Value-F.Int n) = refl
ranks a b = refl

layer_order_total : IsTotalOrder layer_order
layer_order_total = subst IsTotalOrder (λ i a b. ranks a b i) (on_total rank rank_order_total)

pub key_order_total : IsTotalOrder key_order
key_order_total = on_total out-Value layer_order_total

slices : (keys others : List Value) → slice_cmp key_order keys others ≡ keys_order keys others
slices [] [] = refl
slices [] (b ∷ others) = refl
slices (a ∷ keys) [] = refl
slices (a ∷ keys) (b ∷ others) = ap (ordering_then (key_order a b)) (slices keys others)

pub keys_order_total : IsTotalOrder keys_order
keys_order_total = subst IsTotalOrder (λ i keys others. slices keys others i) (lists_total key_order_total)

-- The order of queries: that of the places at which their rows begin.
abbrev pub wanted_order : Wanted → Wanted → Ordering
wanted_order wanted other = place_order wanted.fact wanted.keys other.fact other.keys

pub wanted_order_total : IsTotalOrder wanted_order
wanted_order_total = then_total (on_total (λ w. w.fact) nat_cmp_total) (on_total (λ w. w.keys) keys_order_total)
