-- The order of rows by their places, and that it ties the rows of the same fact and keys alone.
use Rattle.std.proofs.Common.{◌≡◌, Bool, true, false, ◌&&◌, ◌==◌, List, [], ◌∷◌, Ordering, Less, Equal, Greater, is_eq, is_lt, nat_cmp, refl, sym, ap, subst, ◌∙◌}
use Rattle.std.proofs.lemmas.Bool.{and_parts, false≢true}
use Rattle.std.specs.Bool.{Decides, one_answer}
use Rattle.std.specs.Cmp.{IsTotalOrder, nat_cmp_total, on_total, signed_Decides, then_total, unsigned_Decides, unsigned_ties}
use Rattle.std.specs.Cmp.Lexicographic.{bytes_decides, texts_ties}
use Rattle.std.specs.Ordering.{ordering_reverse, ordering_then}
use Rattle.base_bytes.specs.KeyOrder.{is_key, is_key_layer, key_order, keys_order, layer_order}
use Rattle.base_bytes.specs.declared.value.Value.{Value, out-Value, roll-Value, roll-out-Value}
use Rattle.base_bytes.specs.declared.value.Value.TheOpen.{Value-F}
use Rattle.fact_store.specs.declared.row.Row.{Row}
use Rattle.fact_store.specs.Matching.{is_at}
use Rattle.fact_store.specs.working.Orders.{keys_order_total}
use Rattle.fact_store.specs.Rows.{are_keys, is_before, place_order}
use Rattle.fact_store.specs.Sameness.{same_value, same_values}
use Rattle.fact_store.proofs.Sameness.{both, same_value_decides, through}

pub Less-is : (o : Ordering) → is_lt o ≡ true → o ≡ Less
Less-is Less is = refl
Less-is Equal is = absurd (false≢true is)
Less-is Greater is = absurd (false≢true is)

-- ---- keys

eq_then : (o p : Ordering) → is_eq (ordering_then o p) ≡ (is_eq o && is_eq p)
eq_then Less p = refl
eq_then Equal p = refl
eq_then Greater p = refl

abbrev Ties : Value-F Value → Value-F Value → Bool → Type 0
Ties a b test = Decides test (a ≡ b)

layer_ties : (a b : Value-F Value) → is_key_layer a ≡ true → Decides (is_eq (layer_order a b)) (a ≡ b)
layer_ties (Value-F.Int m) (Value-F.Int n) key = through _ m n Value-F.Int (λ a b is. cc) (signed_Decides m n)
layer_ties (Value-F.Bool true) (Value-F.Bool true) key = (λ is. refl, λ is. refl)
layer_ties (Value-F.Bool true) (Value-F.Bool false) key = (λ is. absurd (false≢true is), λ is. absurd (cc))
layer_ties (Value-F.Bool false) (Value-F.Bool true) key = (λ is. absurd (false≢true is), λ is. absurd (cc))
layer_ties (Value-F.Bool false) (Value-F.Bool false) key = (λ is. refl, λ is. refl)
layer_ties (Value-F.Str s) (Value-F.Str t) key = through _ s t Value-F.Str (λ a b is. cc) (subst (λ b. Decides b (s ≡ t)) (texts_ties s t) (bytes_decides s t))
layer_ties (Value-F.Raw s) (Value-F.Raw t) key = through _ s t Value-F.Raw (λ a b is. cc) (subst (λ b. Decides b (s ≡ t)) (texts_ties s t) (bytes_decides s t))
layer_ties (Value-F.Ident s) (Value-F.Ident t) key = through _ s t Value-F.Ident (λ a b is. cc) (subst (λ b. Decides b (s ≡ t)) (texts_ties s t) (bytes_decides s t))
layer_ties (Value-F.Enum item ordinal) (Value-F.Enum other place) key =
    let tied = both _ _ item other ordinal place Value-F.Enum (λ a c b d is. (cc, cc)) (unsigned_Decides item other) (unsigned_Decides ordinal place) in
    let tests : ((item == other) && (ordinal == place)) ≡ is_eq (ordering_then (nat_cmp item other) (nat_cmp ordinal place)) =
    (λ i. unsigned_ties item other i && unsigned_ties ordinal place i) ∙ sym (eq_then (nat_cmp item other) (nat_cmp ordinal place)) in
    subst (Ties (Value-F.Enum item ordinal) (Value-F.Enum other place)) tests tied
layer_ties (Value-F.Struct item fields) b key = absurd (false≢true key)
layer_ties Value-F.Nothing b key = absurd (false≢true key)
layer_ties (Value-F.Some inner) b key = absurd (false≢true key)
layer_ties a b key = (λ is. absurd (false≢true is), λ is. absurd (cc))

-- the order ties a key with itself alone
pub key_ties : (key other : Value) → is_key key ≡ true → is_eq (key_order key other) ≡ same_value key other
key_ties key other is =
    let tied = layer_ties (out-Value key) (out-Value other) is in
    one_answer _ _ (λ e. sym (roll-out-Value key) ∙ ap roll-Value (tied.0 e) ∙ roll-out-Value other, λ e. tied.1 (ap out-Value e)) (same_value_decides key other)

pub keys_tie : (keys others : List Value) → are_keys keys ≡ true → is_eq (keys_order keys others) ≡ same_values keys others
keys_tie [] [] are = refl
keys_tie [] (other ∷ others) are = refl
keys_tie (key ∷ keys) [] are = refl
keys_tie (key ∷ keys) (other ∷ others) are =
    let parts = and_parts (is_key key) (are_keys keys) are in
    eq_then (key_order key other) (keys_order keys others) ∙ (λ i. key_ties key other parts.0 i && keys_tie keys others parts.1 i)

-- ---- rows

abbrev pub row_order : Row → Row → Ordering
row_order row other = place_order row.fact row.keys other.fact other.keys

pub row_order_total : IsTotalOrder row_order
row_order_total = then_total (on_total (λ r. r.fact) nat_cmp_total) (on_total (λ r. r.keys) keys_order_total)

-- the order ties a row with those of its fact and keys alone
pub row_ties : (row other : Row) → are_keys row.keys ≡ true → is_eq (row_order row other) ≡ is_at row.fact row.keys other
row_ties row other are = eq_then (nat_cmp row.fact other.fact) (keys_order row.keys other.keys) ∙ (λ i. sym (unsigned_ties row.fact other.fact) i && keys_tie row.keys other.keys are i)

pub before_trans : (a b c : Row) → is_before a b ≡ true → is_before b c ≡ true → is_before a c ≡ true
before_trans a b c first second = ap is_lt (row_order_total.trans a b c (Less-is _ first) (Less-is _ second))

-- a row behind another doesn't stand before it
pub not_before : (a b : Row) → is_before a b ≡ true → is_before b a ≡ false
not_before a b is = ap is_lt (row_order_total.antisymm b a ∙ ap ordering_reverse (Less-is _ is))

pub before_from_Greater : (a b : Row) → row_order a b ≡ Greater → is_before b a ≡ true
before_from_Greater a b is = ap is_lt (row_order_total.antisymm b a ∙ ap ordering_reverse is)

-- what stands behind a row stands behind each row of the same place
pub behind_tied : (a b c : Row) → row_order a b ≡ Equal → is_before b c ≡ true → is_before a c ≡ true
behind_tied a b c tied is = ap is_lt (row_order_total.congr a b c tied) ∙ is

-- and isn't at that place
pub not_at : (a c : Row) → are_keys a.keys ≡ true → is_before a c ≡ true → is_at a.fact a.keys c ≡ false
not_at a c are is = sym (row_ties a c are) ∙ ap is_eq (Less-is _ is)
