-- The test of equal values decides equality.
use Rattle.std.proofs.Common.{◌≡◌, Bool, ◌&&◌, List, [], ◌∷◌, map, refl, sym, ap, subst, ◌∙◌}
use Rattle.std.proofs.lemmas.Bool.{false≢true}
use Rattle.std.specs.Bool.{Decides}
use Rattle.std.specs.Cmp.{booleans_Decides, first_so, second_so, signed_Decides, unsigned_Decides}
use Rattle.std.specs.Cmp.Lexicographic.{bytes_decides, pointwise, pointwise_decides}
use Rattle.base_bytes.specs.declared.value.Value.{Value, out-Value, roll-Value, out-roll-Value, roll-out-Value, fold-roll-Value, map-Value, ind-Value}
use Rattle.base_bytes.specs.declared.value.Value.TheOpen.{Value-F}
use Rattle.fact_store.specs.Sameness.{same_layer, same_value, same_values}

-- the test of this value decides equality with it
abbrev IsDecided : Value → Type 0
IsDecided value = (other : Value) → Decides (same_value value other) (value ≡ other)

abbrev Child : Type 0
Child = (value : Value) × IsDecided value

-- the layer as values, and as their tests
abbrev plain : Value-F Child → Value-F Value
plain layer = map-Value Child Value (λ e. e.0) layer

abbrev tests : Value-F Child → Value-F (Value → Bool)
tests layer = map-Value Value (Value → Bool) same_value (plain layer)

-- a test that decides equality decides it through a constructor
pub through : {A : Type 0} (test : Bool) (a b : A) (make : A → Value-F Value) → ((a b : A) → make a ≡ make b → a ≡ b) → Decides test (a ≡ b) → Decides test (make a ≡ make b)
through test a b make inject decides = (λ is. ap make (decides.0 is), λ is. decides.1 (inject a b is))

pub both : {A B : Type 0} (s t : Bool) (a c : A) (b d : B) (make : A → B → Value-F Value) → ((a c : A) (b d : B) → make a b ≡ make c d → (a ≡ c) × (b ≡ d)) → Decides s (a ≡ c) → Decides t (b ≡ d) → Decides (s && t) (make a b ≡ make c d)
both s t a c b d make inject first second =
    (λ is. (λ i. make (first.0 (first_so s t is) i) (second.0 (second_so s t is) i)), λ is. let e = inject a c b d is in rw (first.1 e.0, second.1 e.1) refl)

children : (fields : List Child) (others : List Value) → Decides (pointwise (λ test field. test field) (map same_value (map (λ e. e.0) fields)) others) (map (λ e. e.0) fields ≡ others)
children [] [] = (λ is. refl, λ is. refl)
children [] (other ∷ others) = (λ is. absurd (false≢true is), λ is. absurd (cc))
children (field ∷ fields) [] = (λ is. absurd (false≢true is), λ is. absurd (cc))
children (field ∷ fields) (other ∷ others) =
    let s = same_value field.0 other in
    let t = pointwise (λ (test : Value → Bool) (f : Value). test f) (map same_value (map (λ (e : Child). e.0) fields)) others in (
      λ is. (λ i. (field.1 other).0 (first_so s t is) i ∷ (children fields others).0 (second_so s t is) i),
      λ is. let here : field.0 ≡ other = cc in let more : map (λ (e : Child). e.0) fields ≡ others = cc in rw ((field.1 other).1 here, (children fields others).1 more) refl,
    )

layers : (layer : Value-F Child) (other : Value-F Value) → Decides (same_layer (tests layer) other) (plain layer ≡ other)
layers (Value-F.Int m) (Value-F.Int n) = through _ m n Value-F.Int (λ a b is. cc) (signed_Decides m n)
layers (Value-F.Bool a) (Value-F.Bool b) = through _ a b Value-F.Bool (λ a b is. cc) (booleans_Decides a b)
layers (Value-F.Str s) (Value-F.Str t) = through _ s t Value-F.Str (λ a b is. cc) (bytes_decides s t)
layers (Value-F.Raw s) (Value-F.Raw t) = through _ s t Value-F.Raw (λ a b is. cc) (bytes_decides s t)
layers (Value-F.Ident s) (Value-F.Ident t) = through _ s t Value-F.Ident (λ a b is. cc) (bytes_decides s t)
layers (Value-F.Enum item ordinal) (Value-F.Enum other place) =
    both _ _ item other ordinal place Value-F.Enum (λ a c b d is. (cc, cc)) (unsigned_Decides item other) (unsigned_Decides ordinal place)
layers (Value-F.Struct item fields) (Value-F.Struct other others) =
    both _ _ item other (map (λ e. e.0) fields) others Value-F.Struct (λ a c b d is. (cc, cc)) (unsigned_Decides item other) (children fields others)
layers Value-F.Nothing Value-F.Nothing = (λ is. refl, λ is. refl)
layers (Value-F.Some inner) (Value-F.Some other) = through _ inner.0 other Value-F.Some (λ a b is. cc) (inner.1 other)
layers layer other = (λ is. absurd (false≢true is), λ is. absurd (cc))

step : (layer : Value-F Child) → IsDecided (roll-Value (plain layer))
step layer other =
    let is_layer : same_value (roll-Value (plain layer)) other ≡ same_layer (tests layer) (out-Value other) = ap (λ (test : Value → Bool). test other) (fold-roll-Value (Value → Bool) (λ l o. same_layer l (out-Value o)) (plain layer)) in
    let decides = layers layer (out-Value other) in
    (λ is. ap roll-Value (decides.0 (sym is_layer ∙ is)) ∙ roll-out-Value other, λ is. is_layer ∙ decides.1 (sym (out-roll-Value (plain layer)) ∙ ap out-Value is))

pub same_value_decides : (value other : Value) → Decides (same_value value other) (value ≡ other)
same_value_decides = ind-Value IsDecided (λ x y is. subst (λ z. IsDecided (roll-Value z)) is (step y))

pub same_values_decide : (values others : List Value) → Decides (same_values values others) (values ≡ others)
same_values_decide = pointwise_decides same_value_decides
