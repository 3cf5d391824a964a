-- Values that are bound to distinct fields in declared order are the fields' values as they stand.
use Rattle.std.proofs.Common.{◌≡◌, suc, Bool, true, false, not, List, [], ◌∷◌, length, Some, option_map, option_and_then, refl, sym, ap, ◌∙◌, arith}
use Rattle.std.specs.Str.{bytes_eq}
use Rattle.std.proofs.lemmas.Bool.{false≢true}
use Rattle.std.proofs.lemmas.Slice.Eq.{bytes_eq-Decides}
use Rattle.base_bytes.proofs.Bools.{and_then}
use Rattle.base_bytes.specs.declared.value.Value.{Value}
use Rattle.policy_expressions.proofs.DistinctFacts.{other_way}
use Rattle.policy_expressions.specs.working.Places.{are_same}
use Rattle.policy_meaning.specs.Environments.{Env, bound, value_in}
use Rattle.policy_meaning.specs.Values.{in_order}
use Rattle.policy_rules.specs.FieldLists.{are_distinct}
use Rattle.policy_rules.specs.Names.{Name, is_among}
use Rattle.policy_rules.specs.Scopes.{names_in}
use Rattle.policy_rules.specs.declared.types.Named.{Named}

isnt : (b : Bool) → not b ≡ true → b ≡ false
isnt false is = refl
isnt true is = absurd (false≢true is)

-- a value that is bound to none of the names changes nothing
unasked : (n : Name) (v : Value) (names : List Name) (env : Env) → is_among n names ≡ false → in_order names (record { name = n; value = v } ∷ env) ≡ in_order names env
unasked n v [] env none = refl
unasked n v (m ∷ names) env none = by (bytes_eq n m) refl (unasked n v names env)
  where
    by : (b : Bool) → bytes_eq n m ≡ b → (is_among n names ≡ false → in_order names (record { name = n; value = v } ∷ env) ≡ in_order names env)
        → in_order (m ∷ names) (record { name = n; value = v } ∷ env) ≡ in_order (m ∷ names) env
    by true same more = absurd (false≢true (sym none ∙ rw same refl))
    by false differs more =
        let rest : is_among n (m ∷ names) ≡ is_among n names = rw differs refl in
        rw (other_way n m differs) (ap (λ o. option_and_then (λ w. option_map (λ values. w ∷ values) o) (value_in env m)) (more (sym rest ∙ none)))

in_place : (names : List Name) (values : List Value) → are_distinct names ≡ true → length values ≡ length names → in_order names (bound names values) ≡ Some values
in_place [] [] distinct sized = refl
in_place [] (v ∷ values) distinct sized = absurd (omega (arith, sized))
in_place (n ∷ names) [] distinct sized = absurd (omega (arith, sized))
in_place (n ∷ names) (v ∷ values) distinct sized =
    and_then (not (is_among n names)) (are_distinct names) distinct
    (λ none more. rw ((bytes_eq-Decides n n).1 refl) (ap (option_map (λ values. v ∷ values)) (unasked n v names (bound names values) (isnt (is_among n names) none) ∙ in_place names values more (omega (arith, sized)))))

same_names : (names others : List Name) → are_same names others ≡ true → others ≡ names
same_names [] [] is = refl
same_names [] (m ∷ others) is = absurd (false≢true is)
same_names (n ∷ names) [] is = absurd (false≢true is)
same_names (n ∷ names) (m ∷ others) is =
    and_then (bytes_eq n m) (are_same names others) is
    (λ first more. ap (λ name. name ∷ others) (sym ((bytes_eq-Decides n m).0 first)) ∙ ap (λ rest. n ∷ rest) (same_names names others more))

pub as_they_stand : (names others : List Name) (values : List Value) → are_distinct names ≡ true → length values ≡ length names → are_same names others ≡ true
    → in_order names (bound others values) ≡ Some values
as_they_stand names others values distinct sized same =
    ap (λ others. in_order names (bound others values)) (same_names names others same) ∙ in_place names values distinct sized

pub names_length : (fields : List Named) → length (names_in fields) ≡ length fields
names_length [] = refl
names_length (f ∷ fields) = ap suc (names_length fields)
