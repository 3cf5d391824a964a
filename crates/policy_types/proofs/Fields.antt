-- Values that are given for names: those of fields, of parameters and of a scope.
use Rattle.std.proofs.Common.{◌≡◌, Bool, true, false, cond, not, ◌&&◌, ◌||◌, List, [], ◌∷◌, ◌++◌, map, Option, Some, None, refl, sym, ap, subst, ◌∙◌}
use Rattle.std.proofs.lemmas.Bool.{false≢true}
use Rattle.std.proofs.lemmas.Option.{same_Some}
use Rattle.std.proofs.lemmas.Slice.Eq.{bytes_eq-Decides}
use Rattle.std.specs.List.{list_all}
use Rattle.std.specs.Str.{bytes_eq}
use Rattle.base_bytes.proofs.Bools.{and_then, and_both}
use Rattle.base_bytes.specs.Values.{has_type, hold_in_order}
use Rattle.base_bytes.specs.declared.ty.Ty.{Ty}
use Rattle.base_bytes.specs.declared.value.Value.{Value}
use Rattle.policy_ast.specs.declared.field.Field.{Field}
use Rattle.policy_ast.specs.declared.item.Item.{Item}
use Rattle.policy_meaning.specs.Environments.{Env, bound, bound_parameters, value_in, with_value}
use Rattle.policy_meaning.specs.Values.{in_order, value_named}
use Rattle.policy_rules.specs.FieldLists.{are_distinct, arguments_fit, fit_fields, fits_some, in_any_order, in_declared_order}
use Rattle.policy_rules.specs.Names.{Name, is_among}
use Rattle.policy_rules.specs.Scopes.{Scope, names_in, type_in, with_name}
use Rattle.policy_rules.specs.Shapes.{field_value_types, shapes_of, value_type_of}
use Rattle.policy_rules.specs.Types.{declared, fits, written_type}
use Rattle.policy_rules.specs.declared.types.Named.{Named}
use Rattle.policy_rules.specs.declared.types.NamedType.{NamedType}
use Rattle.policy_types.proofs.Fitting.{widens}
use Rattle.policy_types.specs.Fitting.{AreOf, Fits, IsOf, types_of}

pub same_name : (a b : Name) → bytes_eq a b ≡ true → a ≡ b
same_name a b is = (bytes_eq-Decides a b).0 is

pub name_same : (a b : Name) → a ≡ b → bytes_eq a b ≡ true
name_same a b is = (bytes_eq-Decides a b).1 is

module _ (items : List Item) where
  abbrev has : Value → Ty → Bool
  has = has_type (shapes_of items)

  abbrev value_types : List NamedType → List Ty
  value_types = map (value_type_of items)

  -- ---- values of types, one by one

  pub are_from_hold : (types : List NamedType) (values : List Value) → hold_in_order (map has values) (value_types types) ≡ true → AreOf items types values
  are_from_hold [] [] is = tt
  are_from_hold [] (v ∷ values) is = absurd (false≢true is)
  are_from_hold (t ∷ types) [] is = absurd (false≢true is)
  are_from_hold (t ∷ types) (v ∷ values) is = and_then (has v (value_type_of items t)) (hold_in_order (map has values) (value_types types)) is (λ one more. (one, are_from_hold types values more))

  pub hold_from_are : (types : List NamedType) (values : List Value) → AreOf items types values → hold_in_order (map has values) (value_types types) ≡ true
  hold_from_are [] [] are = refl
  hold_from_are [] (v ∷ values) are = absurd are
  hold_from_are (t ∷ types) [] are = absurd are
  hold_from_are (t ∷ types) (v ∷ values) are = and_both (has v (value_type_of items t)) (hold_in_order (map has values) (value_types types)) are.0 (hold_from_are types values are.1)

  pub field_types_are : (fields : List Field) → field_value_types items fields ≡ value_types (types_of (declared fields))
  field_types_are [] = refl
  field_types_are (f ∷ fields) = ap (λ types. value_type_of items (written_type f.field_type) ∷ types) (field_types_are fields)

  pub are_both : (types others : List NamedType) (values more : List Value) → AreOf items types values → AreOf items others more → AreOf items (types ++ others) (values ++ more)
  are_both [] others [] more are are_too = are_too
  are_both [] others (v ∷ values) more are are_too = absurd are
  are_both (t ∷ types) others [] more are are_too = absurd are
  are_both (t ∷ types) others (v ∷ values) more are are_too = (are.0, are_both types others values more are.1 are_too)

  -- ---- scopes and environments

  abbrev ValueIn : Env → Name → NamedType → Type 0
  ValueIn env name t = (v : Value) × (value_in env name ≡ Some v) × IsOf items t v

  named_step : (scope : Scope) (env : Env) (u : NamedType) (w : Value) (name : Name) (t : NamedType) → (type_in scope name ≡ Some t → ValueIn env name t) → IsOf items u w → (b c : Bool) → b ≡ c
      → cond b (Some u) (type_in scope name) ≡ Some t → (v : Value) × (cond c (Some w) (value_in env name) ≡ Some v) × IsOf items t v
  named_step scope env u w name t later one true true same is = (w, refl, subst (λ t. IsOf items t w) (same_Some u t is) one)
  named_step scope env u w name t later one false false same is = later is
  named_step scope env u w name t later one true false same is = absurd (false≢true (sym same))
  named_step scope env u w name t later one false true same is = absurd (false≢true same)

  pub value_there : (scope : Scope) (env : Env) → Fits items scope env → (name : Name) (t : NamedType) → type_in scope name ≡ Some t → ValueIn env name t
  value_there [] env fit name t is = absurd (cc)
  value_there (n ∷ scope) [] fit name t is = absurd fit
  value_there (n ∷ scope) (b ∷ env) fit name t is =
      named_step scope env n.ty b.value name t (value_there scope env fit.2 name t) fit.1 (bytes_eq name n.name) (bytes_eq name b.name) (ap (bytes_eq name) (sym fit.0)) is

  none_step : (scope : Scope) (env : Env) (u : NamedType) (w : Value) (name : Name) → (type_in scope name ≡ None → value_in env name ≡ None) → (b c : Bool) → b ≡ c
      → cond b (Some u) (type_in scope name) ≡ None → cond c (Some w) (value_in env name) ≡ None
  none_step scope env u w name later true c same is = absurd (cc)
  none_step scope env u w name later false false same is = later is
  none_step scope env u w name later false true same is = absurd (false≢true same)

  pub value_not_there : (scope : Scope) (env : Env) → Fits items scope env → (name : Name) → type_in scope name ≡ None → value_in env name ≡ None
  value_not_there [] [] fit name is = refl
  value_not_there [] (b ∷ env) fit name is = absurd fit
  value_not_there (n ∷ scope) [] fit name is = absurd fit
  value_not_there (n ∷ scope) (b ∷ env) fit name is =
      none_step scope env n.ty b.value name (value_not_there scope env fit.2 name) (bytes_eq name n.name) (bytes_eq name b.name) (ap (bytes_eq name) (sym fit.0)) is

  pub fits_with : (scope : Scope) (env : Env) → Fits items scope env → (name : Name) (t : NamedType) (v : Value) → IsOf items t v → Fits items (with_name scope name t) (with_value env name v)
  fits_with [] [] fit name t v is = (refl, is, tt)
  fits_with [] (b ∷ env) fit name t v is = absurd fit
  fits_with (n ∷ scope) [] fit name t v is = absurd fit
  fits_with (n ∷ scope) (b ∷ env) fit name t v is = (fit.0, fit.1, fits_with scope env fit.2 name t v is)

  pub parameters_fit : (parameters : List Named) (values : List Value) → AreOf items (types_of parameters) values → Fits items parameters (bound_parameters parameters values)
  parameters_fit [] [] are = tt
  parameters_fit [] (v ∷ values) are = absurd are
  parameters_fit (p ∷ parameters) [] are = absurd are
  parameters_fit (p ∷ parameters) (v ∷ values) are = (refl, are.0, parameters_fit parameters values are.1)

  -- ---- values in declared order

  pub arguments_are : (types : List NamedType) (parameters : List Named) (values : List Value) → arguments_fit types parameters ≡ true → AreOf items types values → AreOf items (types_of parameters) values
  arguments_are [] [] [] is are = tt
  arguments_are [] [] (v ∷ values) is are = absurd are
  arguments_are [] (p ∷ parameters) values is are = absurd (false≢true is)
  arguments_are (t ∷ types) [] values is are = absurd (false≢true is)
  arguments_are (t ∷ types) (p ∷ parameters) [] is are = absurd are
  arguments_are (t ∷ types) (p ∷ parameters) (v ∷ values) is are =
      and_then (fits t p.ty) (arguments_fit types parameters) is (λ one more. (widens items t p.ty one v are.0, arguments_are types parameters values more are.1))

  pub keys_are : (fields : List Named) (names : List Name) (types : List NamedType) (values : List Value) → in_declared_order fields names types ≡ true → AreOf items types values
      → AreOf items (types_of fields) values
  keys_are [] [] [] [] is are = tt
  keys_are [] [] [] (v ∷ values) is are = absurd are
  keys_are [] [] (t ∷ types) values is are = absurd (false≢true is)
  keys_are [] (name ∷ names) types values is are = absurd (false≢true is)
  keys_are (f ∷ fields) [] types values is are = absurd (false≢true is)
  keys_are (f ∷ fields) (name ∷ names) [] values is are = absurd (false≢true is)
  keys_are (f ∷ fields) (name ∷ names) (t ∷ types) [] is are = absurd are
  keys_are (f ∷ fields) (name ∷ names) (t ∷ types) (v ∷ values) is are =
      and_then (bytes_eq name f.name && fits t f.ty) (in_declared_order fields names types) is (λ both more. and_then (bytes_eq name f.name) (fits t f.ty) both (λ same fit.
      (widens items t f.ty fit v are.0, keys_are fields names types values more are.1)))

  -- ---- a field of a struct

  abbrev ValueNamed : List Name → List Value → Name → NamedType → Type 0
  ValueNamed names values name t = (v : Value) × (value_named names values name ≡ Some v) × IsOf items t v

  field_step : (fields : List Named) (values : List Value) (u : NamedType) (w : Value) (name : Name) (t : NamedType) → (type_in fields name ≡ Some t → ValueNamed (names_in fields) values name t)
      → IsOf items u w → (b : Bool) → cond b (Some u) (type_in fields name) ≡ Some t → (v : Value) × (cond b (Some w) (value_named (names_in fields) values name) ≡ Some v) × IsOf items t v
  field_step fields values u w name t later one true is = (w, refl, subst (λ t. IsOf items t w) (same_Some u t is) one)
  field_step fields values u w name t later one false is = later is

  pub field_there : (fields : List Named) (values : List Value) → AreOf items (types_of fields) values → (name : Name) (t : NamedType) → type_in fields name ≡ Some t
      → ValueNamed (names_in fields) values name t
  field_there [] values are name t is = absurd (cc)
  field_there (f ∷ fields) [] are name t is = absurd are
  field_there (f ∷ fields) (v ∷ values) are name t is = field_step fields values f.ty v name t (field_there fields values are.1 name t) are.0 (bytes_eq name f.name) is

  -- ---- fields that are given by name in any order

  fits_then : (t u : NamedType) (o : Option NamedType) → fits_some t o ≡ true → o ≡ Some u → fits t u ≡ true
  fits_then t u o fit is = subst (λ o. fits_some t o ≡ true) is fit

  module _ (all : List Named) where
    given_step : (u : NamedType) (name n : Name) (t : NamedType) (v : Value) (env : Env) → type_in all name ≡ Some u → fits_some t (type_in all n) ≡ true → IsOf items t v
        → (rest : Bool) → (rest ≡ true → ValueIn env name u) → (b : Bool) → bytes_eq name n ≡ b → (b || rest) ≡ true
        → (w : Value) × (cond b (Some v) (value_in env name) ≡ Some w) × IsOf items u w
    given_step u name n t v env at fit is rest later true same among = (v, refl, widens items t u (fits_then t u (type_in all n) fit (ap (type_in all) (sym (same_name name n same)) ∙ at)) v is)
    given_step u name n t v env at fit is rest later false same among = later among

    pub given_value : (names : List Name) (types : List NamedType) (values : List Value) → fit_fields all names types ≡ true → AreOf items types values → (name : Name) (u : NamedType)
        → type_in all name ≡ Some u → is_among name names ≡ true → ValueIn (bound names values) name u
    given_value [] types values fit are name u at among = absurd (false≢true among)
    given_value (n ∷ names) [] values fit are name u at among = absurd (false≢true fit)
    given_value (n ∷ names) (t ∷ types) [] fit are name u at among = absurd are
    given_value (n ∷ names) (t ∷ types) (v ∷ values) fit are name u at among =
        and_then (fits_some t (type_in all n)) (fit_fields all names types) fit (λ one more.
        given_step u name n t v (bound names values) at one are.0 (is_among name names) (given_value names types values more are.1 name u at) (bytes_eq name n) refl among)

    -- each of these fields is found under its own name
    abbrev pub Own : List Named → Type 0
    Own [] = Unit {0}
    Own (f ∷ fields) = (type_in all f.name ≡ Some f.ty) × Own fields

    pub fields_given : (names : List Name) (types : List NamedType) (values : List Value) → fit_fields all names types ≡ true → AreOf items types values → (fields : List Named) → Own fields
        → list_all (λ field. is_among field names) (names_in fields) ≡ true
        → (ordered : List Value) × (in_order (names_in fields) (bound names values) ≡ Some ordered) × AreOf items (types_of fields) ordered
    fields_given names types values fit are [] own there = ([], refl, tt)
    fields_given names types values fit are (f ∷ fields) own there =
        and_then (is_among f.name names) (list_all (λ field. is_among field names) (names_in fields)) there (λ one more.
        let v = given_value names types values fit are f.name f.ty own.0 one in
        let rest = fields_given names types values fit are fields own.1 more in
        (v.0 ∷ rest.0, rw (v.1, rest.1) refl, (v.2, rest.2)))

  apart_step : (name other : Name) (t : NamedType) (o : Option NamedType) (u : NamedType) → (b : Bool) → bytes_eq name other ≡ b → bytes_eq other name ≡ false → o ≡ Some u → cond b (Some t) o ≡ Some u
  apart_step name other t o u true same apart is = absurd (false≢true (sym apart ∙ name_same other name (sym (same_name name other same))))
  apart_step name other t o u false same apart is = is

  own_more : (d : Named) (all fields : List Named) → is_among d.name (names_in fields) ≡ false → Own all fields → Own (d ∷ all) fields
  own_more d all [] apart own = tt
  own_more d all (f ∷ fields) apart own =
      or_neither (bytes_eq d.name f.name) (is_among d.name (names_in fields)) apart (λ one more.
      (apart_step f.name d.name d.ty (type_in all f.name) f.ty (bytes_eq f.name d.name) refl one own.0, own_more d all fields more own.1))
    where
      or_neither : {P : Type 0} (a b : Bool) → (a || b) ≡ false → (a ≡ false → b ≡ false → P) → P
      or_neither true b is go = absurd (false≢true (sym is))
      or_neither false b is go = go refl is

  pub own_fields : (fields : List Named) → are_distinct (names_in fields) ≡ true → Own fields fields
  own_fields [] apart = tt
  own_fields (f ∷ fields) apart =
      and_then (not (is_among f.name (names_in fields))) (are_distinct (names_in fields)) apart (λ one more.
      (first f (bytes_eq f.name f.name) (name_same f.name f.name refl), own_more f fields fields (unwanted (is_among f.name (names_in fields)) one) (own_fields fields more)))
    where
      unwanted : (b : Bool) → not b ≡ true → b ≡ false
      unwanted true is = absurd (false≢true is)
      unwanted false is = refl

      first : (f : Named) (b : Bool) → b ≡ true → cond b (Some f.ty) (type_in fields f.name) ≡ Some f.ty
      first f true is = refl
      first f false is = absurd (false≢true is)

  -- all fields, each given once
  pub in_any_order_given : (fields : List Named) → are_distinct (names_in fields) ≡ true → (names : List Name) (types : List NamedType) (values : List Value)
      → in_any_order fields names types ≡ true → AreOf items types values
      → (ordered : List Value) × (in_order (names_in fields) (bound names values) ≡ Some ordered) × AreOf items (types_of fields) ordered
  in_any_order_given fields apart names types values is are =
      and_then (are_distinct names && fit_fields fields names types) (list_all (λ field. is_among field names) (names_in fields)) is (λ both there.
      and_then (are_distinct names) (fit_fields fields names types) both (λ once fit. fields_given fields names types values fit are fields (own_fields fields apart) there))
