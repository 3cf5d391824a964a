-- The types of forms, by tests of their parts.
use Rattle.std.proofs.Common.{◌≡◌, Bool, true, false, ◌&&◌, List, Option, Some, None, option_map, refl, sym}
use Rattle.std.specs.Option.{is_some}
use Rattle.policy_infer.specs.working.Behind.{is_bool_of}
use Rattle.policy_infer.specs.working.Parts.{field_type, is_number_of, is_row_of, joined_of, struct_found}
use Rattle.policy_rules.specs.Expressions.{arithmetic_type, is_equality}
use Rattle.policy_rules.specs.Types.{joined}
use Rattle.policy_rules.specs.declared.types.NamedType.{NamedType}
use Rattle.policy_rules.specs.declared.types.NamedType.TheVariants as ty
use Rattle.policy_rules.specs.Inference.{◌>>=◌, calculation_of, choice_of, compare_of, compared_type, field_of, is_bool, is_int, logic_of, only_if, struct_of, unary_of, with_pattern}
use Rattle.policy_rules.specs.Judging.{holds}
use Rattle.policy_ast.specs.declared.expr.Arithmetic.{Arithmetic}
use Rattle.policy_ast.specs.declared.expr.Comparison.{Comparison}
use Rattle.policy_ast.specs.declared.expr.Unary.{Unary}
use Rattle.policy_ast.specs.declared.expr.Unary.TheVariants as unary
use Rattle.policy_ast.specs.declared.item.Item.{Item}
use Rattle.policy_rules.specs.FieldLists.{pattern_fits}
use Rattle.policy_rules.specs.Heads.{FactHead, fact_named, struct_named}
use Rattle.policy_rules.specs.Names.{Name}
use Rattle.policy_rules.specs.Scopes.{type_in}

both_tested : (test : NamedType → Bool) (w : NamedType) (o p : Option NamedType) → (o >>= λ t. p >>= λ u. only_if (test t && test u) (Some w)) ≡ only_if (holds o test && holds p test) (Some w)
both_tested test w None p = refl
both_tested test w (Some t) (Some u) = refl
both_tested test w (Some t) None = by (test t)
  where
    by : (b : Bool) → None ≡ only_if (b && false) (Some w)
    by true = refl
    by false = refl

pub logic_is : (o p : Option NamedType) → only_if (is_bool_of o && is_bool_of p) (Some ty.Bool) ≡ logic_of o p
logic_is o p = sym (both_tested is_bool ty.Bool o p)

pub calculation_is : (op : Arithmetic) (o p : Option NamedType) → only_if (is_number_of o && is_number_of p) (Some (arithmetic_type op)) ≡ calculation_of op o p
calculation_is op o p = sym (both_tested is_int (arithmetic_type op) o p)

equality_by : (b : Bool) (o p : Option NamedType) → b ≡ true → only_if (is_some (joined_of o p)) (Some ty.Bool) ≡ (o >>= λ t. p >>= λ u. compared_type b t u)
equality_by true None p is = refl
equality_by true (Some t) None is = refl
equality_by true (Some t) (Some u) is = by (joined t u)
  where
    by : (o : Option NamedType) → only_if (is_some o) (Some ty.Bool) ≡ option_map (λ w. ty.Bool) o
    by None = refl
    by (Some w) = refl
equality_by false o p is = cc

order_by : (b : Bool) (o p : Option NamedType) → b ≡ false → only_if (is_number_of o && is_number_of p) (Some ty.Bool) ≡ (o >>= λ t. p >>= λ u. compared_type b t u)
order_by false o p is = sym (both_tested is_int ty.Bool o p)
order_by true o p is = cc

pub equality_is : (op : Comparison) (o p : Option NamedType) → is_equality op ≡ true → only_if (is_some (joined_of o p)) (Some ty.Bool) ≡ compare_of op o p
equality_is op o p is = equality_by (is_equality op) o p is

pub order_is : (op : Comparison) (o p : Option NamedType) → is_equality op ≡ false → only_if (is_number_of o && is_number_of p) (Some ty.Bool) ≡ compare_of op o p
order_is op o p is = order_by (is_equality op) o p is

pub choice_is : (h o p : Option NamedType) → only_if (is_bool_of h) (joined_of o p) ≡ choice_of h o p
choice_is None o p = refl
choice_is (Some c) o p = by (is_bool c) o p
  where
    by : (b : Bool) (o p : Option NamedType) → only_if b (joined_of o p) ≡ (o >>= λ t. p >>= λ u. only_if b (joined t u))
    by true o p = refl
    by false None p = refl
    by false (Some t) None = refl
    by false (Some t) (Some u) = refl

pub negation_is : (op : Unary) (o : Option NamedType) → op ≡ unary.Not → only_if (is_bool_of o) (Some ty.Bool) ≡ unary_of op o
negation_is unary.Not None is = refl
negation_is unary.Not (Some t) is = refl
negation_is unary.Unwrap o is = cc
negation_is unary.CheckUnwrap o is = cc

pub field_is : (items : List Item) (name : Name) (o : Option NamedType) → (struct_found o >>= field_type items name) ≡ field_of items name o
field_is items name None = refl
field_is items name (Some t) = by (struct_of t)
  where
    by : (o : Option Name) → (o >>= field_type items name) ≡ (o >>= λ struct_name. struct_named items struct_name >>= λ fields. type_in fields name)
    by None = refl
    by (Some struct_name) = refl

pub row_is : (items : List Item) (fact_name : Name) (key_names : List Name) (keys : Option (List (Option NamedType))) (value_names : List Name) (values : Option (List (Option NamedType))) (t : NamedType)
    → only_if (is_row_of items fact_name key_names keys value_names values) (Some t) ≡ with_pattern items fact_name key_names keys value_names values t
row_is items fact_name key_names keys value_names values t = by (fact_named items fact_name) keys values
  where
    by : (found : Option FactHead) (keys values : Option (List (Option NamedType)))
        → only_if (holds found (λ fact. holds keys (λ ks. holds values (λ vs. pattern_fits fact key_names ks value_names vs)))) (Some t)
        ≡ (found >>= λ fact. keys >>= λ ks. values >>= λ vs. only_if (pattern_fits fact key_names ks value_names vs) (Some t))
    by None keys values = refl
    by (Some fact) None values = refl
    by (Some fact) (Some ks) None = refl
    by (Some fact) (Some ks) (Some vs) = refl
