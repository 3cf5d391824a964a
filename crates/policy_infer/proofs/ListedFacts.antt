-- The values that arms list, as they are kept.
use Rattle.std.proofs.Common.{◌≡◌, Bool, ◌||◌, List, [], ◌∷◌, map, refl, ap, ◌∙◌}
use Rattle.std.specs.List.{list_any}
use Rattle.policy_infer.specs.contracts.pattern_set.ListedPartialEq.TheImpl.{eq-value}
use Rattle.policy_infer.specs.declared.pattern_set.Listed.{Listed}
use Rattle.policy_infer.specs.declared.pattern_set.Listed.TheVariants as listed
use Rattle.policy_infer.specs.working.Listed.{listed_value}
use Rattle.policy_rules.specs.Coverage.{same_pattern}

abbrev pub same_value : Listed → Listed → Bool
same_value = eq-value.it

pub same_listed : (a b : Listed) → same_value a b ≡ same_pattern (listed_value a) (listed_value b)
same_listed (listed.Number n1) (listed.Number n2) = refl
same_listed (listed.Number n1) (listed.Text t2) = refl
same_listed (listed.Number n1) listed.True = refl
same_listed (listed.Number n1) listed.False = refl
same_listed (listed.Number n1) (listed.Variant e2 v2) = refl
same_listed (listed.Number n1) listed.None = refl
same_listed (listed.Text t1) (listed.Number n2) = refl
same_listed (listed.Text t1) (listed.Text t2) = refl
same_listed (listed.Text t1) listed.True = refl
same_listed (listed.Text t1) listed.False = refl
same_listed (listed.Text t1) (listed.Variant e2 v2) = refl
same_listed (listed.Text t1) listed.None = refl
same_listed listed.True (listed.Number n2) = refl
same_listed listed.True (listed.Text t2) = refl
same_listed listed.True listed.True = refl
same_listed listed.True listed.False = refl
same_listed listed.True (listed.Variant e2 v2) = refl
same_listed listed.True listed.None = refl
same_listed listed.False (listed.Number n2) = refl
same_listed listed.False (listed.Text t2) = refl
same_listed listed.False listed.True = refl
same_listed listed.False listed.False = refl
same_listed listed.False (listed.Variant e2 v2) = refl
same_listed listed.False listed.None = refl
same_listed (listed.Variant e1 v1) (listed.Number n2) = refl
same_listed (listed.Variant e1 v1) (listed.Text t2) = refl
same_listed (listed.Variant e1 v1) listed.True = refl
same_listed (listed.Variant e1 v1) listed.False = refl
same_listed (listed.Variant e1 v1) (listed.Variant e2 v2) = refl
same_listed (listed.Variant e1 v1) listed.None = refl
same_listed listed.None (listed.Number n2) = refl
same_listed listed.None (listed.Text t2) = refl
same_listed listed.None listed.True = refl
same_listed listed.None listed.False = refl
same_listed listed.None (listed.Variant e2 v2) = refl
same_listed listed.None listed.None = refl

pub any_listed : (a : Listed) (values : List Listed) → list_any (same_value a) values ≡ list_any (same_pattern (listed_value a)) (map listed_value values)
any_listed a [] = refl
any_listed a (b ∷ values) =
    ap (λ here. here || list_any (same_value a) values) (same_listed a b) ∙ ap (λ rest. same_pattern (listed_value a) (listed_value b) || rest) (any_listed a values)
