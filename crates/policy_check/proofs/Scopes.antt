-- Parameters as the scope in which a body begins, and answers that are another's.
use Rattle.std.proofs.Common.{◌≡◌, ◌∙◌, Bool, true, false, List, [], ◌∷◌, IfOk, Result, Ok, Err, refl, ap, sym, true≢false}
use Rattle.std.specs.Bool.{OnTrue}
use Rattle.policy_ast.specs.declared.field.Field.{Field}
use Rattle.policy_rules.specs.FieldLists.{are_distinct}
use Rattle.policy_rules.specs.Items.{field_names}
use Rattle.policy_rules.specs.Scopes.{Scope, names_in}
use Rattle.policy_rules.specs.Types.{declared}

declared_names : (fields : List Field) → names_in (declared fields) ≡ field_names fields
declared_names [] = refl
declared_names (f ∷ fields) = ap (λ names. f.name ∷ names) (declared_names fields)

-- parameters that were tested have distinct names
pub distinct_scope : (scope : Scope) (parameters : List Field) (are : Bool) → scope ≡ declared parameters → are ≡ true → OnTrue are (are_distinct (field_names parameters) ≡ true)
    → are_distinct (names_in scope) ≡ true
distinct_scope scope parameters true is yes_so so = ap (λ s. are_distinct (names_in s)) is ∙ ap are_distinct (declared_names parameters) ∙ so
distinct_scope scope parameters false is yes_so so = absurd (true≢false (sym yes_so))

pub answer_same : {E : Type 0} (r : Result Bool E) (answer other : Bool) → answer ≡ other → IfOk r (λ b. b ≡ answer) → IfOk r (λ b. b ≡ other)
answer_same (Ok b) answer other is so = so ∙ is
answer_same (Err e) answer other is so = tt
