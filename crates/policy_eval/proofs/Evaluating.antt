-- What an evaluation gives, by what was found of its parts one after the other.
use Rattle.std.proofs.Common.{◌≡◌, ℕ, Bool, if◌then◌else◌, Option, Some, None, Result, Ok, Err, refl, sym, ap, subst, ◌∙◌}
use Rattle.base_bytes.specs.declared.value.Value.{Value}
use Rattle.policy_eval.specs.working.Endings.{Evaluates}
use Rattle.policy_expressions.specs.Answers.{Gives, Stops}
use Rattle.policy_expressions.specs.Forms.{chosen, truth_of}
use Rattle.policy_expressions.specs.declared.stop.Stop.{Stop}
use Rattle.policy_expressions.specs.declared.stop.Stop.TheVariants as stop
use Rattle.policy_meaning.specs.Environments.{Env}
use Rattle.policy_meaning.specs.Outcomes.{Out, Done, Ends, Halt, Stuck, ◌>>=◌, or_stuck}

-- ---- early ends

-- what ends early ends what stands behind it
pub stops_then : {A B : Type 0} (why : Stop) (out : Out A) (next : A → ℕ → Out B) → Stops why out → Stops why (out >>= next)
stops_then stop.Check out next is = ap (λ o. o >>= next) is
stops_then (stop.Fault kind) out next is = ap (λ o. o >>= next) is
stops_then stop.Stuck out next is = ap (λ o. o >>= next) is
stops_then stop.NoMemory out next is = tt

pub stops_by : {A : Type 0} (why : Stop) {out other : Out A} → other ≡ out → Stops why out → Stops why other
stops_by why is stops = subst (λ o. Stops why o) (sym is) stops

ends_too : (A B : Type 0) (why : Stop) (halt : Halt) → Stops {A = A} why (Ends halt) → Stops {A = B} why (Ends halt)
ends_too A B stop.Check halt is = cc
ends_too A B (stop.Fault kind) halt is = cc
ends_too A B stop.Stuck halt is = cc
ends_too A B stop.NoMemory halt is = tt

done_never : {A B : Type 0} (why : Stop) (x : A) (n : ℕ) (out : Out B) → Stops why (Done x n) → Stops why out
done_never stop.Check x n out is = cc
done_never (stop.Fault kind) x n out is = cc
done_never stop.Stuck x n out is = cc
done_never stop.NoMemory x n out is = tt

-- What a value is looked up for: the whole stops where the look-up does, and goes on where it gives something.
pub looked_stops : {A B C : Type 0} (why : Stop) (out : Out A) (look : A → Option B) (first : A → ℕ → Out C) → ((x : A) (n : ℕ) → look x ≡ None → first x n ≡ Ends Stuck)
    → Stops why (out >>= λ x n. or_stuck (look x) n) → Stops why (out >>= first)
looked_stops {A} {B} {C} why (Ends halt) look first none is = ends_too B C why halt is
looked_stops {A} {B} {C} why (Done x n) look first none is = by (look x) refl is
  where
    by : (o : Option B) → look x ≡ o → Stops why (or_stuck o n) → Stops why (first x n)
    by (Some y) found is = done_never why y n (first x n) is
    by None found is = stops_by why (none x n found) (ends_too B C why Stuck is)

pub looked_up : {A B C : Type 0} (y : B) (left : ℕ) (out : Out A) (look : A → Option B) (first : A → ℕ → Out C) (next : ℕ → Out C)
    → ((x : A) (n : ℕ) → look x ≡ Some y → first x n ≡ next n) → (out >>= λ x n. or_stuck (look x) n) ≡ Done y left → (out >>= first) ≡ next left
looked_up {A} {B} {C} y left (Ends halt) look first next some is = absurd cc
looked_up {A} {B} {C} y left (Done x n) look first next some is = by (look x) refl is
  where
    by : (o : Option B) → look x ≡ o → or_stuck o n ≡ Done y left → first x n ≡ next left
    by None found is = absurd cc
    by (Some z) found is =
        let value : z ≡ y = cc in
        let same : n ≡ left = cc in
        some x n (found ∙ ap Some value) ∙ ap next same

-- ---- expressions

module _ {A : Type 0} (means : Env → ℕ → Out A) (before : Env) (turns : ℕ) where
  -- no part
  pub by_none : {r : Result A Stop} (out : Out A) → means before turns ≡ out → Gives r turns out → Evaluates r means before before turns turns
  by_none {r} out is gives = record { gives = subst (λ o. Gives r turns o) (sym is) gives; kept = refl }

  -- one part
  pub by_one : {B : Type 0} {r : Result A Stop} {first : Result B Stop} {one : Env → ℕ → Out B} {after : Env} {left : ℕ} (of : Out B → Out A)
      → means before turns ≡ of (one before turns) → Evaluates first one before after turns left → ((n : ℕ) (out : Out B) → Gives first n out → Gives r n (of out))
      → Evaluates r means before after turns left
  by_one {r = r} {one = one} {left = left} of is p then' = record { gives = subst (λ o. Gives r left o) (sym is) (then' left (one before turns) p.gives); kept = p.kept }

  -- the first part stops
  pub first_stops : {B : Type 0} {one : Env → ℕ → Out B} {after : Env} {left : ℕ} (why : Stop) (next : B → ℕ → Out A) → means before turns ≡ (one before turns >>= next)
      → Evaluates (Err why) one before after turns left → Evaluates (Err why) means before after turns left
  first_stops {one = one} why next is p = record { gives = stops_by why is (stops_then why (one before turns) next p.gives); kept = p.kept }

  -- the first part has its value, and the second decides
  pub by_second : {B C : Type 0} {r : Result A Stop} {second : Result C Stop} {one : Env → ℕ → Out B} {two : Env → ℕ → Out C} {middle after : Env} {between left : ℕ} (x : B)
      (of : B → Out C → Out A) → means before turns ≡ (one before turns >>= λ x turns. of x (two before turns)) → Evaluates (Ok x) one before middle turns between
      → Evaluates second two middle after between left → ((n : ℕ) (out : Out C) → Gives second n out → Gives r n (of x out)) → Evaluates r means before after turns left
  by_second {B = B} {r = r} {second = second} {one = one} {two = two} {between = between} {left = left} x of is p q then' =
      record {
        gives =
            subst (λ o. Gives r left o) (sym (is ∙ ap (λ (o : Out B). o >>= λ x turns. of x (two before turns)) p.gives))
            (then' left (two before between) (subst (λ env. Gives second left (two env between)) p.kept q.gives));
        kept = q.kept ∙ p.kept;
      }

  -- the first part has its value, and what follows leaves the names alone
  pub by_next : {B : Type 0} {r : Result A Stop} {one : Env → ℕ → Out B} {after : Env} {between left : ℕ} (x : B) (next : B → ℕ → Out A)
      → means before turns ≡ (one before turns >>= next) → Evaluates (Ok x) one before after turns between → Gives r left (next x between) → Evaluates r means before after turns left
  by_next {B = B} {r = r} {left = left} x next is p gives =
      record { gives = subst (λ o. Gives r left o) (sym (is ∙ ap (λ (o : Out B). o >>= next) p.gives)) gives; kept = p.kept }

  -- ---- a test, and what it decides

  module _ {found : Result Value Stop} {one : Env → ℕ → Out Value} {middle : Env} {between : ℕ} (first second : ℕ → Out A)
      (is : means before turns ≡ chosen (truth_of (one before turns)) first second) (p : Evaluates found one before middle turns between) where
    pub test_stops : (why : Stop) → ((n : ℕ) (out : Out Value) → Gives found n out → Gives {A = Bool} (Err why) n (truth_of out)) → Evaluates (Err why) means before middle turns between
    test_stops why tested =
        record {
          gives = stops_by why is (stops_then why (truth_of (one before turns)) (λ b n. if b then first n else second n) (tested between (one before turns) p.gives));
          kept = p.kept;
        }

    decides : (b d : Bool) → b ≡ d → ((n : ℕ) (out : Out Value) → Gives found n out → Gives (Ok b) n (truth_of out)) → means before turns ≡ chosen (Done d between) first second
    decides b d same tested = is ∙ ap (λ (out : Out Bool). chosen out first second) (tested between (one before turns) p.gives ∙ ap (λ b. Done b between) same)

    -- the test alone decides
    pub test_ends : (b d : Bool) (x : A) → b ≡ d → ((n : ℕ) (out : Out Value) → Gives found n out → Gives (Ok b) n (truth_of out)) → ((n : ℕ) → chosen (Done d n) first second ≡ Done x n)
        → Evaluates (Ok x) means before middle turns between
    test_ends b d x same tested ends = record { gives = decides b d same tested ∙ ends between; kept = p.kept }

    -- the side that it chooses decides
    pub test_goes : {r : Result A Stop} {two : Env → ℕ → Out A} {after : Env} {left : ℕ} (b d : Bool) → b ≡ d
        → ((n : ℕ) (out : Out Value) → Gives found n out → Gives (Ok b) n (truth_of out)) → ((n : ℕ) → chosen (Done d n) first second ≡ two before n)
        → Evaluates r two middle after between left → Evaluates r means before after turns left
    test_goes {r = r} {two = two} {left = left} b d same tested goes q =
        record {
          gives = subst (λ o. Gives r left o) (sym (decides b d same tested ∙ goes between)) (subst (λ env. Gives r left (two env between)) p.kept q.gives);
          kept = q.kept ∙ p.kept;
        }
