-- What the code of actions owes for each form: an evaluation, and what it leads on to.
use Rattle.std.proofs.Common.{◌≡◌, ℕ, Bool, true, false, cond, List, Option, Some, None, Result, Ok, Err, refl, ap, ◌∙◌}
use Rattle.fact_store.specs.Matching.{selected}
use Rattle.base_bytes.specs.declared.value.Value.{Value}
use Rattle.fact_store.specs.declared.row.Row.{Row}
use Rattle.fact_store.specs.declared.wanted.Wanted.{Wanted}
use Rattle.policy_ast.specs.declared.policy.PlacedItem.{PlacedItem}
use Rattle.policy_expressions.specs.Answers.{Leaves, Stops as HaltsBy}
use Rattle.policy_expressions.specs.Forms.{check_of, truth_of}
use Rattle.policy_expressions.specs.declared.stop.Stop.{Stop as Halted}
use Rattle.policy_expressions.specs.declared.stop.Stop.TheVariants as stop
use Rattle.policy_meaning.specs.Actions.{Deed, Did, Stops, Stop, Halts, World, ◌>>>◌, choose, told, with_turns}
use Rattle.policy_meaning.specs.Desks.{Posting}
use Rattle.policy_meaning.specs.Environments.{Env}
use Rattle.policy_meaning.specs.Outcomes.{Halt, Check, Fault, Stuck, Out, Done, Ends, ◌>>=◌, branch, or_stuck}
use Rattle.policy_meaning.specs.Typed.{AreTyped}
use Rattle.policy_meaning.specs.Values.{truth}
use Rattle.policy_eval.proofs.ActingFacts.{acted_all, acted_on, acted_still}
use Rattle.policy_eval.specs.declared.cause.Cause.{Cause}
use Rattle.policy_eval.specs.working.Acting.{Acted, Acts, Standing, StopsFor, caused, halted, reason, settled, standing, world}

-- ---- evaluations, and what follows them

-- `if` and `check` look at a truth
pub choice_told : {A : Type 0} (out : Out Value) (first second : World → Deed A) (w : World)
    → settled (told w out >>> λ v w. choose (truth v) first second w) ≡ settled (told w (truth_of out) >>> λ b w. cond b (first w) (second w))
choice_told (Ends halt) first second w = refl
choice_told (Done v turns) first second w = by (truth v)
  where
    by : (o : Option Bool) → settled (choose o first second (with_turns w turns)) ≡ settled (told w (or_stuck o turns) >>> λ b w. cond b (first w) (second w))
    by (Some true) = refl
    by (Some false) = refl
    by None = refl

pub check_told : (out : Out Value) (env : Env) (w : World)
    → settled (told w out >>> λ v w. choose (truth v) (Did env) (Stops (Halts (Check None))) w) ≡ settled (told w (check_of out) >>> λ done w. Did env w)
check_told (Ends halt) env w = refl
check_told (Done v turns) env w = by (truth v)
  where
    by : (o : Option Bool) → settled (choose o (Did env) (Stops (Halts (Check None))) (with_turns w turns)) ≡ settled (told w (branch {A = Unit {0}} o (Done tt) (λ turns. Ends (Check None)) turns) >>> λ done w. Did env w)
    by (Some true) = refl
    by (Some false) = refl
    by None = refl

-- a value under a name
pub let_told : {A B : Type 0} (out : Out A) (f : A → B) (w : World) → (told w out >>> λ v w. Did (f v) w) ≡ (told w (out >>= λ v turns. Done (f v) turns) >>> λ inner w. Did inner w)
let_told (Ends halt) f w = refl
let_told (Done v turns) f w = refl

-- the rows that match
pub rows_told : {A : Type 0} (out : Out Wanted) (next : List Row → World → Deed A) (w : World)
    → (told w out >>> λ q w. next (selected q w.rows) w) ≡ (told w (out >>= λ q turns. Done (selected q w.rows) turns) >>> next)
rows_told (Ends halt) next w = refl
rows_told (Done q turns) next w = refl

-- a block whose names end with it, before something else
pub inside_told : {A : Type 0} (d : Deed Env) (env : Env) (next : World → Deed A) → (d >>> λ inner w. next w) ≡ ((d >>> λ inner w. Did env w) >>> λ inner w. next w)
inside_told (Did inner w) env next = refl
inside_told (Stops why w) env next = refl

module _ {D : Type 0} (publishes : D → List Row → Posting → D → Type 0) (policy : List PlacedItem) where
  -- ---- stops

  pub stops_all : {A : Type 0} (why : Option Stop) (deed first : World → Deed A) (old mid new : Standing D) → Acted publishes policy deed first old mid → StopsFor publishes policy why first mid new
      → StopsFor publishes policy why deed old new
  stops_all None deed first old mid new a s = tt
  stops_all (Some why) deed first old mid new a s = acted_all publishes policy deed first (Stops why) old mid new a s

  pub stops_on : {A B : Type 0} (why : Option Stop) (deed : World → Deed B) (first : World → Deed A) (next : A → World → Deed B) (old mid new : Standing D)
      → Acted publishes policy deed (λ w. first w >>> next) old mid → StopsFor publishes policy why first mid new → StopsFor publishes policy why deed old new
  stops_on None deed first next old mid new a s = tt
  stops_on (Some why) deed first next old mid new a s = acted_on publishes policy deed first (Stops why) next old mid new a s

  -- a part is all that is left to do
  pub acts_all : {A X : Type 0} (r : Result X Cause) (x : A) (deed first : World → Deed A) (old mid new : Standing D) → Acted publishes policy deed first old mid → Acts publishes policy r x first mid new
      → Acts publishes policy r x deed old new
  acts_all (Ok done) x deed first old mid new a b = acted_all publishes policy deed first (Did x) old mid new a b
  acts_all (Err why) x deed first old mid new a b = stops_all (reason why) deed first old mid new a b

  -- ---- evaluations

  module _ {A B : Type 0} (deed : World → Deed B) (out : List Row → ℕ → Out A) (next : A → World → Deed B) (is : (w : World) → settled (deed w) ≡ settled (told w (out w.rows w.turns) >>> next))
      (desk : D) (rows : List Row) (turns now ticks : ℕ) (typed : AreTyped policy rows) where
    -- an evaluation gives a value, and this is what is left to do
    pub begins : (x : A) → out rows turns ≡ Done x now → Acted publishes policy deed (next x) (standing desk rows turns ticks) (standing desk rows now ticks)
    begins x gives = acted_still publishes policy deed (next x) desk rows turns now ticks typed (λ left made. is (world rows left made turns) ∙ ap (λ out. settled (told (world rows left made turns) out >>> next)) gives)

    ends_in : (h : Halt) → out rows turns ≡ Ends h → Acted publishes policy deed (Stops (Halts h)) (standing desk rows turns ticks) (standing desk rows now ticks)
    ends_in h gives = acted_still publishes policy deed (Stops (Halts h)) desk rows turns now ticks typed (λ left made. is (world rows left made turns) ∙ ap (λ out. settled (told (world rows left made turns) out >>> next)) gives)

    -- an evaluation gives nothing
    pub fails : (why : Halted) → HaltsBy why (out rows turns) → StopsFor publishes policy (halted why) deed (standing desk rows turns ticks) (standing desk rows now ticks)
    fails stop.Check gives = ends_in (Check None) gives
    fails (stop.Fault kind) gives = ends_in (Fault kind) gives
    fails stop.Stuck gives = ends_in Stuck gives
    fails stop.NoMemory gives = tt

  -- an evaluation is all that there is to do
  pub leaves : {A X : Type 0} (r : Result X Halted) (x : A) (deed : World → Deed A) (out : List Row → ℕ → Out A) → ((w : World) → settled (deed w) ≡ settled (told w (out w.rows w.turns) >>> λ x w. Did x w))
      → (desk : D) (rows : List Row) (turns now ticks : ℕ) → AreTyped policy rows → Leaves r x now (out rows turns)
      → Acts publishes policy (caused r) x deed (standing desk rows turns ticks) (standing desk rows now ticks)
  leaves (Ok done) x deed out is desk rows turns now ticks typed gives = begins deed out (λ x w. Did x w) is desk rows turns now ticks typed x gives
  leaves (Err why) x deed out is desk rows turns now ticks typed gives = fails deed out (λ x w. Did x w) is desk rows turns now ticks typed why gives
