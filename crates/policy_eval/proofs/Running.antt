-- What statements come to, by what was found of their parts one after the other.
use Rattle.std.proofs.Common.{◌≡◌, ℕ, ◌+◌, ◌<◌, Bool, true, false, List, length, drop, get_or, Option, Some, None, Result, Ok, Err, refl, sym, ap, subst, ◌∙◌}
use Rattle.std.proofs.Math.Seq.{drop-length}
use Rattle.base_bytes.specs.declared.value.Value.{Value}
use Rattle.fact_store.specs.declared.row.Row.{Row}
use Rattle.policy_ast.specs.declared.finish.FinishStmt.{FinishStmt}
use Rattle.policy_ast.specs.declared.item.Item.{Item}
use Rattle.policy_ast.specs.declared.statement.Stmt.{Stmt}
use Rattle.policy_eval.proofs.Evaluating.{looked_stops, looked_up, stops_by, stops_then}
use Rattle.policy_eval.proofs.Loops.{keeps_all, keeps_both, keeps_same, left_at}
use Rattle.policy_eval.specs.declared.flow.Flow.{Flow}
use Rattle.policy_eval.specs.declared.flow.Flow.TheVariants as flow
use Rattle.policy_eval.specs.working.Endings.{Comes, Evaluates, Runs, goes_on}
use Rattle.policy_expressions.specs.Answers.{Gives, Keeps, Stops}
use Rattle.policy_expressions.specs.Forms.{chosen, truth_of}
use Rattle.policy_expressions.specs.Meant.{stmt_meant, stmts_meant}
use Rattle.policy_expressions.specs.declared.stop.Stop.{Stop}
use Rattle.policy_meaning.specs.Environments.{Env, Setting}
use Rattle.policy_meaning.specs.Finish.{Change, Listing}
use Rattle.policy_meaning.specs.Outcomes.{Out, Done, Ends, Stuck, ◌>>=◌, or_stuck}
use Rattle.policy_meaning.specs.Statements.{Finishes, Goes, Ran, Run, ran, then, within}

abbrev pub Lists : Type 0
Lists = List FinishStmt → Listing

pub comes_by : (r : Result Flow Stop) (lists : Lists) (after : Env) (left : ℕ) {out other : Out Ran} → other ≡ out → Comes r lists after left out → Comes r lists after left other
comes_by r lists after left is comes = subst (λ o. Comes r lists after left o) (sym is) comes

-- ---- a block ends

-- the names behind a block's end are those from before it, and its early ends stay
pub ended : {r : Result Flow Stop} {does : Lists → Run} {before after last : Env} {turns left : ℕ} → Runs r does before after turns left → (goes_on r ≡ true → last ≡ before)
    → (goes_on r ≡ false → last ≡ after) → Runs r (λ lists. within (does lists)) before last turns left
ended {r} {does} {before} {after} {last} {turns} {left} p goes stays = by r goes stays p.comes p.kept
  where
    finished : (lists : Lists) (statements : List FinishStmt) (now behind : Env) (n : ℕ)
        → ((lists statements now n >>= λ changes m. ran (Finishes changes) behind m) >>= λ r m. ran r.flow before m) ≡ (lists statements now n >>= λ changes m. ran (Finishes changes) before m)
    finished lists statements now behind n = one (lists statements now n)
      where
        one : (out : Out (List Change)) → ((out >>= λ changes m. ran (Finishes changes) behind m) >>= λ r m. ran r.flow before m) ≡ (out >>= λ changes m. ran (Finishes changes) before m)
        one (Done changes m) = refl
        one (Ends halt) = refl

    by : (r : Result Flow Stop) → (goes_on r ≡ true → last ≡ before) → (goes_on r ≡ false → last ≡ after) → ((lists : Lists) → Comes r lists after left (does lists before turns)) → Keeps before after
        → Runs r (λ lists. within (does lists)) before last turns left
    by (Ok flow.Goes) goes stays comes kept =
        record {
          comes = λ lists. ap (λ (out : Out Ran). out >>= λ r n. ran r.flow before n) (comes lists) ∙ ap (λ env. ran Goes env left) (sym (goes refl));
          kept = keeps_same before last (goes refl);
        }
    by (Ok (flow.Returns v)) goes stays comes kept =
        record {
          comes = λ lists. (before, ap (λ (out : Out Ran). out >>= λ r n. ran r.flow before n) (comes lists).1);
          kept = subst (λ env. Keeps before env) (sym (stays refl)) kept;
        }
    by (Ok (flow.Reached statements)) goes stays comes kept =
        record {
          comes =
              λ lists. (
                before,
                ap (λ (out : Out Ran). out >>= λ r n. ran r.flow before n) (comes lists).1 ∙ finished lists statements.now after (comes lists).0 left
                    ∙ ap (λ env. lists statements.now env left >>= λ changes m. ran (Finishes changes) before m) (sym (stays refl)),
              );
          kept = subst (λ env. Keeps before env) (sym (stays refl)) kept;
        }
    by (Err why) goes stays comes kept =
        record {
          comes = λ lists. stops_then why (does lists before turns) (λ r n. ran r.flow before n) (comes lists);
          kept = subst (λ env. Keeps before env) (sym (stays refl)) kept;
        }

pub ended_early : {r : Result Flow Stop} {does : Lists → Run} {before after : Env} {turns left : ℕ} → goes_on r ≡ false → Runs r does before after turns left
    → Runs r (λ lists. within (does lists)) before after turns left
ended_early {r} stops p = ended p (λ goes. absurd (true_is_false (sym goes ∙ stops))) (λ stays. refl)
  where
    true_is_false : true ≡ false → ⊥
    true_is_false is = cc

-- ---- forms

module _ (does : Lists → Run) (before : Env) (turns : ℕ) where
  -- no part, and nothing is put in scope
  pub by_itself : {r : Result Flow Stop} → ((lists : Lists) → Comes r lists before turns (does lists before turns)) → Runs r does before before turns turns
  by_itself comes = record { comes = comes; kept = keeps_all before }

  -- a value that leaves the names as they are
  pub by_value : {r : Result Flow Stop} {found : Result Value Stop} {says : Env → ℕ → Out Value} {after : Env} {left : ℕ} (of : Env → Out Value → Out Ran)
      → ((lists : Lists) → does lists before turns ≡ of before (says before turns)) → Evaluates found says before after turns left
      → ((lists : Lists) (env : Env) (n : ℕ) (out : Out Value) → Gives found n out → Comes r lists env n (of env out)) → Runs r does before after turns left
  by_value {r = r} {says = says} {after = after} {left = left} of is p then' =
      record {
        comes = λ lists. comes_by r lists after left (is lists) (subst (λ env. Comes r lists env left (of before (says before turns))) (sym p.kept) (then' lists before left (says before turns) p.gives));
        kept = keeps_same before after p.kept;
      }

  -- a value that gets a name
  pub by_let : {r : Result Flow Stop} {found : Result Value Stop} {says : Env → ℕ → Out Value} {middle after : Env} {left : ℕ} (of : Env → Out Value → Out Ran)
      → ((lists : Lists) → does lists before turns ≡ of before (says before turns)) → Evaluates found says before middle turns left
      → ((lists : Lists) (n : ℕ) (out : Out Value) → Gives found n out → Comes r lists after n (of middle out)) → Keeps middle after → Runs r does before after turns left
  by_let {r = r} {says = says} {middle = middle} {after = after} {left = left} of is p then' keeps =
      record {
        comes = λ lists. comes_by r lists after left (is lists) (subst (λ env. Comes r lists after left (of env (says before turns))) p.kept (then' lists left (says before turns) p.gives));
        kept = subst (λ env. Keeps env after) p.kept keeps;
      }

  -- ---- a test, and what it decides

  module _ {found : Result Value Stop} {says : Env → ℕ → Out Value} {middle : Env} {between : ℕ} (first second : Lists → ℕ → Out Ran)
      (is : (lists : Lists) → does lists before turns ≡ chosen (truth_of (says before turns)) (first lists) (second lists)) (p : Evaluates found says before middle turns between) where
    pub head_stops : (why : Stop) → ((n : ℕ) (out : Out Value) → Gives found n out → Gives {A = Bool} (Err why) n (truth_of out)) → Runs (Err why) does before middle turns between
    head_stops why tested =
        record {
          comes = λ lists.
              stops_by why (is lists) (stops_then why (truth_of (says before turns)) (λ b n. chosen (Done b n) (first lists) (second lists)) (tested between (says before turns) p.gives));
          kept = keeps_same before middle p.kept;
        }

    pub head_goes : {r : Result Flow Stop} {inner : Lists → Run} {after : Env} {left : ℕ} (b d : Bool) → b ≡ d
        → ((n : ℕ) (out : Out Value) → Gives found n out → Gives (Ok b) n (truth_of out)) → ((lists : Lists) (n : ℕ) → chosen (Done d n) (first lists) (second lists) ≡ inner lists before n)
        → Runs r inner middle after between left → Runs r does before after turns left
    head_goes {r = r} {inner = inner} {after = after} {left = left} b d same tested goes q =
        record {
          comes = λ lists.
              comes_by r lists after left
              (is lists ∙ ap (λ (out : Out Bool). chosen out (first lists) (second lists)) (tested between (says before turns) p.gives ∙ ap (λ b. Done b between) same) ∙ goes lists between)
              (subst (λ env. Comes r lists after left (inner lists env between)) p.kept (q.comes lists));
          kept = subst (λ env. Keeps env after) p.kept q.kept;
        }

  -- ---- an arm, and what its body comes to

  module _ {found : Result Value Stop} {says : Env → ℕ → Out Value} {middle : Env} {between : ℕ} (look : Value → Option (List Stmt)) (arm : Lists → Option (List Stmt) → Run)
      (none : (lists : Lists) (env : Env) (n : ℕ) → arm lists None env n ≡ Ends Stuck)
      (is : (lists : Lists) → does lists before turns ≡ (says before turns >>= λ v n. within (arm lists (look v)) before n)) (p : Evaluates found says before middle turns between) where
    pub arm_stops : (why : Stop) → ((n : ℕ) (out : Out Value) → Gives found n out → Stops why (out >>= λ v n. or_stuck (look v) n)) → Runs (Err why) does before middle turns between
    arm_stops why taken =
        record {
          comes =
              λ lists.
              stops_by why (is lists)
              (looked_stops why (says before turns) look (λ v n. within (arm lists (look v)) before n)
              (λ v n isnt. ap (λ o. within (arm lists o) before n) isnt ∙ ap (λ (out : Out Ran). out >>= λ r n. ran r.flow before n) (none lists before n))
              (taken between (says before turns) p.gives));
          kept = keeps_same before middle p.kept;
        }

    pub arm_goes : {r : Result Flow Stop} {after : Env} {left : ℕ} (body : List Stmt) → ((n : ℕ) (out : Out Value) → Gives found n out → (out >>= λ v n. or_stuck (look v) n) ≡ Done body n)
        → Runs r (λ lists. within (arm lists (Some body))) middle after between left → Runs r does before after turns left
    arm_goes {r = r} {after = after} {left = left} body taken q =
        record {
          comes =
              λ lists.
              comes_by r lists after left
              (is lists
              ∙ looked_up body between (says before turns) look (λ v n. within (arm lists (look v)) before n) (within (arm lists (Some body)) before)
              (λ v n some. ap (λ o. within (arm lists o) before n) some) (taken between (says before turns) p.gives))
              (subst (λ env. Comes r lists after left (within (arm lists (Some body)) env between)) p.kept (q.comes lists));
          kept = subst (λ env. Keeps env after) p.kept q.kept;
        }

-- ---- statements one after another

module _ (items : List Item) (rows : List Row) (setting : Setting) (depth : ℕ) where
  abbrev pub all_do : List Stmt → Lists → Run
  all_do body lists = stmts_meant items rows setting depth lists body

  abbrev pub one_does : Stmt → Lists → Run
  one_does s lists = stmt_meant items rows setting depth lists s

  -- What is left comes to what the whole does from the start.
  pub record Through (body : List Stmt) (before now : Env) (turns left i : ℕ) : Type 0 where
    pub rest : (lists : Lists) → all_do (drop i body) lists now left ≡ all_do body lists before turns
    pub keeps : Keeps before now

  pub through : (body : List Stmt) (before : Env) (turns : ℕ) → Through body before before turns turns 0
  through body before turns = record { rest = λ lists. refl; keeps = keeps_all before }

  here : {body : List Stmt} {before now : Env} {turns left i : ℕ} → Through body before now turns left i → (s : Stmt) → i < length body → s ≡ get_or body i s → (lists : Lists)
      → all_do body lists before turns ≡ (one_does s lists now left >>= λ r n. then (all_do (drop (i + 1) body) lists) r.flow r.env n)
  here {body} {before} {now} {turns} {left} {i} p s lt is lists = sym (p.rest lists) ∙ ap (λ body. all_do body lists now left) (left_at body i s lt is)

  -- the statement goes on
  pub through_on : {body : List Stmt} {before now after : Env} {turns left then' i : ℕ} {r : Result Flow Stop} → Through body before now turns left i → (s : Stmt) → i < length body
      → s ≡ get_or body i s → Runs r (one_does s) now after left then' → goes_on r ≡ true → Through body before after turns then' (i + 1)
  through_on {body} {before} {now} {after} {turns} {left} {then'} {i} {r} p s lt is q goes =
      record {
        rest = λ lists. sym (here p s lt is lists ∙ ap (λ (out : Out Ran). out >>= λ r n. then (all_do (drop (i + 1) body) lists) r.flow r.env n) (by r goes lists (q.comes lists)));
        keeps = keeps_both before now after p.keeps q.kept;
      }
    where
      by : (r : Result Flow Stop) → goes_on r ≡ true → (lists : Lists) → Comes r lists after then' (one_does s lists now left) → one_does s lists now left ≡ ran Goes after then'
      by (Ok flow.Goes) goes lists is = is
      by (Ok (flow.Returns v)) goes lists is = absurd cc
      by (Ok (flow.Reached statements)) goes lists is = absurd cc
      by (Err why) goes lists is = absurd cc

  -- it ends all
  pub through_ends : {body : List Stmt} {before now after : Env} {turns left then' i : ℕ} {r : Result Flow Stop} → Through body before now turns left i → (s : Stmt) → i < length body
      → s ≡ get_or body i s → Runs r (one_does s) now after left then' → goes_on r ≡ false → Runs r (all_do body) before after turns then'
  through_ends {body} {before} {now} {after} {turns} {left} {then'} {i} {r} p s lt is q ends =
      record {
        comes = λ lists. comes_by r lists after then' (here p s lt is lists) (by r ends lists (one_does s lists now left) (q.comes lists));
        kept = keeps_both before now after p.keeps q.kept;
      }
    where
      finished : (lists : Lists) (behind : Env) (out : Out (List Change))
          → ((out >>= λ changes n. ran (Finishes changes) behind n) >>= λ r n. then (all_do (drop (i + 1) body) lists) r.flow r.env n) ≡ (out >>= λ changes n. ran (Finishes changes) behind n)
      finished lists behind (Done changes n) = refl
      finished lists behind (Ends halt) = refl

      by : (r : Result Flow Stop) → goes_on r ≡ false → (lists : Lists) (out : Out Ran) → Comes r lists after then' out
          → Comes r lists after then' (out >>= λ r n. then (all_do (drop (i + 1) body) lists) r.flow r.env n)
      by (Ok flow.Goes) ends lists out is = absurd cc
      by (Ok (flow.Returns v)) ends lists out is = (is.0, ap (λ (out : Out Ran). out >>= λ r n. then (all_do (drop (i + 1) body) lists) r.flow r.env n) is.1)
      by (Ok (flow.Reached statements)) ends lists out is =
          (is.0, ap (λ (out : Out Ran). out >>= λ r n. then (all_do (drop (i + 1) body) lists) r.flow r.env n) is.1 ∙ finished lists is.0 (lists statements.now after then'))
      by (Err why) ends lists out is = stops_then why out (λ r n. then (all_do (drop (i + 1) body) lists) r.flow r.env n) is

  pub all_through : {body : List Stmt} {before now : Env} {turns left i : ℕ} → Through body before now turns left i → i ≡ length body → Runs (Ok flow.Goes) (all_do body) before now turns left
  all_through {body} {before} {now} {turns} {left} {i} p is =
      record {
        comes = λ lists. sym (p.rest lists) ∙ ap (λ body. all_do body lists now left) (ap (λ n. drop n body) is ∙ drop-length body);
        kept = p.keeps;
      }
