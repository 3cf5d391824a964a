-- What is found of statements one after the other.
use Rattle.std.proofs.Common.{◌≡◌, ℕ, ◌+◌, ◌-◌, ◌<◌, Bool, true, false, not, ◌&&◌, nat_lt, suc, List, [], ◌∷◌, length, take, drop, get_or, Option, Some, None, Result, Ok, Err, refl, sym, ap, subst, ◌∙◌, arith}
use Rattle.std.proofs.Math.Seq.{drop-length}
use Rattle.std.proofs.lemmas.Bool.Decides.{nat_tests}
use Rattle.std.proofs.lemmas.List.{length-drop}
use Rattle.std.specs.Option.{is_some}
use Rattle.policy_ast.specs.declared.item.Item.{Item}
use Rattle.policy_ast.specs.declared.statement.Arm.{Arm}
use Rattle.policy_ast.specs.declared.statement.Stmt.{Stmt, out-Stmt}
use Rattle.policy_infer.proofs.FieldFacts.{left_at}
use Rattle.policy_infer.proofs.ScopeFacts.{keeps_all, keeps_both, keeps_same}
use Rattle.policy_infer.specs.declared.refusal.Refusal.{Refusal}
use Rattle.policy_infer.specs.declared.refusal.Refusal.TheVariants as refusal
use Rattle.policy_infer.specs.working.Answers.{Allows, Infers, Judges, Keeps, Leads, LeadsOn, Tests, TestsWithin}
use Rattle.policy_infer.specs.working.Behind.{are_arms, are_stmts, behind}
use Rattle.policy_infer.specs.working.Types.{introduced}
use Rattle.policy_rules.specs.Names.{Name}
use Rattle.policy_rules.specs.Scopes.{Scope}
use Rattle.policy_rules.specs.Statements.{is_last_layer, may_precede}
use Rattle.policy_rules.specs.declared.context.Context.{Context}
use Rattle.policy_rules.specs.declared.types.NamedType.{NamedType}
use Rattle.policy_rules.specs.Inference.{◌>>=◌, only_if}
use Rattle.policy_rules.specs.Judging.{holds}

-- ---- one statement

tested : (r : Result Unit Refusal) (b : Bool) (o : Option Scope) (before after : Scope) → Allows r b → o ≡ only_if b (Some before) → after ≡ before → Leads r o after
tested (Ok x) b o before after is gives same = gives ∙ ap (λ b. only_if b (Some before)) is ∙ ap Some (sym same)
tested (Err refusal.IllTyped) b o before after is gives same = gives ∙ ap (λ b. only_if b (Some before)) is
tested (Err refusal.NoMemory) b o before after is gives same = tt

-- a statement that introduces no name
pub by_test : (found : Scope → Option Scope) (before after : Scope) (r : Result Unit Refusal) (b : Bool) → found before ≡ only_if b (Some before) → Allows r b → after ≡ before
    → LeadsOn r found before after
by_test found before after r b gives is same = record { judged = tested r b (found before) before after is gives same; kept = keeps_same before after same }

-- one that introduces a name
pub by_name : (items : List Item) (context : Context) (name : Name) (found : Scope → Option Scope) (one : Scope → Option NamedType) (before middle after : Scope) {first : Result NamedType Refusal} (r : Result Unit Refusal)
    → found before ≡ introduced items context name before (one before) → Infers first one before middle
    → ((o : Option NamedType) → Judges first o → Leads r (introduced items context name middle o) after) → Keeps middle after → LeadsOn r found before after
by_name items context name found one before middle after r gives p leads keeps =
    record {
      judged = subst (λ o. Leads r o after) (sym gives) (subst (λ scope. Leads r (introduced items context name scope (one before)) after) p.kept (leads (one before) p.judged));
      kept = subst (λ scope. Keeps scope after) p.kept keeps;
    }

-- names that a list put behind the scope are taken off
pub within_test : {r : Result Unit Refusal} {test : Scope → Bool} {before after last : Scope} → TestsWithin r test before after → (n : ℕ) → n ≡ length before → last ≡ take n after → Tests r test before last
within_test {before = before} {after = after} p n is taken = record { judged = p.judged; kept = taken ∙ ap (λ n. take n after) is ∙ p.kept }

-- `match`, by its head and its arms
pub arms_test : (found : Scope → Option Scope) (test : Scope → Bool) (before first second last : Scope) (head bodies r : Result Unit Refusal) (a : Bool) (n : ℕ)
    → found before ≡ only_if (a && test before) (Some before) → Allows head a → first ≡ before → TestsWithin bodies test first second → n ≡ length first → last ≡ take n second
    → ((a b : Bool) → Allows head a → Allows bodies b → Allows r (a && b)) → LeadsOn r found before last
arms_test found test before first second last head bodies r a n gives is kept p len taken both =
    let q = within_test p n len taken in
    by_test found before last r (a && test before) gives (both a (test before) is (subst (λ scope. Allows bodies (test scope)) kept q.judged)) (q.kept ∙ kept)

-- `if`, by its head, its block and what follows `else`
pub branches_test : (found : Scope → Option Scope) (test other : Scope → Bool) (before first second third fourth last : Scope) (head then' otherwise inner r : Result Unit Refusal) (a : Bool) (n : ℕ)
    → found before ≡ only_if (a && (test before && other before)) (Some before) → Allows head a → first ≡ before → TestsWithin then' test first second → n ≡ length first → third ≡ take n second
    → TestsWithin otherwise other third fourth → last ≡ take n fourth → ((a b : Bool) → Allows then' a → Allows otherwise b → Allows inner (a && b))
    → ((a b : Bool) → Allows head a → Allows inner b → Allows r (a && b)) → LeadsOn r found before last
branches_test found test other before first second third fourth last head then' otherwise inner r a n gives is kept p len taken q cut both all =
    let p' : Tests then' test first third = within_test p n len taken in
    let q' : Tests otherwise other third last = within_test q n (len ∙ ap (λ scope. length scope) (sym p'.kept)) cut in
    by_test found before last r (a && (test before && other before)) gives
    (all a (test before && other before) is
    (both (test before) (other before) (subst (λ scope. Allows then' (test scope)) kept p'.judged) (subst (λ scope. Allows otherwise (other scope)) (p'.kept ∙ kept) q'.judged)))
    (q'.kept ∙ p'.kept ∙ kept)

failed : (r : Refusal) (o p : Option Scope) (after : Scope) → (o ≡ None → p ≡ None) → Leads (Err r) o after → Leads (Err r) p after
failed refusal.IllTyped o p after so is = so is
failed refusal.NoMemory o p after so is = tt

-- the head of a `map` is refused
pub map_fails : (found first : Scope → Option Scope) (rest : Scope → Option Scope) (before after : Scope) (r : Refusal) → found before ≡ (first before >>= rest)
    → LeadsOn (Err r) first before after → LeadsOn (Err r) found before after
map_fails found first rest before after r gives p =
    record { judged = failed r (first before) (found before) after (λ none. gives ∙ ap (λ o. o >>= rest) none) p.judged; kept = p.kept }

-- its body is tested in the scope with the row's name
pub map_tests : (found first : Scope → Option Scope) (test : Scope → Bool) (before inner after last : Scope) (r : Result Unit Refusal) (n : ℕ)
    → found before ≡ (first before >>= λ inner. only_if (test inner) (Some before)) → LeadsOn (Ok tt) first before inner → TestsWithin r test inner after → n ≡ length before
    → last ≡ take n after → LeadsOn r found before last
map_tests found first test before inner after last r n gives p q is taken =
    let same : last ≡ before = taken ∙ ap (λ n. take n after) is ∙ keeps_both before inner after p.kept q.kept in
    by_test found before last r (test inner) (gives ∙ ap (λ o. o >>= λ inner. only_if (test inner) (Some before)) p.judged) q.judged same

-- ---- lists of statements

pub precede_is : (s : Stmt) (more : List Stmt) (n : ℕ) → n ≡ length more → may_precede s more ≡ not (is_last_layer (out-Stmt s) && nat_lt 0 n)
precede_is s [] n is = sym (ap (λ n. not (is_last_layer (out-Stmt s) && nat_lt 0 n)) is ∙ by (is_last_layer (out-Stmt s)))
  where
    by : (b : Bool) → not (b && false) ≡ true
    by true = refl
    by false = refl
precede_is s (m ∷ more) n is =
    sym (ap (λ n. not (is_last_layer (out-Stmt s) && nat_lt 0 n)) is ∙ ap (λ b. not (is_last_layer (out-Stmt s) && b)) (above (length more)) ∙ by (is_last_layer (out-Stmt s)))
  where
    above : (n : ℕ) → nat_lt 0 (suc n) ≡ true
    above n = grind (arith, nat_tests)

    by : (b : Bool) → not (b && true) ≡ not b
    by true = refl
    by false = refl

behind_at : (body : List Stmt) (i : ℕ) → (length body - i) - 1 ≡ length (drop (i + 1) body)
behind_at body i = omega (arith, length-drop (i + 1) body)

same_at : (body : List Stmt) (i : ℕ) (s again : Stmt) → i < length body → s ≡ get_or body i s → again ≡ get_or body i again → s ≡ again
same_at body i s again lt is is_too =
    let e : s ∷ drop (i + 1) body ≡ again ∷ drop (i + 1) body = sym (left_at body i s lt is) ∙ left_at body i again lt is_too in
    cc

module _ (items : List Item) (context : Context) where
  -- What is left is well typed in the scope as it is now, just where the whole is in the scope as it was lent.
  pub record Through (body : List Stmt) (before now : Scope) (i : ℕ) : Type 0 where
    pub rest : are_stmts items context (drop i body) now ≡ are_stmts items context body before
    pub keeps : Keeps before now

  pub through : (body : List Stmt) (before : Scope) → Through body before before 0
  through body before = record { rest = refl; keeps = keeps_all before }

  next : {body : List Stmt} {before now : Scope} {i : ℕ} → Through body before now i → (s : Stmt) → i < length body → s ≡ get_or body i s
      → are_stmts items context body before ≡ holds (behind items context s now) (λ after. may_precede s (drop (i + 1) body) && are_stmts items context (drop (i + 1) body) after)
  next {body} {before} {now} {i} p s lt is = sym p.rest ∙ ap (λ body. are_stmts items context body now) (left_at body i s lt is)

  -- a statement is refused
  pub stmt_stops : {body : List Stmt} {before now after : Scope} {i : ℕ} → Through body before now i → (s : Stmt) (r : Refusal) → i < length body → s ≡ get_or body i s
      → LeadsOn (Err r) (behind items context s) now after → TestsWithin (Err r) (are_stmts items context body) before after
  stmt_stops {body} {before} {now} {after} {i} p s r lt is q = record { judged = by r q.judged; kept = keeps_both before now after p.keeps q.kept }
    where
      by : (r : Refusal) → Leads (Err r) (behind items context s now) after → Allows (Err r) (are_stmts items context body before)
      by refusal.IllTyped none = next p s lt is ∙ ap (λ o. holds o (λ after. may_precede s (drop (i + 1) body) && are_stmts items context (drop (i + 1) body) after)) none
      by refusal.NoMemory none = tt

  behind_it : {body : List Stmt} {before now after : Scope} {i : ℕ} → Through body before now i → (s : Stmt) → i < length body → s ≡ get_or body i s
      → LeadsOn (Ok tt) (behind items context s) now after
      → are_stmts items context body before ≡ (may_precede s (drop (i + 1) body) && are_stmts items context (drop (i + 1) body) after)
  behind_it {body} {before} {now} {after} {i} p s lt is q =
      next p s lt is ∙ ap (λ o. holds o (λ after. may_precede s (drop (i + 1) body) && are_stmts items context (drop (i + 1) body) after)) q.judged

  left_behind : (body : List Stmt) (i : ℕ) (s again : Stmt) (b : Bool) → i < length body → s ≡ get_or body i s → again ≡ get_or body i again
      → b ≡ (is_last_layer (out-Stmt again) && nat_lt 0 ((length body - i) - 1)) → may_precede s (drop (i + 1) body) ≡ not b
  left_behind body i s again b lt is is_too says =
      precede_is s (drop (i + 1) body) ((length body - i) - 1) (behind_at body i) ∙ ap not (ap (λ s. is_last_layer (out-Stmt s) && nat_lt 0 ((length body - i) - 1)) (same_at body i s again lt is is_too) ∙ sym says)

  -- it may not stand before the others
  pub last_stops : {body : List Stmt} {before now after : Scope} {i : ℕ} → Through body before now i → (s again : Stmt) (b : Bool) → i < length body → s ≡ get_or body i s
      → again ≡ get_or body i again → LeadsOn (Ok tt) (behind items context s) now after → b ≡ (is_last_layer (out-Stmt again) && nat_lt 0 ((length body - i) - 1)) → b ≡ true
      → TestsWithin (Err refusal.IllTyped) (are_stmts items context body) before after
  last_stops {body} {before} {now} {after} {i} p s again b lt is is_too q says so =
      record {
        judged = behind_it p s lt is q ∙ ap (λ b. b && are_stmts items context (drop (i + 1) body) after) (left_behind body i s again b lt is is_too says ∙ ap not so);
        kept = keeps_both before now after p.keeps q.kept;
      }

  pub through_on : {body : List Stmt} {before now after : Scope} {i : ℕ} → Through body before now i → (s again : Stmt) (b : Bool) → i < length body → s ≡ get_or body i s
      → again ≡ get_or body i again → LeadsOn (Ok tt) (behind items context s) now after → b ≡ (is_last_layer (out-Stmt again) && nat_lt 0 ((length body - i) - 1)) → b ≡ false
      → Through body before after (i + 1)
  through_on {body} {before} {now} {after} {i} p s again b lt is is_too q says so =
      record {
        rest = sym (behind_it p s lt is q ∙ ap (λ b. b && are_stmts items context (drop (i + 1) body) after) (left_behind body i s again b lt is is_too says ∙ ap not so));
        keeps = keeps_both before now after p.keeps q.kept;
      }

  all_through : {body : List Stmt} {before now : Scope} {i : ℕ} → Through body before now i → i ≡ length body → are_stmts items context body before ≡ true
  all_through {body} {before} {now} {i} p is = sym p.rest ∙ ap (λ body. are_stmts items context body now) (ap (λ n. drop n body) is ∙ drop-length body)

  pub stmts_end : {body : List Stmt} {before now : Scope} {i : ℕ} → Through body before now i → i ≡ length body → TestsWithin (Ok tt) (are_stmts items context body) before now
  stmts_end p is = record { judged = all_through p is; kept = p.keeps }

  -- an `if` behind `else`
  pub as_else : (s : Stmt) (before after : Scope) (r : Result Unit Refusal) → LeadsOn r (behind items context s) before after → TestsWithin r (λ scope. is_some (behind items context s scope)) before after
  as_else s before after r p = record { judged = by r p.judged; kept = p.kept }
    where
      by : (r : Result Unit Refusal) → Leads r (behind items context s before) after → Allows r (is_some (behind items context s before))
      by (Ok x) is = ap is_some is
      by (Err refusal.IllTyped) is = ap is_some is
      by (Err refusal.NoMemory) is = tt

  -- ---- arms

  -- What is left is well typed just where all arms are, and the scope is as it was.
  pub record ArmsSoFar (arms : List (Arm Stmt)) (before now : Scope) (i : ℕ) : Type 0 where
    pub rest : are_arms items context (drop i arms) before ≡ are_arms items context arms before
    pub kept : now ≡ before

  pub arms_begin : (arms : List (Arm Stmt)) (before : Scope) → ArmsSoFar arms before before 0
  arms_begin arms before = record { rest = refl; kept = refl }

  this_arm : {arms : List (Arm Stmt)} {before now : Scope} {i : ℕ} → ArmsSoFar arms before now i → (a : Arm Stmt) → i < length arms → a ≡ get_or arms i a
      → are_arms items context arms before ≡ (are_stmts items context a.body now && are_arms items context (drop (i + 1) arms) before)
  this_arm {arms} {before} {now} {i} p a lt is =
      sym p.rest ∙ ap (λ arms. are_arms items context arms before) (left_at arms i a lt is)
      ∙ ap (λ scope. are_stmts items context a.body scope && are_arms items context (drop (i + 1) arms) before) (sym p.kept)

  -- the body of an arm is refused
  pub arm_stops : {arms : List (Arm Stmt)} {before now after : Scope} {i : ℕ} → ArmsSoFar arms before now i → (a : Arm Stmt) (r : Refusal) → i < length arms → a ≡ get_or arms i a
      → TestsWithin (Err r) (are_stmts items context a.body) now after → TestsWithin (Err r) (are_arms items context arms) before after
  arm_stops {arms} {before} {now} {after} {i} p a r lt is q = record { judged = by r q.judged; kept = subst (λ scope. Keeps scope after) p.kept q.kept }
    where
      by : (r : Refusal) → Allows (Err r) (are_stmts items context a.body now) → Allows (Err r) (are_arms items context arms before)
      by refusal.IllTyped isnt = this_arm p a lt is ∙ ap (λ b. b && are_arms items context (drop (i + 1) arms) before) isnt
      by refusal.NoMemory isnt = tt

  pub arms_on : {arms : List (Arm Stmt)} {before now after last : Scope} {i : ℕ} → ArmsSoFar arms before now i → (a : Arm Stmt) (n : ℕ) → i < length arms → a ≡ get_or arms i a
      → TestsWithin (Ok tt) (are_stmts items context a.body) now after → n ≡ length now → last ≡ take n after → ArmsSoFar arms before last (i + 1)
  arms_on {arms} {before} {now} {after} {last} {i} p a n lt is q len taken =
      record {
        rest = sym (this_arm p a lt is ∙ ap (λ b. b && are_arms items context (drop (i + 1) arms) before) q.judged);
        kept = taken ∙ ap (λ n. take n after) len ∙ q.kept ∙ p.kept;
      }

  pub arms_end : {arms : List (Arm Stmt)} {before now : Scope} {i : ℕ} → ArmsSoFar arms before now i → i ≡ length arms → TestsWithin (Ok tt) (are_arms items context arms) before now
  arms_end {arms} {before} {now} {i} p is =
      record {
        judged = sym p.rest ∙ ap (λ arms. are_arms items context arms before) (ap (λ n. drop n arms) is ∙ drop-length arms);
        kept = keeps_same before now p.kept;
      }
