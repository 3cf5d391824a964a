-- Blocks of actions statement by statement, and `map` row by row.
use Rattle.std.proofs.Common.{◌≡◌, ◌≤◌, ◌<◌, ◌==◌, ◌-◌, ℕ, zero, suc, ◌+◌, Bool, true, false, cond, List, [], ◌∷◌, ◌++◌, length, take, drop, get_or, refl, sym, ap, subst, ◌∙◌, arith, add-one}
use Rattle.std.proofs.Math.Seq.{drop-cons}
use Rattle.fact_store.specs.declared.row.Row.{Row}
use Rattle.policy_ast.specs.declared.item.Item.{Item}
use Rattle.policy_ast.specs.declared.policy.PlacedItem.{PlacedItem}
use Rattle.policy_ast.specs.declared.statement.Stmt.{Stmt}
use Rattle.policy_expressions.specs.Answers.{Keeps, Stops as HaltsBy}
use Rattle.policy_expressions.specs.declared.stop.Stop.{Stop as Halted}
use Rattle.policy_meaning.specs.Actions.{Deed, Did, Stops, Halts, World, ◌>>>◌, each_row, inside, told, with_turn, with_turns}
use Rattle.policy_meaning.specs.Desks.{Posting}
use Rattle.policy_meaning.specs.Environments.{Env, Setting, with_value}
use Rattle.policy_meaning.specs.Outcomes as out
use Rattle.policy_meaning.specs.Outcomes.{Out, Done, Ends, Fault}
use Rattle.policy_meaning.specs.Patterns.{row_value}
use Rattle.policy_meaning.specs.Typed.{AreTyped}
use Rattle.policy_meaning.specs.declared.ends.FaultKind.TheVariants as fault
use Rattle.policy_rules.specs.Names.{Name}
use Rattle.policy_eval.proofs.ActForms.{begins, fails, inside_told, stops_all, stops_on}
use Rattle.policy_eval.proofs.ActingFacts.{acted_all, acted_on, acted_still, acted_to, goes_from, goes_into}
use Rattle.policy_eval.proofs.DeedForms.{then_same}
use Rattle.policy_eval.specs.declared.cause.Cause.{Cause}
use Rattle.policy_eval.specs.working.Acting.{Acted, GoesWell, Standing, StopsFor, halted, reason, settled}
use Rattle.policy_eval.specs.working.ActionSteps.{BlockSoFar, RowsSoFar}
use Rattle.policy_eval.specs.working.Deeds.{deed, deeds}

-- what is left of a list at a place
pub left_at : {A : Type 0} (xs : List A) (i : ℕ) (x : A) → i < length xs → x ≡ get_or xs i x → drop i xs ≡ x ∷ drop (i + 1) xs
left_at xs i x lt is = drop-cons xs i x lt ∙ ap (λ y. y ∷ drop (suc i) xs) (sym is) ∙ ap (λ n. x ∷ drop n xs) (sym (add-one i))

pub past : {A : Type 0} (xs : List A) (i : ℕ) → length xs ≤ i → drop i xs ≡ []
past [] zero le = refl
past [] (suc i) le = refl
past (x ∷ xs) zero le = absurd (omega (arith, le))
past (x ∷ xs) (suc i) le = past xs i (omega (arith, le))

-- names that are kept, one after another
pub keeps_all : {A : Type 0} (xs : List A) → Keeps xs xs
keeps_all [] = refl
keeps_all (x ∷ xs) = ap (λ xs. x ∷ xs) (keeps_all xs)

pub keeps_both : {A : Type 0} (first second third : List A) → Keeps first second → Keeps second third → Keeps first third
keeps_both [] second third one other = refl
keeps_both (x ∷ first) [] third one other = cc
keeps_both (x ∷ first) (y ∷ second) [] one other = cc
keeps_both (x ∷ first) (y ∷ second) (z ∷ third) one other =
    let xy : y ≡ x = cc in
    let yz : z ≡ y = cc in
    let e : take (length first) second ≡ first = cc in
    let h : take (length second) third ≡ second = cc in
    let r : take (length first) third ≡ first = keeps_both first second third e h in
    cc

pub keeps_one : {A : Type 0} (xs : List A) (x : A) → Keeps xs (xs ++ x ∷ [])
keeps_one [] x = refl
keeps_one (y ∷ xs) x = ap (λ ys. y ∷ ys) (keeps_one xs x)

-- three parts one after another
three : {A B C : Type 0} (d : Deed A) (f : A → World → Deed B) (g : B → World → Deed C) → ((d >>> f) >>> g) ≡ (d >>> λ x w. f x w >>> g)
three (Did x w) f g = refl
three (Stops why w) f g = refl

module _ {D : Type 0} (publishes : D → List Row → Posting → D → Type 0) (policy : List PlacedItem) (items : List Item) (setting : Setting) where
  -- ---- a block

  module _ (body : List Stmt) (first : Env) where
    abbrev behind : ℕ → Env → World → Deed Env
    behind i env w = deeds items setting (drop (i + 1) body) env w >>> λ inner w. Did first w

    pub block_begins : (old : Standing D) → AreTyped policy old.rows → BlockSoFar publishes policy items setting body first 0 first old old
    block_begins old typed = record { acted = acted_still publishes policy (inside (deeds items setting body) first) _ old.desk old.rows old.turns old.turns old.ticks typed (λ left made. refl); kept = keeps_all first }

    module _ {i : ℕ} {env : Env} {old now : Standing D} (so_far : BlockSoFar publishes policy items setting body first i env old now) (s : Stmt) (lt : i < length body) (is : s ≡ get_or body i s) where
      pub block_next : Acted publishes policy (inside (deeds items setting body) first) (λ w. deed items setting s env w >>> behind i) old now
      block_next = acted_to publishes policy (inside (deeds items setting body) first) _ _ old now
          (λ w. ap settled (ap (λ more. deeds items setting more env w >>> λ inner w. Did first w) (left_at body i s lt is) ∙ three (deed items setting s env w) (deeds items setting (drop (i + 1) body)) (λ inner w. Did first w))) so_far.acted

      pub block_goes : GoesWell policy (inside (deeds items setting body) first) old.rows old.turns → GoesWell policy (deed items setting s env) now.rows now.turns
      block_goes goes = goes_into policy (deed items setting s env) (behind i) now.rows now.turns (goes_from publishes policy (inside (deeds items setting body) first) _ old now goes block_next)

      pub block_stops : (why : Cause) (new : Standing D) → StopsFor publishes policy (reason why) (deed items setting s env) now new → StopsFor publishes policy (reason why) (inside (deeds items setting body) first) old new
      block_stops why new stops = stops_on publishes policy (reason why) (inside (deeds items setting body) first) (deed items setting s env) (behind i) old now new block_next stops

      pub block_on : (after : Env) (new : Standing D) → Acted publishes policy (deed items setting s env) (Did after) now new → Keeps env after → BlockSoFar publishes policy items setting body first (i + 1) after old new
      block_on after new acted kept = record {
        acted = acted_on publishes policy (inside (deeds items setting body) first) (deed items setting s env) (Did after) (behind i) old now new block_next acted;
        kept = keeps_both first env after so_far.kept kept;
      }

    pub block_ends : {i : ℕ} {env : Env} {old now : Standing D} → BlockSoFar publishes policy items setting body first i env old now → length body ≤ i
        → Acted publishes policy (inside (deeds items setting body) first) (Did first) old now
    block_ends {i} {env} {old} {now} so_far le = acted_to publishes policy (inside (deeds items setting body) first) _ (Did first) old now
        (λ w. ap (λ more. settled (deeds items setting more env w >>> λ inner w. Did first w)) (past body i le)) so_far.acted

  -- ---- the rows of a `map`

  module _ (name : Name) (body : List Stmt) (all : List Row) (first : Env) where
    pub rows_begin : (old : Standing D) → AreTyped policy old.rows → RowsSoFar publishes policy items setting name body all all first first old old
    rows_begin old typed = record { acted = acted_still publishes policy (each_row name (deeds items setting body) first all) _ old.desk old.rows old.turns old.turns old.ticks typed (λ left made. refl); same = refl }

    abbrev next : List Row → Env → World → Deed Env
    next more inner w = each_row name (deeds items setting body) first more w

    -- the turn that a row takes, and its name
    abbrev entered : Row → ℕ → Out Env
    entered row turns = out.with_turn (λ turns. Done (with_value first name (row_value row)) turns) turns

    turn_told : {A : Type 0} (env : Env) (f : Env → World → Deed A) (w : World) → with_turn (f env) w ≡ (told w (out.with_turn (λ turns. Done env turns) w.turns) >>> f)
    turn_told env f w = by (w.turns == 0)
      where
        by : (b : Bool) → cond b (Stops (Halts (Fault fault.Turns)) w) (f env (with_turns w (w.turns - 1))) ≡ (told w (cond b (Ends (Fault fault.Turns)) (Done env (w.turns - 1))) >>> f)
        by true = refl
        by false = refl

    row_is : (row : Row) (more : List Row) (w : World) → each_row name (deeds items setting body) first (row ∷ more) w
        ≡ (told w (entered row w.turns) >>> λ env w. inside (deeds items setting body) env w >>> next more)
    row_is row more w =
        ap (λ d. d >>> next more) (turn_told (with_value first name (row_value row)) (deeds items setting body) w)
        ∙ three (told w (entered row w.turns)) (deeds items setting body) (next more)
        ∙ then_same (told w (entered row w.turns)) (λ env w. deeds items setting body env w >>> next more) (λ env w. inside (deeds items setting body) env w >>> next more)
        (λ env w. inside_told (deeds items setting body env w) env (each_row name (deeds items setting body) first more))

    pub rows_end : {left : List Row} {env : Env} {old now : Standing D} → RowsSoFar publishes policy items setting name body all left first env old now → left ≡ []
        → Acted publishes policy (each_row name (deeds items setting body) first all) (Did env) old now
    rows_end {left} {env} {old} {now} so_far none = subst (λ env. Acted publishes policy (each_row name (deeds items setting body) first all) (Did env) old now) (sym so_far.same)
        (acted_to publishes policy (each_row name (deeds items setting body) first all) (each_row name (deeds items setting body) first left) (Did first) old now
        (λ w. ap (λ left. settled (each_row name (deeds items setting body) first left w)) none) so_far.acted)

    module _ {row : Row} {more : List Row} {env : Env} {old now : Standing D} (so_far : RowsSoFar publishes policy items setting name body all (row ∷ more) first env old now) (left : ℕ) where
      -- no turn is left for a row
      pub row_fails : (why : Halted) → HaltsBy why (entered row now.turns) → StopsFor publishes policy (halted why) (each_row name (deeds items setting body) first all) old (record now { turns = left })
      row_fails why stops = stops_all publishes policy (halted why) (each_row name (deeds items setting body) first all) (each_row name (deeds items setting body) first (row ∷ more)) old now (record now { turns = left }) so_far.acted
          (fails publishes policy (each_row name (deeds items setting body) first (row ∷ more)) (λ rows turns. entered row turns) (λ env w. inside (deeds items setting body) env w >>> next more) (λ w. ap settled (row_is row more w)) now.desk now.rows now.turns left now.ticks
          so_far.acted.typed why stops)

      module _ (inner : Env) (gives : entered row now.turns ≡ Done inner left) where
        pub row_enters : Acted publishes policy (each_row name (deeds items setting body) first all) (λ w. inside (deeds items setting body) inner w >>> next more) old (record now { turns = left })
        row_enters = acted_all publishes policy (each_row name (deeds items setting body) first all) (each_row name (deeds items setting body) first (row ∷ more)) _ old now (record now { turns = left }) so_far.acted
            (begins publishes policy (each_row name (deeds items setting body) first (row ∷ more)) (λ rows turns. entered row turns) (λ env w. inside (deeds items setting body) env w >>> next more) (λ w. ap settled (row_is row more w)) now.desk now.rows now.turns left now.ticks
            so_far.acted.typed inner gives)

        pub row_goes : GoesWell policy (each_row name (deeds items setting body) first all) old.rows old.turns → GoesWell policy (inside (deeds items setting body) inner) now.rows left
        row_goes goes = goes_into policy (inside (deeds items setting body) inner) (next more) now.rows left
            (goes_from publishes policy (each_row name (deeds items setting body) first all) _ old (record now { turns = left }) goes row_enters)

        pub row_stops : (why : Cause) (new : Standing D) → StopsFor publishes policy (reason why) (inside (deeds items setting body) inner) (record now { turns = left }) new
            → StopsFor publishes policy (reason why) (each_row name (deeds items setting body) first all) old new
        row_stops why new stops = stops_on publishes policy (reason why) (each_row name (deeds items setting body) first all) (inside (deeds items setting body) inner) (next more) old (record now { turns = left }) new row_enters stops

        pub row_on : (after : Env) (new : Standing D) (last : Env) → Acted publishes policy (inside (deeds items setting body) inner) (Did after) (record now { turns = left }) new → last ≡ first
            → RowsSoFar publishes policy items setting name body all more first last old new
        row_on after new last acted same = record {
          acted = acted_on publishes policy (each_row name (deeds items setting body) first all) (inside (deeds items setting body) inner) (Did after) (next more) old (record now { turns = left }) new row_enters acted;
          same = same;
        }
