-- What the code owes for each form of statement of an action.
use Rattle.std.proofs.Common.{◌≡◌, ℕ, Bool, true, false, cond, IfSome, OnOk, List, [], Option, Some, None, Result, Ok, Err, refl, sym, ap, subst, ◌∙◌}
use Rattle.std.specs.Borrow.{Bor}
use Rattle.std.specs.Global.{Vec}
use Rattle.base_bytes.specs.declared.value.Value.{Value}
use Rattle.fact_store.specs.declared.row.Row.{Row}
use Rattle.fact_store.specs.declared.wanted.Wanted.{Wanted}
use Rattle.policy_ast.specs.declared.expr.Expr.{Expr}
use Rattle.policy_ast.specs.declared.expr.Let.{Let}
use Rattle.policy_ast.specs.declared.finish.FinishStmt.{FinishStmt}
use Rattle.policy_ast.specs.declared.item.Item.{Item}
use Rattle.policy_ast.specs.declared.pattern.Pattern.{Pattern}
use Rattle.policy_ast.specs.declared.policy.PlacedItem.{PlacedItem}
use Rattle.policy_ast.specs.declared.statement.Arm.{Arm}
use Rattle.policy_ast.specs.declared.statement.Else.{Else}
use Rattle.policy_ast.specs.declared.statement.Else.TheVariants as else_stmt
use Rattle.policy_ast.specs.declared.statement.IfStmt.{IfStmt}
use Rattle.policy_ast.specs.declared.statement.Stmt.{Stmt}
use Rattle.policy_ast.specs.declared.statement.Stmt.TheVariants as stmt
use Rattle.policy_expressions.specs.Answers.{Gives, Keeps, Leaves, Stops as HaltsBy}
use Rattle.policy_expressions.specs.Forms.{check_of, one_named, truth_of}
use Rattle.policy_expressions.specs.Meant.{meant, wanted_meant}
use Rattle.policy_expressions.specs.declared.stop.Stop.{Stop as Halted}
use Rattle.policy_expressions.specs.declared.stop.Stop.TheVariants as stop
use Rattle.policy_meaning.specs.Actions.{Deed, Did, Stops, Stop, Halts, World, ◌>>>◌, each_row, after_answer, inside, published, told, with_turns}
use Rattle.policy_meaning.specs.Arms.{first_body}
use Rattle.policy_meaning.specs.Desks.{Posting, Publishes, Stay}
use Rattle.policy_meaning.specs.Environments.{Env, Setting, with_value}
use Rattle.policy_meaning.specs.Outcomes.{Stuck, Out, Done, Ends, ◌>>=◌, or_stuck}
use Rattle.policy_meaning.specs.Typed.{AreTyped, IsCommandOf}
use Rattle.policy_meaning.specs.Values.{struct_parts}
use Rattle.policy_meaning.specs.declared.ends.Posted.{Posted}
use Rattle.policy_meaning.specs.declared.ends.Posted.TheVariants as posted
use Rattle.policy_rules.specs.Calls.{longest_chain}
use Rattle.policy_rules.specs.Names.{Name}
use Rattle.policy_eval.proofs.ActionLoops.{keeps_all}
use Rattle.policy_eval.proofs.ActForms.{acts_all, begins, check_told, choice_told, fails, leaves, let_told, rows_told}
use Rattle.policy_eval.proofs.ActingFacts.{acted_publish, acted_still, acted_then, goes_from, goes_into}
use Rattle.policy_eval.proofs.DeedForms.{check_is, choice_is, finish_is, let_is, map_is, match_is, publish_is, return_is}
use Rattle.policy_eval.specs.declared.cause.Cause.{Cause}
use Rattle.policy_eval.specs.working.Acting.{Acted, Acts, GivesRows, GoesWell, Standing, StopsFor, StopsWell, caused, halted, posted_as, reason, settled, standing, world}
use Rattle.policy_eval.specs.working.Deeds.{arm_deed, deed, deeds, else_deed, rows_matching}
use Rattle.policy_eval.specs.working.Endings.{Evaluates, GivesBody}
use Rattle.policy_eval.specs.working.Steps.{body_of}

body_told : (items : List Item) (setting : Setting) (out : Out Value) (arms : List (Arm Stmt)) (env : Env) (w : World)
    → settled (told w out >>> λ v w. inside (arm_deed items setting (first_body items v arms)) env w) ≡ settled (told w (body_of items arms out) >>> λ body w. inside (deeds items setting body) env w)
body_told items setting (Ends halt) arms env w = refl
body_told items setting (Done v turns) arms env w = by (first_body items v arms)
  where
    by : (o : Option (List Stmt)) → settled (inside (arm_deed items setting o) env (with_turns w turns)) ≡ settled (told w (or_stuck o turns) >>> λ body w. inside (deeds items setting body) env w)
    by (Some body) = refl
    by None = refl

module _ {D : Type 0} (publishes : D → List Row → Posting → D → Type 0) (policy : List PlacedItem) (items : List Item) (setting : Setting) (s : Stmt) (env : Env) (desk : D) (rows : List Row)
    (turns ticks : ℕ) (typed : AreTyped policy rows) where
  abbrev start : Standing D
  start = standing desk rows turns ticks

  abbrev at : ℕ → Standing D
  at left = standing desk rows left ticks

  abbrev does : World → Deed Env
  does = deed items setting s env

  -- ---- `let` and `check`

  pub let_arm : (one : Let Expr) → s ≡ stmt.Let one → (found : Result Value Halted) (r : Result (Unit {0}) Halted) (result : Result (Unit {0}) Cause) (middle after : Env) (left : ℕ)
      → Evaluates found (meant items rows setting longest_chain one.value) env middle turns left → ((turns : ℕ) (out : Out Value) → Gives found turns out → Leaves r after turns (one_named middle one.name out))
      → result ≡ caused r → Acts publishes policy result after does start (at left)
  let_arm one is found r result middle after left evaluates named same =
      subst (λ result. Acts publishes policy result after does start (at left)) (sym same)
      (leaves publishes policy r after does (λ rows turns. one_named env one.name (meant items rows setting longest_chain one.value env turns))
      (λ w. ap settled (ap (λ s. deed items setting s env w) is ∙ let_is items setting env w one ∙ let_told (meant items w.rows setting longest_chain one.value env w.turns) (with_value env one.name) w))
      desk rows turns left ticks typed
      (subst (λ env'. Leaves r after left (one_named env' one.name (meant items rows setting longest_chain one.value env turns))) evaluates.kept
      (named left (meant items rows setting longest_chain one.value env turns) evaluates.gives)))

  pub check_arm : (e : Expr) → s ≡ stmt.Check e → (found : Result Value Halted) (r : Result (Unit {0}) Halted) (result : Result (Unit {0}) Cause) (middle : Env) (left : ℕ)
      → Evaluates found (meant items rows setting longest_chain e) env middle turns left → ((turns : ℕ) (out : Out Value) → Gives found turns out → Gives r turns (check_of out))
      → result ≡ caused r → Acts publishes policy result middle does start (at left)
  check_arm e is found r result middle left evaluates checks same =
      subst (λ result. Acts publishes policy result middle does start (at left)) (sym same)
      (subst (λ env'. Acts publishes policy (caused r) env' does start (at left)) (sym evaluates.kept)
      (leaves publishes policy r env does (λ rows turns. check_of (meant items rows setting longest_chain e env turns) >>= λ done turns. Done env turns)
      (λ w. ap (λ s. settled (deed items setting s env w)) is ∙ ap settled (check_is items setting env w e) ∙ check_told (meant items w.rows setting longest_chain e env w.turns) env w
      ∙ env_told (check_of (meant items w.rows setting longest_chain e env w.turns)) w)
      desk rows turns left ticks typed (passed r (check_of (meant items rows setting longest_chain e env turns)) (checks left (meant items rows setting longest_chain e env turns) evaluates.gives))))
    where
      env_told : (out : Out (Unit {0})) (w : World) → settled (told w out >>> λ done w. Did env w) ≡ settled (told w (out >>= λ done turns. Done env turns) >>> λ x w. Did x w)
      env_told (Done done turns) w = refl
      env_told (Ends halt) w = refl

      passed : (r : Result (Unit {0}) Halted) (out : Out (Unit {0})) → Gives r left out → Leaves r env left (out >>= λ done turns. Done env turns)
      passed (Ok done) out is = ap (λ out. out >>= λ done turns. Done env turns) is
      passed (Err stop.Check) out is = ap (λ out. out >>= λ done turns. Done env turns) is
      passed (Err (stop.Fault kind)) out is = ap (λ out. out >>= λ done turns. Done env turns) is
      passed (Err stop.Stuck) out is = ap (λ out. out >>= λ done turns. Done env turns) is
      passed (Err stop.NoMemory) out is = tt

  -- ---- what leads on to something else

  module _ {A : Type 0} (first : List Row → ℕ → Out A) (next : A → World → Deed Env) (is : (w : World) → settled (does w) ≡ settled (told w (first w.rows w.turns) >>> next)) (left : ℕ) where
    arm_fails : (why : Halted) → HaltsBy why (first rows turns) → StopsFor publishes policy (halted why) does start (at left)
    arm_fails why stops = fails publishes policy does first next is desk rows turns left ticks typed why stops

    module _ (x : A) (gives : first rows turns ≡ Done x left) where
      arm_begins : Acted publishes policy does (next x) start (at left)
      arm_begins = begins publishes policy does first next is desk rows turns left ticks typed x gives

      arm_goes : GoesWell policy does rows turns → GoesWell policy (next x) rows left
      arm_goes goes = goes_from publishes policy does (next x) start (at left) goes arm_begins

      arm_on : {X : Type 0} (r : Result X Cause) (after : Env) (new : Standing D) → Acts publishes policy r after (next x) (at left) new → Acts publishes policy r after does start new
      arm_on r after new acts = acts_all publishes policy r after does (next x) start (at left) new arm_begins acts

  -- ---- `if`

  module _ (x : IfStmt Stmt) (is : s ≡ stmt.If x) (found : Result Value Halted) (middle : Env) (left : ℕ) (evaluates : Evaluates found (meant items rows setting longest_chain x.head) env middle turns left)
      (r : Result Bool Halted) (tests : (turns : ℕ) (out : Out Value) → Gives found turns out → Gives r turns (truth_of out)) where
    abbrev head : List Row → ℕ → Out Bool
    head rows turns = truth_of (meant items rows setting longest_chain x.head env turns)

    abbrev branches : Bool → World → Deed Env
    branches b w = cond b (inside (deeds items setting x.then) env w) (inside (else_deed items setting x.otherwise) env w)

    choice_form : (w : World) → settled (does w) ≡ settled (told w (head w.rows w.turns) >>> branches)
    choice_form w = ap (λ s. settled (deed items setting s env w)) is ∙ ap settled (choice_is items setting env w x)
        ∙ choice_told (meant items w.rows setting longest_chain x.head env w.turns) (inside (deeds items setting x.then) env) (inside (else_deed items setting x.otherwise) env) w

    pub choice_fails : (why : Halted) → r ≡ Err why → StopsFor publishes policy (halted why) does start (at left)
    choice_fails why none = arm_fails head branches choice_form left why (subst (λ r. Gives r left (head rows turns)) none (tests left (meant items rows setting longest_chain x.head env turns) evaluates.gives))

    told_so : (b : Bool) → r ≡ Ok b → head rows turns ≡ Done b left
    told_so b is = subst (λ r. Gives r left (head rows turns)) is (tests left (meant items rows setting longest_chain x.head env turns) evaluates.gives)

    module _ (true_is : r ≡ Ok true) (body : List Stmt) (same : body ≡ x.then) where
      pub then_goes : GoesWell policy does rows turns → GoesWell policy (inside (deeds items setting body) middle) rows left
      then_goes goes = subst (λ body. GoesWell policy (inside (deeds items setting body) middle) rows left) (sym same) (subst (λ env'. GoesWell policy (inside (deeds items setting x.then) env') rows left) (sym evaluates.kept)
          (arm_goes head branches choice_form left true (told_so true true_is) goes))

      pub then_on : (result : Result (Unit {0}) Cause) (after : Env) (new : Standing D) → Acts publishes policy result after (inside (deeds items setting body) middle) (at left) new → Acts publishes policy result after does start new
      then_on result after new acts = arm_on head branches choice_form left true (told_so true true_is) result after new
          (subst (λ env'. Acts publishes policy result after (inside (deeds items setting x.then) env') (at left) new) evaluates.kept
          (subst (λ body. Acts publishes policy result after (inside (deeds items setting body) middle) (at left) new) same acts))

    module _ (false_is : r ≡ Ok false) where
      pub else_goes : GoesWell policy does rows turns → GoesWell policy (inside (else_deed items setting x.otherwise) middle) rows left
      else_goes goes = subst (λ env'. GoesWell policy (inside (else_deed items setting x.otherwise) env') rows left) (sym evaluates.kept) (arm_goes head branches choice_form left false (told_so false false_is) goes)

      pub else_on : (result : Result (Unit {0}) Cause) (after : Env) (new : Standing D) → Acts publishes policy result after (inside (else_deed items setting x.otherwise) middle) (at left) new
          → Acts publishes policy result after does start new
      else_on result after new acts = arm_on head branches choice_form left false (told_so false false_is) result after new
          (subst (λ env'. Acts publishes policy result after (inside (else_deed items setting x.otherwise) env') (at left) new) evaluates.kept acts)

  -- ---- `match`

  module _ (e : Expr) (arms : List (Arm Stmt)) (is : s ≡ stmt.Match e arms) (found : Result Value Halted) (middle : Env) (left : ℕ) (evaluates : Evaluates found (meant items rows setting longest_chain e) env middle turns left)
      (r : Result (Bor (List Stmt)) Halted) (takes : (turns : ℕ) (out : Out Value) → Gives found turns out → GivesBody r turns (body_of items arms out)) where
    abbrev bodies : List Row → ℕ → Out (List Stmt)
    bodies rows turns = body_of items arms (meant items rows setting longest_chain e env turns)

    abbrev runs : List Stmt → World → Deed Env
    runs body w = inside (deeds items setting body) env w

    match_form : (w : World) → settled (does w) ≡ settled (told w (bodies w.rows w.turns) >>> runs)
    match_form w = ap (λ s. settled (deed items setting s env w)) is ∙ ap settled (match_is items setting env w e arms) ∙ body_told items setting (meant items w.rows setting longest_chain e env w.turns) arms env w

    taken : GivesBody r left (bodies rows turns)
    taken = takes left (meant items rows setting longest_chain e env turns) evaluates.gives

    pub match_fails : (why : Halted) → r ≡ Err why → StopsFor publishes policy (halted why) does start (at left)
    match_fails why none = arm_fails bodies runs match_form left why (subst (λ r. GivesBody r left (bodies rows turns)) none taken)

    module _ (body : Bor (List Stmt)) (ok : r ≡ Ok body) where
      body_is : bodies rows turns ≡ Done body.now left
      body_is = subst (λ r. GivesBody r left (bodies rows turns)) ok taken

      pub match_goes : GoesWell policy does rows turns → GoesWell policy (inside (deeds items setting body.now) middle) rows left
      match_goes goes = subst (λ env'. GoesWell policy (inside (deeds items setting body.now) env') rows left) (sym evaluates.kept) (arm_goes bodies runs match_form left body.now body_is goes)

      pub match_on : (result : Result (Unit {0}) Cause) (after : Env) (new : Standing D) → Acts publishes policy result after (inside (deeds items setting body.now) middle) (at left) new → Acts publishes policy result after does start new
      match_on result after new acts = arm_on bodies runs match_form left body.now body_is result after new
          (subst (λ env'. Acts publishes policy result after (inside (deeds items setting body.now) env') (at left) new) evaluates.kept acts)

  -- ---- `map`

  module _ (p : Pattern Expr) (name : Name) (body : List Stmt) (is : s ≡ stmt.Map p name body) (found : Result Wanted Halted) (middle : Env) (left : ℕ)
      (evaluates : Evaluates found (wanted_meant items rows setting longest_chain p) env middle turns left) (r : Result (Vec Row) Halted)
      (selects : (turns : ℕ) (out : Out Wanted) → Gives found turns out → GivesRows r turns (rows_matching rows out)) where
    abbrev matching : List Row → ℕ → Out (List Row)
    matching rows turns = rows_matching rows (wanted_meant items rows setting longest_chain p env turns)

    abbrev each : List Row → World → Deed Env
    each found w = each_row name (deeds items setting body) env found w

    map_form : (w : World) → settled (does w) ≡ settled (told w (matching w.rows w.turns) >>> each)
    map_form w = ap settled (ap (λ s. deed items setting s env w) is ∙ map_is items setting env w p name body ∙ rows_told (wanted_meant items w.rows setting longest_chain p env w.turns) each w)

    matched : GivesRows r left (matching rows turns)
    matched = selects left (wanted_meant items rows setting longest_chain p env turns) evaluates.gives

    pub map_fails : (why : Halted) → r ≡ Err why → StopsFor publishes policy (halted why) does start (at left)
    map_fails why none = arm_fails matching each map_form left why (subst (λ r. GivesRows r left (matching rows turns)) none matched)

    module _ (all : Vec Row) (ok : r ≡ Ok all) (inner : List Stmt) (same : inner ≡ body) where
      rows_are : matching rows turns ≡ Done all.items left
      rows_are = subst (λ r. GivesRows r left (matching rows turns)) ok matched

      pub map_goes : GoesWell policy does rows turns → GoesWell policy (each_row name (deeds items setting inner) middle all.items) rows left
      map_goes goes = subst (λ inner. GoesWell policy (each_row name (deeds items setting inner) middle all.items) rows left) (sym same)
          (subst (λ env'. GoesWell policy (each_row name (deeds items setting body) env' all.items) rows left) (sym evaluates.kept) (arm_goes matching each map_form left all.items rows_are goes))

      pub map_on : (result : Result (Unit {0}) Cause) (after : Env) (new : Standing D) → Acts publishes policy result after (each_row name (deeds items setting inner) middle all.items) (at left) new
          → Acts publishes policy result after does start new
      map_on result after new acts = arm_on matching each map_form left all.items rows_are result after new
          (subst (λ env'. Acts publishes policy result after (each_row name (deeds items setting body) env' all.items) (at left) new) evaluates.kept
          (subst (λ inner. Acts publishes policy result after (each_row name (deeds items setting inner) middle all.items) (at left) new) same acts))

  -- ---- `publish`

  module _ (e : Expr) (is : s ≡ stmt.Publish e) (found : Result Value Halted) (middle : Env) (left : ℕ) (evaluates : Evaluates found (meant items rows setting longest_chain e) env middle turns left) where
    abbrev value : List Row → ℕ → Out Value
    value rows turns = meant items rows setting longest_chain e env turns

    abbrev brings : Value → World → Deed Env
    brings v w = published (struct_parts v) w >>> λ done w. Did env w

    publish_form : (w : World) → settled (does w) ≡ settled (told w (value w.rows w.turns) >>> brings)
    publish_form w = ap settled (ap (λ s. deed items setting s env w) is ∙ publish_is items setting env w e)

    pub publish_fails : (why : Halted) → found ≡ Err why → StopsFor publishes policy (halted why) does start (at left)
    publish_fails why none = arm_fails value brings publish_form left why (subst (λ r. Gives r left (value rows turns)) none evaluates.gives)

    module _ (v : Value) (ok : found ≡ Ok v) where
      value_is : value rows turns ≡ Done v left
      value_is = subst (λ r. Gives r left (value rows turns)) ok evaluates.gives

      pub publish_on : (result : Result (Unit {0}) Cause) (new : Standing D) → Acts publishes policy result tt (published (struct_parts v)) (at left) new → Acts publishes policy result middle does start new
      publish_on result new acts = subst (λ env'. Acts publishes policy result env' does start new) (sym evaluates.kept) (arm_on value brings publish_form left v value_is result env new (by result acts))
        where
          by : (result : Result (Unit {0}) Cause) → Acts publishes policy result tt (published (struct_parts v)) (at left) new → Acts publishes policy result env (brings v) (at left) new
          by (Ok done) acts = acted_then publishes policy (published (struct_parts v)) (Did tt) (λ done w. Did env w) (at left) new acts
          by (Err why) acts = of (reason why) acts
            where
              of : (why : Option Stop) → StopsFor publishes policy why (published (struct_parts v)) (at left) new → StopsFor publishes policy why (brings v) (at left) new
              of None acts = tt
              of (Some why) acts = acted_then publishes policy (published (struct_parts v)) (Stops why) (λ done w. Did env w) (at left) new acts

      -- what is brought is a command of the policy
      pub publish_typed : GoesWell policy does rows turns → (o : Option (ℕ × List Value)) → struct_parts v ≡ o → IfSome o (λ parts. IsCommandOf policy parts.0 parts.1)
      publish_typed goes None none = tt
      publish_typed goes (Some parts) some =
          let brought = goes_into policy (published (struct_parts v)) (λ done w. Did env w) rows left (arm_goes value brings publish_form left v value_is goes) in
          subst (λ o. StopsWell policy (published o (world rows [] brought.made left))) some (brought.stops [] tt)

  -- ---- what stands in no action

  pub finish_sticks : (statements : List FinishStmt) → s ≡ stmt.Finish statements → StopsFor publishes policy (halted stop.Stuck) does start start
  finish_sticks statements is = acted_still publishes policy does (Stops (Halts Stuck)) desk rows turns turns ticks typed
      (λ left made. ap settled (ap (λ s. deed items setting s env (world rows left made turns)) is ∙ finish_is items setting env (world rows left made turns) statements))

  pub return_sticks : (e : Expr) → s ≡ stmt.Return e → StopsFor publishes policy (halted stop.Stuck) does start start
  return_sticks e is = acted_still publishes policy does (Stops (Halts Stuck)) desk rows turns turns ticks typed
      (λ left made. ap settled (ap (λ s. deed items setting s env (world rows left made turns)) is ∙ return_is items setting env (world rows left made turns) e))

-- ---- what the desk answers

module _ {D : Type 0} (publishes : D → List Row → Posting → D → Type 0) (policy : List PlacedItem) where
  pub posted_on : (command : ℕ) (fields : List Value) (told : Posted) (result : Result (Unit {0}) Cause) → result ≡ posted_as told → (old new : D) (rows last : List Row) (before now : ℕ)
      → Publishes publishes old rows command fields told before now new last → Stay told rows last → AreTyped policy last → (turns : ℕ)
      → Acts publishes policy result tt (published (Some (command, fields))) (standing old rows turns before) (standing new last turns now)
  posted_on command fields told result is old new rows last before now publishes_so stays typed turns =
      subst (λ result. Acts publishes policy result tt (published (Some (command, fields))) (standing old rows turns before) (standing new last turns now)) (sym is)
      (by told (acted_publish publishes policy command fields told (standing old rows turns before) (standing new last turns now) publishes_so stays typed refl))
    where
      by : (told : Posted) → Acted publishes policy (published (Some (command, fields))) (after_answer told) (standing old rows turns before) (standing new last turns now)
          → Acts publishes policy (posted_as told) tt (published (Some (command, fields))) (standing old rows turns before) (standing new last turns now)
      by posted.Taken acts = acts
      by posted.TooLong acts = acts
      by posted.Refused acts = acts

  pub parts_stick : (o : Option (ℕ × List Value)) → o ≡ None → (desk : D) (rows : List Row) (turns ticks : ℕ) → AreTyped policy rows
      → Acted publishes policy (published o) (Stops (Halts Stuck)) (standing desk rows turns ticks) (standing desk rows turns ticks)
  parts_stick o none desk rows turns ticks typed = acted_still publishes policy (published o) (Stops (Halts Stuck)) desk rows turns turns ticks typed
      (λ left made. ap (λ o. settled (published o (world rows left made turns))) none)

-- ---- names that are kept

pub kept_same : {X A : Type 0} (r : Result X Cause) (first middle after : List A) → OnOk r (after ≡ middle) → middle ≡ first → OnOk r (Keeps first after)
kept_same (Ok done) first middle after is same = subst (Keeps first) (sym (is ∙ same)) (keeps_all first)
kept_same (Err why) first middle after is same = tt

pub kept_more : {X A : Type 0} (r : Result X Cause) (first middle after : List A) → Keeps middle after → middle ≡ first → OnOk r (Keeps first after)
kept_more (Ok done) first middle after kept same = subst (λ first. Keeps first after) same kept
kept_more (Err why) first middle after kept same = tt

-- ---- what follows `else`

module _ {D : Type 0} (publishes : D → List Row → Posting → D → Type 0) (policy : List PlacedItem) (items : List Item) (setting : Setting) (env : Env) (o : Option (Else Stmt)) where
  abbrev otherwise : World → Deed Env
  otherwise = inside (else_deed items setting o) env

  pub else_none : o ≡ None → (old : Standing D) → AreTyped policy old.rows → Acted publishes policy otherwise (Did env) old old
  else_none is old typed = acted_still publishes policy otherwise (Did env) old.desk old.rows old.turns old.turns old.ticks typed
      (λ left made. ap (λ o. settled (inside (else_deed items setting o) env (world old.rows left made old.turns))) is)

  module _ (body inner : List Stmt) (is : o ≡ Some (else_stmt.Block body)) (same : inner ≡ body) where
    block_is : o ≡ Some (else_stmt.Block inner)
    block_is = is ∙ ap (λ body. Some (else_stmt.Block body)) (sym same)

    pub else_block_goes : (rows : List Row) (turns : ℕ) → GoesWell policy otherwise rows turns → GoesWell policy (inside (deeds items setting inner) env) rows turns
    else_block_goes rows turns goes = subst (λ o. GoesWell policy (inside (else_deed items setting o) env) rows turns) block_is goes

    pub else_block_on : (r : Result (Unit {0}) Cause) (after : Env) (old new : Standing D) → Acts publishes policy r after (inside (deeds items setting inner) env) old new → Acts publishes policy r after otherwise old new
    else_block_on r after old new acts = subst (λ o. Acts publishes policy r after (inside (else_deed items setting o) env) old new) (sym block_is) acts

  module _ (s inner : Stmt) (is : o ≡ Some (else_stmt.If s)) (same : inner ≡ s) where
    if_is : o ≡ Some (else_stmt.If inner)
    if_is = is ∙ ap (λ s. Some (else_stmt.If s)) (sym same)

    pub else_if_goes : (rows : List Row) (turns : ℕ) → GoesWell policy otherwise rows turns → GoesWell policy (deed items setting inner env) rows turns
    else_if_goes rows turns goes = goes_into policy (deed items setting inner env) (λ inner w. Did env w) rows turns (subst (λ o. GoesWell policy (inside (else_deed items setting o) env) rows turns) if_is goes)

    pub else_if_stops : (why : Cause) (old new : Standing D) → StopsFor publishes policy (reason why) (deed items setting inner env) old new → StopsFor publishes policy (reason why) otherwise old new
    else_if_stops why old new stops = subst (λ o. StopsFor publishes policy (reason why) (inside (else_deed items setting o) env) old new) (sym if_is) (of (reason why) stops)
      where
        of : (why : Option Stop) → StopsFor publishes policy why (deed items setting inner env) old new → StopsFor publishes policy why (inside (else_deed items setting (Some (else_stmt.If inner))) env) old new
        of None stops = tt
        of (Some why) stops = acted_then publishes policy (deed items setting inner env) (Stops why) (λ inner w. Did env w) old new stops

    pub else_if_on : (after last : Env) (old new : Standing D) → Acted publishes policy (deed items setting inner env) (Did after) old new → last ≡ env → Acted publishes policy otherwise (Did last) old new
    else_if_on after last old new acted kept = subst (λ last. Acted publishes policy otherwise (Did last) old new) (sym kept)
        (subst (λ o. Acted publishes policy (inside (else_deed items setting o) env) (Did env) old new) (sym if_is) (acted_then publishes policy (deed items setting inner env) (Did after) (λ inner w. Did env w) old new acted))
