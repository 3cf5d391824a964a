-- Evaluations in order: what was found so far, and what is left.
use Rattle.std.proofs.Common.{◌≡◌, ℕ, ◌+◌, ◌<◌, suc, List, [], ◌∷◌, ◌++◌, length, take, drop, get_or, map, Option, Some, None, option_map, Result, Ok, Err, refl, sym, ap, subst, ◌∙◌, add-one}
use Rattle.std.proofs.Math.Seq.{drop-cons, drop-length, take-length}
use Rattle.std.proofs.lemmas.List.{append_assoc, append-nil}
use Rattle.base_bytes.specs.declared.value.Value.{Value}
use Rattle.fact_store.specs.declared.row.Row.{Row}
use Rattle.policy_ast.specs.declared.expr.Expr.{Expr}
use Rattle.policy_ast.specs.declared.expr.Let.{Let}
use Rattle.policy_ast.specs.declared.item.Item.{Item}
use Rattle.policy_ast.specs.declared.pattern.Free.{Free}
use Rattle.policy_eval.proofs.Evaluating.{stops_by}
use Rattle.policy_eval.specs.working.Endings.{Evaluates, EvaluatesWithin}
use Rattle.policy_expressions.specs.Answers.{Gives, Keeps, Leaves, Stops}
use Rattle.policy_expressions.specs.Meant.{block_meant, gaps_meant, lets_meant, meant}
use Rattle.policy_expressions.specs.declared.stop.Stop.{Stop}
use Rattle.policy_expressions.specs.declared.stop.Stop.TheVariants as stop
use Rattle.policy_meaning.specs.Environments.{Env, Setting, with_value}
use Rattle.policy_meaning.specs.Outcomes.{Out, Done, Ends, ◌>>=◌}
use Rattle.policy_meaning.specs.Patterns.{gaps_in_order}

-- what is left at a place: the element there, and what is left behind it
pub left_at : {A : Type 0} (xs : List A) (i : ℕ) (x : A) → i < length xs → x ≡ get_or xs i x → drop i xs ≡ x ∷ drop (i + 1) xs
left_at xs i x lt is = drop-cons xs i x lt ∙ ap (λ y. y ∷ drop (suc i) xs) (sym is) ∙ ap (λ n. x ∷ drop n xs) (sym (add-one i))

-- ---- names that are kept

pub keeps_all : (env : Env) → Keeps env env
keeps_all env = take-length env

pub keeps_same : (before after : Env) → after ≡ before → Keeps before after
keeps_same before after is = subst (λ env. Keeps before env) (sym is) (keeps_all before)

taken_in : {A : Type 0} (first second third : List A) → take (length first) second ≡ first → take (length second) third ≡ second → take (length first) third ≡ first
taken_in [] second third one other = refl
taken_in (x ∷ first) [] third one other = cc
taken_in (x ∷ first) (y ∷ second) [] one other = cc
taken_in (x ∷ first) (y ∷ second) (z ∷ third) one other =
    let xy : y ≡ x = cc in
    let yz : z ≡ y = cc in
    let e : take (length first) second ≡ first = cc in
    let h : take (length second) third ≡ second = cc in
    let r : take (length first) third ≡ first = taken_in first second third e h in
    cc

pub keeps_both : (before middle after : Env) → Keeps before middle → Keeps middle after → Keeps before after
keeps_both before middle after one other = taken_in before middle after one other

-- ---- a list that is made element by element

-- What was made so far, and what is to be made of the rest, are the whole; the names are as they were.
pub record SoFar {A B : Type 0} (of : List A → Env → ℕ → Out (List B)) (all : List A) (before now : Env) (turns left i : ℕ) (made : List B) : Type 0 where
  pub so_far : (of (drop i all) before left >>= λ more turns. Done (made ++ more) turns) ≡ of all before turns
  pub kept : now ≡ before

bind_assoc : {A B C : Type 0} (out : Out A) (f : A → ℕ → Out B) (g : B → ℕ → Out C) → ((out >>= f) >>= g) ≡ (out >>= λ x turns. f x turns >>= g)
bind_assoc (Done x n) f g = refl
bind_assoc (Ends halt) f g = refl

pushed : {B : Type 0} (made : List B) (y : B) (out : Out (List B))
    → (out >>= λ more turns. Done ((made ++ y ∷ []) ++ more) turns) ≡ ((out >>= λ ys turns. Done (y ∷ ys) turns) >>= λ more turns. Done (made ++ more) turns)
pushed made y (Ends halt) = refl
pushed made y (Done more n) = ap (λ xs. Done xs n) (append_assoc made (y ∷ []) more)

module _ {A B : Type 0} (of : List A → Env → ℕ → Out (List B)) (one : A → Env → ℕ → Out B)
    (step : (x : A) (xs : List A) (env : Env) (turns : ℕ) → of (x ∷ xs) env turns ≡ (one x env turns >>= λ y turns. of xs env turns >>= λ ys turns. Done (y ∷ ys) turns))
    (none : (env : Env) (turns : ℕ) → of [] env turns ≡ Done [] turns) where
  pub begins : (all : List A) (before : Env) (turns : ℕ) → SoFar of all before before turns turns 0 []
  begins all before turns = record { so_far = by (of all before turns); kept = refl }
    where
      by : (out : Out (List B)) → (out >>= λ more turns. Done more turns) ≡ out
      by (Done ys n) = refl
      by (Ends halt) = refl

  whole : {all : List A} {before now : Env} {turns left i : ℕ} {made : List B} → SoFar of all before now turns left i made → (x : A) → i < length all → x ≡ get_or all i x
      → of all before turns ≡ (one x before left >>= λ y n. (of (drop (i + 1) all) before n >>= λ ys n. Done (y ∷ ys) n) >>= λ more n. Done (made ++ more) n)
  whole {all} {before} {now} {turns} {left} {i} {made} p x lt is =
      sym p.so_far ∙ ap (λ xs. of xs before left >>= λ more n. Done (made ++ more) n) (left_at all i x lt is)
      ∙ ap (λ (out : Out (List B)). out >>= λ more n. Done (made ++ more) n) (step x (drop (i + 1) all) before left)
      ∙ bind_assoc (one x before left) (λ y n. of (drop (i + 1) all) before n >>= λ ys n. Done (y ∷ ys) n) (λ more n. Done (made ++ more) n)

  more_made : {all : List A} {before now after : Env} {turns left then' i : ℕ} {made : List B} → SoFar of all before now turns left i made → (x : A) (y : B) → i < length all
      → x ≡ get_or all i x → one x before left ≡ Done y then' → after ≡ now → SoFar of all before after turns then' (i + 1) (made ++ y ∷ [])
  more_made {all} {before} {now} {after} {turns} {left} {then'} {i} {made} p x y lt is gives same =
      record {
        so_far =
            pushed made y (of (drop (i + 1) all) before then')
            ∙ sym (whole p x lt is ∙ ap (λ (out : Out B). out >>= λ y n. (of (drop (i + 1) all) before n >>= λ ys n. Done (y ∷ ys) n) >>= λ more n. Done (made ++ more) n) gives);
        kept = same ∙ p.kept;
      }

  -- The element's evaluation gives a value that joins those that were made.
  pub turns_on : {C : Type 0} {all : List A} {before now after : Env} {turns left then' i : ℕ} {made more : List B} {found : Result C Stop} {part : Env → ℕ → Out C} (wrap : C → B)
      → SoFar of all before now turns left i made → (x : A) → i < length all → x ≡ get_or all i x → ((env : Env) (n : ℕ) → one x env n ≡ (part env n >>= λ c n. Done (wrap c) n))
      → Evaluates found part now after left then' → ((n : ℕ) (out : Out C) → Gives found n out → Leaves {B = Unit {0}} (Ok tt) more n (out >>= λ c n. Done (made ++ wrap c ∷ []) n))
      → SoFar of all before after turns then' (i + 1) more
  turns_on {C} {all} {before} {now} {after} {turns} {left} {then'} {i} {made} {more} {found} {part} wrap p x lt is parts q adds =
      by (part before left) refl (subst (λ env. Leaves {B = Unit {0}} (Ok tt) more then' (part env left >>= λ c n. Done (made ++ wrap c ∷ []) n)) p.kept (adds then' (part now left) q.gives))
    where
      by : (out : Out C) → part before left ≡ out → (out >>= λ c n. Done (made ++ wrap c ∷ []) n) ≡ Done more then' → SoFar of all before after turns then' (i + 1) more
      by (Ends halt) found adds = absurd cc
      by (Done c n) found adds =
          let same : n ≡ then' = cc in
          let list : made ++ wrap c ∷ [] ≡ more = cc in
          subst (λ ys. SoFar of all before after turns then' (i + 1) ys) list
          (more_made p x (wrap c) lt is (parts before left ∙ ap (λ (out : Out C). out >>= λ c n. Done (wrap c) n) found ∙ ap (λ n. Done (wrap c) n) same) q.kept)

  -- It stops, or memory is wanting.
  pub turn_stops : {C : Type 0} {all : List A} {before now after : Env} {turns left then' i : ℕ} {made : List B} {found : Result C Stop} {part : Env → ℕ → Out C} (wrap : C → B) (why : Stop)
      → SoFar of all before now turns left i made → (x : A) → i < length all → x ≡ get_or all i x → ((env : Env) (n : ℕ) → one x env n ≡ (part env n >>= λ c n. Done (wrap c) n))
      → Evaluates found part now after left then' → ((n : ℕ) (out : Out C) → Gives found n out → Stops why (out >>= λ c n. Done (made ++ wrap c ∷ []) n))
      → Evaluates (Err why) (of all) before after turns then'
  turn_stops {C} {all} {before} {now} {after} {turns} {left} {then'} {i} {made} {found} {part} wrap why p x lt is parts q adds =
      record {
        gives =
            stops_by why (whole p x lt is ∙ ap (λ (out : Out B). out >>= λ y n. (of (drop (i + 1) all) before n >>= λ ys n. Done (y ∷ ys) n) >>= λ more n. Done (made ++ more) n) (parts before left))
            (ended why (part before left) (subst (λ env. Stops why (part env left >>= λ c n. Done (made ++ wrap c ∷ []) n)) p.kept (adds then' (part now left) q.gives)));
        kept = q.kept ∙ p.kept;
      }
    where
      ended : (why : Stop) (out : Out C) → Stops why (out >>= λ c n. Done (made ++ wrap c ∷ []) n) → Stops {A = List B} why ((out >>= λ c n. Done (wrap c) n) >>= λ y n. (of (drop (i + 1) all) before n >>= λ ys n. Done (y ∷ ys) n) >>= λ more n. Done (made ++ more) n)
      ended stop.Check (Done c n) is = absurd cc
      ended (stop.Fault kind) (Done c n) is = absurd cc
      ended stop.Stuck (Done c n) is = absurd cc
      ended stop.Check (Ends halt) is = cc
      ended (stop.Fault kind) (Ends halt) is = cc
      ended stop.Stuck (Ends halt) is = cc
      ended stop.NoMemory out is = tt

  -- A `?` stands in its place.
  pub gap_turns : {all : List A} {before now : Env} {turns left i : ℕ} {made more : List B} → SoFar of all before now turns left i made → (x : A) (y : B) → i < length all → x ≡ get_or all i x
      → ((env : Env) (n : ℕ) → one x env n ≡ Done y n) → more ≡ made ++ y ∷ [] → SoFar of all before now turns left (i + 1) more
  gap_turns {all} {before} {now} {turns} {left} {i} p x y lt is gives adds =
      subst (λ ys. SoFar of all before now turns left (i + 1) ys) (sym adds) (more_made p x y lt is (gives before left) refl)

  pub lacks : {all : List A} {before now : Env} {turns left i : ℕ} {made : List B} → SoFar of all before now turns left i made → Evaluates {A = List B} (Err stop.NoMemory) (of all) before now turns left
  lacks p = record { gives = tt; kept = p.kept }

  pub ends : {all : List A} {before now : Env} {turns left i : ℕ} {made : List B} → SoFar of all before now turns left i made → i ≡ length all → Evaluates (Ok made) (of all) before now turns left
  ends {all} {before} {now} {turns} {left} {i} {made} p is =
      record {
        gives =
            sym p.so_far ∙ ap (λ xs. of xs before left >>= λ more n. Done (made ++ more) n) (ap (λ n. drop n all) is ∙ drop-length all)
            ∙ ap (λ (out : Out (List B)). out >>= λ more n. Done (made ++ more) n) (none before left) ∙ ap (λ ys. Done ys left) (append-nil made);
        kept = p.kept;
      }

-- ---- what the steps of these lists are

module _ (items : List Item) (rows : List Row) (setting : Setting) (depth : ℕ) where
  -- what an expression means where a `?` has no value
  abbrev pub opt_meant : Option Expr → Env → ℕ → Out (Option Value)
  opt_meant None env turns = Done None turns
  opt_meant (Some e) env turns = meant items rows setting depth e env turns >>= λ v turns. Done (Some v) turns

  abbrev pub free_meant : Free Expr → Env → ℕ → Out (Option Value)
  free_meant f env turns = opt_meant f.value env turns

  pub free_step : (f : Free Expr) (frees : List (Free Expr)) (env : Env) (turns : ℕ) → gaps_meant items rows setting depth (f ∷ frees) env turns
      ≡ (free_meant f env turns >>= λ v turns. gaps_meant items rows setting depth frees env turns >>= λ vs turns. Done (v ∷ vs) turns)
  free_step f frees env turns = by f.value
    where
      by : (o : Option Expr) → gaps_in_order (option_map (meant items rows setting depth) o ∷ map (λ f. option_map (meant items rows setting depth) f.value) frees) env turns
          ≡ (opt_meant o env turns >>= λ v turns. gaps_meant items rows setting depth frees env turns >>= λ vs turns. Done (v ∷ vs) turns)
      by None = refl
      by (Some e) =
          sym (bind_assoc (meant items rows setting depth e env turns) (λ v turns. Done (Some v) turns) (λ v turns. gaps_meant items rows setting depth frees env turns >>= λ vs turns. Done (v ∷ vs) turns))

  pub value_gap : (f : Free Expr) (e : Expr) → f.value ≡ Some e → (env : Env) (n : ℕ) → free_meant f env n ≡ (meant items rows setting depth e env n >>= λ v turns. Done (Some v) turns)
  value_gap f e is env n = ap (λ o. opt_meant o env n) is

  pub no_value_gap : (f : Free Expr) → f.value ≡ None → (env : Env) (n : ℕ) → free_meant f env n ≡ Done None n
  no_value_gap f is env n = ap (λ o. opt_meant o env n) is

  -- ---- names behind `let`s

  -- What is left of the `let`s leads on from here as all of them do from the start.
  pub record Led (lets : List (Let Expr)) (before now : Env) (turns left i : ℕ) : Type 0 where
    pub rest : lets_meant items rows setting depth (drop i lets) now left ≡ lets_meant items rows setting depth lets before turns
    pub keeps : Keeps before now

  pub led : (lets : List (Let Expr)) (before : Env) (turns : ℕ) → Led lets before before turns turns 0
  led lets before turns = record { rest = refl; keeps = keeps_all before }

  here : {lets : List (Let Expr)} {before now : Env} {turns left i : ℕ} → Led lets before now turns left i → (l : Let Expr) → i < length lets → l ≡ get_or lets i l
      → lets_meant items rows setting depth lets before turns
      ≡ (meant items rows setting depth l.value now left >>= λ v n. lets_meant items rows setting depth (drop (i + 1) lets) (with_value now l.name v) n)
  here {lets} {before} {now} {turns} {left} {i} p l lt is = sym p.rest ∙ ap (λ lets. lets_meant items rows setting depth lets now left) (left_at lets i l lt is)

  pub led_on : {lets : List (Let Expr)} {before now middle after : Env} {turns left then' i : ℕ} {found : Result Value Stop} → Led lets before now turns left i → (l : Let Expr) → i < length lets
      → l ≡ get_or lets i l → Evaluates found (meant items rows setting depth l.value) now middle left then'
      → ((n : ℕ) (out : Out Value) → Gives found n out → Leaves {B = Unit {0}} (Ok tt) after n (out >>= λ v n. Done (with_value middle l.name v) n)) → Keeps middle after
      → Led lets before after turns then' (i + 1)
  led_on {lets} {before} {now} {middle} {after} {turns} {left} {then'} {i} p l lt is q leads keeps =
      record {
        rest =
            sym
            (here p l lt is
            ∙ by (meant items rows setting depth l.value now left)
            (subst (λ env. (meant items rows setting depth l.value now left >>= λ v n. Done (with_value env l.name v) n) ≡ Done after then') q.kept (leads then' (meant items rows setting depth l.value now left) q.gives)));
        keeps = keeps_both before middle after (subst (λ env. Keeps before env) (sym q.kept) p.keeps) keeps;
      }
    where
      by : (out : Out Value) → (out >>= λ v n. Done (with_value now l.name v) n) ≡ Done after then'
          → (out >>= λ v n. lets_meant items rows setting depth (drop (i + 1) lets) (with_value now l.name v) n) ≡ lets_meant items rows setting depth (drop (i + 1) lets) after then'
      by (Ends halt) is = absurd cc
      by (Done v n) is =
          let same : n ≡ then' = cc in
          let names : with_value now l.name v ≡ after = cc in
          ap (λ env. lets_meant items rows setting depth (drop (i + 1) lets) env n) names ∙ ap (λ n. lets_meant items rows setting depth (drop (i + 1) lets) after n) same

  -- a `let` stops
  pub let_stops : {lets : List (Let Expr)} {before now middle after : Env} {turns left then' i : ℕ} {found : Result Value Stop} → Led lets before now turns left i → (l : Let Expr) (e : Expr)
      (why : Stop) → i < length lets → l ≡ get_or lets i l → Evaluates found (meant items rows setting depth l.value) now middle left then'
      → ((n : ℕ) (out : Out Value) → Gives found n out → Leaves {B = Unit {0}} (Err why) after n (out >>= λ v n. Done (with_value middle l.name v) n)) → Keeps middle after
      → EvaluatesWithin {A = Value} (Err why) (block_meant items rows setting depth (record { lets = lets; value = e })) before after turns then'
  let_stops {lets} {before} {now} {middle} {after} {turns} {left} {then'} {i} p l e why lt is q leads keeps =
      record {
        gives =
            stops_by why (ap (λ (out : Out Env). out >>= λ inner n. meant items rows setting depth e inner n) (here p l lt is))
            (by why (meant items rows setting depth l.value now left)
            (subst (λ env. Stops why (meant items rows setting depth l.value now left >>= λ v n. Done (with_value env l.name v) n)) q.kept (leads then' (meant items rows setting depth l.value now left) q.gives)));
        kept = keeps_both before middle after (subst (λ env. Keeps before env) (sym q.kept) p.keeps) keeps;
      }
    where
      by : (why : Stop) (out : Out Value) → Stops why (out >>= λ v n. Done (with_value now l.name v) n)
          → Stops {A = Value} why ((out >>= λ v n. lets_meant items rows setting depth (drop (i + 1) lets) (with_value now l.name v) n) >>= λ inner n. meant items rows setting depth e inner n)
      by stop.Check (Done v n) is = absurd cc
      by (stop.Fault kind) (Done v n) is = absurd cc
      by stop.Stuck (Done v n) is = absurd cc
      by stop.Check (Ends halt) is = cc
      by (stop.Fault kind) (Ends halt) is = cc
      by stop.Stuck (Ends halt) is = cc
      by stop.NoMemory out is = tt

  -- the block's value is left
  pub let_ends : {lets : List (Let Expr)} {before now after : Env} {turns left then' i : ℕ} {r : Result Value Stop} → Led lets before now turns left i → (e : Expr) → i ≡ length lets
      → Evaluates r (meant items rows setting depth e) now after left then' → EvaluatesWithin r (block_meant items rows setting depth (record { lets = lets; value = e })) before after turns then'
  let_ends {lets} {before} {now} {after} {turns} {left} {then'} {i} {r} p e is q =
      record {
        gives =
            subst (λ (out : Out Env). Gives r then' (out >>= λ inner n. meant items rows setting depth e inner n))
            (sym (ap (λ lets. lets_meant items rows setting depth lets now left) (ap (λ n. drop n lets) is ∙ drop-length lets)) ∙ p.rest) q.gives;
        kept = subst (λ env. Keeps before env) (sym q.kept) p.keeps;
      }

-- names that a block put in scope are taken off
pub taken_off : {A : Type 0} {r : Result A Stop} {means : Env → ℕ → Out A} {before after last : Env} {turns left : ℕ} → EvaluatesWithin r means before after turns left → (n : ℕ) → n ≡ length before
    → last ≡ take n after → Evaluates r means before last turns left
taken_off {after = after} p n is taken = record { gives = p.gives; kept = taken ∙ ap (λ n. take n after) is ∙ p.kept }
