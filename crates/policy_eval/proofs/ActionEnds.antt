-- How an action ends: what its calls tell is the meaning of the action with just those answers.
use Rattle.std.proofs.Common.{◌≡◌, ℕ, true, false, List, [], map, slice_get, unwrap_or, IfOk, Option, Some, None, option_and_then, option_map, Result, Ok, Err, refl, sym, ap, subst, ◌∙◌}
use Rattle.std.proofs.lemmas.Bool.{false≢true}
use Rattle.std.proofs.lemmas.List.{append-nil}
use Rattle.std.proofs.lemmas.Option.{same_Some}
use Rattle.base_bytes.specs.declared.value.Value.{Value}
use Rattle.fact_store.specs.declared.row.Row.{Row}
use Rattle.policy_ast.specs.declared.field.Field.{Field}
use Rattle.policy_ast.specs.declared.item.Item.{Item}
use Rattle.policy_ast.specs.declared.item.Item.TheVariants as item
use Rattle.policy_ast.specs.declared.policy.PlacedItem.{PlacedItem}
use Rattle.policy_ast.specs.declared.statement.Stmt.{Stmt}
use Rattle.policy_expressions.specs.declared.stop.Stop.TheVariants as stop
use Rattle.policy_meaning.specs.Actions.{Answer, Deed, Did, Stops, Stop, Halts, World, ◌>>>◌, acted, deed_end, action_setting, inside, stop_end, with_turns, world_of}
use Rattle.policy_meaning.specs.Blocks.{most_turns}
use Rattle.policy_meaning.specs.Desks.{ActionRun, Acts as IsRun, Posting, answer, brought}
use Rattle.policy_meaning.specs.Environments.{Env, bound_parameters}
use Rattle.policy_meaning.specs.Outcomes.{Stuck}
use Rattle.policy_meaning.specs.Typed.{AreTyped, IsActionOf, is_action_of}
use Rattle.policy_meaning.specs.declared.ends.ActionEnd.{ActionEnd}
use Rattle.policy_meaning.specs.declared.ends.ActionEnd.TheVariants as end
use Rattle.policy_rules.specs.Types.{declared}
use Rattle.policy_rules.specs.WellTyped.{items_of}
use Rattle.policy_types.specs.ActsWell.{ActsWell}
use Rattle.policy_types.specs.NeverStuck.{ActionsGoWell}
use Rattle.policy_eval.proofs.ActForms.{acts_all, inside_told}
use Rattle.policy_eval.proofs.ActingFacts.{acted_on, acted_still, goes_from, goes_into}
use Rattle.policy_eval.proofs.DeedForms.{deeds_same}
use Rattle.policy_eval.specs.declared.cause.Cause.{Cause}
use Rattle.policy_eval.specs.declared.cause.Cause.TheVariants as cause
use Rattle.policy_eval.specs.working.Acting.{Acted, Acts, ActsAtLast, GoesWell, Standing, StopsFor, StopsWell, ended_by, reason, settled, standing, world}
use Rattle.policy_eval.specs.working.Deeds.{action_parts, action_parts_of, body_whole, deeds, finished, whole}

-- ---- what is left of an action

same_world : {A : Type 0} (x y : A) (w v : World) → Did x w ≡ Did y v → w ≡ v
same_world x y w v is = cc

same_stop : {A : Type 0} (why other : Stop) (w v : World) → ◌≡◌ {A = Deed A} (Stops why w) (Stops other v) → why ≡ other
same_stop why other w v is = cc

same_stopped : {A : Type 0} (why other : Stop) (w v : World) → ◌≡◌ {A = Deed A} (Stops why w) (Stops other v) → w ≡ v
same_stopped why other w v is = cc

record EndsAt (d : Deed Env) (end : Option ActionEnd) (w : World) : Type 0 where
  ends : deed_end d ≡ end
  made : (world_of d).made ≡ w.made
  left : (world_of d).left ≡ w.left

ended : (d : Deed Env) (w : World) → settled (d >>> finished) ≡ Did tt w → EndsAt d (Some end.Done) w
ended (Did env v) w is = let same = same_world tt tt v w is in record { ends = refl; made = ap (λ w. w.made) same; left = ap (λ w. w.left) same }
ended (Stops why v) w is = absurd (cc)

halted_at : (d : Deed Env) (why : Stop) (w : World) → settled (d >>> finished) ≡ Stops why (with_turns w 0) → EndsAt d (stop_end why) w
halted_at (Did env v) why w is = absurd (cc)
halted_at (Stops other v) why w is =
    let same = same_stopped other why (with_turns v 0) (with_turns w 0) is in
    record { ends = ap stop_end (same_stop other why (with_turns v 0) (with_turns w 0) is); made = ap (λ w. w.made) same; left = ap (λ w. w.left) same }

module _ {D : Type 0} (publishes : D → List Row → Posting → D → Type 0) (policy : List PlacedItem) (action : ℕ) (arguments : List Value) (device : List ℕ) where
  abbrev run : List Row → List Answer → Deed Env
  run rows answers = acted (items_of policy) action arguments device rows answers

  module _ (rows : List Row) (old new : D) (before now turns : ℕ) (last : List Row) where
    -- what is told of the whole action is told of its run with these answers
    told_of : (rest : World → Deed (Unit {0})) (a : Acted publishes policy (whole (items_of policy) device arguments (slice_get (items_of policy) action)) rest (standing old rows most_turns before) (standing new last turns now))
        → settled (run rows (map answer a.postings) >>> finished) ≡ settled (rest (world last [] (map brought a.postings) turns))
    told_of rest a = ap (λ answers. settled (run rows answers >>> finished)) (sym (append-nil (map answer a.postings))) ∙ a.acts [] []

    run_by : (end : ActionEnd) (postings : List Posting) → EndsAt (run rows (map answer postings)) (Some end) (world last [] (map brought postings) turns) → IsRun policy action arguments device rows postings end
    unfolding IsRun
    run_by end postings is = record { ends = is.ends; made = is.made; used = is.left }

    pub action_done : Acted publishes policy (whole (items_of policy) device arguments (slice_get (items_of policy) action)) (Did tt) (standing old rows most_turns before) (standing new last turns now)
        → ActionRun publishes policy action arguments device old rows end.Done before now new last
    action_done a = record {
      postings = a.postings;
      chain = a.chain;
      acts = run_by end.Done a.postings (ended (run rows (map answer a.postings)) (world last [] (map brought a.postings) turns) (told_of (Did tt) a));
      counted = a.counted;
    }

    pub action_stops : (why : Stop) (end : ActionEnd) → stop_end why ≡ Some end
        → Acted publishes policy (whole (items_of policy) device arguments (slice_get (items_of policy) action)) (Stops why) (standing old rows most_turns before) (standing new last turns now)
        → ActionRun publishes policy action arguments device old rows end before now new last
    action_stops why end is a = record {
      postings = a.postings;
      chain = a.chain;
      acts = run_by end a.postings (subst (λ o. EndsAt (run rows (map answer a.postings)) o (world last [] (map brought a.postings) turns)) is
          (halted_at (run rows (map answer a.postings)) why (world last [] (map brought a.postings) turns) (told_of (Stops why) a)));
      counted = a.counted;
    }

  -- ---- what the laws of types say beforehand

  stops_of : (d : Deed Env) → ActsWell policy d → StopsWell policy (d >>> finished)
  stops_of (Did env w) well = tt
  stops_of (Stops why w) well = well.1

  pub whole_goes : (rows : List Row) → ActionsGoWell policy action arguments device rows → GoesWell policy (whole (items_of policy) device arguments (slice_get (items_of policy) action)) rows most_turns
  whole_goes rows well = record { made = []; stops = λ left are. stops_of (run rows left) (well.acts left are) }

  -- ---- the whole action

  module _ (known : List Item) (same : items_of policy ≡ known) (rows : List Row) (old new : D) (before now : ℕ) (last : List Row) (result : Result (Unit {0}) Cause) where
    abbrev Last : Type 0
    Last = ActsAtLast publishes policy result (whole known device arguments (slice_get (items_of policy) action)) old rows most_turns before new last now

    pub action_run : (how : ActionEnd) → Last → ended_by result ≡ Some how → ActionRun publishes policy action arguments device old rows how before now new last
    action_run how acts ends = by result (subst (λ known. ActsAtLast publishes policy result (whole known device arguments (slice_get (items_of policy) action)) old rows most_turns before new last now) (sym same) acts) ends
      where
        of : (why : Option Stop) (left : ℕ) → StopsFor publishes policy why (whole (items_of policy) device arguments (slice_get (items_of policy) action)) (standing old rows most_turns before) (standing new last left now)
            → option_and_then stop_end why ≡ Some how → ActionRun publishes policy action arguments device old rows how before now new last
        of None left acts ends = absurd (cc)
        of (Some why) left acts ends = action_stops rows old new before now left last why how ends acts

        by : (result : Result (Unit {0}) Cause) → ActsAtLast publishes policy result (whole (items_of policy) device arguments (slice_get (items_of policy) action)) old rows most_turns before new last now
            → ended_by result ≡ Some how → ActionRun publishes policy action arguments device old rows how before now new last
        by (Ok done) acts ends = subst (λ how. ActionRun publishes policy action arguments device old rows how before now new last) (same_Some end.Done how ends) (action_done rows old new before now acts.left last acts.acts)
        by (Err why) acts ends = of (reason why) acts.left acts.acts ends

    pub action_typed : (end : ActionEnd) → Last → ended_by result ≡ Some end → AreTyped policy last
    action_typed end acts ends = by result acts.acts ends
      where
        of : (why : Option Stop) → StopsFor publishes policy why (whole known device arguments (slice_get (items_of policy) action)) (standing old rows most_turns before) (standing new last acts.left now)
            → option_and_then stop_end why ≡ Some end → AreTyped policy last
        of None acts ends = absurd (cc)
        of (Some why) acts ends = acts.typed

        by : (result : Result (Unit {0}) Cause) → Acts publishes policy result tt (whole known device arguments (slice_get (items_of policy) action)) (standing old rows most_turns before) (standing new last acts.left now)
            → ended_by result ≡ Some end → AreTyped policy last
        by (Ok done) acts ends = acts.typed
        by (Err why) acts ends = of (reason why) acts ends

    -- no action of a well-typed policy is stuck
    pub action_never_sticks : ActionsGoWell policy action arguments device rows → Last → result ≡ Err (cause.Stop stop.Stuck) → ⊥
    action_never_sticks well acts is =
        let stuck = subst (λ result. Acts publishes policy result tt (whole known device arguments (slice_get (items_of policy) action)) (standing old rows most_turns before) (standing new last acts.left now)) is acts.acts in
        (goes_from publishes policy (whole known device arguments (slice_get (items_of policy) action)) (Stops (Halts Stuck)) (standing old rows most_turns before) (standing new last acts.left now)
        (subst (λ known. GoesWell policy (whole known device arguments (slice_get (items_of policy) action)) rows most_turns) same (whole_goes rows well)) stuck).stops [] tt

-- ---- the body of an action

-- an action has its parts
pub action_there : (policy : List PlacedItem) (action : ℕ) (arguments : List Value) → IsActionOf policy action arguments → action_parts (items_of policy) action ≡ None → ⊥
unfolding IsActionOf
action_there policy action arguments is none = by (slice_get (items_of policy) action) is none
  where
    by : (o : Option Item) → unwrap_or (option_map (is_action_of (items_of policy) arguments) o) false ≡ true → option_and_then action_parts_of o ≡ None → ⊥
    by None is none = false≢true is
    by (Some (item.Action name parameters body)) is none = absurd (cc)
    by (Some other) is none = false≢true is

module _ (items : List Item) (device : List ℕ) (arguments : List Value) (parts : List Field × List Stmt) where
  whole_by : (o : Option Item) → option_and_then action_parts_of o ≡ Some parts → (w : World) → whole items device arguments o w ≡ body_whole items device arguments parts w
  whole_by None is w = absurd (cc)
  whole_by (Some (item.Action name parameters body)) is w =
      ap (λ d. d >>> finished) (deeds_same items (action_setting device) body (bound_parameters (declared parameters) arguments) w)
      ∙ ap (λ parts. body_whole items device arguments parts w) (same_Some (parameters, body) parts is)
  whole_by (Some other) is w = absurd (cc)

  abbrev run_body : World → Deed Env
  run_body w = inside (deeds items (action_setting device) parts.1) (bound_parameters (declared parts.0) arguments) w

  body_is : (w : World) → body_whole items device arguments parts w ≡ (run_body w >>> finished)
  body_is w = inside_told (deeds items (action_setting device) parts.1 (bound_parameters (declared parts.0) arguments) w) (bound_parameters (declared parts.0) arguments) (Did tt)

  module _ {D : Type 0} (publishes : D → List Row → Posting → D → Type 0) (policy : List PlacedItem) (rows : List Row) (typed : AreTyped policy rows) (desk : D) (before : ℕ) where
    abbrev begin : Standing D
    begin = standing desk rows most_turns before

    begun : Acted publishes policy (body_whole items device arguments parts) (λ w. run_body w >>> finished) begin begin
    begun = acted_still publishes policy _ _ desk rows most_turns most_turns before typed (λ left made. ap settled (body_is (world rows left made most_turns)))

    pub body_goes : GoesWell policy (body_whole items device arguments parts) rows most_turns → GoesWell policy run_body rows most_turns
    body_goes goes = goes_into policy run_body finished rows most_turns (goes_from publishes policy _ _ begin begin goes begun)

    pub body_on : (result : Result (Unit {0}) Cause) (after : Env) (new : D) (last : List Row) (left now : ℕ) → Acts publishes policy result after run_body begin (standing new last left now)
        → ActsAtLast publishes policy result (body_whole items device arguments parts) desk rows most_turns before new last now
    body_on result after new last left now acts = record { left = left; acts = by result acts }
      where
        of : (why : Option Stop) → StopsFor publishes policy why run_body begin (standing new last left now) → StopsFor publishes policy why (body_whole items device arguments parts) begin (standing new last left now)
        of None acts = tt
        of (Some why) acts = acted_on publishes policy _ run_body (Stops why) finished begin begin (standing new last left now) begun acts

        by : (result : Result (Unit {0}) Cause) → Acts publishes policy result after run_body begin (standing new last left now)
            → Acts publishes policy result tt (body_whole items device arguments parts) begin (standing new last left now)
        by (Ok done) acts = acted_on publishes policy _ run_body (Did after) finished begin begin (standing new last left now) begun acts
        by (Err why) acts = of (reason why) acts

    module _ (action : ℕ) (some : action_parts items action ≡ Some parts) where
      -- the action by its number
      entered : Acted publishes policy (whole items device arguments (slice_get items action)) (body_whole items device arguments parts) begin begin
      entered = acted_still publishes policy _ _ desk rows most_turns most_turns before typed (λ left made. ap settled (whole_by (slice_get items action) some (world rows left made most_turns)))

      pub whole_body_goes : GoesWell policy (whole items device arguments (slice_get items action)) rows most_turns → GoesWell policy (body_whole items device arguments parts) rows most_turns
      whole_body_goes goes = goes_from publishes policy _ _ begin begin goes entered

      pub whole_body_on : (result : Result (Unit {0}) Cause) (new : D) (last : List Row) (now : ℕ) → ActsAtLast publishes policy result (body_whole items device arguments parts) desk rows most_turns before new last now
          → ActsAtLast publishes policy result (whole items device arguments (slice_get items action)) desk rows most_turns before new last now
      whole_body_on result new last now acts = record { left = acts.left; acts = acts_all publishes policy result tt _ (body_whole items device arguments parts) begin begin (standing new last acts.left now) entered acts.acts }

-- ---- an action of a policy at a desk of that policy

module _ {D : Type 0} (publishes : D → List Row → Posting → D → Type 0) (policy : List PlacedItem) (action : ℕ) (arguments : List Value) (device : List ℕ) (rows : List Row) (typed : AreTyped policy rows)
    (well : ActionsGoWell policy action arguments device rows) (parts : List Field × List Stmt) (some : action_parts (items_of policy) action ≡ Some parts) (desk : D) (before : ℕ)
    (own : List PlacedItem) (own_is : own ≡ policy) (known : List Item) (known_is : known ≡ items_of policy) (values : List Value) (values_is : values ≡ arguments) where
  pub begin_goes : GoesWell own (body_whole known device values parts) rows most_turns
  begin_goes =
      subst (λ own. GoesWell own (body_whole known device values parts) rows most_turns) (sym own_is)
      (subst (λ known. GoesWell policy (body_whole known device values parts) rows most_turns) (sym known_is)
      (subst (λ values. GoesWell policy (body_whole (items_of policy) device values parts) rows most_turns) (sym values_is)
      (whole_body_goes (items_of policy) device arguments parts publishes policy rows typed desk before action some (whole_goes publishes policy action arguments device rows well))))

  module _ (result : Result (Unit {0}) Cause) (new : D) (last : List Row) (now : ℕ) (acts : ActsAtLast publishes own result (body_whole known device values parts) desk rows most_turns before new last now) where
    last_is : ActsAtLast publishes policy result (whole (items_of policy) device arguments (slice_get (items_of policy) action)) desk rows most_turns before new last now
    last_is = whole_body_on (items_of policy) device arguments parts publishes policy rows typed desk before action some result new last now
        (subst (λ values. ActsAtLast publishes policy result (body_whole (items_of policy) device values parts) desk rows most_turns before new last now) values_is
        (subst (λ known. ActsAtLast publishes policy result (body_whole known device values parts) desk rows most_turns before new last now) known_is
        (subst (λ own. ActsAtLast publishes own result (body_whole known device values parts) desk rows most_turns before new last now) own_is acts)))

    pub never_stuck : result ≡ Err (cause.Stop stop.Stuck) → ⊥
    never_stuck is = action_never_sticks publishes policy action arguments device (items_of policy) refl rows desk new before now last result well last_is is

    pub runs_on : {E : Type 0} (r : Result ActionEnd E) → IfOk r (λ end. ended_by result ≡ Some end) → IfOk r (λ end. ActionRun publishes policy action arguments device desk rows end before now new last)
    runs_on (Ok how) ends = action_run publishes policy action arguments device (items_of policy) refl rows desk new before now last result how last_is ends
    runs_on (Err why) ends = tt
