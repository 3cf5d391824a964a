-- What a part of an action at a desk tells: the postings that it made, and what it means where the desk answers so.
use Rattle.std.specs.Prelude.{◌≡◌, ℕ, ◌+◌, List, ◌++◌, map, Option, Some, None, option_and_then, Result, Ok, Err}
use Rattle.std.specs.Global.{Vec}
use Rattle.fact_store.specs.declared.row.Row.{Row}
use Rattle.policy_ast.specs.declared.policy.PlacedItem.{PlacedItem}
use Rattle.policy_expressions.specs.Answers.{Stops as HaltsBy}
use Rattle.policy_expressions.specs.declared.stop.Stop.{Stop as Halted}
use Rattle.policy_expressions.specs.declared.stop.Stop.TheVariants as stop
use Rattle.policy_meaning.specs.Actions.{Answer, Brought, Deed, Did, Stops, Stop, Halts, IsRefused, World, stop_end, with_turns}
use Rattle.policy_meaning.specs.Desks.{Chain, Posting, answer, brought, total}
use Rattle.policy_meaning.specs.Outcomes.{Check, Fault, Stuck, Out, Done}
use Rattle.policy_meaning.specs.Typed.{AreTyped}
use Rattle.policy_meaning.specs.declared.ends.ActionEnd.{ActionEnd}
use Rattle.policy_meaning.specs.declared.ends.ActionEnd.TheVariants as end
use Rattle.policy_meaning.specs.declared.ends.FaultKind.TheVariants as fault
use Rattle.policy_meaning.specs.declared.ends.Posted.{Posted}
use Rattle.policy_meaning.specs.declared.ends.Posted.TheVariants as posted
use Rattle.policy_types.specs.ActsWell.{LeaveTyped, MayStop}
use Rattle.policy_eval.specs.declared.cause.Cause.{Cause}
use Rattle.policy_eval.specs.declared.cause.Cause.TheVariants as cause

-- Where an action stands: the desk, the facts, the turns left and the ticks so far.
pub record Standing (D : Type 0) : Type 0 where
  pub desk : D
  pub rows : List Row
  pub turns : ℕ
  pub ticks : ℕ

abbrev pub standing : {D : Type 0} → D → List Row → ℕ → ℕ → Standing D
standing desk rows turns ticks = record { desk = desk; rows = rows; turns = turns; ticks = ticks }

-- The world in which it stands, with the answers still to come and what was published.
abbrev pub world : List Row → List Answer → List Brought → ℕ → World
world rows left made turns = record { rows = rows; left = left; made = made; turns = turns }

-- A deed, but for the turns that are left where it stops.
abbrev pub settled : {A : Type 0} → Deed A → Deed A
settled (Did x w) = Did x w
settled (Stops why w) = Stops why (with_turns w 0)

-- From one standing to another by postings of the desk's relation: with just these answers the one deed comes to what is left to do. The facts behind
-- each answer are typed.
pub record Acted {D A : Type 0} (publishes : D → List Row → Posting → D → Type 0) (policy : List PlacedItem) (deed rest : World → Deed A) (old new : Standing D) : Type 0 where
  pub postings : List Posting
  pub chain : Chain publishes old.desk old.rows postings new.desk new.rows
  pub counted : new.ticks ≡ old.ticks + total postings
  pub answers : LeaveTyped policy (map answer postings)
  pub typed : AreTyped policy new.rows
  pub acts : (left : List Answer) (made : List Brought) → settled (deed (world old.rows (map answer postings ++ left) made old.turns)) ≡ settled (rest (world new.rows left (made ++ map brought postings) new.turns))

-- ---- why a part of an action stops

abbrev pub halted : Halted → Option Stop
halted stop.Check = Some (Halts (Check None))
halted (stop.Fault kind) = Some (Halts (Fault kind))
halted stop.Stuck = Some (Halts Stuck)
halted stop.NoMemory = None

-- The reason, as the definitions have it. Out of memory is none.
abbrev pub reason : Cause → Option Stop
reason (cause.Stop why) = halted why
reason cause.Refused = Some IsRefused

-- What the desk's answer comes to, as a part of an action.
abbrev pub posted_as : Posted → Result (Unit {0}) Cause
posted_as posted.Taken = Ok tt
posted_as posted.TooLong = Err (cause.Stop (stop.Fault fault.TooLong))
posted_as posted.Refused = Err cause.Refused

-- What an evaluation gave, as a part of an action.
abbrev pub caused : {A : Type 0} → Result A Halted → Result A Cause
caused (Ok x) = Ok x
caused (Err why) = Err (cause.Stop why)

-- It stopped for this reason.
abbrev pub StopsFor : {D A : Type 0} → (D → List Row → Posting → D → Type 0) → List PlacedItem → Option Stop → (World → Deed A) → Standing D → Standing D → Type 0
StopsFor publishes policy None deed old new = Unit {0}
StopsFor publishes policy (Some why) deed old new = Acted publishes policy deed (Stops why) old new

-- It was done, and left this; or it stopped.
abbrev pub Acts : {D A X : Type 0} → (D → List Row → Posting → D → Type 0) → List PlacedItem → Result X Cause → A → (World → Deed A) → Standing D → Standing D → Type 0
Acts publishes policy (Ok done) x deed old new = Acted publishes policy deed (Did x) old new
Acts publishes policy (Err why) x deed old new = StopsFor publishes policy (reason why) deed old new

-- The same of a whole action, whose turns nobody asks for in the end.
pub record ActsAtLast {D : Type 0} (publishes : D → List Row → Posting → D → Type 0) (policy : List PlacedItem) (result : Result (Unit {0}) Cause) (deed : World → Deed (Unit {0})) (old : D) (rows : List Row)
    (turns before : ℕ) (new : D) (last : List Row) (now : ℕ) : Type 0 where
  pub left : ℕ
  pub acts : Acts publishes policy result tt deed (standing old rows turns before) (standing new last left now)

-- How an action ends that was done or stopped so; out of memory it has no end, nor where it is stuck.
abbrev pub ended_by : Result (Unit {0}) Cause → Option ActionEnd
ended_by (Ok done) = Some end.Done
ended_by (Err why) = option_and_then stop_end (reason why)

-- A call answered the rows that an evaluation gives.
abbrev pub GivesRows : Result (Vec Row) Halted → ℕ → Out (List Row) → Type 0
GivesRows (Ok rows) turns out = out ≡ Done rows.items turns
GivesRows (Err why) turns out = HaltsBy why out

-- ---- what is known before

-- Where a part of an action stops, it is for one of the reasons for which an action may stop.
abbrev pub StopsWell : {A : Type 0} → List PlacedItem → Deed A → Type 0
StopsWell policy (Did x w) = Unit {0}
StopsWell policy (Stops why w) = MayStop policy why

-- Whatever typed facts the desk's answers leave, a part of an action, which has published these, stops for such a reason if it stops.
pub record GoesWell {A : Type 0} (policy : List PlacedItem) (deed : World → Deed A) (rows : List Row) (turns : ℕ) : Type 0 where
  pub made : List Brought
  pub stops : (left : List Answer) → LeaveTyped policy left → StopsWell policy (deed (world rows left made turns))
