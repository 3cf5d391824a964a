-- What stops a line, by the refusal of its call.
use Rattle.std.proofs.Common.{◌≡◌, inl, inr, ℕ, Bool, true, false, if◌then◌else◌, List, Option, Some, None, Result, Ok, Err, IfErr, refl, sym, ap, subst, ◌∙◌}
use Rattle.std.specs.Str.{bytes_eq}
use Rattle.fact_store.specs.declared.row.Row.{Row}
use Rattle.replica.specs.Actions.{IsFault}
use Rattle.replica.specs.Calls.{Answers, Asks, AsksNext}
use Rattle.replica.specs.Kept.{Kept}
use Rattle.replica.specs.Messages.{IsRead, for_graph}
use Rattle.replica.specs.Steps.{IsReplyOf}
use Rattle.replica.specs.declared.down.Down.{Down}
use Rattle.replica.specs.declared.refusal.Refusal.{Refusal}
use Rattle.replica.specs.declared.refusal.Refusal.TheVariants as refusal
use Rattle.script_texts.specs.Bytes.{Bytes}
use Rattle.transaction.specs.Acting.{Request as Action}
use Rattle.transaction.specs.Drafts.{Basis}
use Rattle.transaction.specs.declared.fault.ActFault.{ActFault}
use Rattle.transaction.specs.declared.fault.ActFault.TheVariants as fault
use Rattle.world.specs.Lines.{graph_to_join}
use Rattle.world.specs.declared.stop.RunStop.{RunStop}
use Rattle.world.specs.declared.stop.RunStop.TheVariants as stop
use Rattle.world.specs.working.Stopping.{IsCausedBy, IsStopBy}
use Rattle.world.specs.working.Words.{IsStopped, WordsBy}

-- ---- refusals that stop a run only for want of memory

abbrev pub is_mild : Refusal → Bool
is_mild refusal.NoGraph = true
is_mild refusal.HasGraph = true
is_mild refusal.Malformed = true
is_mild (refusal.OtherGraph id) = true
is_mild refusal.NoMemory = true
is_mild (refusal.Act why) = false
is_mild (refusal.DiskFault step) = false
is_mild (refusal.Down step) = false
is_mild (refusal.Journal cause) = false

mild_stop : (why : Refusal) (s : RunStop) → is_mild why ≡ true → IsStopBy why s → s ≡ stop.NoMemory
mild_stop refusal.NoGraph s mild is = absurd is
mild_stop refusal.HasGraph s mild is = absurd is
mild_stop refusal.Malformed s mild is = absurd is
mild_stop (refusal.OtherGraph id) s mild is = absurd is
mild_stop refusal.NoMemory s mild is = is
mild_stop (refusal.Act why) s mild is = absurd cc
mild_stop (refusal.DiskFault step) s mild is = absurd cc
mild_stop (refusal.Down step) s mild is = absurd cc
mild_stop (refusal.Journal cause) s mild is = absurd cc

pub mild_memory : {T : Type 0} (reply : Result T Refusal) (s : RunStop) → IfErr reply (λ why. is_mild why ≡ true) → IsStopped reply s → s ≡ stop.NoMemory
mild_memory reply s mild (inl none) = none
mild_memory (Ok r) s mild (inr is) = absurd is
mild_memory (Err why) s mild (inr is) = mild_stop why s mild is

pub mild_caused : (sealed failed : Type 0) (why : Refusal) → is_mild why ≡ true → IsCausedBy sealed failed why
mild_caused sealed failed refusal.NoGraph mild = tt
mild_caused sealed failed refusal.HasGraph mild = tt
mild_caused sealed failed refusal.Malformed mild = tt
mild_caused sealed failed (refusal.OtherGraph id) mild = tt
mild_caused sealed failed refusal.NoMemory mild = tt
mild_caused sealed failed (refusal.Act why) mild = absurd cc
mild_caused sealed failed (refusal.DiskFault step) mild = absurd cc
mild_caused sealed failed (refusal.Down step) mild = absurd cc
mild_caused sealed failed (refusal.Journal cause) mild = absurd cc

-- ---- each reading has only such

for_graph_mild : {M : Type 0} (graph : M → List ℕ) (message : Option M) (id : Option (List ℕ)) (why : Refusal) → Err why ≡ for_graph graph message id → is_mild why ≡ true
for_graph_mild graph None id why is = let e : why ≡ refusal.Malformed = cc in ap is_mild e
for_graph_mild graph (Some m) None why is = let e : why ≡ refusal.NoGraph = cc in ap is_mild e
for_graph_mild {M = M} graph (Some m) (Some id) why is = by (bytes_eq (graph m) id) is where
  by : (b : Bool) → Err why ≡ (if b then Ok m else Err (refusal.OtherGraph (graph m))) → is_mild why ≡ true
  by true e = absurd cc
  by false e = let same : why ≡ refusal.OtherGraph (graph m) = cc in ap is_mild same

pub read_mild : {M : Type 0} (form : M → List ℕ → Type 0) (graph : M → List ℕ) (bytes : List ℕ) (id : Option (List ℕ)) (why : Refusal) → IsRead form graph bytes id (Err why) → is_mild why ≡ true
read_mild form graph bytes id why read = for_graph_mild graph read.message id why read.same_read

-- ---- calls that change nothing, of a replica that is up

is_down : {D : Type 0} (kept : Kept D) (down : Down) → kept.down ≡ None → kept.down ≡ Some down → ⊥
is_down kept down up was = by (sym up ∙ was)
  where
    by : ◌≡◌ {A = Option Down} None (Some down) → ⊥
    by e = absurd cc

pub reply_mild : {T D : Type 0} (kept : Kept D) (gives : T → Type 0) (refuses : Refusal → Type 0) (reply : Result T Refusal) → kept.down ≡ None → ((why : Refusal) → refuses why → is_mild why ≡ true)
    → IsReplyOf kept gives refuses reply → IfErr reply (λ why. is_mild why ≡ true)
reply_mild kept gives refuses (Ok r) up mild is = tt
reply_mild kept gives refuses (Err why) up mild (inl (was, inl none)) = ap is_mild none
reply_mild kept gives refuses (Err why) up mild (inl (was, inr because)) = mild why because
reply_mild kept gives refuses (Err why) up mild (inr (down, was, is)) = absurd (is_down kept down up was)

module _ {D : Type 0} (kept : Kept D) (up : kept.down ≡ None) where
  pub asks_mild : (reply : Result Bytes Refusal) → Asks kept reply → IfErr reply (λ why. is_mild why ≡ true)
  asks_mild reply asks = reply_mild kept _ (λ why. (kept.held.graph_id ≡ None) × (why ≡ refusal.NoGraph)) reply up (λ why is. ap is_mild is.1) asks

  pub next_mild : (bytes : Bytes) (reply : Result (Option Bytes) Refusal) → AsksNext kept bytes reply → IfErr reply (λ why. is_mild why ≡ true)
  next_mild bytes reply asks = reply_mild kept _ _ reply up (λ why read. read_mild _ _ bytes kept.held.graph_id why read) asks

  pub answers_mild : (bytes : Bytes) (reply : Result Bytes Refusal) → Answers kept bytes reply → IfErr reply (λ why. is_mild why ≡ true)
  answers_mild bytes reply answers = reply_mild kept _ _ reply up (λ why read. read_mild _ _ bytes kept.held.graph_id why read) answers

-- ---- an action stops a run where its seal fails, too

act_caused : (sealed failed : Type 0) (why : ActFault) → (refusal.Act why ≡ refusal.Act fault.SealFault → sealed) → IsCausedBy sealed failed (refusal.Act why)
act_caused sealed failed fault.SealFault rose = rose refl
act_caused sealed failed fault.NoMemory rose = tt
act_caused sealed failed fault.NoGraph rose = tt
act_caused sealed failed fault.UnknownAction rose = tt
act_caused sealed failed fault.Arguments rose = tt
act_caused sealed failed fault.Check rose = tt
act_caused sealed failed (fault.Fault kind) rose = tt
act_caused sealed failed (fault.CommandPolicy name why) rose = tt
act_caused sealed failed (fault.Collision id) rose = tt
act_caused sealed failed fault.Full rose = tt

pub fault_caused : (sealed failed : Type 0) (basis : Basis) (rows : List Row) (action : Action) (t u : ℕ) (why : Refusal) → IsFault basis rows action t u why → (why ≡ refusal.Act fault.SealFault → sealed)
    → IsCausedBy sealed failed why
fault_caused sealed failed basis rows action t u why (cause, acts, is, some) rose = subst (IsCausedBy sealed failed) (sym is) (act_caused sealed failed cause (λ same. rose (is ∙ same)))

-- a join is refused mildly before it is made
pub refused_join_alone : (own known : Option (List ℕ)) (why : Refusal) (line : Option Bytes) (result : Result Bytes RunStop) → graph_to_join own known ≡ Err why → WordsBy (Some why) line result → IfErr result (λ s. s ≡ stop.NoMemory)
refused_join_alone own known why line (Ok text) is words = tt
refused_join_alone (Some own) known why line (Err s) is words = let e : why ≡ refusal.HasGraph = cc in mild_memory {T = Unit {0}} (Err why) s (ap is_mild e) words
refused_join_alone None None why line (Err s) is words = let e : why ≡ refusal.NoGraph = cc in mild_memory {T = Unit {0}} (Err why) s (ap is_mild e) words
refused_join_alone None (Some id) why line (Err s) is words = absurd cc
