-- Admission: what becomes of a command that is to be added to what is held.
use Rattle.std.specs.Prelude.{◌≡◌, ℕ, ◌+◌, ◌⊎◌, Bool, true, false, not, ◌&&◌, ◌==◌, if◌then◌else◌, nat_le, List, [], ◌∷◌, ◌++◌, find, length, Option, Some, None, option_and_then, option_map}
use Rattle.std.specs.Option.{is_some}
use Rattle.std.specs.Str.{bytes_eq}
use Rattle.accept.specs.declared.answer.Admit.{Admit}
use Rattle.accept.specs.declared.answer.Admit.TheVariants.{Added, Repeat, Refused}
use Rattle.accept.specs.declared.answer.Reason.{Reason}
use Rattle.accept.specs.declared.answer.Reason.TheVariants as reason
use Rattle.braid_run.specs.Places.{AreAtPlace, IsBehind}
use Rattle.braid_run.specs.Runs.{run_of}
use Rattle.braid_run.specs.Soundness.{Criteria, declared_kind}
use Rattle.command.specs.Closed.{has_id, max_commands}
use Rattle.command.specs.Cuts.{cut_behind}
use Rattle.command.specs.Kinds.{carried, is_finalize, parents_of}
use Rattle.command.specs.Wire.{body, command_id, wire}
use Rattle.command.specs.declared.command.Command.{Command}
use Rattle.command.specs.declared.command.Command.TheVariants as command
use Rattle.fact_store.specs.declared.row.Row.{Row}
use Rattle.policy_ast.specs.declared.policy.PlacedItem.{PlacedItem}
use Rattle.policy_meaning.specs.Applying.{Ended, Passes, Checks, Faults, Sticks}
use Rattle.policy_meaning.specs.Blocks.{policy_block}
use Rattle.policy_meaning.specs.Commands.{Content, call_of, content_of}
use Rattle.policy_meaning.specs.declared.call.Call.{Call}
use Rattle.policy_meaning.specs.declared.ends.Why.{Why}
use Rattle.policy_meaning.specs.declared.ends.Why.TheVariants as why
use Rattle.policy_rules.specs.Commands.{CommandKind, Basic, Finalize, Init}

-- ---- a command whose id is held

-- The held command of this id.
abbrev pub held_with : List Command → List ℕ → Option Command
held_with cs id = find (λ x. bytes_eq id (command_id x)) cs

-- The same bytes are a repeat. Others are a collision, which carries the held ones.
abbrev pub met : Command → Command → Admit
met held c = if bytes_eq (wire held) (wire c) then Repeat else Refused (reason.Collision (command_id c) (wire held))

-- ---- the reasons against a new command that need no facts

-- The graph has this id.
abbrev pub is_graph_id : Option (List ℕ) → List ℕ → Bool
is_graph_id (Some own) id = bytes_eq own id
is_graph_id None id = false

-- An init that isn't the graph's own, or that has another policy's digest.
abbrev pub is_other_init : List ℕ → Option (List ℕ) → Command → Bool
is_other_init digest graph_id (command.Init cut own author name payload tag) = not (is_graph_id graph_id (command_id (command.Init cut own author name payload tag)) && bytes_eq own digest)
is_other_init digest graph_id other = false

abbrev pub other_init : List ℕ → Option (List ℕ) → Command → Option Reason
other_init digest graph_id c = if is_other_init digest graph_id c then Some reason.OtherInit else None

-- The first parent, the left one before the right one, that isn't held.
abbrev pub missing_parent : List Command → Command → Option Reason
missing_parent cs c = option_map (λ id. reason.MissingParent id) (find (λ id. not (has_id cs id)) (parents_of c))

-- A stated cut that isn't the real one. The reason carries both.
abbrev pub cut_by : ℕ → ℕ → Option Reason
cut_by real stated = if stated == real then None else Some (reason.WrongCut stated real)

-- A command of version 2 states its cut, and it isn't its cut.
abbrev pub wrong_cut : List Command → Command → Option Reason
wrong_cut cs c = option_and_then (cut_by (cut_behind cs c)) (carried c)

-- The tag is good for the author and the body. A merge has none.
abbrev pub has_good_tag : (List ℕ → List ℕ → List ℕ → Bool) → Command → Bool
has_good_tag good (command.Init cut digest author name payload tag) = good author (body (command.Init cut digest author name payload tag)) tag
has_good_tag good (command.Basic cut priority parent author name payload tag) = good author (body (command.Basic cut priority parent author name payload tag)) tag
has_good_tag good (command.Finalize cut parent author name payload tag) = good author (body (command.Finalize cut parent author name payload tag)) tag
has_good_tag good (command.Merge cut left right) = true

abbrev pub bad_envelope : (List ℕ → List ℕ → List ℕ → Bool) → Command → Option Reason
bad_envelope good c = if has_good_tag good c then None else Some reason.BadEnvelope

-- The command is of this kind, and has this priority.
abbrev pub is_of_kind : CommandKind → Command → Bool
is_of_kind Init (command.Init cut digest author name payload tag) = true
is_of_kind (Basic declared) (command.Basic cut priority parent author name payload tag) = declared == priority
is_of_kind Finalize (command.Finalize cut parent author name payload tag) = true
is_of_kind kind other = false

-- By the kind that the policy declares for its name: there is none; it is of another; or its payload is no value of the fields, so that it is no call.
abbrev pub form_by : Option CommandKind → Command → Option Call → Option Why
form_by None c called = Some why.UnknownCommand
form_by (Some kind) c called = if is_of_kind kind c then (if is_some called then None else Some why.Payload) else Some why.WrongKind

abbrev pub form_of : List PlacedItem → Command → Option Content → Option Why
form_of policy c None = None
form_of policy c (Some content) = form_by (declared_kind policy content.name) c (call_of policy c)

-- What is against a command by the policy before any facts are looked at. A merge has no content, and nothing is against it.
abbrev pub ill_formed : List PlacedItem → Command → Option Why
ill_formed policy c = form_of policy c (content_of c)

-- ---- the reasons that need facts, and those behind them

-- Why a policy block doesn't pass. No block of a well-typed policy sticks.
abbrev pub not_passed : Ended → Option Why
not_passed (Passes rows effects) = None
not_passed (Checks recall) = Some why.Check
not_passed (Faults kind) = Some (why.Fault kind)
not_passed Sticks = Some why.Check

-- The policy block of the call over these facts; a merge is no call, and none is run.
abbrev pub not_allowed : List PlacedItem → List Row → Option Call → Option Why
not_allowed policy rows called = option_and_then (λ call. not_passed (policy_block policy call rows)) called

-- Of these commands the first finalize that doesn't meet the condition, by its id; None where there is none.
abbrev pub IsFirstFinalizeWithout : (Command → Type 0) → List Command → Option (List ℕ) → Type 0
IsFirstFinalizeWithout Behind [] first = first ≡ None
IsFirstFinalizeWithout Behind (f ∷ fs) first =
    ((is_finalize f ≡ true → Behind f) × IsFirstFinalizeWithout Behind fs first) ⊎ ((is_finalize f ≡ true) × (Behind f → ⊥) × (first ≡ Some (command_id f)))

-- The first held finalize, in stored order, that is no ancestor of c. So it stands in parallel to c, if c is a finalize too.
abbrev pub IsFirstBeside : List Command → Command → Option (List ℕ) → Type 0
IsFirstBeside cs c first = IsFirstFinalizeWithout (IsBehind cs c) cs first

abbrev pub parallel_finalize : Command → Option (List ℕ) → Option Reason
parallel_finalize c beside = if is_finalize c then option_map (λ id. reason.ParallelFinalize id) beside else None

abbrev pub full : List Command → Option Reason
full cs = if nat_le max_commands (length cs) then Some reason.Full else None

-- ---- the answer

-- The first that is there.
abbrev pub first_of : List (Option Reason) → Option Reason
first_of [] = None
first_of (Some cause ∷ more) = Some cause
first_of (None ∷ more) = first_of more

-- The reasons against a new command, in their order: first those that need no facts.
abbrev pub early_reasons : Criteria → Option (List ℕ) → List Command → Command → List (Option Reason)
early_reasons criteria graph_id cs c =
    other_init criteria.digest graph_id c ∷ missing_parent cs c ∷ wrong_cut cs c ∷ bad_envelope criteria.good c ∷ option_map (λ cause. reason.Policy cause) (ill_formed criteria.policy c) ∷ []

-- Then those by the facts at its place and by the first finalize beside it.
abbrev pub late_reasons : List PlacedItem → List Command → Command → List Row → Option (List ℕ) → List (Option Reason)
late_reasons policy cs c rows beside =
    option_map (λ cause. reason.Policy cause) (not_allowed policy rows (call_of policy c)) ∷ parallel_finalize c beside ∷ full cs ∷ []

-- The first reason against a new command, where these are the facts at its place and this is the first finalize beside it.
abbrev pub reason_by : Criteria → Option (List ℕ) → List Command → Command → List Row → Option (List ℕ) → Option Reason
reason_by criteria graph_id cs c rows beside = first_of (early_reasons criteria graph_id cs c ++ late_reasons criteria.policy cs c rows beside)

-- This is the first reason against a command in a graph of this id that holds these commands, but not its id; None where nothing is against it.
abbrev pub IsReason : Criteria → Option (List ℕ) → List Command → Command → Option Reason → Type 0
IsReason criteria graph_id cs c found =
    (rows : List Row) (beside : Option (List ℕ)) → AreAtPlace criteria.policy cs c rows → IsFirstBeside cs c beside → found ≡ reason_by criteria graph_id cs c rows beside

-- It is added where no reason is against it.
abbrev pub by_reason : Option Reason → Admit
by_reason (Some cause) = Refused cause
by_reason None = Added

-- A held command decides; where none has the id, the reasons do.
abbrev pub by_held : Command → Option Command → Admit → Admit
by_held c (Some held) new = met held c
by_held c None new = new

-- What becomes of a command, where these are the facts at its place and this is the first finalize beside it.
abbrev pub answer_by : Criteria → Option (List ℕ) → List Command → Command → List Row → Option (List ℕ) → Admit
answer_by criteria graph_id cs c rows beside = by_held c (held_with cs (command_id c)) (by_reason (reason_by criteria graph_id cs c rows beside))

-- This becomes of a command in a graph of this id that holds these commands. What else a replica has, its present facts among it, plays no part.
abbrev pub IsAdmission : Criteria → Option (List ℕ) → List Command → Command → Admit → Type 0
IsAdmission criteria graph_id cs c answer =
    (rows : List Row) (beside : Option (List ℕ)) → AreAtPlace criteria.policy cs c rows → IsFirstBeside cs c beside → answer ≡ answer_by criteria graph_id cs c rows beside

-- ---- the blocks that are run

-- So many blocks are run for a new command, where this is the braid at its place: those of the braid, and its own; and none where an early reason is
-- against it, or where it is a merge.
abbrev pub new_ticks : Criteria → Option (List ℕ) → List Command → Command → List Command → ℕ
new_ticks criteria graph_id cs c braid =
    if not (is_some (first_of (early_reasons criteria graph_id cs c))) && is_some (call_of criteria.policy c) then (run_of criteria.policy braid).ticks + 1 else 0

-- None is run for one whose id is held.
abbrev pub admission_ticks : Criteria → Option (List ℕ) → List Command → Command → List Command → ℕ
admission_ticks criteria graph_id cs c braid = if is_some (held_with cs (command_id c)) then 0 else new_ticks criteria graph_id cs c braid
