-- Runs: what the first commands leave, and how far a run has come.
use Rattle.std.proofs.Common.{◌≡◌, ℕ, suc, ◌+◌, ◌*◌, ◌<◌, ◌≤◌, List, [], ◌∷◌, ◌++◌, length, map, take, drop, get_or, slice_get, Option, None, Some, option_map, refl, sym, ap, subst, ◌∙◌, arith, append_assoc, append-nil, drop-cons, length-append}
use Rattle.std.specs.List.{All}
use Rattle.std.proofs.Math.Seq.{take-append_seam}
use Rattle.std.proofs.lemmas.List.{drop_all, length-take-le, map-append, take-append-drop}
use Rattle.std.proofs.lemmas.List.Elements.{All-push}
use Rattle.std.proofs.lemmas.Option.{same_Some}
use Rattle.braid.specs.Braids.{picked}
use Rattle.braid.proofs.Places.{picked_more}
use Rattle.braid_run.specs.RunAbove.{IsRunFrom}
use Rattle.braid_run.specs.Runs.{Run, block_ticks, call_ticks, command_ticks, entry_of, no_run, rows_behind, run_from, run_of, run_on, with_command}
use Rattle.braid_run.specs.declared.entry.Entry.{Entry}
use Rattle.command.specs.Ancestors.{IsAt}
use Rattle.command.specs.Wire.{command_id}
use Rattle.command.specs.declared.command.Command.{Command}
use Rattle.fact_store.specs.declared.row.Row.{Row}
use Rattle.policy_ast.specs.declared.policy.PlacedItem.{PlacedItem}
use Rattle.policy_meaning.specs.Applying.{Ended, Passes, Checks, Faults, Sticks as Sticking}
use Rattle.policy_meaning.specs.Blocks.{policy_block}
use Rattle.policy_meaning.specs.declared.call.Call.{Call}
use Rattle.policy_meaning.specs.Commands.{call_of, Judged, Pass, Recalled, Void, Sticks as Stuck, judged}

-- a run of which more blocks were run before
abbrev pub raised : ℕ → Run → Run
raised n run = record { rows = run.rows; entries = run.entries; ticks = n + run.ticks }

entry_id : (id : List ℕ) (is : Judged) → (entry_of id is).id ≡ id
entry_id id (Pass rows effects) = refl
entry_id id (Recalled rows effects) = refl
entry_id id Void = refl
entry_id id Stuck = refl

module _ (policy : List PlacedItem) where
  pub run_append : (run : Run) (xs ys : List Command) → run_on policy run (xs ++ ys) ≡ run_on policy (run_on policy run xs) ys
  run_append run [] ys = refl
  run_append run (x ∷ xs) ys = run_append (with_command policy run x) xs ys

  -- one entry a command
  pub run_grows : (run : Run) (cs : List Command) → length (run_on policy run cs).entries ≡ length run.entries + length cs
  run_grows run [] = omega arith
  run_grows run (c ∷ cs) =
      let next = with_command policy run c in
      let more : length (run_on policy next cs).entries ≡ length next.entries + length cs = run_grows next cs in
      let one : length next.entries ≡ length run.entries + 1 = length-append run.entries _ in
      omega (arith, more, one)

  -- in their order, each with its id
  pub run_names : (run : Run) (cs : List Command) → map (λ e. e.id) (run_on policy run cs).entries ≡ map (λ e. e.id) run.entries ++ map command_id cs
  run_names run [] = sym (append-nil (map (λ e. e.id) run.entries))
  run_names run (c ∷ cs) =
      let is = judged policy run.rows c in
      let next = with_command policy run c in
      run_names next cs
      ∙ ap (λ l. l ++ map command_id cs)
      (map-append (λ (e : Entry). e.id) run.entries (entry_of (command_id c) is ∷ []) ∙ ap (λ id. map (λ e. e.id) run.entries ++ id ∷ []) (entry_id (command_id c) is))
      ∙ append_assoc (map (λ e. e.id) run.entries) (command_id c ∷ []) (map command_id cs)

  -- the entries so far begin those at the end
  pub entries_stay : (run : Run) (cs : List Command) → (more : List Entry) × ((run_on policy run cs).entries ≡ run.entries ++ more)
  entries_stay run [] = ([], sym (append-nil run.entries))
  entries_stay run (c ∷ cs) =
      let next = with_command policy run c in
      let rest = entries_stay next cs in
      (_ ∷ rest.0, rest.1 ∙ append_assoc run.entries _ rest.0)

  -- the first entries are those of the first commands
  pub first_entries : (n : ℕ) (cs : List Command) → n ≤ length cs → take n (run_of policy cs).entries ≡ (run_of policy (take n cs)).entries
  first_entries n cs within =
      let front = run_of policy (take n cs) in
      let grown : length front.entries ≡ length (take n cs) = omega (arith, run_grows no_run (take n cs)) in
      let size : length front.entries ≡ n = grown ∙ length-take-le n cs within in
      let whole : run_of policy cs ≡ run_on policy front (drop n cs) = ap (run_of policy) (sym (take-append-drop n cs)) ∙ run_append no_run (take n cs) (drop n cs) in
      let rest = entries_stay front (drop n cs) in
      ap (λ run. take n run.entries) whole
      ∙ ap (take n) rest.1
      ∙ subst (λ k. take k (front.entries ++ rest.0) ≡ front.entries) size (take-append_seam front.entries rest.0)

  command_raised : (n : ℕ) (run : Run) (c : Command) → with_command policy (raised n run) c ≡ raised n (with_command policy run c)
  command_raised n run c =
      ap (λ t. record { rows = (with_command policy run c).rows; entries = (with_command policy run c).entries; ticks = t })
      (ticks n run.ticks (command_ticks policy run.rows c))
    where
      ticks : (n m t : ℕ) → n + m + t ≡ n + (m + t)
      ticks n m t = omega arith

  pub run_raised : (n : ℕ) (run : Run) (cs : List Command) → run_on policy (raised n run) cs ≡ raised n (run_on policy run cs)
  run_raised n run [] = refl
  run_raised n run (c ∷ cs) =
      ap (λ r. run_on policy r cs) (command_raised n run c) ∙ run_raised n (with_command policy run c) cs

  -- ticks only rise
  ticks_rise : (run : Run) (cs : List Command) → run.ticks ≤ (run_on policy run cs).ticks
  ticks_rise run [] = omega arith
  ticks_rise run (c ∷ cs) =
      let next = with_command policy run c in
      let rest : next.ticks ≤ (run_on policy next cs).ticks = ticks_rise next cs in
      let one : next.ticks ≡ run.ticks + command_ticks policy run.rows c = refl in
      omega (arith, rest, one)

-- a policy block that is run takes a tick at least
pub one_tick : (ended : Ended) → 1 ≤ block_ticks ended
one_tick (Passes rows effects) = omega arith
one_tick (Checks recall) = omega arith
one_tick (Faults kind) = omega arith
one_tick Sticking = omega arith

-- ---- the loop over the places of a braid

module _ (policy : List PlacedItem) (cs : List Command) (places : List ℕ) (whole : Run) where
  next_here : (i place : ℕ) (x : Command) → i < length places → place ≡ get_or places i 0 → IsAt cs place x → picked cs (drop i places) ≡ x ∷ picked cs (drop (i + 1) places)
  next_here i place x within is at =
      let next_place : suc i ≡ i + 1 = omega arith in
      ap (picked cs) (drop-cons places i 0 within ∙ ap (λ p. p ∷ drop (suc i) places) (sym is) ∙ ap (λ k. place ∷ drop k places) next_place) ∙ picked_more cs place (drop (i + 1) places) x at

  -- a command takes no more ticks than the whole
  pub ticks_within : (i place : ℕ) (x : Command) (old : Run) (ticks : ℕ) → i < length places → place ≡ get_or places i 0 → IsAt cs place x →
      ticks ≤ old.ticks + command_ticks policy old.rows x → run_on policy old (picked cs (drop i places)) ≡ whole → ticks ≤ whole.ticks
  ticks_within i place x old ticks within is at few so_far =
      let rises = ticks_rise policy (with_command policy old x) (picked cs (drop (i + 1) places)) in
      let same : (run_on policy (with_command policy old x) (picked cs (drop (i + 1) places))).ticks ≡ whole.ticks =
      ap (λ l. (run_on policy old l).ticks) (sym (next_here i place x within is at)) ∙ ap (λ r. r.ticks) so_far in
      omega (arith, few, rises, same)

  -- one command more was run
  pub one_more_run : (i place : ℕ) (x : Command) (id : List ℕ) (old : Run) (rows : List Row) (entries : List Entry) (entry : Entry) (ticks : ℕ) → i < length places →
      place ≡ get_or places i 0 → IsAt cs place x → option_map command_id (slice_get cs place) ≡ Some id →
      rows ≡ rows_behind (judged policy old.rows x) old.rows → entry ≡ entry_of id (judged policy old.rows x) →
      entries ≡ old.entries ++ entry ∷ [] → ticks ≡ old.ticks + command_ticks policy old.rows x →
      run_on policy old (picked cs (drop i places)) ≡ whole → run_on policy (record { rows = rows; entries = entries; ticks = ticks }) (picked cs (drop (i + 1) places)) ≡ whole
  one_more_run i place x id old rows entries entry ticks within is at named same_rows same_entry same_entries same_ticks before =
      let next = with_command policy old x in
      let same_id : id ≡ command_id x = same_Some id (command_id x) (sym named ∙ ap (option_map command_id) at) in
      let listed : entries ≡ next.entries = same_entries ∙ ap (λ e. old.entries ++ e ∷ []) (same_entry ∙ ap (λ n. entry_of n (judged policy old.rows x)) same_id) in
      ap (λ r. run_on policy (record { rows = r; entries = entries; ticks = ticks }) (picked cs (drop (i + 1) places))) same_rows
      ∙ ap (λ es. run_on policy (record { rows = next.rows; entries = es; ticks = ticks }) (picked cs (drop (i + 1) places))) listed
      ∙ ap (λ t. run_on policy (record { rows = next.rows; entries = next.entries; ticks = t }) (picked cs (drop (i + 1) places))) same_ticks
      ∙ ap (run_on policy old) (sym (next_here i place x within is at))
      ∙ before

-- the ticks of a run whose counter began elsewhere
pub ticks_from : (policy : List PlacedItem) (start : List Row) (cs : List Command) (before : ℕ) →
    (run_on policy (record { rows = start; entries = []; ticks = before }) cs).ticks ≡ before + (run_on policy (run_from start) cs).ticks
ticks_from policy start cs before =
    let plus : before ≡ before + 0 = omega arith in
    ap (λ n. (run_on policy (record { rows = start; entries = []; ticks = n }) cs).ticks) plus ∙ ap (λ run. run.ticks) (run_raised policy before (run_from start) cs)

-- at no place are there more ticks than those of the whole run
pub stays_within : (policy : List PlacedItem) (start : List Row) (cs : List Command) (places : List ℕ) (i place : ℕ) (x : Command) (old : Run) (before ticks : ℕ) → i < length places → place ≡ get_or places i 0 →
    IsAt cs place x → ticks ≤ old.ticks + command_ticks policy old.rows x →
    run_on policy old (picked cs (drop i places)) ≡ run_on policy (record { rows = start; entries = []; ticks = before }) (picked cs places) → ticks ≤ before + (run_on policy (run_from start) (picked cs places)).ticks
stays_within policy start cs places i place x old before ticks within is at few so_far =
    let most = ticks_within policy cs places (run_on policy (record { rows = start; entries = []; ticks = before }) (picked cs places)) i place x old ticks within is at few so_far in
    omega (arith, most, ticks_from policy start (picked cs places) before)

-- all commands were run, by a counter that began elsewhere
pub ran_whole : (policy : List PlacedItem) (start : List Row) (cs : List Command) (places : List ℕ) (i : ℕ) (rows : List Row) (entries : List Entry) (before now : ℕ) → length places ≤ i →
    run_on policy (record { rows = rows; entries = entries; ticks = now }) (picked cs (drop i places)) ≡ run_on policy (record { rows = start; entries = []; ticks = before }) (picked cs places) →
    IsRunFrom policy start (picked cs places) rows entries before now
ran_whole policy start cs places i rows entries before now past is =
    let last : Run = record { rows = rows; entries = entries; ticks = now } in
    let none : picked cs (drop i places) ≡ [] = ap (picked cs) (drop_all i places past) in
    let plus : before ≡ before + 0 = omega arith in
    let same : last ≡ raised before (run_on policy (run_from start) (picked cs places)) =
    ap (run_on policy last) (sym none) ∙ is ∙ ap (λ n. run_on policy (record { rows = start; entries = []; ticks = n }) (picked cs places)) plus ∙ run_raised policy before (run_from start) (picked cs places) in
    record { same_rows = ap (λ run. run.rows) same; same_entries = ap (λ run. run.entries) same; counted = ap (λ run. run.ticks) same }

-- a command takes two ticks at most
two_ticks : (ended : Ended) → block_ticks ended ≤ 2
two_ticks (Passes rows effects) = omega arith
two_ticks (Checks recall) = omega arith
two_ticks (Faults kind) = omega arith
two_ticks Sticking = omega arith

command_few : (policy : List PlacedItem) (rows : List Row) (called : Option Call) → call_ticks policy rows called ≤ 2
command_few policy rows None = omega arith
command_few policy rows (Some call) = two_ticks (policy_block policy call rows)

pub few_ticks : (policy : List PlacedItem) (run : Run) (cs : List Command) → (run_on policy run cs).ticks ≤ run.ticks + 2 * length cs
few_ticks policy run [] = omega arith
few_ticks policy run (c ∷ cs) =
    let next = with_command policy run c in
    let rest : (run_on policy next cs).ticks ≤ next.ticks + 2 * length cs = few_ticks policy next cs in
    let one : next.ticks ≡ run.ticks + command_ticks policy run.rows c = refl in
    let few : command_ticks policy run.rows c ≤ 2 = command_few policy run.rows (call_of policy c) in
    omega (arith, rest, one, few)

pub all_more : {X : Type 0} (P : X → Type 0) (old new : List X) (x : X) → new ≡ old ++ x ∷ [] → All P old → P x → All P new
all_more P old new x is all one = subst (λ l. All P l) (sym is) (All-push P old x all one)
