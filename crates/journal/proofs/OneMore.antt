-- A list of commits grows by one.
use Rattle.std.proofs.Common.{◌≡◌, ◌∙◌, ap, sym, subst, refl, ℕ, ◌+◌, ◌-◌, ◌≤◌, Bool, false, List, [], ◌∷◌, ◌++◌, length, map, take, drop, Err, append_assoc, length-append, arith}
use Rattle.std.specs.Int.{w32, to_be_bytes}
use Rattle.std.proofs.lemmas.List.{append-nil}
use Rattle.command.specs.Each.{EachAfter}
use Rattle.journal.specs.Commits.{AreCommits, IsCommitForm, IsNext, MayStand, command_count, commit_body, count_of, first_gate, gated, gated_from, has_none, next_gate, open_record, records}
use Rattle.journal.specs.Images.{BeginsWith}
use Rattle.std.specs.List.{AllByRecursion}
use Rattle.journal.specs.Journal.{AreOf}
use Rattle.journal.specs.Outline.{Outline, outline_of, outline_behind}
use Rattle.journal.specs.Ends.{outline_at}
use Rattle.journal.specs.working.Listing.{Lists}
use Rattle.journal.specs.working.Opening.{EndsBroken, EndsShut, IsBroken, IsFirst, IsShut, ReadsCommits, ReadsGate}
use Rattle.journal.specs.declared.commit.Commit.{Commit}
use Rattle.journal.specs.declared.end.End.{End}
use Rattle.journal.specs.declared.fault.OpenFault.{OpenFault}
use Rattle.journal.specs.declared.fault.OpenFault.TheVariants as fault
use Rattle.journal.proofs.Spans.{length_between}

-- ---- one commit more

each_push : {X : Type 0} (P : List X → X → Type 0) (before xs : List X) (x : X) → EachAfter P before xs → P (before ++ xs) x → EachAfter P before (xs ++ x ∷ [])
each_push P before [] x each here = (subst (λ those. P those x) (append-nil before) here, tt)
each_push P before (y ∷ xs) x each here = (each.0, each_push P (before ++ y ∷ []) xs x each.1 (subst (λ those. P those x) (sym (append_assoc before (y ∷ []) xs)) here))

pub commits_push : (commits : List Commit) (commit : Commit) → AreCommits commits → IsNext commits commit → AreCommits (commits ++ commit ∷ [])
commits_push commits commit are is = each_push IsNext [] commits commit are is

pub records_push : (commits : List Commit) (commit : Commit) → records (commits ++ commit ∷ []) ≡ records commits ++ open_record (commit_body commit)
records_push [] commit = append-nil (open_record (commit_body commit))
records_push (first ∷ commits) commit = ap (λ l. open_record (commit_body first) ++ l) (records_push commits commit) ∙ sym (append_assoc (open_record (commit_body first)) (records commits) (open_record (commit_body commit)))

pub record_size : (commit : Commit) → length (open_record (commit_body commit)) ≡ 5 + length (commit_body commit)
record_size commit = omega (arith, length-append (to_be_bytes w32 (length (commit_body commit))) (commit_body commit))

gated_push : (gate : ℕ) (commits : List Commit) (commit : Commit) → gated_from gate (commits ++ commit ∷ []) ≡ gated_from gate commits ++ (gate + length (records commits), commit) ∷ []
gated_push gate [] commit = let same : gate ≡ gate + 0 = omega arith in ap (λ n. (n, commit) ∷ []) same
gated_push gate (first ∷ commits) commit =
    let same : next_gate gate first + length (records commits) ≡ gate + length (records (first ∷ commits)) = omega (arith, length-append (open_record (commit_body first)) (records commits), record_size first) in
    ap (λ l. (gate, first) ∷ l) (gated_push (next_gate gate first) commits commit)
    ∙ ap (λ n. (gate, first) ∷ (gated_from (next_gate gate first) commits ++ (n, commit) ∷ [])) same

count_push : (commits : List Commit) (commit : Commit) → command_count (commits ++ commit ∷ []) ≡ command_count commits + count_of commit
count_push [] commit = omega arith
count_push (first ∷ commits) commit =
    let one : command_count (first ∷ (commits ++ commit ∷ [])) ≡ count_of first + command_count (commits ++ commit ∷ []) = refl in
    let all : command_count (first ∷ commits) ≡ count_of first + command_count commits = refl in
    omega (arith, one, all, count_push commits commit)

none_push : (commits : List Commit) (commit : Commit) → has_none (commits ++ commit ∷ []) ≡ false
none_push [] commit = refl
none_push (first ∷ commits) commit = refl

pub outline_push : (commits : List Commit) (commit : Commit) → outline_behind (outline_of commits) commit ≡ outline_of (commits ++ commit ∷ [])
outline_push commits commit =
    let gate : next_gate (first_gate + length (records commits)) commit ≡ first_gate + length (records (commits ++ commit ∷ [])) =
    omega (arith, ap length (records_push commits commit), length-append (records commits) (open_record (commit_body commit)), record_size commit) in
    rw (gate, sym (count_push commits commit), sym (none_push commits commit)) refl

pub gates_push : (commits : List Commit) (commit : Commit) → gated (commits ++ commit ∷ []) ≡ gated commits ++ ((outline_of commits).gate, commit) ∷ []
gates_push commits commit = gated_push first_gate commits commit

-- ---- the loop over the gates

-- how far the record of a commit reaches
pub place_behind : (reads : List ℕ) (place after end : ℕ) (commit : Commit) (is_fresh : Bool) → place ≤ end → after ≤ end → end ≤ length reads →
    IsFirst is_fresh commit (take (end - after) (drop after reads)) (take (end - place) (drop place reads)) → after ≡ next_gate place commit
place_behind reads place after end commit is_fresh ordered ordered_too within is =
    let rest = take (end - after) (drop after reads) in
    omega (
      arith,
      ordered,
      ordered_too,
      length_between reads place end ordered within,
      length_between reads after end ordered_too within,
      ap length is.front,
      length-append (open_record (commit_body commit)) rest,
      record_size commit,
    )

pub listed_none : (end : End) (bytes : List ℕ) → outline_at end ≡ outline_of [] → Lists [] [] end bytes bytes
listed_none end bytes is = record { follow = tt; parts = refl; gates = refl; outline = is }

pub listed_more : (commits : List Commit) (items : List (ℕ × Commit)) (end after : End) (commit : Commit) (rest behind bytes : List ℕ) → Lists commits items end rest bytes →
    IsFirst end.is_fresh commit behind rest → after.gate ≡ next_gate end.gate commit → after.commands ≡ end.commands + count_of commit → after.is_fresh ≡ false →
    Lists (commits ++ commit ∷ []) (items ++ (end.gate, commit) ∷ []) after behind bytes
listed_more commits items end after commit rest behind bytes lists is gate commands fresh = record {
  follow = commits_push commits commit lists.follow (record { form = is.form; short = is.short; place = subst (λ (o : Outline). MayStand o.is_fresh commit) lists.outline is.place });
  parts = lists.parts ∙ ap (λ l. records commits ++ l) is.front ∙ sym (append_assoc (records commits) (open_record (commit_body commit)) behind)
      ∙ ap (λ l. l ++ behind) (sym (records_push commits commit));
  gates = ap (λ l. l ++ (end.gate, commit) ∷ []) lists.gates ∙ ap (λ (o : Outline). gated commits ++ (o.gate, commit) ∷ []) lists.outline ∙ sym (gates_push commits commit);
  outline =
      let stands : outline_at after ≡ outline_behind (outline_at end) commit = rw (gate, commands, fresh) refl in
      stands ∙ ap (λ o. outline_behind o commit) lists.outline ∙ outline_push commits commit;
}

pub listed_shut : (commits : List Commit) (items : List (ℕ × Commit)) (end : End) (rest bytes : List ℕ) → Lists commits items end rest bytes → IsShut rest → EndsShut commits bytes
listed_shut commits items end rest bytes lists is = record { follow = lists.follow; gate = is.gate; behind = is.behind; shut = is.shut; parts = lists.parts ∙ ap (λ l. records commits ++ l) is.front }

listed_broken : (commits : List Commit) (items : List (ℕ × Commit)) (end : End) (rest bytes : List ℕ) → Lists commits items end rest bytes → IsBroken end.is_fresh rest → EndsBroken commits bytes
listed_broken commits items end rest bytes lists is = record {
  follow = lists.follow;
  behind = is.behind;
  parts = lists.parts ∙ ap (λ l. records commits ++ l) is.front;
  none = λ commit next begins. is.none commit next.form next.short (subst (λ (o : Outline). MayStand o.is_fresh commit) (sym lists.outline) next.place) (subst (BeginsWith (commit_body commit)) (sym is.front) begins);
}

-- an answer of a gate is one of the list
pub refused_list : (error : OpenFault) (commits : List Commit) (items : List (ℕ × Commit)) (end : End) (rest behind bytes : List ℕ) → Lists commits items end rest bytes → ReadsGate end.is_fresh end.gate (Err error) behind rest → ReadsCommits (Err error) bytes
refused_list (fault.Damaged offset) commits items end rest behind bytes lists is =
    (commits, listed_broken commits items end rest bytes lists is.1, is.0 ∙ ap (λ (o : Outline). o.gate) lists.outline)
refused_list (fault.OtherPolicy digest) commits items end rest behind bytes lists is = is
refused_list (fault.DiskFault step) commits items end rest behind bytes lists is = tt
refused_list fault.NoMemory commits items end rest behind bytes lists is = tt

-- ---- what is known over any disk

map_push : (items : List (ℕ × Commit)) (gate : ℕ) (commit : Commit) → map (λ (item : ℕ × Commit). item.1) (items ++ (gate, commit) ∷ []) ≡ map (λ (item : ℕ × Commit). item.1) items ++ commit ∷ []
map_push [] gate commit = refl
map_push (item ∷ items) gate commit = ap (λ l. item.1 ∷ l) (map_push items gate commit)

forms_push : (items : List (ℕ × Commit)) (gate : ℕ) (commit : Commit) → AllByRecursion (λ (item : ℕ × Commit). IsCommitForm item.1) items → IsCommitForm commit → AllByRecursion (λ (item : ℕ × Commit). IsCommitForm item.1) (items ++ (gate, commit) ∷ [])
forms_push [] gate commit forms form = (form, tt)
forms_push (item ∷ items) gate commit forms form = (forms.0, forms_push items gate commit forms.1 form)

pub are_of_more : (outline after : Outline) (items : List (ℕ × Commit)) (gate : ℕ) (commit : Commit) → AreOf outline items → IsCommitForm commit → after.commands ≡ outline.commands + count_of commit → after.is_fresh ≡ false →
    AreOf after (items ++ (gate, commit) ∷ [])
are_of_more outline after items gate commit are form commands fresh =
    let those = map (λ (item : ℕ × Commit). item.1) items in
    record {
      commands = commands ∙ ap (λ n. n + count_of commit) are.commands ∙ sym (count_push those commit) ∙ ap command_count (sym (map_push items gate commit));
      fresh = fresh ∙ sym (none_push those commit) ∙ ap has_none (sym (map_push items gate commit));
      forms = forms_push items gate commit are.forms form;
    }
