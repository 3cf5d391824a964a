-- The reader of scripts: one line more, and what its answer says of the script.
use Rattle.std.proofs.Common.{◌≡◌, ℕ, ◌+◌, nat_lt, false, List, [], ◌∷◌, ◌++◌, length, Option, Some, None, Result, Ok, Err, refl, sym, ap, ◌∙◌, inl, inr}
use Rattle.std.specs.Prelude.{◌⊎◌, MatchResult}
use Rattle.std.specs.Str.Lines.{lines}
use Rattle.std.specs.Global.{Vec}
use Rattle.script.specs.declared.fault.ScriptFault.{ScriptFault}
use Rattle.script.specs.declared.fault.ScriptFault.TheVariants as fault
use Rattle.script.specs.declared.line.Line.{Line}
use Rattle.script.specs.Answers.{HasCause}
use Rattle.script.specs.Pieces.{Bytes}
use Rattle.script.specs.Scripts.{Declared, IsRefusedAt, IsScript, most_lines, nothing_yet, with_line}
use Rattle.script.specs.working.Placing.{IsPlacing, ReadsAll}
use Rattle.script.specs.working.ReadingLines.{line_of}
use Rattle.script.specs.working.ReadingScripts.{placed, script_from}
use Rattle.script.proofs.ScriptLaws.{ok_err, refusal_finds, refusal_reads, same_err, same_ok, script_finds, script_reads}

-- behind as many lines as there may be, none has its place
full : (so_far : Declared) (before : ℕ) (o : Option Line) → nat_lt before most_lines ≡ false → placed so_far before o ≡ None
full so_far before None is = refl
full so_far before (Some one) is = rw is refl

pub none_behind : (so_far : Declared) (before : ℕ) (o : Option Line) → before ≡ most_lines → placed so_far before o ≡ None
none_behind so_far before o is = full so_far before o (rw is refl)

-- one line more
module _ (so_far : Declared) (found : List Line) (before : ℕ) (count : before ≡ length found) (texts others : List Bytes) (text : Bytes) (script : Result (List Line) ℕ)
    (so_far_is : script_from so_far found texts ≡ script) (are : texts ≡ text ∷ others) where
  at_count : (o : Option Line) → placed so_far before (line_of text) ≡ o → placed so_far (length found) (line_of text) ≡ o
  at_count o is = ap (λ n. placed so_far n (line_of text)) (sym count) ∙ is

  pub goes_on : (next : Declared) (more : List Line) (one : Line) → placed so_far before (line_of text) ≡ Some one → next ≡ with_line so_far one → more ≡ found ++ one ∷ [] → script_from next more others ≡ script
  unfolding script_from
  goes_on next more one place noted pushed = rw (noted, pushed) (sym (rw (at_count (Some one) place) refl) ∙ sym (ap (script_from so_far found) are) ∙ so_far_is)

  stops : (number : ℕ) → placed so_far before (line_of text) ≡ None → number ≡ before + 1 → script ≡ Err number
  unfolding script_from
  stops number none is = sym so_far_is ∙ ap (script_from so_far found) are ∙ (rw (at_count None none) (ap Err (ap (λ n. n + 1) (sym count) ∙ sym is)))

  pub stops_with : (why : ScriptFault) → IsPlacing so_far before (line_of text) (Err why) → ReadsAll (Err why) script
  stops_with (fault.Refused number) is = stops number is.0 is.1
  stops_with fault.NoMemory is = tt

pub ends : (so_far : Declared) (found : List Line) (texts : List Bytes) (script : Result (List Line) ℕ) → script_from so_far found texts ≡ script → texts ≡ [] → script ≡ Ok found
unfolding script_from
ends so_far found texts script so_far_is none = sym so_far_is ∙ ap (script_from so_far found) none

-- what the answer says
pub read_is_script : (script : Bytes) (found : Vec Line) → script_from nothing_yet [] (lines script) ≡ Ok found.items → IsScript script found.items
read_is_script script found is = script_finds script found.items is

pub has_cause : (script : Bytes) (why : ScriptFault) → ReadsAll (Err why) (script_from nothing_yet [] (lines script)) → HasCause script why
has_cause script (fault.Refused number) is = refusal_finds script number is
has_cause script fault.NoMemory is = tt

pub one_script : (script : Bytes) (r : Result (Vec Line) ScriptFault) → ReadsAll r (script_from nothing_yet [] (lines script)) → (all : List Line) → IsScript script all
    → MatchResult r (λ found. found.items ≡ all) (λ why. why ≡ fault.NoMemory)
one_script script (Ok found) reads all is = same_ok found.items all (sym reads ∙ script_reads script all is)
one_script script (Err (fault.Refused number)) reads all is = ok_err all number (sym (script_reads script all is) ∙ reads)
one_script script (Err fault.NoMemory) reads all is = refl

pub one_refusal : (script : Bytes) (r : Result (Vec Line) ScriptFault) → ReadsAll r (script_from nothing_yet [] (lines script)) → (number : ℕ) → IsRefusedAt script number
    → MatchResult r (λ found. ⊥) (λ why. (why ≡ fault.Refused number) ⊎ (why ≡ fault.NoMemory))
one_refusal script (Ok found) reads number is = ok_err found.items number (sym reads ∙ refusal_reads script number is)
one_refusal script (Err (fault.Refused other)) reads number is = inl (ap fault.Refused (same_err other number (sym reads ∙ refusal_reads script number is)))
one_refusal script (Err fault.NoMemory) reads number is = inr refl
