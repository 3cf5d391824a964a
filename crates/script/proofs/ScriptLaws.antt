-- Scripts: the lines that stand behind one another are read, or the first that may not stand there; and never both.
use Rattle.std.proofs.Common.{◌≡◌, ℕ, ◌<◌, ◌+◌, ◌&&◌, nat_lt, Bool, true, false, if◌then◌else◌, List, [], ◌∷◌, ◌++◌, length, Option, Some, None, Result, Ok, Err, refl, sym, ap, ◌∙◌, subst, arith, true≢false, append_assoc, append-nil, length-append}
use Rattle.std.specs.Option.{option_map_or}
use Rattle.std.specs.Str.Lines.{lines}
use Rattle.std.proofs.lemmas.Bool.Decides.{nat_tests}
use Rattle.script.specs.declared.line.Line.{Line}
use Rattle.script.specs.Laws.{HasOneReading}
use Rattle.script.specs.Lines.{IsLine}
use Rattle.script.specs.Pieces.{Bytes}
use Rattle.script.specs.Scripts.{Declared, IsRefused, IsRefusedAt, IsScript, Lines, Refuses, has_place, most_lines, nothing_yet, with_line}
use Rattle.script.specs.working.ReadingLines.{line_of}
use Rattle.script.specs.working.ReadingScripts.{placed, script_from}
use Rattle.script.proofs.LineLaws.{line_finds, line_reads}
use Rattle.script.proofs.Options.{none_some, same_some}

is_below : (m n : ℕ) → m < n → nat_lt m n ≡ true
is_below m n lt = grind (arith, nat_tests, lt)

below_is : (m n : ℕ) → nat_lt m n ≡ true → m < n
below_is m n is = grind (arith, nat_tests, is)

one_longer : (before : ℕ) (found : List Line) (one : Line) → before ≡ length found → before + 1 ≡ length (found ++ one ∷ [])
one_longer before found one is = let sum = length-append found (one ∷ []) in omega (arith, is, sum)

-- a line that has its place is read, and no other
place_reads : (so_far : Declared) (before : ℕ) (text : Bytes) (one : Line) → before < most_lines → IsLine text one → has_place so_far one ≡ true → placed so_far before (line_of text) ≡ Some one
place_reads so_far before text one room is place = rw (line_reads text one is, is_below before most_lines room, place) refl

none_placed : (so_far : Declared) (room : Bool) (o : Option Line) (before : ℕ) → nat_lt before most_lines ≡ room → (room ≡ true → (one : Line) → o ≡ Some one → has_place so_far one ≡ false) → placed so_far before o ≡ None
none_placed so_far room None before is fails = refl
none_placed so_far true (Some one) before is fails = rw (is, fails refl one refl) refl
none_placed so_far false (Some one) before is fails = rw is refl

refused_reads : (so_far : Declared) (before : ℕ) (text : Bytes) → IsRefused so_far before text → placed so_far before (line_of text) ≡ None
refused_reads so_far before text is = none_placed so_far (nat_lt before most_lines) (line_of text) before refl
    (λ room one reads. is.none (below_is before most_lines room) one (line_finds text one reads))

-- what stands there is read
pub lines_read : (so_far : Declared) (before : ℕ) (texts : List Bytes) (all found : List Line) → Lines so_far before texts all → before ≡ length found → script_from so_far found texts ≡ Ok (found ++ all)
unfolding script_from
lines_read so_far before texts all found (Lines.done) count = ap Ok (sym (append-nil found))
lines_read so_far before texts all found (Lines.more {text = text} {texts = more} {one = one} {others = others} room is place rest) count =
    rw (ap (λ n. placed so_far n (line_of text)) (sym count) ∙ place_reads so_far before text one room is place)
    (lines_read (with_line so_far one) (before + 1) more others (found ++ one ∷ []) rest (one_longer before found one count) ∙ ap Ok (append_assoc found (one ∷ []) others))

pub refuses_read : (so_far : Declared) (before number : ℕ) (texts : List Bytes) (found : List Line) → Refuses so_far before texts number → before ≡ length found → script_from so_far found texts ≡ Err number
unfolding script_from
refuses_read so_far before number texts found (Refuses.here {text = text} is) count =
    rw (ap (λ n. placed so_far n (line_of text)) (sym count) ∙ refused_reads so_far before text is) (ap (λ n. Err (n + 1)) (sym count))
refuses_read so_far before number texts found (Refuses.behind {text = text} {texts = more} {one = one} room is place rest) count =
    rw (ap (λ n. placed so_far n (line_of text)) (sym count) ∙ place_reads so_far before text one room is place)
    (refuses_read (with_line so_far one) (before + 1) number more (found ++ one ∷ []) rest (one_longer before found one count))

-- and only that
pub record IsPlaced (so_far : Declared) (before : ℕ) (text : Bytes) (one : Line) : Type 0 where
  pub room : before < most_lines
  pub is : IsLine text one
  pub place : has_place so_far one ≡ true

both_hold : (a b : Bool) (x y : Line) → (if a && b then Some x else None) ≡ Some y → (a ≡ true) × (b ≡ true) × (x ≡ y)
both_hold true true x y is = (refl, refl, same_some x y is)
both_hold true false x y is = none_some is
both_hold false b x y is = none_some is

placed_of : (so_far : Declared) (before : ℕ) (text : Bytes) (o : Option Line) (one : Line) → line_of text ≡ o → placed so_far before o ≡ Some one → IsPlaced so_far before text one
placed_of so_far before text None one reads is = none_some is
placed_of so_far before text (Some other) one reads is =
    let parts = both_hold (nat_lt before most_lines) (has_place so_far other) other one is in
    record { room = below_is before most_lines parts.0; is = line_finds text one (reads ∙ ap Some parts.2); place = ap (has_place so_far) (sym parts.2) ∙ parts.1 }

place_finds : (so_far : Declared) (before : ℕ) (text : Bytes) (one : Line) → placed so_far before (line_of text) ≡ Some one → IsPlaced so_far before text one
place_finds so_far before text one is = placed_of so_far before text (line_of text) one refl is

fails_of : (b : Bool) → (b ≡ true → ⊥) → b ≡ false
fails_of true fails = absurd (fails refl)
fails_of false fails = refl

refused_finds : (so_far : Declared) (before : ℕ) (text : Bytes) → placed so_far before (line_of text) ≡ None → IsRefused so_far before text
refused_finds so_far before text none = record {
  none = λ room one is. fails_of (has_place so_far one) (λ place. none_some (sym none ∙ place_reads so_far before text one room is place));
}

pub record AreLines (so_far : Declared) (found all : List Line) (texts : List Bytes) : Type 0 where
  pub others : List Line
  pub behind : all ≡ found ++ others
  pub lines : Lines so_far (length found) texts others

abbrev Same : (A : Type 0) → A → A → Type 0
Same A a b = a ≡ b

abbrev ok_or : {A B : Type 0} → A → Result A B → A
ok_or x (Ok y) = y
ok_or x (Err e) = x

abbrev err_or : {A B : Type 0} → B → Result A B → B
err_or x (Ok y) = x
err_or x (Err e) = e

abbrev is_one : {A B : Type 0} → Result A B → Bool
is_one (Ok y) = true
is_one (Err e) = false

pub same_ok : {A B : Type 0} (a b : A) → Same (Result A B) (Ok a) (Ok b) → a ≡ b
same_ok a b is = ap (ok_or a) is

pub same_err : {A B : Type 0} (a b : B) → Same (Result A B) (Err a) (Err b) → a ≡ b
same_err a b is = ap (err_or a) is

pub ok_err : {A B P : Type 0} (a : A) (b : B) → Same (Result A B) (Ok a) (Err b) → P
ok_err a b is = absurd (true≢false (ap is_one is))

placed_then : {P : Type 0} (o : Option Line) (f : Line → Result (List Line) ℕ) (r s : Result (List Line) ℕ) → option_map_or f o r ≡ s → (o ≡ None → r ≡ s → P) → ((one : Line) → o ≡ Some one → f one ≡ s → P) → P
placed_then None f r s is none some = none refl is
placed_then (Some one) f r s is none some = some one refl is

pub lines_find : (so_far : Declared) (texts : List Bytes) (found all : List Line) → script_from so_far found texts ≡ Ok all → AreLines so_far found all texts
unfolding script_from
lines_find so_far [] found all is = record { others = []; behind = sym (same_ok found all is) ∙ sym (append-nil found); lines = Lines.done }
lines_find so_far (text ∷ texts) found all is =
    placed_then (placed so_far (length found) (line_of text)) (λ one. script_from (with_line so_far one) (found ++ one ∷ []) texts) (Err (length found + 1)) (Ok all) is
    (λ none e. ok_err all (length found + 1) (sym e))
    (λ one reads e.
    let placed = place_finds so_far (length found) text one reads in
    let more = lines_find (with_line so_far one) texts (found ++ one ∷ []) all e in record {
      others = one ∷ more.others;
      behind = more.behind ∙ append_assoc found (one ∷ []) more.others;
      lines = Lines.more placed.room placed.is placed.place (subst (λ (n : ℕ). Lines (with_line so_far one) n texts more.others) (sym (one_longer (length found) found one refl)) more.lines);
    })

pub refuses_find : (so_far : Declared) (texts : List Bytes) (found : List Line) (number : ℕ) → script_from so_far found texts ≡ Err number → Refuses so_far (length found) texts number
unfolding script_from
refuses_find so_far [] found number is = ok_err found number is
refuses_find so_far (text ∷ texts) found number is =
    placed_then (placed so_far (length found) (line_of text)) (λ one. script_from (with_line so_far one) (found ++ one ∷ []) texts) (Err (length found + 1)) (Err number) is
    (λ none e. subst (Refuses so_far (length found) (text ∷ texts)) (same_err (length found + 1) number e) (Refuses.here (refused_finds so_far (length found) text none)))
    (λ one reads e.
    let placed = place_finds so_far (length found) text one reads in
    let more = refuses_find (with_line so_far one) texts (found ++ one ∷ []) number e in
    Refuses.behind placed.room placed.is placed.place (subst (λ (n : ℕ). Refuses (with_line so_far one) n texts number) (sym (one_longer (length found) found one refl)) more))

-- a script as a whole
pub script_reads : (script : Bytes) (all : List Line) → IsScript script all → script_from nothing_yet [] (lines script) ≡ Ok all
script_reads script all is = lines_read nothing_yet 0 (lines script) all [] is refl

pub refusal_reads : (script : Bytes) (number : ℕ) → IsRefusedAt script number → script_from nothing_yet [] (lines script) ≡ Err number
refusal_reads script number is = refuses_read nothing_yet 0 number (lines script) [] is refl

pub script_finds : (script : Bytes) (all : List Line) → script_from nothing_yet [] (lines script) ≡ Ok all → IsScript script all
script_finds script all is = let found = lines_find nothing_yet (lines script) [] all is in subst (IsScript script) (sym found.behind) found.lines

pub refusal_finds : (script : Bytes) (number : ℕ) → script_from nothing_yet [] (lines script) ≡ Err number → IsRefusedAt script number
refusal_finds script number is = refuses_find nothing_yet (lines script) [] number is

pub one_reading : (script : Bytes) → HasOneReading script
one_reading script = record {
  lines = λ a b is_a is_b. same_ok a b (sym (script_reads script a is_a) ∙ script_reads script b is_b);
  number = λ m n is_m is_n. same_err m n (sym (refusal_reads script m is_m) ∙ refusal_reads script n is_n);
  apart = λ a n is_a is_n. ok_err a n (sym (script_reads script a is_a) ∙ refusal_reads script n is_n);
}
