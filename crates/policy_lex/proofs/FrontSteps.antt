-- The front matter, line by line.
use Rattle.std.proofs.Common.{◌≡◌, ℕ, zero, ◌<◌, ◌≤◌, IfSome, arith, Bool, true, false, cond, not, if◌then◌else◌, List, [], ◌∷◌, length, drop, refl, ap, sym, ◌∙◌, Option, Some, None, option_map}
use Rattle.std.specs.List.{find, take_while}
use Rattle.std.specs.Option.{option_and_then, option_or}
use Rattle.std.proofs.lemmas.List.Sums.{take_while-cons}
use Rattle.policy_ast.specs.DocumentTokens.{document_version, tokens_behind, version_tokens}
use Rattle.policy_ast.specs.FrontMatter.{FrontMatter, behind_rule, closed, front_matter, gives_version, is_rule, named_version, with_key}
use Rattle.policy_ast.specs.Lines.{Line, document_lines}
use Rattle.policy_lex.specs.declared.front_matter.FrontMatter.{FrontMatter as FoundFront}
use Rattle.policy_lex.specs.declared.front_matter.Key.{Key}
use Rattle.policy_lex.specs.working.FrontMatters.{PlacedFront, closed_by, found, key_of, placed}
use Rattle.policy_lex.specs.working.LineViews.{lines_at}
use Rattle.policy_lex.proofs.LineSteps.{no_lines}
use Rattle.policy_ast.proofs.TokenPrefixes.{none_some, same_some}

abbrev gives : Line → Bool
gives line = gives_version line.text

abbrev is_inside : Line → Bool
is_inside line = not (is_rule line.text)

-- the front matter that ends in front of lines, by the key that was found
abbrev pub ended : Option Key → List Line → Option PlacedFront
ended key behind = option_map (λ (k : Key). record { key = k.start; version = k.version; behind = behind }) key

-- what the lines make of the key that was found before them
unfoldable pub read_on : Option Key → List Line → Option PlacedFront
read_on key [] = None
read_on key (line ∷ lines) = if is_rule line.text then ended key lines else read_on (option_or key (key_of line)) lines

-- the same, of the lines that stand inside and those from the end of the front matter on
abbrev pub read_whole : Option Key → List Line → List Line → Option PlacedFront
read_whole key inside [] = None
read_whole key inside (end ∷ behind) = ended (option_or key (option_and_then key_of (find gives inside))) behind

key_passed : (key : Option Key) (b : Bool) (given : Key) (line : Line) (inside : List Line) → key_of line ≡ (if b then Some given else None)
    → option_or (option_or key (if b then Some given else None)) (option_and_then key_of (find gives inside))
    ≡ option_or key (option_and_then key_of (if b then Some line else find gives inside))
key_passed (Some k) b given line inside is = refl
key_passed None true given line inside is = sym is
key_passed None false given line inside is = refl

line_passed : (key : Option Key) (line : Line) (inside rest : List Line) → read_whole (option_or key (key_of line)) inside rest ≡ read_whole key (line ∷ inside) rest
line_passed key line inside [] = refl
line_passed key line inside (end ∷ behind) =
    ap (λ k. ended k behind) (key_passed key (gives_version line.text) (record { start = line.start; version = named_version line.text }) line inside refl)

none_more : (key : Option Key) → key ≡ option_or key None
none_more None = refl
none_more (Some k) = refl

read_step : (b : Bool) (key : Option Key) (line : Line) (lines : List Line) → is_rule line.text ≡ b
    → read_on (option_or key (key_of line)) lines
    ≡ read_whole (option_or key (key_of line)) (take_while is_inside lines) (drop (length (take_while is_inside lines)) lines)
    → (if b then ended key lines else read_on (option_or key (key_of line)) lines)
    ≡ read_whole key (cond (not b) (line ∷ take_while is_inside lines) []) (drop (length (cond (not b) (line ∷ take_while is_inside lines) [])) (line ∷ lines))
read_step true key line lines is more = ap (λ k. ended k lines) (none_more key)
read_step false key line lines is more = more ∙ line_passed key line (take_while is_inside lines) (drop (length (take_while is_inside lines)) lines)

read_is_whole : (key : Option Key) (lines : List Line) → read_on key lines ≡ read_whole key (take_while is_inside lines) (drop (length (take_while is_inside lines)) lines)
unfolding read_on
read_is_whole key [] = refl
read_is_whole key (line ∷ lines) =
    rw (take_while-cons is_inside line lines)
    (read_step (is_rule line.text) key line lines refl (read_is_whole (option_or key (key_of line)) lines))

key_step : (b : Bool) (given : Key) (line : Line) (lines behind : List Line) → key_of line ≡ (if b then Some given else None)
    → given ≡ record { start = line.start; version = named_version line.text }
    → ended (option_and_then key_of (find gives lines)) behind ≡ option_map placed (with_key (find gives lines) behind)
    → ended (option_and_then key_of (if b then Some line else find gives lines)) behind ≡ option_map placed (with_key (if b then Some line else find gives lines) behind)
key_step true given line lines behind is given_is more = ap (λ k. ended k behind) (is ∙ ap Some given_is)
key_step false given line lines behind is given_is more = more

key_is_first : (inside behind : List Line) → ended (option_and_then key_of (find gives inside)) behind ≡ option_map placed (with_key (find gives inside) behind)
key_is_first [] behind = refl
key_is_first (line ∷ inside) behind =
    key_step (gives_version line.text) (record { start = line.start; version = named_version line.text }) line inside behind refl refl (key_is_first inside behind)

whole_is_closed : (inside rest : List Line) → read_whole None inside rest ≡ option_map placed (closed inside rest)
whole_is_closed inside [] = refl
whole_is_closed inside (end ∷ behind) = key_is_first inside behind

-- read line by line, the front matter is what it is as a whole
pub read_is_behind_rule : (lines : List Line) → read_on None lines ≡ option_map placed (behind_rule lines)
read_is_behind_rule lines = read_is_whole None lines ∙ whole_is_closed (take_while is_inside lines) (drop (length (take_while is_inside lines)) lines)

-- the lines at a place, one after another
pub read_inside : (document : List ℕ) (key : Option Key) (place next : ℕ) (line : Line) → lines_at document place ≡ line ∷ lines_at document next → is_rule line.text ≡ false
    → read_on (option_or key (key_of line)) (lines_at document next) ≡ read_on key (lines_at document place)
unfolding read_on
read_inside document key place next line is inside = rw (is, inside) refl

found_ended : (document : List ℕ) (key : Option Key) (next : ℕ) → option_map (found document) (closed_by key next) ≡ ended key (lines_at document next)
found_ended document None next = refl
found_ended document (Some k) next = refl

pub read_ended : (document : List ℕ) (key : Option Key) (place next : ℕ) (line : Line) → lines_at document place ≡ line ∷ lines_at document next → is_rule line.text ≡ true
    → option_map (found document) (closed_by key next) ≡ read_on key (lines_at document place)
unfolding read_on
read_ended document key place next line is rule = found_ended document key next ∙ (rw (is, rule) refl)

pub read_past : (document : List ℕ) (key : Option Key) (place : ℕ) → length document ≤ place → read_on key (lines_at document place) ≡ None
unfolding read_on
read_past document key place past = rw (no_lines document place past) refl

pub read_first : (document : List ℕ) (next : ℕ) (line : Line) → document_lines document ≡ line ∷ lines_at document next → is_rule line.text ≡ true
    → read_on None (lines_at document next) ≡ option_map placed (front_matter (document_lines document))
read_first document next line is rule =
    read_is_behind_rule (lines_at document next) ∙ sym (ap (λ ls. option_map placed (front_matter ls)) is ∙ (rw rule refl))

pub first_refused : (document : List ℕ) (next : ℕ) (line : Line) → document_lines document ≡ line ∷ lines_at document next → is_rule line.text ≡ false
    → option_map placed (front_matter (document_lines document)) ≡ None
first_refused document next line is rule = ap (λ ls. option_map placed (front_matter ls)) is ∙ (rw rule refl)

pub nothing_refused : (document : List ℕ) → length document ≡ 0 → option_map placed (front_matter (document_lines document)) ≡ None
nothing_refused document empty = ap (λ ls. option_map placed (front_matter ls)) (no_lines document zero (omega (arith, empty)))

key_given : (b : Bool) (size : ℕ) (given : Key) → given.start < size → IfSome (if b then Some given else None) (λ k. k.start < size)
key_given true size given within = within
key_given false size given within = tt

-- a key's line begins before the end
pub key_within : (size : ℕ) (key : Option Key) (line : Line) → IfSome key (λ k. k.start < size) → line.start < size → IfSome (option_or key (key_of line)) (λ k. k.start < size)
key_within size (Some k) line is within = is
key_within size None line is within = key_given (gives_version line.text) size (record { start = line.start; version = named_version line.text }) within

-- what the tokens and the version of a document are, by its front matter
same_front : (document : List ℕ) (front : FoundFront) (o : Option FrontMatter) → Some (found document front) ≡ option_map placed o
    → (tokens_behind document o ≡ version_tokens document front.key front.version (lines_at document front.behind))
    × (option_and_then (λ (f : FrontMatter). f.version) o ≡ front.version)
same_front document front None is = absurd (none_some (sym is))
same_front document front (Some f) is =
    let same = same_some (found document front) (placed f) is in
    (ap (λ (p : PlacedFront). version_tokens document p.key p.version p.behind) (sym same), ap (λ (p : PlacedFront). p.version) (sym same))

pub tokens_of_front : (document : List ℕ) (front : FoundFront) → Some (found document front) ≡ option_map placed (front_matter (document_lines document))
    → (tokens_behind document (front_matter (document_lines document)) ≡ version_tokens document front.key front.version (lines_at document front.behind))
    × (document_version document ≡ front.version)
tokens_of_front document front is = same_front document front (front_matter (document_lines document)) is
