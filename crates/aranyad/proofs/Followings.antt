-- The lines of a script may be run one after another in the world of the replicas that they declare.
use Rattle.std.proofs.Common.{◌≡◌, ℕ, ◌+◌, ◌≤◌, ◌||◌, Bool, true, false, ◌&&◌, not, nat_le, nat_lt, List, [], ◌∷◌, ◌++◌, length, map, refl, sym, ap, subst, ◌∙◌, arith, append_assoc, length-append}
use Rattle.std.proofs.lemmas.Bool.Decides.{nat_tests}
use Rattle.std.proofs.lemmas.List.Folds.{list_any-append}
use Rattle.std.proofs.lemmas.Slice.Eq.{bytes_eq-Decides}
use Rattle.std.specs.List.{list_any}
use Rattle.std.specs.Str.{bytes_eq}
use Rattle.std.specs.Str.Lines.{lines}
use Rattle.script.specs.Scripts.{Declared, IsScript, Lines, declares, has_message, has_place, has_room, nothing_yet, with_line}
use Rattle.script.specs.Scripts as scripts
use Rattle.script.specs.declared.line.Line.{Line}
use Rattle.script.specs.declared.line.Line.TheVariants as line
use Rattle.world.specs.Lines.{may_run}
use Rattle.world.specs.Worlds.{Named, Site, declared}
use Rattle.aranyad.specs.Scripts.{names_of}
use Rattle.aranyad.specs.working.Following.{FollowIn}

-- ---- names

-- what is declared by a front of the names is declared by all
still_there : (b c : Bool) → b ≡ true → (b || c) ≡ true
still_there true c is = refl
still_there false c is = absurd cc

still_here : (b c : Bool) → c ≡ true → (b || c) ≡ true
still_here true c is = refl
still_here false c is = is

declared_by_all : (so_far : Declared) (rest names : List (List ℕ)) (a : List ℕ) → names ≡ so_far.names ++ rest → declares so_far a ≡ true → list_any (λ other. bytes_eq other a) names ≡ true
declared_by_all so_far rest names a all is =
    ap (list_any (λ other. bytes_eq other a)) all ∙ list_any-append (λ other. bytes_eq other a) so_far.names rest ∙ still_there _ _ is

-- the name that a line declares is one of them
own_name : (names : List (List ℕ)) (a : List ℕ) → list_any (λ other. bytes_eq other a) (a ∷ names) ≡ true
own_name names a = still_there (bytes_eq a a) _ ((bytes_eq-Decides a a).1 refl)

-- ---- tests

left_of : (b c : Bool) → (b && c) ≡ true → b ≡ true
left_of true c is = refl
left_of false c is = absurd cc

right_of : (b c : Bool) → (b && c) ≡ true → c ≡ true
right_of true c is = is
right_of false c is = absurd cc

both_of : (b c : Bool) → b ≡ true → c ≡ true → (b && c) ≡ true
both_of true c b_is c_is = c_is
both_of false c b_is c_is = absurd cc

-- ---- no more than eight replicas are declared

one_more : (so_far : Declared) (a : List ℕ) → has_place so_far (line.Replica a) ≡ true → length (so_far.names ++ a ∷ []) ≤ 8
one_more so_far a place = let room = right_of (not (declares so_far a)) (nat_lt (length so_far.names) 8) place in grind (arith, nat_tests, length-append so_far.names (a ∷ []), room)

few_from : (so_far : Declared) (before : ℕ) (texts : List (List ℕ)) (found : List Line) → Lines so_far before texts found → length so_far.names ≤ 8 → length so_far.names + length (names_of found) ≤ 8
few_from so_far before [] (one ∷ others) none few = elim none [ ]
few_from so_far before (text ∷ texts) [] none few = elim none [ ]
few_from so_far before [] [] scripts.done few = omega (arith, few)
few_from so_far before (text ∷ texts) (line.Replica a ∷ others) (scripts.more room is place behind) few =
    let more = few_from (with_line so_far (line.Replica a)) (before + 1) texts others behind (one_more so_far a place) in
    omega (arith, length-append so_far.names (a ∷ []), more)
few_from so_far before (text ∷ texts) (line.Init a f args ∷ others) (scripts.more room is place behind) few = few_from (with_line so_far (line.Init a f args)) (before + 1) texts others behind few
few_from so_far before (text ∷ texts) (line.Join a b ∷ others) (scripts.more room is place behind) few = few_from (with_line so_far (line.Join a b)) (before + 1) texts others behind few
few_from so_far before (text ∷ texts) (line.Act a f args ∷ others) (scripts.more room is place behind) few = few_from (with_line so_far (line.Act a f args)) (before + 1) texts others behind few
few_from so_far before (text ∷ texts) (line.Sync a b ∷ others) (scripts.more room is place behind) few = few_from (with_line so_far (line.Sync a b)) (before + 1) texts others behind few
few_from so_far before (text ∷ texts) (line.Ask a ∷ others) (scripts.more room is place behind) few = few_from (with_line so_far (line.Ask a)) (before + 1) texts others behind few
few_from so_far before (text ∷ texts) (line.Next a n ∷ others) (scripts.more room is place behind) few = few_from (with_line so_far (line.Next a n)) (before + 1) texts others behind few
few_from so_far before (text ∷ texts) (line.Answer a n ∷ others) (scripts.more room is place behind) few = few_from (with_line so_far (line.Answer a n)) (before + 1) texts others behind few
few_from so_far before (text ∷ texts) (line.Take a n ∷ others) (scripts.more room is place behind) few = few_from (with_line so_far (line.Take a n)) (before + 1) texts others behind few
few_from so_far before (text ∷ texts) (line.Inject message ∷ others) (scripts.more room is place behind) few = few_from (with_line so_far (line.Inject message)) (before + 1) texts others behind few
few_from so_far before (text ∷ texts) (line.Restart a ∷ others) (scripts.more room is place behind) few = few_from (with_line so_far (line.Restart a)) (before + 1) texts others behind few
few_from so_far before (text ∷ texts) (line.Facts a ∷ others) (scripts.more room is place behind) few = few_from (with_line so_far (line.Facts a)) (before + 1) texts others behind few
few_from so_far before (text ∷ texts) (line.Effects a ∷ others) (scripts.more room is place behind) few = few_from (with_line so_far (line.Effects a)) (before + 1) texts others behind few
few_from so_far before (text ∷ texts) (line.Graph a ∷ others) (scripts.more room is place behind) few = few_from (with_line so_far (line.Graph a)) (before + 1) texts others behind few
few_from so_far before (text ∷ texts) (line.Blank ∷ others) (scripts.more room is place behind) few = few_from (with_line so_far line.Blank) (before + 1) texts others behind few

pub few_names : (script : List ℕ) (found : List Line) → IsScript script found → length (names_of found) ≤ 8
few_names script found is = let few = few_from nothing_yet 0 (lines script) found is (omega (arith)) in omega (arith, few)

-- ---- a line may be run

-- what may stand behind the lines so far may be run in a world of all names, in which as many messages were made
module _ {D : Type 0} (site : Site D) (so_far : Declared) (messages : so_far.messages ≡ length site.messages) where
  module _ (rest : List (List ℕ)) (names : map (λ (r : Named D). r.name) site.replicas ≡ so_far.names ++ rest) where
    there : (a : List ℕ) → declares so_far a ≡ true → declares (declared site) a ≡ true
    there a is = declared_by_all so_far rest (map (λ (r : Named D). r.name) site.replicas) a names is

    has_it : (n : ℕ) → has_message so_far n ≡ true → has_message (declared site) n ≡ true
    has_it n is = subst (λ m. nat_le n m ≡ true) messages is

    room : has_room so_far ≡ true → has_room (declared site) ≡ true
    room is = subst (λ m. nat_lt m 8192 ≡ true) messages is

  any_there : (front rest : List (List ℕ)) (a : List ℕ) → list_any (λ other. bytes_eq other a) (a ∷ rest) ≡ true → list_any (λ other. bytes_eq other a) (front ++ a ∷ rest) ≡ true
  any_there [] rest a is = is
  any_there (b ∷ front) rest a is = still_here (bytes_eq b a) _ (any_there front rest a is)

  may_be : (one : Line) (behind : List Line) → map (λ (r : Named D). r.name) site.replicas ≡ so_far.names ++ names_of (one ∷ behind) → has_place so_far one ≡ true → may_run site one ≡ true
  may_be (line.Replica a) behind names place = ap (list_any (λ other. bytes_eq other a)) names ∙ any_there so_far.names (names_of behind) a (own_name (names_of behind) a)
  may_be (line.Init a f args) behind names place = there (names_of behind) names a place
  may_be (line.Join a b) behind names place = both_of _ _ (there (names_of behind) names a (left_of _ _ place)) (there (names_of behind) names b (right_of _ _ place))
  may_be (line.Act a f args) behind names place = there (names_of behind) names a place
  may_be (line.Sync a b) behind names place = both_of _ _ (there (names_of behind) names a (left_of _ _ place)) (there (names_of behind) names b (right_of _ _ place))
  may_be (line.Ask a) behind names place = both_of _ _ (there (names_of behind) names a (left_of _ _ place)) (room (names_of behind) names (right_of _ _ place))
  may_be (line.Next a n) behind names place = both_of _ _ (both_of _ _ (there (names_of behind) names a (left_of _ _ (left_of _ _ place))) (has_it (names_of behind) names n (right_of _ _ (left_of _ _ place)))) (room (names_of behind) names (right_of _ _ place))
  may_be (line.Answer a n) behind names place = both_of _ _ (both_of _ _ (there (names_of behind) names a (left_of _ _ (left_of _ _ place))) (has_it (names_of behind) names n (right_of _ _ (left_of _ _ place)))) (room (names_of behind) names (right_of _ _ place))
  may_be (line.Take a n) behind names place = both_of _ _ (there (names_of behind) names a (left_of _ _ place)) (has_it (names_of behind) names n (right_of _ _ place))
  may_be (line.Inject message) behind names place = room (names_of behind) names place
  may_be (line.Restart a) behind names place = there (names_of behind) names a place
  may_be (line.Facts a) behind names place = there (names_of behind) names a place
  may_be (line.Effects a) behind names place = there (names_of behind) names a place
  may_be (line.Graph a) behind names place = there (names_of behind) names a place
  may_be (line.Blank) behind names place = refl

-- ---- one line more

-- as many messages as the lines made
counted : {D : Type 0} (site : Site D) (so_far : Declared) (one : Line) → so_far.messages ≡ length site.messages → (with_line so_far one).messages ≡ (with_line (declared site) one).messages
counted site so_far (line.Replica a) is = is
counted site so_far (line.Init a f args) is = is
counted site so_far (line.Join a b) is = is
counted site so_far (line.Act a f args) is = is
counted site so_far (line.Sync a b) is = is
counted site so_far (line.Ask a) is = ap (λ n. n + 1) is
counted site so_far (line.Next a n) is = ap (λ n. n + 1) is
counted site so_far (line.Answer a n) is = ap (λ n. n + 1) is
counted site so_far (line.Take a n) is = is
counted site so_far (line.Inject message) is = ap (λ n. n + 1) is
counted site so_far (line.Restart a) is = is
counted site so_far (line.Facts a) is = is
counted site so_far (line.Effects a) is = is
counted site so_far (line.Graph a) is = is
counted site so_far (line.Blank) is = is

-- the names that are declared so far, and those that are still to come
split_names : (so_far : Declared) (one : Line) (behind : List Line) → so_far.names ++ names_of (one ∷ behind) ≡ (with_line so_far one).names ++ names_of behind
split_names so_far (line.Replica a) behind = sym (append_assoc so_far.names (a ∷ []) (names_of behind))
split_names so_far (line.Init a f args) behind = refl
split_names so_far (line.Join a b) behind = refl
split_names so_far (line.Act a f args) behind = refl
split_names so_far (line.Sync a b) behind = refl
split_names so_far (line.Ask a) behind = refl
split_names so_far (line.Next a n) behind = refl
split_names so_far (line.Answer a n) behind = refl
split_names so_far (line.Take a n) behind = refl
split_names so_far (line.Inject message) behind = refl
split_names so_far (line.Restart a) behind = refl
split_names so_far (line.Facts a) behind = refl
split_names so_far (line.Effects a) behind = refl
split_names so_far (line.Graph a) behind = refl
split_names so_far (line.Blank) behind = refl

first_may : {D : Type 0} (site : Site D) (one : Line) (behind : List Line) (so_far : Declared) (before : ℕ) (texts : List (List ℕ)) → Lines so_far before texts (one ∷ behind) →
    map (λ (r : Named D). r.name) site.replicas ≡ so_far.names ++ names_of (one ∷ behind) → so_far.messages ≡ length site.messages → may_run site one ≡ true
first_may site one behind so_far before [] none names messages = elim none [ ]
first_may site one behind so_far before (text ∷ texts) (scripts.more few is place rest) names messages = may_be site so_far messages one behind names place

rest_follows : {D : Type 0} (site new : Site D) (one : Line) (behind : List Line) (so_far : Declared) (before : ℕ) (texts : List (List ℕ)) → Lines so_far before texts (one ∷ behind) →
    map (λ (r : Named D). r.name) site.replicas ≡ so_far.names ++ names_of (one ∷ behind) → so_far.messages ≡ length site.messages →
    map (λ (r : Named D). r.name) new.replicas ≡ map (λ r. r.name) site.replicas → length new.messages ≡ (with_line (declared site) one).messages → FollowIn new behind
rest_follows site new one behind so_far before [] none names messages same counts = elim none [ ]
rest_follows site new one behind so_far before (text ∷ texts) (scripts.more few is place rest) names messages same counts = record {
  so_far = with_line so_far one;
  before = before + 1;
  texts = texts;
  placed = rest;
  names = same ∙ names ∙ split_names so_far one behind;
  messages = counted site so_far one messages ∙ sym counts;
}

pub may_be_run : {D : Type 0} (site : Site D) (one : Line) (behind : List Line) → FollowIn site (one ∷ behind) → may_run site one ≡ true
may_be_run site one behind follow = first_may site one behind follow.so_far follow.before follow.texts follow.placed follow.names follow.messages

pub follow_on : {D : Type 0} (site new : Site D) (one : Line) (behind : List Line) → FollowIn site (one ∷ behind) → map (λ (r : Named D). r.name) new.replicas ≡ map (λ r. r.name) site.replicas →
    length new.messages ≡ (with_line (declared site) one).messages → FollowIn new behind
follow_on site new one behind follow names messages = rest_follows site new one behind follow.so_far follow.before follow.texts follow.placed follow.names follow.messages names messages

-- there is a disk for each replica
pub names_fit : {D : Type 0} (script : List ℕ) (found : List Line) (names : List (List ℕ)) (disks : List D) → IsScript script found → names ≡ names_of found → length disks ≡ 8 → length names ≤ length disks
names_fit script found names disks is same eight = let few = few_names script found is in omega (arith, few, ap length same, eight)
