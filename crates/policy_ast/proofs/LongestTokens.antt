-- The token that bytes begin with is what each prefix begins with that isn't shorter; so no longer prefix is one token.
use Rattle.std.proofs.Common.{◌≡◌, ℕ, zero, suc, ◌+◌, ◌<◌, ◌≤◌, Bool, true, false, not, ◌&&◌, nat_eq, List, [], ◌∷◌, length, take, get_or, refl, ap, sym, ◌∙◌, arith, codes, Option, Some, None, option_map}
use Rattle.std.specs.Bool.{⊤}
use Rattle.std.specs.Char.{is_ascii_alphabetic, is_ascii_digit}
use Rattle.std.specs.List.{list_all, position, starts_with}
use Rattle.std.specs.Option.{option_or}
use Rattle.std.specs.Str.{bytes_eq}
use Rattle.std.proofs.lemmas.Bool.Decides.{nat_tests}
use Rattle.std.proofs.lemmas.List.Quantifiers.{position-Some}
use Rattle.std.proofs.lemmas.Slice.Eq.{bytes_eq-Decides}
use Rattle.policy_ast.specs.declared.token.TokenKind.TheVariants.{Symbol}
use Rattle.policy_ast.specs.Symbols.{symbols}
use Rattle.policy_ast.specs.TokenForms.{SizedToken, number_at, quoted_at, sized_symbol, symbol_at, token_at, word_at}
use Rattle.policy_ast.specs.TokenLaws.{IsLongestToken, TakesLongest}
use Rattle.policy_ast.specs.Version.{Version, Two}
use Rattle.policy_ast.proofs.TokenPrefixes.{no_number, no_text, no_word, none_some, number_in_prefix, others_beside_text, quoted_in_prefix, same_some, word_beside_number, word_in_prefix}

-- a byte with which no word, number or text begins
abbrev is_mark : ℕ → Bool
is_mark c = not (is_ascii_alphabetic c) && not (is_ascii_digit c) && not (nat_eq c 45) && not (nat_eq c 34)

abbrev begins_with_mark : List ℕ → Bool
begins_with_mark [] = false
begins_with_mark (c ∷ rest) = is_mark c

symbols_begin_with_marks : (version : Version) → list_all begins_with_mark (symbols version) ≡ true
symbols_begin_with_marks Two = refl

both_true : (a b : Bool) → a && b ≡ true → (a ≡ true) × (b ≡ true)
both_true true b is = (refl, is)
both_true false b is = absurd (cc)

marked_at : (some : List (List ℕ)) (i : ℕ) → list_all begins_with_mark some ≡ true → i < length some → begins_with_mark (get_or some i []) ≡ true
marked_at [] i are within = absurd (omega (arith, within))
marked_at (spelled ∷ more) zero are within = (both_true (begins_with_mark spelled) (list_all begins_with_mark more) are).0
marked_at (spelled ∷ more) (suc i) are within = marked_at more i (both_true (begins_with_mark spelled) (list_all begins_with_mark more) are).1 (omega (arith, within))

symbol_marked : (version : Version) (place : Option ℕ) (spelled : List ℕ) (token : SizedToken) → position (bytes_eq spelled) (symbols version) ≡ place
    → option_map (λ symbol. (symbol, length spelled)) (option_map Symbol place) ≡ Some token → (begins_with_mark spelled ≡ true) × (length spelled ≡ token.1)
symbol_marked version None spelled token is found = absurd (none_some found)
symbol_marked version (Some k) spelled token is found =
    let at = position-Some (bytes_eq spelled) (symbols version) k [] is in
    let same : spelled ≡ get_or (symbols version) k [] = (bytes_eq-Decides spelled (get_or (symbols version) k [])).0 at.1 in
    (ap begins_with_mark same ∙ marked_at (symbols version) k (symbols_begin_with_marks version) at.0, ap (λ (t : SizedToken). t.1) (same_some (Symbol k, length spelled) token found))

-- bytes that are a symbol begin with a mark, and are as many as it takes
marked : (version : Version) (spelled : List ℕ) (token : SizedToken) → sized_symbol version spelled ≡ Some token → (begins_with_mark spelled ≡ true) × (length spelled ≡ token.1)
marked version spelled token found = symbol_marked version (position (bytes_eq spelled) (symbols version)) spelled token refl found

taken_mark : (n : ℕ) (bytes : List ℕ) → begins_with_mark (take n bytes) ≡ true → begins_with_mark bytes ≡ true
taken_mark zero bytes is = absurd (cc)
taken_mark (suc n) [] is = is
taken_mark (suc n) (c ∷ bytes) is = is

found_marked : (version : Version) (two : Option SizedToken) (bytes : List ℕ) (token : SizedToken) → sized_symbol version (take 2 bytes) ≡ two
    → option_or two (sized_symbol version (take 1 bytes)) ≡ Some token → begins_with_mark bytes ≡ true
found_marked version None bytes token is found = taken_mark 1 bytes (marked version (take 1 bytes) token found).0
found_marked version (Some other) bytes token is found = taken_mark 2 bytes (marked version (take 2 bytes) other is).0

no_others : (bytes : List ℕ) → begins_with_mark bytes ≡ true → (word_at bytes ≡ None) × (number_at bytes ≡ None) × (quoted_at bytes ≡ None)
no_others [] is = absurd (cc)
no_others (c ∷ rest) is =
    let letter : is_ascii_alphabetic c ≡ false = grind (arith, nat_tests, is) in
    let digit : is_ascii_digit c ≡ false = grind (arith, nat_tests, is) in
    let minus : starts_with nat_eq (c ∷ rest) (codes "-") ≡ false = grind (arith, nat_tests, is) in
    let quote : starts_with nat_eq (c ∷ rest) (codes "\"") ≡ false = grind (arith, nat_tests, is) in
    (no_word (c ∷ rest) letter, no_number c rest minus digit, no_text c rest quote)

-- what is a symbol is nothing else
others_beside_symbol : (version : Version) (bytes : List ℕ) (token : SizedToken) → symbol_at version bytes ≡ Some token
    → (word_at bytes ≡ None) × (number_at bytes ≡ None) × (quoted_at bytes ≡ None)
unfolding symbol_at
others_beside_symbol version bytes token found = no_others bytes (found_marked version (sized_symbol version (take 2 bytes)) bytes token refl found)

-- a prefix of a prefix
taken_within : (n m : ℕ) (bytes : List ℕ) → length (take n bytes) ≤ m → take n (take m bytes) ≡ take n bytes
taken_within zero m bytes le = refl
taken_within (suc n) zero [] le = refl
taken_within (suc n) zero (c ∷ bytes) le = absurd (omega (arith, le))
taken_within (suc n) (suc m) [] le = refl
taken_within (suc n) (suc m) (c ∷ bytes) le = ap (λ cs. c ∷ cs) (taken_within n m bytes (omega (arith, le)))

taken_short : (n : ℕ) (bytes : List ℕ) → length (take n bytes) ≤ n
taken_short zero bytes = omega arith
taken_short (suc n) [] = omega arith
taken_short (suc n) (c ∷ bytes) = let short = taken_short n bytes in omega (arith, short)

symbol_case : (version : Version) (two : Option SizedToken) (m : ℕ) (bytes : List ℕ) (token : SizedToken) → sized_symbol version (take 2 bytes) ≡ two
    → option_or two (sized_symbol version (take 1 bytes)) ≡ Some token → token.1 ≤ m → symbol_at version (take m bytes) ≡ Some token
unfolding symbol_at
symbol_case version (Some other) m bytes token is found within =
    let size : length (take 2 bytes) ≡ token.1 = (marked version (take 2 bytes) token (is ∙ found)).1 in
    rw (taken_within 2 m bytes (omega (arith, size, within)), is) found
symbol_case version None m [] token is found within = absurd (let marks = (marked version [] token found).0 in cc)
symbol_case version None zero (c ∷ rest) token is found within =
    absurd (let size : 1 ≡ token.1 = (marked version (c ∷ []) token found).1 in omega (arith, size, within))
symbol_case version None (suc zero) (c ∷ rest) token is found within = rw found refl
symbol_case version None (suc (suc m)) (c ∷ rest) token is found within =
    let short = taken_short 2 (c ∷ rest) in
    ap (λ two. option_or (sized_symbol version two) (sized_symbol version (c ∷ []))) (taken_within 2 (suc (suc m)) (c ∷ rest) (omega (arith, short)))
    ∙ (rw is found)

symbol_in_prefix : (version : Version) (m : ℕ) (bytes : List ℕ) (token : SizedToken) → symbol_at version bytes ≡ Some token → token.1 ≤ m → symbol_at version (take m bytes) ≡ Some token
unfolding symbol_at
symbol_in_prefix version m bytes token found within = symbol_case version (sized_symbol version (take 2 bytes)) m bytes token refl found within

forms : (version : Version) (word number text symbol : Option SizedToken) (m : ℕ) (bytes : List ℕ) (token : SizedToken)
    → word_at bytes ≡ word → number_at bytes ≡ number → quoted_at bytes ≡ text → symbol_at version bytes ≡ symbol
    → option_or word (option_or number (option_or text symbol)) ≡ Some token → token.1 ≤ m → token_at version (take m bytes) ≡ Some token
forms version (Some t) number text symbol m bytes token w n q s found within = rw (word_in_prefix m bytes token (w ∙ found) within) refl
forms version None (Some t) text symbol m bytes token w n q s found within =
    let alone = number_in_prefix m bytes token (n ∙ found) within in
    rw (word_beside_number (take m bytes) token alone, alone) refl
forms version None None (Some t) symbol m bytes token w n q s found within =
    let alone = quoted_in_prefix m bytes token (q ∙ found) within in
    let others = others_beside_text (take m bytes) token alone in
    rw (others.0, others.1, alone) refl
forms version None None None symbol m bytes token w n q s found within =
    let alone = symbol_in_prefix version m bytes token (s ∙ found) within in
    let others = others_beside_symbol version (take m bytes) token alone in
    rw (others.0, others.1, others.2, alone) refl

-- a token is read of each prefix that holds it
pub token_in_prefix : (version : Version) (m : ℕ) (bytes : List ℕ) (token : SizedToken) → token_at version bytes ≡ Some token → token.1 ≤ m → token_at version (take m bytes) ≡ Some token
token_in_prefix version m bytes token found within =
    forms version (word_at bytes) (number_at bytes) (quoted_at bytes) (symbol_at version bytes) m bytes token refl refl refl refl found within

longest : (version : Version) (bytes : List ℕ) (token : SizedToken) → token_at version bytes ≡ Some token → IsLongestToken version bytes token
longest version bytes token found = record {
  read = token_in_prefix version token.1 bytes token found (omega arith);
  longest = λ size kind more within one.
      let same = same_some token (kind, size) (sym (token_in_prefix version size bytes token found (omega (arith, more))) ∙ one) in
      let size_is : token.1 ≡ size = ap (λ (t : SizedToken). t.1) same in
      omega (arith, more, size_is);
}

-- each of some symbols is read as the one at its place
abbrev AreRead : Version → ℕ → List (List ℕ) → Type 0
AreRead version place [] = ⊤
AreRead version place (spelled ∷ more) = (token_at version spelled ≡ Some (Symbol place, length spelled)) × AreRead version (suc place) more

symbols_are_read : (version : Version) → AreRead version 0 (symbols version)
unfolding word_at number_at quoted_at symbol_at
symbols_are_read Two = (refl, (refl, (refl, (refl, (refl, (refl, (refl, (refl, (refl, (refl, (refl, (refl, (refl, (refl, (refl, (refl, (refl, (refl, (refl, (refl, (refl, (refl, (refl, (refl, tt))))))))))))))))))))))))

read_at : (version : Version) (place : ℕ) (some : List (List ℕ)) (i : ℕ) → AreRead version place some → i < length some
    → token_at version (get_or some i []) ≡ Some (Symbol (place + i), length (get_or some i []))
read_at version place [] i are within = absurd (omega (arith, within))
read_at version place (spelled ∷ more) zero are within = let same : place ≡ place + 0 = omega arith in are.0 ∙ ap (λ k. Some (Symbol k, length spelled)) same
read_at version place (spelled ∷ more) (suc i) are within =
    let same : suc place + i ≡ place + suc i = omega arith in
    read_at version (suc place) more i are.1 (omega (arith, within)) ∙ ap (λ k. Some (Symbol k, length (get_or more i []))) same

pub takes_longest : (version : Version) → TakesLongest version
takes_longest version = record {
  token = longest version;
  symbol = λ place within.
      let same : 0 + place ≡ place = omega arith in
      read_at version 0 (symbols version) place (symbols_are_read version) within
      ∙ ap (λ k. Some (Symbol k, length (get_or (symbols version) place []))) same;
}
