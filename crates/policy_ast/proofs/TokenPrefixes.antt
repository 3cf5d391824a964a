-- Words, numbers and texts: what bytes begin with is what each prefix begins with that isn't shorter.
use Rattle.std.proofs.Common.{◌≡◌, ℕ, zero, suc, ◌+◌, ◌<◌, ◌≤◌, Bool, true, false, cond, nat_eq, if◌then◌else◌, List, [], ◌∷◌, length, take, refl, ap, sym, ◌∙◌, arith, codes, Option, Some, None, option_map}
use Rattle.std.specs.Char.{is_ascii_alphabetic, is_ascii_digit}
use Rattle.std.specs.List.{starts_with, take_while}
use Rattle.std.specs.Option.{option_and_then}
use Rattle.std.proofs.lemmas.List.Sums.{take_while-cons}
use Rattle.std.proofs.lemmas.Bool.Decides.{nat_tests}
use Rattle.base_bytes.specs.Words.{begins_with_letter, is_word, is_word_byte}
use Rattle.policy_ast.specs.declared.token.TokenKind.{TokenKind}
use Rattle.policy_ast.specs.declared.token.TokenKind.TheVariants.{Quoted}
use Rattle.policy_ast.specs.Lines.{is_line_feed}
use Rattle.policy_ast.specs.TokenForms.{SizedToken, escaped, is_backslash, is_quotation_mark, number_at, number_behind, quoted, quoted_at, text_from, word_at, written}

-- a run that ends within a prefix
run_step : {A : Type 0} (test : A → Bool) (b : Bool) (m : ℕ) (x : A) (xs : List A) → test x ≡ b → length (cond b (x ∷ take_while test xs) []) ≤ suc m
    → (length (take_while test xs) ≤ m → take_while test (take m xs) ≡ take_while test xs)
    → take_while test (x ∷ take m xs) ≡ cond b (x ∷ take_while test xs) []
run_step test true m x xs is within more = rw (take_while-cons test x (take m xs), is) (ap (λ ys. x ∷ ys) (more (omega (arith, within))))
run_step test false m x xs is within more = rw (take_while-cons test x (take m xs), is) refl

run_nowhere : {A : Type 0} (b : Bool) (x : A) (run : List A) → length (cond b (x ∷ run) []) ≤ 0 → [] ≡ cond b (x ∷ run) []
run_nowhere true x run within = absurd (omega (arith, within))
run_nowhere false x run within = refl

pub run_in_prefix : {A : Type 0} (test : A → Bool) (m : ℕ) (xs : List A) → length (take_while test xs) ≤ m → take_while test (take m xs) ≡ take_while test xs
run_in_prefix test zero [] within = refl
run_in_prefix test zero (x ∷ xs) within = rw (take_while-cons test x xs) (run_nowhere (test x) x (take_while test xs) (rw (take_while-cons test x xs) at within))
run_in_prefix test (suc m) [] within = refl
run_in_prefix test (suc m) (x ∷ xs) within =
    rw (take_while-cons test x xs)
    (run_step test (test x) m x xs refl (rw (take_while-cons test x xs) at within) (λ inner. run_in_prefix test m xs inner))

pub none_some : {A : Type 0} {x : A} → None ≡ Some x → ⊥
none_some is = cc

some_or : {A : Type 0} → A → Option A → A
some_or x None = x
some_or x (Some y) = y

pub same_some : {A : Type 0} (x y : A) → Some x ≡ Some y → x ≡ y
unfolding some_or
same_some x y is = ap (some_or x) is

-- the size of a token that was chosen
chosen_size : (b : Bool) (kind : TokenKind) (size : ℕ) (token : SizedToken) → (if b then Some (kind, size) else None) ≡ Some token → size ≡ token.1
chosen_size true kind size token found = ap (λ (t : SizedToken). t.1) (same_some (kind, size) token found)
chosen_size false kind size token found = absurd (cc)

-- a word
word_size : (bytes : List ℕ) (token : SizedToken) → word_at bytes ≡ Some token → length (take_while is_word_byte bytes) ≡ token.1
unfolding word_at
word_size bytes token found = chosen_size _ _ _ token found

pub word_in_prefix : (m : ℕ) (bytes : List ℕ) (token : SizedToken) → word_at bytes ≡ Some token → token.1 ≤ m → word_at (take m bytes) ≡ Some token
unfolding word_at
word_in_prefix m bytes token found within = rw (run_in_prefix is_word_byte m bytes (omega (arith, within, word_size bytes token found))) found

no_run : (b : Bool) (c : ℕ) (cs : List ℕ) → begins_with_letter (c ∷ cs) ≡ false → is_word (cond b (c ∷ cs) []) ≡ false
no_run true c cs is = rw is refl
no_run false c cs is = refl

-- where no letter stands first, no word does
pub no_word : (bytes : List ℕ) → begins_with_letter bytes ≡ false → word_at bytes ≡ None
unfolding word_at
no_word [] is = refl
no_word (c ∷ bytes) is = rw (take_while-cons is_word_byte c bytes, no_run (is_word_byte c) c (take_while is_word_byte bytes) is) refl

-- a number
number_size : (is_negative : Bool) (sign : ℕ) (bytes : List ℕ) (token : SizedToken) → number_behind is_negative sign bytes ≡ Some token → sign + length (take_while is_ascii_digit bytes) ≡ token.1
number_size is_negative sign bytes token found = chosen_size _ _ _ token found

number_of_prefix : (is_negative : Bool) (sign m : ℕ) (bytes : List ℕ) → length (take_while is_ascii_digit bytes) ≤ m → number_behind is_negative sign (take m bytes) ≡ number_behind is_negative sign bytes
number_of_prefix is_negative sign m bytes within = rw (run_in_prefix is_ascii_digit m bytes within) refl

number_case : (minus digit : Bool) (m c : ℕ) (bytes : List ℕ) (token : SizedToken) → starts_with nat_eq (c ∷ bytes) (codes "-") ≡ minus → is_ascii_digit c ≡ digit
    → (if minus then number_behind true 1 bytes else number_behind false 0 (c ∷ bytes)) ≡ Some token → token.1 ≤ m → number_at (take m (c ∷ bytes)) ≡ Some token
unfolding number_at
number_case true digit zero c bytes token minus_is digit_is found within = absurd (omega (arith, within, number_size true 1 bytes token found))
number_case true digit (suc m) c bytes token minus_is digit_is found within =
    rw minus_is (number_of_prefix true 1 m bytes (omega (arith, within, number_size true 1 bytes token found))) ∙ found
number_case false true zero c bytes token minus_is digit_is found within =
    let whole : take_while is_ascii_digit (c ∷ bytes) ≡ c ∷ take_while is_ascii_digit bytes = rw (take_while-cons is_ascii_digit c bytes, digit_is) refl in
    absurd (omega (arith, within, number_size false 0 (c ∷ bytes) token found, ap (length {A = ℕ}) whole))
number_case false true (suc m) c bytes token minus_is digit_is found within =
    rw minus_is (number_of_prefix false 0 (suc m) (c ∷ bytes) (omega (arith, within, number_size false 0 (c ∷ bytes) token found))) ∙ found
number_case false false m c bytes token minus_is digit_is found within =
    let none : number_behind false 0 (c ∷ bytes) ≡ None = rw (take_while-cons is_ascii_digit c bytes, digit_is) refl in
    absurd (none_some (sym none ∙ found))

pub number_in_prefix : (m : ℕ) (bytes : List ℕ) (token : SizedToken) → number_at bytes ≡ Some token → token.1 ≤ m → number_at (take m bytes) ≡ Some token
unfolding number_at
number_in_prefix m [] token found within = absurd (none_some found)
number_in_prefix m (c ∷ bytes) token found within = number_case (starts_with nat_eq (c ∷ bytes) (codes "-")) (is_ascii_digit c) m c bytes token refl refl found within

-- where neither a sign nor a digit stands first, no number does
pub no_number : (c : ℕ) (bytes : List ℕ) → starts_with nat_eq (c ∷ bytes) (codes "-") ≡ false → is_ascii_digit c ≡ false → number_at (c ∷ bytes) ≡ None
unfolding number_at
no_number c bytes minus digit = rw (minus, take_while-cons is_ascii_digit c bytes, digit) refl

number_is_no_word : (b : Bool) (c : ℕ) (bytes : List ℕ) (token : SizedToken) → is_ascii_alphabetic c ≡ b → number_at (c ∷ bytes) ≡ Some token → word_at (c ∷ bytes) ≡ None
number_is_no_word true c bytes token is found =
    let minus : starts_with nat_eq (c ∷ bytes) (codes "-") ≡ false = grind (arith, nat_tests) in
    let digit : is_ascii_digit c ≡ false = grind (arith, nat_tests) in
    absurd (none_some (sym (no_number c bytes minus digit) ∙ found))
number_is_no_word false c bytes token is found = no_word (c ∷ bytes) is

-- what is a number is no word
pub word_beside_number : (bytes : List ℕ) (token : SizedToken) → number_at bytes ≡ Some token → word_at bytes ≡ None
word_beside_number [] token found = no_word [] refl
word_beside_number (c ∷ bytes) token found = number_is_no_word (is_ascii_alphabetic c) c bytes token refl found

-- a byte of a text that is written in front of others
pub written_then : {P : Type 0} (meant size : ℕ) (found : Option (List ℕ × ℕ)) (text : List ℕ × ℕ) → written meant size found ≡ Some text
    → ((inner : List ℕ × ℕ) → found ≡ Some inner → inner.1 + size ≡ text.1 → meant ∷ inner.0 ≡ text.0 → P) → P
written_then meant size None text is go = absurd (none_some is)
written_then meant size (Some inner) text is go =
    let same = same_some (meant ∷ inner.0, inner.1 + size) text is in
    go inner refl (ap (λ (t : List ℕ × ℕ). t.1) same) (ap (λ (t : List ℕ × ℕ). t.0) same)

pub escape_then : {P : Type 0} (o : Option ℕ) (found : Option (List ℕ × ℕ)) (text : List ℕ × ℕ) → option_and_then (λ meant. written meant 2 found) o ≡ Some text
    → ((meant : ℕ) (inner : List ℕ × ℕ) → o ≡ Some meant → found ≡ Some inner → inner.1 + 2 ≡ text.1 → meant ∷ inner.0 ≡ text.0 → P) → P
escape_then None found text is go = absurd (none_some is)
escape_then (Some meant) found text is go = written_then meant 2 found text is (λ inner has size same. go meant inner refl has size same)

-- what two bytes and those behind them write
abbrev pub two_from : Bool → Bool → Bool → ℕ → ℕ → Option (List ℕ × ℕ) → Option (List ℕ × ℕ) → Option (List ℕ × ℕ)
two_from quote feed slash c next rest more =
    if quote then Some ([], 1) else if feed then None else if slash then option_and_then (λ meant. written meant 2 rest) (escaped next) else written c 1 more

last_some : (b : Bool) (text : List ℕ × ℕ) → (if b then Some ([], 1) else None) ≡ Some text → 0 < text.1
last_some true text found = let size : 1 ≡ text.1 = ap (λ (t : List ℕ × ℕ). t.1) (same_some ([], 1) text found) in omega (arith, size)
last_some false text found = absurd (none_some found)

two_some : (quote feed slash : Bool) (c next : ℕ) (rest more : Option (List ℕ × ℕ)) (text : List ℕ × ℕ) → two_from quote feed slash c next rest more ≡ Some text → 0 < text.1
two_some true feed slash c next rest more text found = last_some true text found
two_some false true slash c next rest more text found = absurd (none_some found)
two_some false false true c next rest more text found = escape_then (escaped next) rest text found (λ meant inner o has size same. omega (arith, size))
two_some false false false c next rest more text found = written_then c 1 more text found (λ inner has size same. omega (arith, size))

-- a text takes its mark at least
text_some : (bytes : List ℕ) (text : List ℕ × ℕ) → text_from bytes ≡ Some text → 0 < text.1
unfolding text_from
text_some [] text found = absurd (none_some found)
text_some (c ∷ []) text found = last_some (is_quotation_mark c) text found
text_some (c ∷ next ∷ rest) text found = two_some (is_quotation_mark c) (is_line_feed c) (is_backslash c) c next (text_from rest) (text_from (next ∷ rest)) text found

-- two bytes of which a prefix has only the first
first_case : (quote feed slash : Bool) (c next : ℕ) (rest : List ℕ) (text : List ℕ × ℕ) → is_quotation_mark c ≡ quote
    → two_from quote feed slash c next (text_from rest) (text_from (next ∷ rest)) ≡ Some text → text.1 ≤ 1 → text_from (c ∷ []) ≡ Some text
unfolding text_from
first_case true feed slash c next rest text is found within = rw is found
first_case false true slash c next rest text is found within = absurd (none_some found)
first_case false false true c next rest text is found within = absurd (escape_then (escaped next) (text_from rest) text found (λ meant inner o has size same. omega (arith, size, within)))
first_case false false false c next rest text is found within =
    absurd (written_then c 1 (text_from (next ∷ rest)) text found (λ inner has size same. let some = text_some (next ∷ rest) inner has in omega (arith, size, within, some)))

-- two bytes that a prefix has
two_case : (quote feed slash : Bool) (m c next : ℕ) (rest : List ℕ) (text : List ℕ × ℕ) → is_quotation_mark c ≡ quote → is_line_feed c ≡ feed → is_backslash c ≡ slash
    → two_from quote feed slash c next (text_from rest) (text_from (next ∷ rest)) ≡ Some text → text.1 ≤ suc (suc m)
    → ((inner : List ℕ × ℕ) → text_from rest ≡ Some inner → inner.1 ≤ m → text_from (take m rest) ≡ Some inner)
    → ((inner : List ℕ × ℕ) → text_from (next ∷ rest) ≡ Some inner → inner.1 ≤ suc m → text_from (next ∷ take m rest) ≡ Some inner)
    → text_from (c ∷ next ∷ take m rest) ≡ Some text
unfolding text_from
two_case true feed slash m c next rest text q f s found within behind more = rw q found
two_case false true slash m c next rest text q f s found within behind more = absurd (none_some found)
two_case false false true m c next rest text q f s found within behind more =
    escape_then (escaped next) (text_from rest) text found (λ meant inner o has size same.
    rw (q, f, s) (ap (λ t. option_and_then (λ meant. written meant 2 t) (escaped next)) (behind inner has (omega (arith, size, within)) ∙ sym has)) ∙ found)
two_case false false false m c next rest text q f s found within behind more =
    written_then c 1 (text_from (next ∷ rest)) text found (λ inner has size same.
    rw (q, f, s) (ap (written c 1) (more inner has (omega (arith, size, within)) ∙ sym has)) ∙ found)

text_in_prefix : (m : ℕ) (bytes : List ℕ) (text : List ℕ × ℕ) → text_from bytes ≡ Some text → text.1 ≤ m → text_from (take m bytes) ≡ Some text
unfolding text_from
text_in_prefix m [] text found within = absurd (none_some found)
text_in_prefix zero (c ∷ bytes) text found within = absurd (let some = text_some (c ∷ bytes) text found in omega (arith, some, within))
text_in_prefix (suc zero) (c ∷ []) text found within = found
text_in_prefix (suc (suc m)) (c ∷ []) text found within = found
text_in_prefix (suc zero) (c ∷ next ∷ rest) text found within =
    first_case (is_quotation_mark c) (is_line_feed c) (is_backslash c) c next rest text refl found within
text_in_prefix (suc (suc m)) (c ∷ next ∷ rest) text found within =
    two_case (is_quotation_mark c) (is_line_feed c) (is_backslash c) m c next rest text refl refl refl found within
    (λ inner has le. text_in_prefix m rest inner has le) (λ inner has le. text_in_prefix (suc m) (next ∷ rest) inner has le)

found_text : (m : ℕ) (found : Option (List ℕ × ℕ)) (rest : List ℕ) (token : SizedToken) → text_from rest ≡ found → option_map quoted found ≡ Some token → token.1 ≤ suc m
    → option_map quoted (text_from (take m rest)) ≡ Some token
found_text m None rest token is found within = absurd (none_some found)
found_text m (Some text) rest token is found within =
    let size : text.1 + 1 ≡ token.1 = ap (λ (t : SizedToken). t.1) (same_some (Quoted text.0, text.1 + 1) token found) in
    ap (option_map quoted) (text_in_prefix m rest text is (omega (arith, size, within))) ∙ found

text_size : (found : Option (List ℕ × ℕ)) (token : SizedToken) → option_map quoted found ≡ Some token → 0 < token.1
text_size None token found = absurd (none_some found)
text_size (Some text) token found =
    let size : text.1 + 1 ≡ token.1 = ap (λ (t : SizedToken). t.1) (same_some (Quoted text.0, text.1 + 1) token found) in
    omega (arith, size)

quote_case : (b : Bool) (m c : ℕ) (rest : List ℕ) (token : SizedToken) → starts_with nat_eq (c ∷ rest) (codes "\"") ≡ b
    → option_map quoted (option_and_then text_from (if b then Some rest else None)) ≡ Some token → token.1 ≤ m → quoted_at (take m (c ∷ rest)) ≡ Some token
unfolding quoted_at
quote_case true zero c rest token is found within = absurd (let some = text_size (text_from rest) token found in omega (arith, some, within))
quote_case true (suc m) c rest token is found within = rw is (found_text m (text_from rest) rest token refl found within)
quote_case false m c rest token is found within = absurd (none_some found)

pub quoted_in_prefix : (m : ℕ) (bytes : List ℕ) (token : SizedToken) → quoted_at bytes ≡ Some token → token.1 ≤ m → quoted_at (take m bytes) ≡ Some token
unfolding quoted_at
quoted_in_prefix m [] token found within = absurd (none_some found)
quoted_in_prefix m (c ∷ rest) token found within = quote_case (starts_with nat_eq (c ∷ rest) (codes "\"")) m c rest token refl found within

-- where no mark stands first, no text does
pub no_text : (c : ℕ) (rest : List ℕ) → starts_with nat_eq (c ∷ rest) (codes "\"") ≡ false → quoted_at (c ∷ rest) ≡ None
unfolding quoted_at
no_text c rest is = rw is refl

quote_others : (b : Bool) (c : ℕ) (rest : List ℕ) (token : SizedToken) → starts_with nat_eq (c ∷ rest) (codes "\"") ≡ b
    → quoted_at (c ∷ rest) ≡ Some token → (word_at (c ∷ rest) ≡ None) × (number_at (c ∷ rest) ≡ None)
quote_others true c rest token is found =
    let mark : c ≡ 34 = grind (arith, nat_tests) in
    let letter : is_ascii_alphabetic c ≡ false = rw mark refl in
    let digit : is_ascii_digit c ≡ false = rw mark refl in
    let minus : starts_with nat_eq (c ∷ rest) (codes "-") ≡ false = rw mark refl in
    (no_word (c ∷ rest) letter, no_number c rest minus digit)
quote_others false c rest token is found = absurd (none_some (sym (no_text c rest is) ∙ found))

-- what is a text is no word and no number
pub others_beside_text : (bytes : List ℕ) (token : SizedToken) → quoted_at bytes ≡ Some token → (word_at bytes ≡ None) × (number_at bytes ≡ None)
unfolding quoted_at number_at
others_beside_text [] token found = absurd (none_some found)
others_beside_text (c ∷ rest) token found = quote_others (starts_with nat_eq (c ∷ rest) (codes "\"")) c rest token refl found
