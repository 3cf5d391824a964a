-- A text in quotation marks that stands in UTF-8 is UTF-8.
use Rattle.std.proofs.Common.{◌≡◌, ℕ, zero, suc, ◌+◌, ◌-◌, ◌/◌, ◌%◌, ◌<◌, ◌≤◌, Bool, true, false, cond, ◌&&◌, ◌==◌, nat_eq, nat_lt, if◌then◌else◌, List, [], ◌∷◌, ◌++◌, length, take, drop, get_or, refl, ap, sym, subst, ◌∙◌, arith, codes, Option, Some, None, option_map, append-nil, slice_range}
use lib.Utf8.{encode, encodes, scalar, scalars}
use Rattle.std.specs.Bool.{⊤}
use Rattle.std.specs.List.{starts_with}
use Rattle.std.specs.Option.{option_and_then}
use Rattle.std.specs.Str.{IsUtf8}
use Rattle.std.proofs.lemmas.Bool.Decides.{nat_tests}
use Rattle.std.proofs.lemmas.Str.{IsCharBoundary-after_ascii, IsUtf8-append, IsUtf8-drop, IsUtf8-from_ascii, encode_ascii}
use Rattle.std.proofs.lemmas.Str.Ascii.{IsAscii-cons, IsAscii-nil}
use Rattle.policy_ast.specs.Lines.{is_line_feed}
use Rattle.policy_ast.specs.TokenForms.{behind, escaped, is_backslash, is_quotation_mark, text_from, written}
use Rattle.policy_ast.proofs.TokenPrefixes.{escape_then, none_some, same_some, two_from, written_then}
use Rattle.policy_lex.specs.working.QuotedTexts.{HoldsText}
use Rattle.policy_lex.proofs.Drops.{dropped}

abbrev AreHigh : List ℕ → Type 0
AreHigh [] = ⊤
AreHigh (b ∷ bs) = (128 ≤ b) × AreHigh bs

high_of : (ascii two three : Bool) (c : ℕ) → nat_lt c 128 ≡ ascii → 128 ≤ c → (a b d e f g h i j : ℕ) → AreHigh (cond ascii (c ∷ []) (cond two ((192 + a) ∷ (128 + b) ∷ []) (cond three ((224 + d) ∷ (128 + e) ∷ (128 + f) ∷ []) ((240 + g) ∷ (128 + h) ∷ (128 + i) ∷ (128 + j) ∷ []))))
high_of true two three c is high a b d e f g h i j = absurd (grind (arith, nat_tests, is, high))
high_of false true three c is high a b d e f g h i j = (omega arith, (omega arith, tt))
high_of false false true c is high a b d e f g h i j = (omega arith, (omega arith, (omega arith, tt)))
high_of false false false c is high a b d e f g h i j = (omega arith, (omega arith, (omega arith, (omega arith, tt))))

-- each byte of a character that is not ASCII is one of these
encode_is_high : (c : ℕ) → 128 ≤ c → AreHigh (encode c)
unfolding encode
encode_is_high c high =
    high_of (nat_lt c 128) (nat_lt c 2048) (nat_lt c 65536) c refl high (c / 64) (c % 64) (c / 4096) (c / 64 % 64) (c % 64) (c / 262144) (c / 4096 % 64) (c / 64 % 64) (c % 64)

kept_none : (found : Option (List ℕ × ℕ)) → found ≡ option_map (λ t. ([] ++ t.0, t.1 + 0)) found
kept_none None = refl
kept_none (Some t) = let same : t.1 ≡ t.1 + 0 = omega arith in ap (λ n. Some (t.0, n)) same

kept_more : (b : ℕ) (bs : List ℕ) (found : Option (List ℕ × ℕ))
    → written b 1 (option_map (λ t. (bs ++ t.0, t.1 + length bs)) found) ≡ option_map (λ t. ((b ∷ bs) ++ t.0, t.1 + length (b ∷ bs))) found
kept_more b bs None = refl
kept_more b bs (Some t) = let same : t.1 + length bs + 1 ≡ t.1 + suc (length bs) = omega arith in ap (λ n. Some (b ∷ (bs ++ t.0), n)) same

-- a byte that stands for itself
plain_kept : (b : ℕ) (rest : List ℕ) → is_quotation_mark b ≡ false → is_line_feed b ≡ false → is_backslash b ≡ false → text_from (b ∷ rest) ≡ written b 1 (text_from rest)
unfolding text_from
plain_kept b [] quote feed slash = rw quote refl
plain_kept b (next ∷ rest) quote feed slash = rw (quote, feed, slash) refl

-- as such bytes do
high_kept : (bs rest : List ℕ) → AreHigh bs → text_from (bs ++ rest) ≡ option_map (λ t. (bs ++ t.0, t.1 + length bs)) (text_from rest)
high_kept [] rest high = kept_none (text_from rest)
high_kept (b ∷ bs) rest high =
    let quote : is_quotation_mark b ≡ false = grind (arith, nat_tests, high.0) in
    let feed : is_line_feed b ≡ false = grind (arith, nat_tests, high.0) in
    let slash : is_backslash b ≡ false = grind (arith, nat_tests, high.0) in
    plain_kept b (bs ++ rest) quote feed slash ∙ ap (written b 1) (high_kept bs rest high.1) ∙ kept_more b bs (text_from rest)

nothing_utf8 : IsUtf8 []
nothing_utf8 = ([], (refl, refl))

one_utf8 : (c : ℕ) → c < 128 → IsUtf8 (c ∷ [])
one_utf8 c ascii = IsUtf8-from_ascii (c ∷ []) (IsAscii-cons c [] ascii IsAscii-nil)

both_true : (a b : Bool) → a && b ≡ true → (a ≡ true) × (b ≡ true)
both_true true b is = (refl, is)
both_true false b is = absurd (cc)

kept_parts : {P : Type 0} (more : List ℕ) (found : Option (List ℕ × ℕ)) (text : List ℕ × ℕ) → option_map (λ t. (more ++ t.0, t.1 + length more)) found ≡ Some text
    → ((inner : List ℕ × ℕ) → found ≡ Some inner → more ++ inner.0 ≡ text.0 → P) → P
kept_parts more None text is go = absurd (none_some is)
kept_parts more (Some inner) text is go = go inner refl (ap (λ (t : List ℕ × ℕ). t.0) (same_some (more ++ inner.0, inner.1 + length more) text is))

-- what an escape stands for is ASCII
meant_ascii : (slash quote newline : Bool) (c : ℕ) (m : ℕ) → c < 128 → (if slash then Some c else if quote then Some c else if newline then Some 10 else None) ≡ Some m → m < 128
meant_ascii true quote newline c m ascii is = subst (λ (k : ℕ). k < 128) (same_some c m is) ascii
meant_ascii false true newline c m ascii is = subst (λ (k : ℕ). k < 128) (same_some c m is) ascii
meant_ascii false false true c m ascii is = let same : 10 ≡ m = same_some 10 m is in omega (arith, same)
meant_ascii false false false c m ascii is = absurd (none_some is)

some_of : (ascii two three : Bool) (p q r s : ℕ) (b d e : List ℕ) → 0 < length (cond ascii (p ∷ []) (cond two (q ∷ b) (cond three (r ∷ d) (s ∷ e))))
some_of true two three p q r s b d e = omega arith
some_of false true three p q r s b d e = omega arith
some_of false false true p q r s b d e = omega arith
some_of false false false p q r s b d e = omega arith

encode_some : (c : ℕ) → 0 < length (encode c)
unfolding encode
encode_some c = some_of (nat_lt c 128) (nat_lt c 2048) (nat_lt c 65536) c _ _ _ _ _ _

byte_then : (m size : ℕ) (found : Option (List ℕ × ℕ)) (text : List ℕ × ℕ) → m < 128 → written m size found ≡ Some text
    → ((t : List ℕ × ℕ) → found ≡ Some t → IsUtf8 t.0) → IsUtf8 text.0
byte_then m size found text ascii is more =
    written_then m size found text is (λ inner has sizes parts. subst IsUtf8 parts (IsUtf8-append (m ∷ []) inner.0 (one_utf8 m ascii) (more inner has)))

high_escape : (bs rest : List ℕ) (c : ℕ) (text : List ℕ × ℕ) → AreHigh bs → 0 < length bs → is_quotation_mark c ≡ false → is_line_feed c ≡ false → is_backslash c ≡ true
    → text_from (c ∷ (bs ++ rest)) ≡ Some text → IsUtf8 text.0
unfolding text_from
high_escape [] rest c text high some quote feed slash is = absurd (omega (arith, some))
high_escape (b ∷ bs) rest c text high some quote feed slash is =
    let none : escaped b ≡ None = grind (arith, nat_tests, high.0) in
    absurd (none_some (rw (quote, feed, slash, none) at is))

low_escape : (d c : ℕ) (rest : List ℕ) (text : List ℕ × ℕ) → d < 128 → is_quotation_mark c ≡ false → is_line_feed c ≡ false → is_backslash c ≡ true
    → text_from (c ∷ d ∷ rest) ≡ Some text → ((t : List ℕ × ℕ) → text_from rest ≡ Some t → IsUtf8 t.0) → IsUtf8 text.0
unfolding text_from
low_escape d c rest text ascii quote feed slash is more =
    escape_then (escaped d) (text_from rest) text (rw (quote, feed, slash) at is) (λ meant inner o has size parts.
    subst IsUtf8 parts (IsUtf8-append (meant ∷ []) inner.0 (one_utf8 meant (meant_ascii (is_backslash d) (is_quotation_mark d) (d == 110) d meant ascii o)) (more inner has)))

-- a backslash and a character
escape_step : (ascii : Bool) (d c : ℕ) (rest : List ℕ) (text : List ℕ × ℕ) → nat_lt d 128 ≡ ascii → is_quotation_mark c ≡ false → is_line_feed c ≡ false → is_backslash c ≡ true
    → text_from (c ∷ (encode d ++ rest)) ≡ Some text → ((t : List ℕ × ℕ) → text_from rest ≡ Some t → IsUtf8 t.0) → IsUtf8 text.0
escape_step true d c rest text ascii quote feed slash is more =
    let low : d < 128 = grind (arith, nat_tests, ascii) in
    low_escape d c rest text low quote feed slash (rw (encode_ascii d low) at is) more
escape_step false d c rest text ascii quote feed slash is more =
    let high : 128 ≤ d = grind (arith, nat_tests, ascii) in
    high_escape (encode d) rest c text (encode_is_high d high) (encode_some d) quote feed slash is

closed_text : (c : ℕ) (rest : List ℕ) (text : List ℕ × ℕ) → is_quotation_mark c ≡ true → text_from (c ∷ rest) ≡ Some text → IsUtf8 text.0
unfolding text_from
closed_text c [] text quote is = subst IsUtf8 (ap (λ (t : List ℕ × ℕ). t.0) (same_some ([], 1) text (rw quote at is))) nothing_utf8
closed_text c (next ∷ rest) text quote is = subst IsUtf8 (ap (λ (t : List ℕ × ℕ). t.0) (same_some ([], 1) text (rw quote at is))) nothing_utf8

broken_text : (c : ℕ) (rest : List ℕ) (text : List ℕ × ℕ) → is_quotation_mark c ≡ false → is_line_feed c ≡ true → text_from (c ∷ rest) ≡ Some text → IsUtf8 text.0
unfolding text_from
broken_text c [] text quote feed is = absurd (none_some (rw quote at is))
broken_text c (next ∷ rest) text quote feed is = absurd (none_some (rw (quote, feed) at is))

last_escape : (c : ℕ) (text : List ℕ × ℕ) → is_quotation_mark c ≡ false → text_from (c ∷ []) ≡ Some text → IsUtf8 text.0
unfolding text_from
last_escape c text quote is = absurd (none_some (rw quote at is))

-- an ASCII character, by what it does
low_step : (quote feed slash : Bool) (c : ℕ) (rest : List ℕ) (text : List ℕ × ℕ) → c < 128 → is_quotation_mark c ≡ quote → is_line_feed c ≡ feed → is_backslash c ≡ slash
    → text_from (c ∷ rest) ≡ Some text
    → (is_quotation_mark c ≡ false → is_line_feed c ≡ false → is_backslash c ≡ true → text_from (c ∷ rest) ≡ Some text → IsUtf8 text.0)
    → ((t : List ℕ × ℕ) → text_from rest ≡ Some t → IsUtf8 t.0) → IsUtf8 text.0
low_step true feed slash c rest text ascii q f s is escapes more = closed_text c rest text q is
low_step false true slash c rest text ascii q f s is escapes more = broken_text c rest text q f is
low_step false false true c rest text ascii q f s is escapes more = escapes q f s is
low_step false false false c rest text ascii q f s is escapes more = byte_then c 1 (text_from rest) text ascii (sym (plain_kept c rest q f s) ∙ is) more

high_step : (bs rest : List ℕ) (text : List ℕ × ℕ) → AreHigh bs → IsUtf8 bs → text_from (bs ++ rest) ≡ Some text
    → ((t : List ℕ × ℕ) → text_from rest ≡ Some t → IsUtf8 t.0) → IsUtf8 text.0
high_step bs rest text high utf8 is more =
    kept_parts bs (text_from rest) text (sym (high_kept bs rest high) ∙ is) (λ inner has parts. subst IsUtf8 parts (IsUtf8-append bs inner.0 utf8 (more inner has)))

character_step : (ascii : Bool) (c : ℕ) (rest : List ℕ) (text : List ℕ × ℕ) → nat_lt c 128 ≡ ascii → scalar c ≡ true → text_from (encode c ++ rest) ≡ Some text
    → (is_quotation_mark c ≡ false → is_line_feed c ≡ false → is_backslash c ≡ true → text_from (c ∷ rest) ≡ Some text → IsUtf8 text.0)
    → ((t : List ℕ × ℕ) → text_from rest ≡ Some t → IsUtf8 t.0) → IsUtf8 text.0
character_step true c rest text ascii is_scalar is escapes more =
    let low : c < 128 = grind (arith, nat_tests, ascii) in
    low_step (is_quotation_mark c) (is_line_feed c) (is_backslash c) c rest text low refl refl refl (rw (encode_ascii c low) at is) escapes more
character_step false c rest text ascii is_scalar is escapes more =
    let high : 128 ≤ c = grind (arith, nat_tests, ascii) in
    high_step (encode c) rest text (encode_is_high c high) (c ∷ [], (rw is_scalar refl, append-nil (encode c))) is more

-- a text that characters write is UTF-8
text_of_characters : (cs : List ℕ) (text : List ℕ × ℕ) → scalars cs ≡ true → text_from (encodes cs) ≡ Some text → IsUtf8 text.0
unfolding text_from
text_of_characters [] text are is = absurd (none_some is)
text_of_characters (c ∷ []) text are is =
    let each = both_true (scalar c) true are in
    character_step (nat_lt c 128) c [] text refl each.0 is (λ q f s found. last_escape c text q found) (λ t has. absurd (none_some has))
text_of_characters (c ∷ d ∷ ds) text are is =
    let each = both_true (scalar c) (scalars (d ∷ ds)) are in
    let next = both_true (scalar d) (scalars ds) each.1 in
    character_step (nat_lt c 128) c (encodes (d ∷ ds)) text refl each.0 is
    (λ q f s found. escape_step (nat_lt d 128) d c (encodes ds) text refl q f s found (λ t has. text_of_characters ds t next.1 has))
    (λ t has. text_of_characters (d ∷ ds) t each.1 has)

first_more : (quote : Bool) (c next : ℕ) (rest : List ℕ) (text : List ℕ × ℕ) → is_quotation_mark c ≡ quote → (if quote then Some ([], 1) else None) ≡ Some text
    → text_from (c ∷ next ∷ rest) ≡ Some text
unfolding text_from
first_more true c next rest text q is = rw q is
first_more false c next rest text q is = absurd (none_some is)

two_more : (quote feed slash : Bool) (c next : ℕ) (rest more next_rest next_more : Option (List ℕ × ℕ)) (text : List ℕ × ℕ) → two_from quote feed slash c next rest next_rest ≡ Some text
    → ((inner : List ℕ × ℕ) → rest ≡ Some inner → more ≡ Some inner) → ((inner : List ℕ × ℕ) → next_rest ≡ Some inner → next_more ≡ Some inner)
    → two_from quote feed slash c next more next_more ≡ Some text
two_more true feed slash c next rest more next_rest next_more text is behind nexts = is
two_more false true slash c next rest more next_rest next_more text is behind nexts = is
two_more false false true c next rest more next_rest next_more text is behind nexts =
    escape_then (escaped next) rest text is (λ meant inner o has size parts.
    ap (λ t. option_and_then (λ m. written m 2 t) (escaped next)) (behind inner has ∙ sym has) ∙ is)
two_more false false false c next rest more next_rest next_more text is behind nexts =
    written_then c 1 next_rest text is (λ inner has size parts. ap (written c 1) (nexts inner has ∙ sym has) ∙ is)

-- a text that the first bytes write is written by all
text_of_more : (n : ℕ) (bytes : List ℕ) (text : List ℕ × ℕ) → text_from (take n bytes) ≡ Some text → text_from bytes ≡ Some text
unfolding text_from
text_of_more zero bytes text is = absurd (none_some is)
text_of_more (suc n) [] text is = absurd (none_some is)
text_of_more (suc zero) (c ∷ []) text is = is
text_of_more (suc (suc n)) (c ∷ []) text is = is
text_of_more (suc zero) (c ∷ next ∷ rest) text is = first_more (is_quotation_mark c) c next rest text refl is
text_of_more (suc (suc n)) (c ∷ next ∷ rest) text is =
    two_more (is_quotation_mark c) (is_line_feed c) (is_backslash c) c next (text_from (take n rest)) (text_from rest) (text_from (next ∷ take n rest)) (text_from (next ∷ rest)) text is
    (λ inner has. text_of_more n rest inner has) (λ inner has. text_of_more (suc n) (next ∷ rest) inner has)

marked_text : (b : Bool) (c : ℕ) (n : ℕ) (rest : List ℕ) (text : List ℕ × ℕ) → starts_with nat_eq (c ∷ take n rest) (codes "\"") ≡ b
    → option_and_then text_from (if b then Some (take n rest) else None) ≡ Some text → (c < 128 → IsUtf8 rest) → IsUtf8 text.0
marked_text true c n rest text is found utf8 =
    let mark : c < 128 = grind (arith, nat_tests) in
    let all = utf8 mark in
    text_of_characters all.0 text all.1.0 (ap text_from all.1.1 ∙ text_of_more n rest text found)
marked_text false c n rest text is found utf8 = absurd (none_some found)

text_in_prefix : (n c : ℕ) (rest : List ℕ) (text : List ℕ × ℕ) → option_and_then text_from (behind (codes "\"") (take n (c ∷ rest))) ≡ Some text → (c < 128 → IsUtf8 rest) → IsUtf8 text.0
text_in_prefix zero c rest text found utf8 = absurd (none_some found)
text_in_prefix (suc n) c rest text found utf8 = marked_text (starts_with nat_eq (c ∷ take n rest) (codes "\"")) c n rest text refl found utf8

-- a text that a range of a document begins with is UTF-8, since the document is
pub text_in_utf8 : (document : List ℕ) (place to : ℕ) → IsUtf8 document → place < length document → HoldsText (slice_range document place to)
text_in_utf8 document place to utf8 within text found =
    text_in_prefix (to - place) (get_or document place 0) (drop (place + 1) document) text (rw (dropped document place within) at found)
    (λ ascii. IsUtf8-drop document (place + 1) utf8 (IsCharBoundary-after_ascii document place utf8 within ascii))
