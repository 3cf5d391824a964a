-- What is printed of a value is an argument that is this value.
use Rattle.std.proofs.Common.{◌≡◌, ℕ, zero, suc, ℤ, ◌<◌, ◌^◌, ◌==◌, Bool, true, false, List, [], ◌∷◌, ◌++◌, length, codes, Option, Some, refl, sym, ap, ◌∙◌, subst, arith, true≢false, append_assoc, append-nil}
use Rattle.std.specs.Prelude.{pos, negsuc}
use Rattle.std.specs.Char.{digit_value, is_ascii_digit}
use Rattle.std.specs.Cmp.{unsigned_Decides}
use Rattle.std.specs.Fmt.{decimal, signed_decimal}
use Rattle.std.specs.List.{flat_map, list_all}
use Rattle.std.specs.Str.{byte}
use Rattle.std.specs.Str.Parse.{AllDigits, digits_value}
use Rattle.std.proofs.lemmas.Bool.{and_parts}
use Rattle.std.proofs.lemmas.Bool.Decides.{nat_tests}
use Rattle.std.proofs.lemmas.Fmt.{decimal_is_IsNumeral}
use Rattle.std.proofs.lemmas.List.Sums.{list_all-from_AllPass}
use Rattle.hex.specs.Hex.{IsBytes, encode_lower, is_hex_digit}
use Rattle.hex.proofs.HexLemmas.{decode_of-encode_lower, decode_of-ok}
use Rattle.base_bytes.specs.Values.{fits_int}
use Rattle.base_bytes.specs.Words.{begins_with_letter, is_word, is_word_byte}
use Rattle.base_bytes.specs.declared.arg.Arg.{Arg, fold-roll-Arg, map-Arg, roll-Arg}
use Rattle.base_bytes.specs.declared.arg.Arg.TheOpen.{Arg-F}
use Rattle.base_bytes.specs.declared.arg.Arg.TheVariants as arg
use Rattle.script_texts.specs.Values.{field_texts, names_from, quoted_byte, struct_fields, truth_word, value_layer, value_text}
use Rattle.script.specs.Arguments.{ArgumentOver, Field, Within}
use Rattle.script.specs.Pieces.{Between, Bytes, Listed, Members, Says, Spaces, begins_with, is_space}
use Rattle.script.specs.Printing.{AreFields, IsPlain, IsPlainOver, IsReadAsPrinted}
use Rattle.script.specs.Tokens.{Number, Quoted, Word, bytes_of_hex, decoded, id_of_hex, int_of, passing}
use Rattle.script.proofs.ArgumentFacts.{AreParts, is_first, within_parts}
use Rattle.script.proofs.MarkLaws.{begins_more}

-- the text of a value, by its form
text_of : (y : Arg-F Arg) (v : Arg) → roll-Arg y ≡ v → value_text v ≡ value_layer (map-Arg Arg Bytes value_text y)
text_of y v rolls = ap value_text (sym rolls) ∙ fold-roll-Arg Bytes value_layer y

fails_so : (b : Bool) → (b ≡ true → ⊥) → b ≡ false
fails_so true fails = absurd (fails refl)
fails_so false fails = refl

-- where no letter, digit or `_` stands, no byte of a kind stands that is made of these
none_first : (p : ℕ → Bool) → ((c : ℕ) → p c ≡ true → is_word_byte c ≡ true) → (rest : Bytes) → begins_with is_word_byte rest ≡ false → begins_with p rest ≡ false
none_first p follows rest stops = fails_so (begins_with p rest) (λ begins. true≢false (sym (begins_more p is_word_byte follows rest begins) ∙ stops))

digit_is_word : (c : ℕ) → is_ascii_digit c ≡ true → is_word_byte c ≡ true
digit_is_word c is = grind (arith, nat_tests, is)

hex_is_word : (c : ℕ) → is_hex_digit c ≡ true → is_word_byte c ≡ true
hex_is_word c is = grind (arith, nat_tests, is)

says_of : {A : Type 0} (p : ℕ → Bool) (says : Bytes → Option A) (run rest : Bytes) (a : A) → list_all p run ≡ true → begins_with p rest ≡ false → says run ≡ Some a → Says p says (run ++ rest) rest a
says_of p says run rest a each ends said = record { run = run; is_run = record { whole = refl; each = each; ends = ends }; said = said }

word_of : (w rest : Bytes) → is_word w ≡ true → begins_with is_word_byte rest ≡ false → Word (w ++ rest) rest w
word_of w rest good ends =
    let all = and_parts _ (list_all is_word_byte w) (and_parts _ _ good).0 in
    says_of is_word_byte (passing is_word) w rest w all.1 ends (rw good refl)

-- no space stands there, or one
no_space : (bytes : Bytes) → begins_with is_space bytes ≡ false → Spaces bytes bytes
no_space bytes none = record { gap = []; is_run = record { whole = refl; each = refl; ends = none } }

one_space : (bytes : Bytes) → begins_with is_space bytes ≡ false → Spaces (32 ∷ bytes) bytes
one_space bytes none = record { gap = 32 ∷ []; is_run = record { whole = refl; each = refl; ends = none } }

first_no_space : (c : ℕ) → is_first c ≡ true → is_space c ≡ false
first_no_space c is = grind (arith, nat_tests, is)

begins_no_space : (bytes : Bytes) → begins_with is_first bytes ≡ true → begins_with is_space bytes ≡ false
begins_no_space [] begins = refl
begins_no_space (c ∷ bytes) begins = first_no_space c begins

letter_no_space : (w rest : Bytes) → begins_with_letter w ≡ true → begins_with is_space (w ++ rest) ≡ false
letter_no_space [] rest letter = absurd (true≢false (sym letter))
letter_no_space (c ∷ w) rest letter = grind (arith, nat_tests, letter)

-- digits
digit_of : (c : ℕ) → digit_value c < 10 → is_ascii_digit c ≡ true
digit_of c is = grind (arith, nat_tests, is)

digits_of : (ds : Bytes) → AllDigits 10 ds → list_all is_ascii_digit ds ≡ true
digits_of [] are = refl
digits_of (c ∷ ds) are = rw (digit_of c are.0) (digits_of ds are.1)

some_digits : (ds : Bytes) → 0 < length ds → (length ds == 0) ≡ false
some_digits ds some = grind (arith, nat_tests, some)

below : (n : ℕ) → fits_int (pos n) ≡ true → n < 2 ^ 63
below n is = grind (arith, nat_tests, is)

below_negative : (n : ℕ) → fits_int (negsuc n) ≡ true → n < 2 ^ 63
below_negative n is = grind (arith, nat_tests, is)

plain_said : (n : ℕ) (ds : Bytes) → 0 < length ds → digits_value 10 ds ≡ n → fits_int (pos n) ≡ true → int_of false ds ≡ Some (pos n)
plain_said n ds some value fits = rw (some_digits ds some, value, fits) refl

negative_said : (n : ℕ) (ds : Bytes) → 0 < length ds → digits_value 10 ds ≡ suc n → fits_int (negsuc n) ≡ true → int_of true ds ≡ Some (negsuc n)
negative_said n ds some value fits = rw (some_digits ds some, value, fits) refl

int_of_text : (n : ℤ) (rest : Bytes) → fits_int n ≡ true → begins_with is_ascii_digit rest ≡ false → Number (signed_decimal n ++ rest) rest n
int_of_text (pos n) rest fits ends =
    let lt = below n fits in
    let wide : n < 2 ^ 64 = omega (arith, lt) in
    let is = decimal_is_IsNumeral n wide in
    Number.plain (says_of is_ascii_digit (int_of false) (decimal n) rest (pos n) (digits_of (decimal n) is.0.1) ends (plain_said n (decimal n) is.0.0 is.1 fits))
int_of_text (negsuc n) rest fits ends =
    let lt = below_negative n fits in
    let wide : suc n < 2 ^ 64 = omega (arith, lt) in
    let is = decimal_is_IsNumeral (suc n) wide in
    Number.negative refl (says_of is_ascii_digit (int_of true) (decimal (suc n)) rest (negsuc n) (digits_of (decimal (suc n)) is.0.1) ends (negative_said n (decimal (suc n)) is.0.0 is.1 fits))

-- bytes
hex_digits : (bytes : Bytes) → IsBytes bytes → list_all is_hex_digit (encode_lower bytes) ≡ true
hex_digits bytes are = list_all-from_AllPass is_hex_digit (encode_lower bytes) ((decode_of-ok (encode_lower bytes) bytes (decode_of-encode_lower bytes are)).1)

hex_said : (bytes : Bytes) → IsBytes bytes → bytes_of_hex (encode_lower bytes) ≡ Some bytes
hex_said bytes are = ap decoded (decode_of-encode_lower bytes are)

is_32 : (n : ℕ) → n ≡ 32 → (n == 32) ≡ true
is_32 n is = grind (arith, nat_tests, is)

id_said : (id : Bytes) → IsBytes id → length id ≡ 32 → id_of_hex (encode_lower id) ≡ Some id
id_said id are length = rw (hex_said id are, is_32 _ length) refl

-- texts
quoted_more : (slash quote newline : Bool) (c : ℕ) (more rest text : Bytes) → (c == byte "\\") ≡ slash → (c == byte "\"") ≡ quote → (c == byte "\n") ≡ newline
    → Quoted more rest text → Quoted (quoted_byte c ++ more) rest (c ∷ text)
quoted_more true quote newline c more rest text s q n is =
    rw s (subst (λ (d : ℕ). Quoted (92 ∷ 92 ∷ more) rest (d ∷ text)) (sym ((unsigned_Decides c (byte "\\")).0 s)) (Quoted.escape {c = 92} {meant = 92} refl is))
quoted_more false true newline c more rest text s q n is =
    rw (s, q) (subst (λ (d : ℕ). Quoted (92 ∷ 34 ∷ more) rest (d ∷ text)) (sym ((unsigned_Decides c (byte "\"")).0 q)) (Quoted.escape {c = 34} {meant = 34} refl is))
quoted_more false false true c more rest text s q n is =
    rw (s, q, n) (subst (λ (d : ℕ). Quoted (92 ∷ 110 ∷ more) rest (d ∷ text)) (sym ((unsigned_Decides c (byte "\n")).0 n)) (Quoted.escape {c = 110} {meant = 10} refl is))
quoted_more false false false c more rest text s q n is = rw (s, q, n) (Quoted.plain q s is)

quoted_of : (text rest : Bytes) → Quoted (flat_map quoted_byte text ++ 34 ∷ rest) rest text
quoted_of [] rest = Quoted.closed
quoted_of (c ∷ text) rest =
    subst (λ (bytes : Bytes). Quoted bytes rest (c ∷ text)) (sym (append_assoc (quoted_byte c) (flat_map quoted_byte text) (34 ∷ rest)))
    (quoted_more (c == byte "\\") (c == byte "\"") (c == byte "\n") c (flat_map quoted_byte text ++ 34 ∷ rest) rest text refl refl refl (quoted_of text rest))

regrouped : (a b c d e : Bytes) → (((a ++ b) ++ c) ++ d) ++ e ≡ a ++ (b ++ (c ++ (d ++ e)))
regrouped a b c d e = simp append_assoc

-- what stands behind the value of a field: the further fields, and the mark that closes them
abbrev behind_value : List (Bytes × Arg) → Bytes → Bytes
behind_value fields rest = names_from (codes ", ") (field_texts fields) ++ (codes " }" ++ rest)

value_ends : (fields : List (Bytes × Arg)) (rest : Bytes) → begins_with is_word_byte (behind_value fields rest) ≡ false
value_ends [] rest = refl
value_ends (f ∷ fields) rest = refl

module _ (P : Arg → Type 0) (Below : Between Arg) (parts : AreParts Below)
    (reads : (a : Arg) → P a → (rest : Bytes) → begins_with is_word_byte rest ≡ false → Below (value_text a ++ rest) rest a) where
  behind_of : (a : Arg) (rest : Bytes) → P a → begins_with is_word_byte rest ≡ false → begins_with is_space (value_text a ++ rest) ≡ false
  behind_of a rest is ends = begins_no_space (value_text a ++ rest) ((parts (value_text a ++ rest) rest a (reads a is rest ends)).begins)

  field_of : (name : Bytes) (a : Arg) (rest : Bytes) → is_word name ≡ true → P a → begins_with is_word_byte rest ≡ false
      → Field Below (32 ∷ (name ++ (codes ": " ++ (value_text a ++ rest)))) rest (name, a)
  field_of name a rest good is ends =
      let letter = (and_parts (begins_with_letter name) (list_all is_word_byte name) (and_parts _ _ good).0).0 in
      record {
        behind = codes ": " ++ (value_text a ++ rest);
        inner = codes " " ++ (value_text a ++ rest);
        name = record { inner = name ++ (codes ": " ++ (value_text a ++ rest)); spaces = one_space _ (letter_no_space name _ letter); is = word_of name _ good refl };
        colon = record { inner = codes ": " ++ (value_text a ++ rest); spaces = no_space _ refl; is = refl };
        value = record { inner = value_text a ++ rest; spaces = one_space _ (behind_of a rest is ends); is = reads a is rest ends };
      }

  comma : (name : Bytes) (a : Arg) (fields : List (Bytes × Arg)) (rest : Bytes)
      → behind_value ((name, a) ∷ fields) rest ≡ codes "," ++ (32 ∷ (name ++ (codes ": " ++ (value_text a ++ behind_value fields rest))))
  comma name a fields rest = ap (λ bytes. 44 ∷ 32 ∷ bytes) (regrouped name (codes ": ") (value_text a) (names_from (codes ", ") (field_texts fields)) (codes " }" ++ rest))

  fields_of : (name : Bytes) (a : Arg) (fields : List (Bytes × Arg)) (rest : Bytes) → is_word name ≡ true → P a → AreFields P fields
      → Members (codes "}") (Field Below) (32 ∷ (name ++ (codes ": " ++ (value_text a ++ behind_value fields rest)))) rest ((name, a) ∷ fields)
  fields_of name a fields rest good is (AreFields.none) =
      Members.last (field_of name a (behind_value [] rest) good is refl) (record { inner = codes "}" ++ rest; spaces = one_space _ refl; is = refl })
  fields_of name a fields rest good is (AreFields.more {name = next} {a = b} {fields = more} fine it are) =
      Members.more (field_of name a (behind_value ((next, b) ∷ more) rest) good is refl)
      (record { inner = behind_value ((next, b) ∷ more) rest; spaces = no_space _ refl; is = comma next b more rest })
      (fields_of next b more rest fine it are)

  inside : (first : Bytes) (a : Arg) (more : List (Bytes × Arg)) (rest : Bytes)
      → (names_from [] (field_texts ((first, a) ∷ more)) ++ codes " }") ++ rest ≡ first ++ (codes ": " ++ (value_text a ++ behind_value more rest))
  inside first a more rest =
      append_assoc (names_from [] (field_texts ((first, a) ∷ more))) (codes " }") rest
      ∙ regrouped first (codes ": ") (value_text a) (names_from (codes ", ") (field_texts more)) (codes " }" ++ rest)

  from : (y : Arg-F Arg) (v : Arg) (rest written : Bytes) → roll-Arg y ≡ v → value_layer (map-Arg Arg Bytes value_text y) ++ rest ≡ written → ArgumentOver Below written rest v → ArgumentOver Below (value_text v ++ rest) rest v
  from y v rest written rolls same is = subst (λ (bytes : Bytes). ArgumentOver Below bytes rest v) (sym (ap (λ t. t ++ rest) (text_of y v rolls) ∙ same)) is

  truth : (b : Bool) (rest : Bytes) → begins_with is_word_byte rest ≡ false → ArgumentOver Below (truth_word b ++ rest) rest (arg.Bool b)
  truth true rest ends = ArgumentOver.yes (word_of (codes "true") rest refl ends)
  truth false rest ends = ArgumentOver.no (word_of (codes "false") rest refl ends)

  struct : (name : Bytes) (fields : List (Bytes × Arg)) (rest : Bytes) → is_word name ≡ true → AreFields P fields → ArgumentOver Below ((name ++ struct_fields (field_texts fields)) ++ rest) rest (arg.Fields name fields)
  struct name fields rest good (AreFields.none) =
      subst (λ (bytes : Bytes). ArgumentOver Below bytes rest (arg.Fields name [])) (sym (append_assoc name (codes " {}") rest))
      (ArgumentOver.fields (word_of name (codes " {}" ++ rest) good refl) (record { inner = codes "{}" ++ rest; spaces = one_space _ refl; is = refl })
      (Listed.none (record { inner = codes "}" ++ rest; spaces = no_space _ refl; is = refl })))
  struct name fields rest good (AreFields.more {name = first} {a = a} {fields = more} fine is are) =
      subst (λ (bytes : Bytes). ArgumentOver Below bytes rest (arg.Fields name ((first, a) ∷ more)))
      (sym (append_assoc name (struct_fields (field_texts ((first, a) ∷ more))) rest ∙ ap (λ t. name ++ (32 ∷ 123 ∷ 32 ∷ t)) (inside first a more rest)))
      (ArgumentOver.fields (word_of name (codes " { " ++ _) good refl) (record { inner = codes "{ " ++ _; spaces = one_space _ refl; is = refl })
      (Listed.some (fields_of first a more rest fine is are)))

  plain_reads : (a : Arg) → IsPlainOver P a → (rest : Bytes) → begins_with is_word_byte rest ≡ false → ArgumentOver Below (value_text a ++ rest) rest a
  plain_reads v (IsPlainOver.int {n = n} fits) rest ends =
      from (Arg-F.Int n) v rest _ (arg.rolls-Int n) refl (ArgumentOver.number (int_of_text n rest fits (none_first is_ascii_digit digit_is_word rest ends)))
  plain_reads v (IsPlainOver.bool {b = b}) rest ends = from (Arg-F.Bool b) v rest _ (arg.rolls-Bool b) refl (truth b rest ends)
  plain_reads v (IsPlainOver.text {text = text} utf8) rest ends =
      from (Arg-F.Str text) v rest _ (arg.rolls-Str text) (ap (λ t. 34 ∷ t) (append_assoc (flat_map quoted_byte text) (codes "\"") rest)) (ArgumentOver.text refl (quoted_of text rest) utf8)
  plain_reads v (IsPlainOver.raw {raw = raw} are) rest ends =
      from (Arg-F.Raw raw) v rest _ (arg.rolls-Raw raw) (ap (λ t. 48 ∷ 120 ∷ (t ++ rest)) (append-nil (encode_lower raw)))
      (ArgumentOver.raw refl (says_of is_hex_digit bytes_of_hex (encode_lower raw) rest raw (hex_digits raw are) (none_first is_hex_digit hex_is_word rest ends) (hex_said raw are)))
  plain_reads v (IsPlainOver.id {id = id} are long) rest ends =
      from (Arg-F.Ident id) v rest _ (arg.rolls-Ident id) (ap (λ t. 105 ∷ 100 ∷ 58 ∷ (t ++ rest)) (append-nil (encode_lower id)))
      (ArgumentOver.id refl (says_of is_hex_digit id_of_hex (encode_lower id) rest id (hex_digits id are) (none_first is_hex_digit hex_is_word rest ends) (id_said id are long)))
  plain_reads v (IsPlainOver.variant {name = name} {variant = variant} good fine) rest ends =
      from (Arg-F.Variant name variant) v rest _ (arg.rolls-Variant name variant)
      (append_assoc name (codes "::" ++ (variant ++ [])) rest ∙ ap (λ t. name ++ (58 ∷ 58 ∷ (t ++ rest))) (append-nil variant))
      (ArgumentOver.variant (word_of name (codes "::" ++ (variant ++ rest)) good refl) refl (word_of variant rest fine ends))
  plain_reads v (IsPlainOver.nothing) rest ends = from Arg-F.Nothing v rest _ arg.rolls-Nothing refl (ArgumentOver.nothing (word_of (codes "None") rest refl ends))
  plain_reads v (IsPlainOver.some {a = a} is) rest ends =
      from (Arg-F.Some a) v rest _ (arg.rolls-Some a) (ap (λ t. codes "Some(" ++ t) (append_assoc (value_text a) (codes ")") rest))
      (ArgumentOver.some (word_of (codes "Some") (codes "(" ++ (value_text a ++ (codes ")" ++ rest))) refl refl)
      (record { inner = codes "(" ++ (value_text a ++ (codes ")" ++ rest)); spaces = no_space _ refl; is = refl })
      (record { inner = value_text a ++ (codes ")" ++ rest); spaces = no_space _ (behind_of a (codes ")" ++ rest) is refl); is = reads a is (codes ")" ++ rest) refl })
      (record { inner = codes ")" ++ rest; spaces = no_space _ refl; is = refl }))
  plain_reads v (IsPlainOver.fields {name = name} {fields = fields} good are) rest ends =
      from (Arg-F.Fields name fields) v rest _ (arg.rolls-Fields name fields) refl (struct name fields rest good are)

pub printed_is_read : (deep : ℕ) (a : Arg) → IsReadAsPrinted deep a
printed_is_read zero a is rest ends = absurd is
printed_is_read (suc deep) a is rest ends = plain_reads (IsPlain deep) (Within deep) (within_parts deep) (λ b plain. printed_is_read deep b plain) a is rest ends
