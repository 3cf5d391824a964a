-- Arguments: what is written is read, and only that.
use Rattle.std.proofs.Common.{◌≡◌, ℕ, zero, suc, true, false, if◌then◌else◌, [], ◌∷◌, ◌++◌, codes, Option, Some, None, refl, ap, ◌∙◌, subst, arith}
use Rattle.std.specs.Char.{is_ascii_digit}
use Rattle.std.specs.Str.{bytes_eq, is_utf8}
use Rattle.std.proofs.lemmas.Bool.Decides.{nat_tests}
use Rattle.std.proofs.lemmas.Slice.Eq.{bytes_eq-Decides}
use Rattle.hex.specs.Hex.{decode_pairs, is_hex_digit}
use Rattle.base_bytes.specs.Words.{begins_with_letter, is_word, is_word_byte}
use Rattle.base_bytes.specs.declared.arg.Arg.{Arg}
use Rattle.base_bytes.specs.declared.arg.Arg.TheVariants as arg
use Rattle.script.specs.Arguments.{ArgumentOver, Field, Within}
use Rattle.script.specs.Pieces.{Between, Bytes, Mark, begins_with}
use Rattle.script.specs.Tokens.{Number, Word, author_of, bytes_of_hex, id_of_hex, int_of, is_replica_byte, passing}
use Rattle.script.specs.working.Readers.{Reader, after, chosen, listed, mark_at, run_at, unspaced}
use Rattle.script.specs.working.ReadingArguments.{argument_over, argument_within, behind_word, constant, field_at, ident_at, making, plain_argument, some_from, worded_argument}
use Rattle.script.specs.working.ReadingTokens.{number_at, quoted_at, text_from, word_at}
use Rattle.script.proofs.ArgumentFacts.{AreParts, behind_opens, field_shorter, within_parts, word_is, word_letter, word_part}
use Rattle.script.proofs.Ends.{Ends, ends_at_mark, no_colon_before_end, no_mark_before_end, no_path_before_end, no_path_before_mark, number_no_hex, one_mark}
use Rattle.script.proofs.ListLaws.{IsReadBefore, listed_finds, listed_reads}
use Rattle.script.proofs.MarkLaws.{after_finds, after_reads, mark_finds, mark_reads, other_first, other_second}
use Rattle.script.proofs.Options.{bind_then, chosen_then, either_then, if_then, map_then, none_some, same_some}
use Rattle.script.proofs.RunLaws.{says_begins, says_finds, says_reads}
use Rattle.script.proofs.TokenLaws.{behind_finds, behind_reads, number_finds, number_reads, quoted_finds, quoted_reads}

-- what is written is read where an end follows
abbrev pub AreRead : Between Arg → Reader Arg → Type 0
AreRead X read = (bytes rest : Bytes) (a : Arg) → X bytes rest a → Ends rest → read bytes ≡ Some (a, rest)

abbrev pub AreFound : Between Arg → Reader Arg → Type 0
AreFound X read = (bytes : Bytes) (found : Arg × Bytes) → read bytes ≡ Some found → X bytes found.1 found.0

pub word_reads : (bytes rest w : Bytes) → Word bytes rest w → word_at bytes ≡ Some (w, rest)
word_reads bytes rest w is = says_reads is_word_byte (passing is_word) bytes rest w is

pub word_finds : (bytes : Bytes) (found : Bytes × Bytes) → word_at bytes ≡ Some found → Word bytes found.1 found.0
word_finds bytes found is = says_finds is_word_byte (passing is_word) bytes found is

-- no digits write no id
no_id : id_of_hex [] ≡ None
unfolding decode_pairs
no_id = refl

-- the word `id` and a colon directly behind it
word_and_colon : (bytes mid w next : Bytes) → Word bytes mid w → mid ≡ codes ":" ++ next → w ≡ codes "id" → bytes ≡ codes "id:" ++ next
word_and_colon bytes mid w next word colon same =
    word.is_run.whole ∙ ap (λ run. run ++ mid) ((word_is word.run w word.said).0 ∙ same) ∙ ap (λ m. codes "id" ++ m) colon

digit_no_letter : (bytes : Bytes) → begins_with is_ascii_digit bytes ≡ true → begins_with_letter bytes ≡ false
digit_no_letter [] begins = refl
digit_no_letter (c ∷ cs) begins = grind (arith, nat_tests, begins)

digit_no_mark : (c : ℕ) (bytes : Bytes) → is_ascii_digit c ≡ false → begins_with is_ascii_digit bytes ≡ true → after (c ∷ []) bytes ≡ None
digit_no_mark c bytes fails begins = other_first is_ascii_digit c [] bytes begins fails

module _ (Below : Between Arg) (one : Reader Arg) where
  module _ (parts : AreParts Below) (reads : AreRead Below one) where
    worded : (bytes mid w : Bytes) (found : Option (Arg × Bytes)) → Word bytes mid w → chosen (after (codes "::") mid) (behind_word one w mid) (λ next. making (arg.Variant w) (word_at next)) ≡ found
        → argument_over one bytes ≡ found
    worded bytes mid w found is more = rw (word_letter bytes mid w is, word_reads bytes mid w is) more

    constant_reads : (bytes rest w : Bytes) (a : Arg) → Word bytes rest w → constant w rest ≡ Some (a, rest) → Ends rest → argument_over one bytes ≡ Some (a, rest)
    constant_reads bytes rest w a is reads_so ends = worded bytes rest w (Some (a, rest)) is
        (rw (no_path_before_end rest ends, no_mark_before_end 123 rest refl ends, no_mark_before_end 40 rest refl ends, no_colon_before_end rest ends) reads_so)

    plain_number : (bytes rest : Bytes) (n : _) → Number bytes rest n → Ends rest → argument_over one bytes ≡ Some (arg.Int n, rest)
    plain_number bytes rest n (Number.plain is) ends =
        let begins = says_begins is_ascii_digit (int_of false) bytes rest n refl is in
        rw (digit_no_letter bytes begins, digit_no_mark 34 bytes refl begins, digit_no_mark 64 bytes refl begins, number_no_hex bytes rest is.run is.is_run ends)
        (ap (making arg.Int) (number_reads bytes rest n (Number.plain is)))
    plain_number bytes rest n (Number.negative {digits = digits} begins is) ends =
        rw begins (ap (making arg.Int) (number_reads (codes "-" ++ digits) rest n (Number.negative refl is)))

    field_reads : (bytes rest : Bytes) (f : Bytes × Arg) → Field Below bytes rest f → Ends rest → field_at one bytes ≡ Some (f, rest)
    field_reads bytes rest f is ends =
        rw (
          behind_reads Word word_at bytes is.behind f.0 (λ bytes w. word_reads bytes is.behind f.0 w) is.name,
          mark_reads (codes ":") is.behind is.inner is.colon,
          behind_reads Below one is.inner rest f.1 (λ bytes x. reads bytes rest f.1 x ends) is.value,
        ) refl

    fields_are_read : IsReadBefore (codes "}") (Field Below) (field_at one) Ends
    fields_are_read = record {
      reads = field_reads;
      opens = λ bytes rest f is. behind_opens Word 125 bytes is.behind f.0 refl (λ bytes w. (word_part bytes is.behind f.0 w).begins) is.name;
      shorter = field_shorter Below parts;
    }

    pub argument_reads : AreRead (ArgumentOver Below) (argument_over one)
    unfolding unspaced
    argument_reads bytes rest a (ArgumentOver.number {n = n} is) ends = plain_number bytes rest n is ends
    argument_reads bytes rest a (ArgumentOver.yes is) ends = constant_reads bytes rest (codes "true") (arg.Bool true) is refl ends
    argument_reads bytes rest a (ArgumentOver.no is) ends = constant_reads bytes rest (codes "false") (arg.Bool false) is refl ends
    argument_reads bytes rest a (ArgumentOver.nothing is) ends = constant_reads bytes rest (codes "None") arg.Nothing is refl ends
    argument_reads bytes rest a (ArgumentOver.text {mid = mid} {text = text} begins is utf8) ends =
        rw begins (rw (quoted_reads mid rest text is, utf8) refl)
    argument_reads bytes rest a (ArgumentOver.raw {mid = mid} {raw = raw} begins is) ends =
        rw begins (ap (making arg.Raw) (says_reads is_hex_digit bytes_of_hex mid rest raw is))
    argument_reads bytes rest a (ArgumentOver.author {mid = mid} {id = id} begins is) ends =
        rw begins (ap (making arg.Ident) (says_reads is_replica_byte author_of mid rest id is))
    argument_reads bytes rest a (ArgumentOver.id {mid = mid} {id = id} begins is) ends =
        rw (begins, other_second is_hex_digit 58 58 58 mid (says_begins is_hex_digit id_of_hex mid rest id no_id is) refl)
        (ap (making arg.Ident) (says_reads is_hex_digit id_of_hex mid rest id is))
    argument_reads bytes rest a (ArgumentOver.variant {mid = mid} {next = next} {name = name} {variant = variant} first path second) ends =
        worded bytes mid name (Some (a, rest)) first (rw (after_reads (codes "::") mid next path, word_reads next rest variant second) refl)
    argument_reads bytes rest a (ArgumentOver.some {mid = mid} {inner = inner} {behind = behind} {a = b} word opens is closes) ends =
        worded bytes mid (codes "Some") (Some (a, rest)) word
        (rw (no_path_before_mark 40 mid inner refl refl opens, one_mark 40 123 mid inner refl opens, mark_reads (codes "(") mid inner opens)
        (rw (behind_reads Below one inner behind b (λ bytes x. reads bytes behind b x (ends_at_mark 41 behind rest refl closes)) is, mark_reads (codes ")") behind rest closes) refl))
    argument_reads bytes rest a (ArgumentOver.fields {mid = mid} {inner = inner} {name = name} {fields = fs} word opens is) ends =
        worded bytes mid name (Some (a, rest)) word
        (rw (no_path_before_mark 123 mid inner refl refl opens, mark_reads (codes "{") mid inner opens)
        (ap (making (arg.Fields name))
        (listed_reads (codes "}") (Field Below) (field_at one) Ends fields_are_read (omega arith) (λ mid rest is. ends_at_mark 125 mid rest refl is) (λ mid rest is. ends_at_mark 44 mid rest refl is) (λ rest. refl) inner rest fs is)))

  module _ (finds : AreFound Below one) where
    abbrev Found : Bytes → Arg × Bytes → Type 0
    Found bytes found = ArgumentOver Below bytes found.1 found.0

    field_finds : (bytes : Bytes) (found : (Bytes × Arg) × Bytes) → field_at one bytes ≡ Some found → Field Below bytes found.1 found.0
    field_finds bytes found is = bind_then (word_at (unspaced bytes)) _ found is (λ name names e.
        bind_then (mark_at (codes ":") name.1) _ found e (λ mid colon e.
        map_then (one (unspaced mid)) _ found e (λ a reads same.
        subst (λ (f : (Bytes × Arg) × Bytes). Field Below bytes f.1 f.0) same (record {
          behind = name.1;
          inner = mid;
          name = behind_finds Word bytes name.1 name.0 (word_finds (unspaced bytes) name names);
          colon = mark_finds (codes ":") name.1 mid colon;
          value = behind_finds Below mid a.1 a.0 (finds (unspaced mid) a reads);
        }))))

    quoted_found : (bytes mid : Bytes) (found : Arg × Bytes) → bytes ≡ codes "\"" ++ mid → making arg.Str (quoted_at mid) ≡ Some found → Found bytes found
    quoted_found bytes mid found begins is = map_then (quoted_at mid) _ found is (λ text reads same.
        bind_then (text_from false mid) _ text reads (λ t written e.
        if_then (is_utf8 t.0) t text e (λ utf8 equal.
        subst (Found bytes) (ap (λ (t : Bytes × Bytes). (arg.Str t.0, t.1)) equal ∙ same) (ArgumentOver.text begins (quoted_finds mid t written) utf8))))

    plain_finds : (bytes : Bytes) (found : Arg × Bytes) → plain_argument bytes ≡ Some found → Found bytes found
    plain_finds bytes found is =
        chosen_then (after (codes "\"") bytes) _ _ (Some found) is
        (λ none e. chosen_then (after (codes "@") bytes) _ _ (Some found) e
        (λ none e. chosen_then (after (codes "0x") bytes) _ _ (Some found) e
        (λ none e. map_then (number_at bytes) _ found e (λ n reads same. subst (Found bytes) same (ArgumentOver.number (number_finds bytes n reads))))
        (λ mid begins e. map_then (run_at is_hex_digit bytes_of_hex mid) _ found e (λ raw reads same.
        subst (Found bytes) same (ArgumentOver.raw (after_finds (codes "0x") bytes mid begins) (says_finds is_hex_digit bytes_of_hex mid raw reads)))))
        (λ mid begins e. map_then (run_at is_replica_byte author_of mid) _ found e (λ id reads same.
        subst (Found bytes) same (ArgumentOver.author (after_finds (codes "@") bytes mid begins) (says_finds is_replica_byte author_of mid id reads)))))
        (λ mid begins e. quoted_found bytes mid found (after_finds (codes "\"") bytes mid begins) e)

    constant_finds : (bytes mid w : Bytes) (found : Arg × Bytes) → Word bytes mid w → constant w mid ≡ Some found → Found bytes found
    constant_finds bytes mid w found word is =
        either_then (bytes_eq w (codes "true")) (Some (arg.Bool true, mid)) _ (Some found) is
        (λ same e. subst (Found bytes) (same_some (arg.Bool true, mid) found e) (ArgumentOver.yes (subst (Word bytes mid) ((bytes_eq-Decides w (codes "true")).0 same) word)))
        (λ other e. either_then (bytes_eq w (codes "false")) (Some (arg.Bool false, mid)) _ (Some found) e
        (λ same e. subst (Found bytes) (same_some (arg.Bool false, mid) found e) (ArgumentOver.no (subst (Word bytes mid) ((bytes_eq-Decides w (codes "false")).0 same) word)))
        (λ other e. either_then (bytes_eq w (codes "None")) (Some (arg.Nothing, mid)) None (Some found) e
        (λ same e. subst (Found bytes) (same_some (arg.Nothing, mid) found e) (ArgumentOver.nothing (subst (Word bytes mid) ((bytes_eq-Decides w (codes "None")).0 same) word)))
        (λ other e. none_some e)))

    some_finds : (bytes mid w inner : Bytes) (found : Arg × Bytes) → Word bytes mid w → Mark (codes "(") mid inner → (if bytes_eq w (codes "Some") then some_from one inner else None) ≡ Some found → Found bytes found
    some_finds bytes mid w inner found word opens is = either_then (bytes_eq w (codes "Some")) (some_from one inner) None (Some found) is
        (λ same e. bind_then (one (unspaced inner)) _ found e (λ a reads e.
        map_then (mark_at (codes ")") a.1) _ found e (λ rest closes equal.
        subst (Found bytes) equal (ArgumentOver.some (subst (Word bytes mid) ((bytes_eq-Decides w (codes "Some")).0 same) word) opens (behind_finds Below inner a.1 a.0 (finds (unspaced inner) a reads)) (mark_finds (codes ")") a.1 rest closes)))))
        (λ other e. none_some e)

    id_finds : (bytes mid w next : Bytes) (found : Arg × Bytes) → Word bytes mid w → mid ≡ codes ":" ++ next → ident_at w next ≡ Some found → Found bytes found
    id_finds bytes mid w next found word colon is = either_then (bytes_eq w (codes "id")) (making arg.Ident (run_at is_hex_digit id_of_hex next)) None (Some found) is
        (λ same e. map_then (run_at is_hex_digit id_of_hex next) _ found e (λ id reads equal.
        subst (Found bytes) equal (ArgumentOver.id (word_and_colon bytes mid w next word colon ((bytes_eq-Decides w (codes "id")).0 same)) (says_finds is_hex_digit id_of_hex next id reads))))
        (λ other e. none_some e)

    fields_finds : (bytes mid w inner : Bytes) (found : Arg × Bytes) → Word bytes mid w → Mark (codes "{") mid inner → making (arg.Fields w) (listed (codes "}") (field_at one) inner) ≡ Some found → Found bytes found
    fields_finds bytes mid w inner found word opens is = map_then (listed (codes "}") (field_at one) inner) _ found is (λ fs reads same.
        subst (Found bytes) same (ArgumentOver.fields word opens (listed_finds (codes "}") (Field Below) (field_at one) field_finds inner fs reads)))

    worded_finds : (bytes : Bytes) (found : Arg × Bytes) → worded_argument one bytes ≡ Some found → Found bytes found
    worded_finds bytes found is = bind_then (word_at bytes) _ found is (λ w names e.
        let word = word_finds bytes w names in
        chosen_then (after (codes "::") w.1) _ _ (Some found) e
        (λ none e. chosen_then (mark_at (codes "{") w.1) _ _ (Some found) e
        (λ none e. chosen_then (mark_at (codes "(") w.1) _ _ (Some found) e
        (λ none e. chosen_then (after (codes ":") w.1) _ _ (Some found) e
        (λ none e. constant_finds bytes w.1 w.0 found word e)
        (λ next colon e. id_finds bytes w.1 w.0 next found word (after_finds (codes ":") w.1 next colon) e))
        (λ inner opens e. some_finds bytes w.1 w.0 inner found word (mark_finds (codes "(") w.1 inner opens) e))
        (λ inner opens e. fields_finds bytes w.1 w.0 inner found word (mark_finds (codes "{") w.1 inner opens) e))
        (λ next path e. map_then (word_at next) _ found e (λ v reads same.
        subst (Found bytes) same (ArgumentOver.variant word (after_finds (codes "::") w.1 next path) (word_finds next v reads)))))

    pub argument_finds : AreFound (ArgumentOver Below) (argument_over one)
    argument_finds bytes found is = either_then (begins_with_letter bytes) (worded_argument one bytes) (plain_argument bytes) (Some found) is
        (λ letter e. worded_finds bytes found e) (λ other e. plain_finds bytes found e)

pub within_reads : (n : ℕ) → AreRead (Within n) (argument_within n)
unfolding argument_within
within_reads zero bytes rest a is ends = absurd is
within_reads (suc n) bytes rest a is ends = argument_reads (Within n) (argument_within n) (within_parts n) (within_reads n) bytes rest a is ends

pub within_finds : (n : ℕ) → AreFound (Within n) (argument_within n)
unfolding argument_within
within_finds zero bytes found is = none_some is
within_finds (suc n) bytes found is = argument_finds (Within n) (argument_within n) (within_finds n) bytes found is
