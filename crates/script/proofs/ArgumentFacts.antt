-- Where arguments begin, and how long they are.
use Rattle.std.proofs.Common.{◌≡◌, ℕ, zero, suc, ◌≤◌, ◌==◌, ◌||◌, Bool, true, false, List, [], ◌∷◌, ◌++◌, length, codes, Some, None, refl, sym, arith, true≢false}
use Rattle.std.specs.Char.{is_ascii_digit}
use Rattle.std.specs.List.{list_all}
use Rattle.std.specs.Str.{byte}
use Rattle.std.proofs.lemmas.Bool.{and_parts}
use Rattle.std.proofs.lemmas.Bool.Decides.{nat_tests}
use Rattle.hex.specs.Hex.{is_hex_digit}
use Rattle.base_bytes.specs.Words.{begins_with_letter, is_word, is_word_byte}
use Rattle.base_bytes.specs.declared.arg.Arg.{Arg}
use Rattle.script.specs.Arguments.{ArgumentOver, Field, Within}
use Rattle.script.specs.Pieces.{Between, Behind, Bytes, Listed, Members, begins_with}
use Rattle.script.specs.Tokens.{Number, Word, author_of, bytes_of_hex, id_of_hex, int_of, is_replica_byte, passing}
use Rattle.script.specs.working.Readers.{mark_at}
use Rattle.script.proofs.MarkLaws.{begins_more, front_shorter, mark_shorter, other_first}
use Rattle.script.proofs.Options.{if_then}
use Rattle.script.proofs.RunLaws.{says_begins, says_shorter, spaces_read, spaces_shorter}
use Rattle.script.proofs.TokenLaws.{number_shorter, quoted_shorter}

-- the bytes with which an argument may begin
abbrev pub is_first : ℕ → Bool
is_first c = is_word_byte c || (c == byte "-" || (c == byte "\"" || c == byte "@"))

pub record IsPart (bytes rest : Bytes) : Type 0 where
  pub begins : begins_with is_first bytes ≡ true
  pub shorter : length rest ≤ length bytes

abbrev pub AreParts : Between Arg → Type 0
AreParts X = (bytes rest : Bytes) (a : Arg) → X bytes rest a → IsPart bytes rest

-- a word begins with a letter
letter_first : (run bytes rest : Bytes) → bytes ≡ run ++ rest → begins_with_letter run ≡ true → begins_with_letter bytes ≡ true
letter_first [] bytes rest whole letter = absurd (true≢false (sym letter))
letter_first (c ∷ run) bytes rest whole letter = rw whole letter

pub word_is : (run w : Bytes) → passing is_word run ≡ Some w → (run ≡ w) × (is_word run ≡ true)
word_is run w is = if_then (is_word run) run w is (λ good same. (same, good))

pub word_letter : (bytes rest w : Bytes) → Word bytes rest w → begins_with_letter bytes ≡ true
word_letter bytes rest w is =
    let good = (word_is is.run w is.said).1 in
    let letter = (and_parts (begins_with_letter is.run) (list_all is_word_byte is.run) (and_parts _ _ good).0).0 in
    letter_first is.run bytes rest is.is_run.whole letter

pub word_part : (bytes rest w : Bytes) → Word bytes rest w → IsPart bytes rest
word_part bytes rest w is = record {
  begins = begins_more is_word_byte is_first (λ c passes. rw passes refl) bytes (says_begins is_word_byte (passing is_word) bytes rest w refl is);
  shorter = says_shorter is_word_byte (passing is_word) bytes rest w is;
}

digit_first : (c : ℕ) → is_ascii_digit c ≡ true → is_first c ≡ true
digit_first c is = grind (arith, nat_tests, is)

number_begins : (bytes rest : Bytes) (n : _) → Number bytes rest n → begins_with is_first bytes ≡ true
number_begins bytes rest n (Number.plain is) = begins_more is_ascii_digit is_first digit_first bytes (says_begins is_ascii_digit (int_of false) bytes rest n refl is)
number_begins bytes rest n (Number.negative begins is) = rw begins refl

-- something behind spaces
pub behind_shorter : {A : Type 0} (X : Between A) (bytes rest : Bytes) (a : A) → ((bytes : Bytes) → X bytes rest a → length rest ≤ length bytes) → Behind X bytes rest a → length rest ≤ length bytes
behind_shorter X bytes rest a shorter is = let spaces = spaces_shorter bytes is.inner is.spaces in let more = shorter is.inner is.is in omega (arith, spaces, more)

pub behind_opens : {A : Type 0} (X : Between A) (c : ℕ) (bytes rest : Bytes) (a : A) → is_first c ≡ false → ((bytes : Bytes) → X bytes rest a → begins_with is_first bytes ≡ true) → Behind X bytes rest a
    → mark_at (c ∷ []) bytes ≡ None
behind_opens X c bytes rest a fails begins is = rw (spaces_read bytes is.inner is.spaces) (other_first is_first c [] is.inner (begins is.inner is.is) fails)

module _ (X : Between Arg) (parts : AreParts X) where
  pub field_shorter : (bytes rest : Bytes) (f : Bytes × Arg) → Field X bytes rest f → length rest ≤ length bytes
  field_shorter bytes rest f is =
      let name = behind_shorter Word bytes is.behind f.0 (λ bytes w. (word_part bytes is.behind f.0 w).shorter) is.name in
      let colon = mark_shorter (codes ":") is.behind is.inner is.colon in
      let value = behind_shorter X is.inner rest f.1 (λ bytes x. (parts bytes rest f.1 x).shorter) is.value in
      omega (arith, name, colon, value)

  members_shorter : (bytes rest : Bytes) (fs : List (Bytes × Arg)) → Members (codes "}") (Field X) bytes rest fs → length rest ≤ length bytes
  members_shorter bytes rest all (Members.last {mid = mid} {a = a} is mark) =
      let front = field_shorter bytes mid a is in let behind = mark_shorter (codes "}") mid rest mark in omega (arith, front, behind)
  members_shorter bytes rest all (Members.more {mid = mid} {next = next} {a = a} {others = more} is mark others) =
      let front = field_shorter bytes mid a is in let behind = mark_shorter (codes ",") mid next mark in let far = members_shorter next rest more others in omega (arith, front, behind, far)

  fields_shorter : (bytes rest : Bytes) (fs : List (Bytes × Arg)) → Listed (codes "}") (Field X) bytes rest fs → length rest ≤ length bytes
  fields_shorter bytes rest all (Listed.none mark) = let behind = mark_shorter (codes "}") bytes rest mark in omega (arith, behind)
  fields_shorter bytes rest all (Listed.some is) = members_shorter bytes rest all is

  pub argument_parts : AreParts (ArgumentOver X)
  argument_parts bytes rest a (ArgumentOver.number {n = n} is) = record { begins = number_begins bytes rest n is; shorter = number_shorter bytes rest n is }
  argument_parts bytes rest a (ArgumentOver.yes is) = word_part bytes rest (codes "true") is
  argument_parts bytes rest a (ArgumentOver.no is) = word_part bytes rest (codes "false") is
  argument_parts bytes rest a (ArgumentOver.text {mid = mid} {text = text} begins is utf8) = record {
    begins = rw begins refl;
    shorter = let front = front_shorter (codes "\"") bytes mid begins in let behind = quoted_shorter mid rest text is in omega (arith, front, behind);
  }
  argument_parts bytes rest a (ArgumentOver.raw {mid = mid} {raw = raw} begins is) = record {
    begins = rw begins refl;
    shorter = let front = front_shorter (codes "0x") bytes mid begins in let behind = says_shorter is_hex_digit bytes_of_hex mid rest raw is in omega (arith, front, behind);
  }
  argument_parts bytes rest a (ArgumentOver.id {mid = mid} {id = id} begins is) = record {
    begins = rw begins refl;
    shorter = let front = front_shorter (codes "id:") bytes mid begins in let behind = says_shorter is_hex_digit id_of_hex mid rest id is in omega (arith, front, behind);
  }
  argument_parts bytes rest a (ArgumentOver.author {mid = mid} {id = id} begins is) = record {
    begins = rw begins refl;
    shorter = let front = front_shorter (codes "@") bytes mid begins in let behind = says_shorter is_replica_byte author_of mid rest id is in omega (arith, front, behind);
  }
  argument_parts bytes rest a (ArgumentOver.variant {mid = mid} {next = next} {name = name} {variant = variant} first path second) =
      let front = word_part bytes mid name first in record {
        begins = front.begins;
        shorter = let middle = front_shorter (codes "::") mid next path in let behind = (word_part next rest variant second).shorter in let f = front.shorter in omega (arith, f, middle, behind);
      }
  argument_parts bytes rest a (ArgumentOver.nothing is) = word_part bytes rest (codes "None") is
  argument_parts bytes rest a (ArgumentOver.some {mid = mid} {inner = inner} {behind = behind} {a = b} word opens is closes) =
      let front = word_part bytes mid (codes "Some") word in record {
        begins = front.begins;
        shorter =
            let f = front.shorter in
            let o = mark_shorter (codes "(") mid inner opens in
            let i = behind_shorter X inner behind b (λ bytes x. (parts bytes behind b x).shorter) is in
            let c = mark_shorter (codes ")") behind rest closes in
            omega (arith, f, o, i, c);
      }
  argument_parts bytes rest a (ArgumentOver.fields {mid = mid} {inner = inner} {name = name} {fields = fs} word opens is) =
      let front = word_part bytes mid name word in record {
        begins = front.begins;
        shorter = let f = front.shorter in let o = mark_shorter (codes "{") mid inner opens in let i = fields_shorter inner rest fs is in omega (arith, f, o, i);
      }

pub within_parts : (n : ℕ) → AreParts (Within n)
within_parts zero bytes rest a is = absurd is
within_parts (suc n) bytes rest a is = argument_parts (Within n) (within_parts n) bytes rest a is
