-- A form of bytes and a reading that agree, and the ways to make such pairs from smaller ones.
use Rattle.std.proofs.Common.{◌≡◌, ℕ, zero, suc, nat_lt, nat_le, replicate, map, ◌%◌, ◌==◌, ◌^◌, ◌<◌, ◌≤◌, Bool, true, false, cond, ltb, List, [], ◌∷◌, ◌++◌, length, get_or, take, drop, Option, Some, None, option_map, Result, Ok, Err, refl, sym, ap, subst, ◌∙◌, append_assoc, arith, inl, inr}
use Rattle.std.specs.Prelude.{IfOk}
use Rattle.std.specs.Int.{Width, w8, w16, w32, w64, byte_len, from_be_bytes, to_be_bytes}
use Rattle.std.specs.List.{AllByRecursion, concat}
use Rattle.std.specs.Option.{option_and_then}
use Rattle.std.proofs.lemmas.Bool.{leb-true, le-leb, ltb-true, eq-eqb, eqb-true, cases_lt, ltb-false, le-ltb}
use Rattle.std.proofs.lemmas.List.{append-nil, nil_from_length, take_at, drop_at, take-append-drop, length-append, length-take, get_or-take, get_or_past}
use Rattle.std.proofs.lemmas.Nat.{be_bytes_2, be_bytes_4, be_bytes_8, from_be_bytes-to_be_bytes_2, from_be_bytes-to_be_bytes_4, from_be_bytes-to_be_bytes_8}
use Rattle.std.proofs.lemmas.Option.{same_Some}
use Rattle.base_bytes.specs.Pieces.{counted, flag, listed}
use Rattle.base_bytes.specs.Reading.{flag_at, listed_at, in_order, behind, ended, inside, Reading, Reads, bytes_at, counted_at, followed, made, number_at, pair, passing}
use Rattle.base_bytes.specs.declared.unread.Unread.{Unread}

-- each number is a byte
abbrev pub AreBytes : List ℕ → Type 0
AreBytes bytes = (i : ℕ) → get_or bytes i 0 < 256

-- What is spelled is read, whatever follows it, and only what is spelled so is read.
pub record IsFormat {A : Type 0} (IsForm : A → Type 0) (spelled : A → List ℕ) (read : Reading A) : Type 0 where
  pub again : (x : A) (rest : List ℕ) → IsForm x → read (spelled x ++ rest) ≡ Some (x, rest)
  pub takes : (bytes : List ℕ) (p : A × List ℕ) → AreBytes bytes → read bytes ≡ Some p → (bytes ≡ spelled p.0 ++ p.1) × IsForm p.0

-- ---- bytes

pub AreBytes-rest : (b : ℕ) (bytes : List ℕ) → AreBytes (b ∷ bytes) → AreBytes bytes
AreBytes-rest b bytes are i = are (suc i)

pub AreBytes-behind : (front rest : List ℕ) → AreBytes (front ++ rest) → AreBytes rest
AreBytes-behind [] rest are = are
AreBytes-behind (b ∷ front) rest are = AreBytes-behind front rest (AreBytes-rest b (front ++ rest) are)

AreBytes-take : (n : ℕ) (bytes : List ℕ) → AreBytes bytes → AreBytes (take n bytes)
AreBytes-take n bytes are i =
    elim (cases_lt i n) [
      | inl lt ↦ rw (get_or-take n bytes i 0 lt) (are i)
      | inr le ↦ rw (get_or_past (take n bytes) i 0 (omega (arith, length-take n bytes))) (omega arith)
    ]

pub AreBytes-front : (front rest : List ℕ) → AreBytes (front ++ rest) → AreBytes front
AreBytes-front front rest are = subst AreBytes (take_at front rest (length front) refl) (AreBytes-take (length front) (front ++ rest) are)

-- ---- options

pub bind_then : {A B P : Type 0} (o : Option A) (f : A → Option B) (y : B) → option_and_then f o ≡ Some y → ((x : A) → o ≡ Some x → f x ≡ Some y → P) → P
bind_then None f y is go = absurd (cc)
bind_then (Some x) f y is go = go x refl is

pub map_then : {A B P : Type 0} (o : Option A) (f : A → B) (y : B) → option_map f o ≡ Some y → ((x : A) → o ≡ Some x → f x ≡ y → P) → P
map_then None f y is go = absurd (cc)
map_then (Some x) f y is go = go x refl (same_Some (f x) y is)

pub if_then : {A P : Type 0} (b : Bool) (x : Option A) (z : A) → cond b x None ≡ Some z → (b ≡ true → x ≡ Some z → P) → P
if_then true x z is go = go refl is
if_then false x z is go = absurd (cc)

if_not_then : {A P : Type 0} (b : Bool) (x : Option A) (z : A) → cond b None x ≡ Some z → (b ≡ false → x ≡ Some z → P) → P
if_not_then true x z is go = absurd (cc)
if_not_then false x z is go = go refl is

-- ---- pieces

bytes_taken : (count : ℕ) (bytes : List ℕ) (p : List ℕ × List ℕ) → bytes_at count bytes ≡ Some p → (bytes ≡ p.0 ++ p.1) × (length p.0 ≡ count)
bytes_taken count bytes p is = if_not_then (ltb (length bytes) count) (Some (take count bytes, drop count bytes)) p is (λ no found.
    let enough : count ≤ length bytes = ltb-false _ _ no in
    let size : length (take count bytes) ≡ count = omega (arith, length-take count bytes) in
    subst (λ (q : List ℕ × List ℕ). (bytes ≡ q.0 ++ q.1) × (length q.0 ≡ count)) (same_Some (take count bytes, drop count bytes) p found) (sym (take-append-drop count bytes), size))

pub bytes_format : (count : ℕ) → IsFormat (λ bytes. length bytes ≡ count) (λ bytes. bytes) (bytes_at count)
bytes_format count = record {
  again = λ bytes rest long.
      let enough : ltb (length (bytes ++ rest)) count ≡ false = le-ltb _ _ (omega (arith, long, length-append bytes rest)) in
      rw (enough, take_at bytes rest count long, drop_at bytes rest count long) refl;
  takes = λ bytes p are is. bytes_taken count bytes p is;
}

abbrev pub some_of : (A : Type 0) → A → List ℕ → Option (A × List ℕ)
some_of A x rest = Some (x, rest)

module _ {A : Type 0} {IsForm : A → Type 0} {spelled : A → List ℕ} {read : Reading A} (format : IsFormat IsForm spelled read) where
  -- made into something whose parts these are
  pub made_format : {B : Type 0} (IsMade : B → Type 0) (spelled_too : B → List ℕ) (make : A → B) → ((y : B) → IsMade y → (x : A) × (make x ≡ y) × IsForm x) → ((x : A) → IsForm x → AreBytes (spelled x) → IsMade (make x))
      → ((x : A) → IsForm x → spelled_too (make x) ≡ spelled x) → IsFormat IsMade spelled_too (made make read)
  made_format {B} IsMade spelled_too make part forth same = record {
    again = λ y rest is.
        let from = part y is in
        let told : spelled_too y ++ rest ≡ spelled from.0 ++ rest = ap (λ bytes. bytes ++ rest) (ap spelled_too (sym from.1) ∙ same from.0 from.2) in
        ap (made make read) told ∙ rw (format.again from.0 rest from.2) (ap (λ z. some_of B z rest) from.1);
    takes = λ bytes p are is. map_then (read bytes) _ p is (λ found reads made_it.
        let t = format.takes bytes found are reads in
        let front = AreBytes-front (spelled found.0) found.1 (subst AreBytes t.0 are) in
        subst (λ (q : B × List ℕ). (bytes ≡ spelled_too q.0 ++ q.1) × IsMade q.0) made_it
        (t.0 ∙ ap (λ told. told ++ found.1) (sym (same found.0 t.1)), forth found.0 t.1 front));
  }

  -- the same with another word for what is in the form, and for how it is spelled
  pub told_format : (IsTold : A → Type 0) (spelled_too : A → List ℕ) → ((x : A) → IsTold x → IsForm x) → ((x : A) → IsForm x → AreBytes (spelled x) → IsTold x) → ((x : A) → spelled_too x ≡ spelled x) → IsFormat IsTold spelled_too read
  told_format IsTold spelled_too back forth same = record {
    again = λ x rest is. ap (λ bytes. read (bytes ++ rest)) (same x) ∙ format.again x rest (back x is);
    takes = λ bytes p are is.
        let t = format.takes bytes p are is in
        let front = AreBytes-front (spelled p.0) p.1 (subst AreBytes t.0 are) in
        (t.0 ∙ ap (λ told. told ++ p.1) (sym (same p.0)), forth p.0 t.1 front);
  }

  pub passing_format : (test : A → Bool) → IsFormat (λ x. IsForm x × (test x ≡ true)) spelled (passing test read)
  passing_format test = record {
    again = λ x rest is. rw (format.again x rest is.0, is.1) refl;
    takes = λ bytes p are is. bind_then (read bytes) _ p is (λ found reads passes. if_then (test found.0) (Some found) p passes (λ yes same.
        let t = format.takes bytes found are reads in
        subst (λ (q : A × List ℕ). (bytes ≡ spelled q.0 ++ q.1) × (IsForm q.0 × (test q.0 ≡ true))) (same_Some found p same) (t.0, (t.1, yes))));
  }

-- two parts
module _ {A B : Type 0} {IsForm : A → Type 0} {IsForm_too : B → Type 0} {spelled : A → List ℕ} {read : Reading A} {spelled_too : B → List ℕ} {read_too : Reading B}
    (first : IsFormat IsForm spelled read) (second : IsFormat IsForm_too spelled_too read_too) where
  pub pair_format : IsFormat (λ p. IsForm p.0 × IsForm_too p.1) (λ p. spelled p.0 ++ spelled_too p.1) (pair read read_too)
  pair_format = record {
    again = λ x rest is. rw (append_assoc (spelled x.0) (spelled_too x.1) rest, first.again x.0 (spelled_too x.1 ++ rest) is.0, second.again x.1 rest is.1) refl;
    takes = λ bytes p are is. bind_then (read bytes) _ p is (λ x reads more. map_then (read_too x.1) _ p more (λ y reads_too same.
        let t = first.takes bytes x are reads in
        let u = second.takes x.1 y (AreBytes-behind (spelled x.0) x.1 (subst AreBytes t.0 are)) reads_too in
        subst (λ (q : (A × B) × List ℕ). (bytes ≡ (spelled q.0.0 ++ spelled_too q.0.1) ++ q.1) × (IsForm q.0.0 × IsForm_too q.0.1)) same
        (t.0 ∙ ap (λ r. spelled x.0 ++ r) u.0 ∙ sym (append_assoc (spelled x.0) (spelled_too y.0) y.1), (t.1, u.1))));
  }

-- a part that the part before it asks for, and from which that one can be told
module _ {A B : Type 0} {IsForm : A → Type 0} {IsForm_too : A → B → Type 0} {spelled : A → List ℕ} {read : Reading A} {spelled_too : B → List ℕ} {read_too : A → Reading B}
    (first : IsFormat IsForm spelled read) (second : (x : A) → IsFormat (IsForm_too x) spelled_too (read_too x)) (key : B → A) (keyed : (x : A) (y : B) → IsForm_too x y → key y ≡ x) where
  pub followed_format : IsFormat (λ y. IsForm (key y) × IsForm_too (key y) y) (λ y. spelled (key y) ++ spelled_too y) (followed read read_too)
  followed_format = record {
    again = λ y rest is. rw (append_assoc (spelled (key y)) (spelled_too y) rest, first.again (key y) (spelled_too y ++ rest) is.0) ((second (key y)).again y rest is.1);
    takes = λ bytes p are is. bind_then (read bytes) _ p is (λ x reads more.
        let t = first.takes bytes x are reads in
        let u = (second x.0).takes x.1 p (AreBytes-behind (spelled x.0) x.1 (subst AreBytes t.0 are)) more in
        subst (λ k. (bytes ≡ (spelled k ++ spelled_too p.0) ++ p.1) × (IsForm k × IsForm_too k p.0)) (sym (keyed x.0 p.0 u.1))
        (t.0 ∙ ap (λ r. spelled x.0 ++ r) u.0 ∙ sym (append_assoc (spelled x.0) (spelled_too p.0) p.1), (t.1, u.1)));
  }

-- ---- numbers

-- a width whose numbers are those below a limit
pub record IsWide (w : Width) (limit : ℕ) : Type 0 where
  pub size : (n : ℕ) → length (to_be_bytes w n) ≡ byte_len w
  pub back : (bytes : List ℕ) → length bytes ≡ byte_len w → AreBytes bytes → to_be_bytes w (from_be_bytes w bytes) ≡ bytes
  pub again : (n : ℕ) → n < limit → from_be_bytes w (to_be_bytes w n) ≡ n
  pub below : (bytes : List ℕ) → AreBytes bytes → from_be_bytes w bytes < limit

back_8 : (bytes : List ℕ) → length bytes ≡ 1 → AreBytes bytes → to_be_bytes w8 (from_be_bytes w8 bytes) ≡ bytes
back_8 [] size are = absurd (omega (arith, size))
back_8 (b ∷ []) size are = let same : b % 256 ≡ b = omega (arith, are 0) in ap (λ n. n ∷ []) same
back_8 (b ∷ c ∷ more) size are = absurd (omega (arith, size))

pub wide_8 : IsWide w8 (2 ^ 8)
wide_8 = record {
  size = λ n. refl;
  back = back_8;
  again = λ n lt. omega arith;
  below = λ bytes are. omega (arith, are 0);
}

pub wide_16 : IsWide w16 (2 ^ 16)
wide_16 = record {
  size = λ n. refl;
  back = λ bytes size are. be_bytes_2 bytes _ size are refl;
  again = λ n lt. from_be_bytes-to_be_bytes_2 n lt;
  below = λ bytes are. omega (arith, are 0, are 1);
}

pub wide_32 : IsWide w32 (2 ^ 32)
wide_32 = record {
  size = λ n. refl;
  back = λ bytes size are. be_bytes_4 bytes _ size are refl;
  again = λ n lt. from_be_bytes-to_be_bytes_4 n lt;
  below = λ bytes are. omega (arith, are 0, are 1, are 2, are 3);
}

pub wide_64 : IsWide w64 (2 ^ 64)
wide_64 = record {
  size = λ n. refl;
  back = λ bytes size are. be_bytes_8 bytes _ size are refl;
  again = λ n lt. from_be_bytes-to_be_bytes_8 n lt;
  below = λ bytes are. omega (arith, are 0, are 1, are 2, are 3, are 4, are 5, are 6, are 7);
}

-- the same of a reader's calls, which know of the piece alone that it is bytes
pub number_front : (w : Width) (bytes told rest : List ℕ) (count n : ℕ) → to_be_bytes w n ≡ told → bytes_at count bytes ≡ Some (told, rest) → bytes ≡ to_be_bytes w n ++ rest
number_front w bytes told rest count n back is = (bytes_taken count bytes (told, rest) is).0 ∙ ap (λ front. front ++ rest) (sym back)

pub counted_front : {X : Type 0} (w : Width) (view : X → List ℕ) (answer : Result X Unread) (bytes left rest : List ℕ) (count : ℕ) → bytes ≡ to_be_bytes w count ++ left → Reads view answer rest (bytes_at count left) → IfOk answer (λ x. bytes ≡ counted w (view x) ++ rest)
counted_front w view (Ok x) bytes left rest count is told =
    let t = bytes_taken count left (view x, rest) told in
    is ∙ ap (λ behind. to_be_bytes w count ++ behind) t.0 ∙ sym (append_assoc (to_be_bytes w count) (view x) rest) ∙ ap (λ n. (to_be_bytes w n ++ view x) ++ rest) (sym t.1)
counted_front w view (Err error) bytes left rest count is told = tt

module _ {w : Width} {limit : ℕ} (wide : IsWide w limit) where
  pub number_format : IsFormat (λ n. n < limit) (to_be_bytes w) (number_at w)
  number_format = record {
    again = λ n rest lt. rw ((bytes_format (byte_len w)).again (to_be_bytes w n) rest (wide.size n), wide.again n lt) refl;
    takes = λ bytes p are is. map_then (bytes_at (byte_len w) bytes) _ p is (λ found reads same.
        let t = (bytes_format (byte_len w)).takes bytes found are reads in
        let front = AreBytes-front found.0 found.1 (subst AreBytes t.0 are) in
        subst (λ (q : ℕ × List ℕ). (bytes ≡ to_be_bytes w q.0 ++ q.1) × (q.0 < limit)) same
        (t.0 ∙ ap (λ told. told ++ found.1) (sym (wide.back found.0 t.1 front)), wide.below found.0 front));
  }

  pub counted_format : IsFormat (λ bytes. length bytes < limit) (counted w) (counted_at w)
  counted_format = told_format (followed_format number_format bytes_format length (λ n bytes is. is)) (λ bytes. length bytes < limit) (counted w) (λ bytes lt. (lt, refl)) (λ bytes is are. is.0) (λ bytes. refl)

-- what is left is nothing
pub ended_then : {A P : Type 0} (found : A × List ℕ) (x : A) → ended found ≡ Some x → (found ≡ (x, []) → P) → P
ended_then {A} found x is go = if_then (length found.1 == 0) (Some found.0) x is (λ empty same.
    let rest : ◌≡◌ {A = A × List ℕ} (found.0, found.1) (found.0, []) = ap (λ z. let both : A × List ℕ = (found.0, z) in both) (nil_from_length found.1 (eqb-true _ _ empty)) in
    let value : ◌≡◌ {A = A × List ℕ} (found.0, []) (x, []) = ap (λ z. let both : A × List ℕ = (z, []) in both) (same_Some found.0 x same) in
    go (rest ∙ value))

-- a value that is the whole of a counted piece
module _ {A : Type 0} {IsForm : A → Type 0} {spelled : A → List ℕ} {read : Reading A} (format : IsFormat IsForm spelled read) {w : Width} {limit : ℕ} (wide : IsWide w limit) where
  pub inside_format : IsFormat (λ x. IsForm x × (length (spelled x) < limit)) (λ x. counted w (spelled x)) (inside (counted_at w) read)
  inside_format = record {
    again = λ x rest is.
        let whole : read (spelled x) ≡ Some (x, []) = ap read (sym (append-nil (spelled x))) ∙ format.again x [] is.0 in
        rw ((counted_format wide).again (spelled x) rest is.1, whole) refl;
    takes = λ bytes p are is. bind_then (counted_at w bytes) _ p is (λ piece reads more. map_then (option_and_then ended (read piece.0)) _ p more (λ x whole same. bind_then (read piece.0) ended x whole (λ found reads_too ends. ended_then found x ends (λ none_left.
        let t = (counted_format wide).takes bytes piece are reads in
        let are_front = AreBytes-behind (to_be_bytes w (length piece.0)) piece.0 (AreBytes-front (counted w piece.0) piece.1 (subst AreBytes t.0 are)) in
        let u = format.takes piece.0 (x, []) are_front (reads_too ∙ ap Some none_left) in
        let piece_is : piece.0 ≡ spelled x = u.0 ∙ append-nil (spelled x) in
        subst (λ (q : A × List ℕ). (bytes ≡ counted w (spelled q.0) ++ q.1) × (IsForm q.0 × (length (spelled q.0) < limit))) same
        (t.0 ∙ ap (λ told. counted w told ++ piece.1) piece_is, (u.1, subst (λ told. length told < limit) piece_is t.1))))));
  }

-- behind a byte that must stand there
module _ {A : Type 0} {IsForm : A → Type 0} {spelled : A → List ℕ} {read : Reading A} (byte : ℕ) (small : byte < 2 ^ 8) (format : IsFormat IsForm spelled read) where
  one_byte : (n : ℕ) → n ≡ byte → to_be_bytes w8 n ≡ byte ∷ []
  one_byte n same = let whole : n % 256 ≡ byte = omega (arith, same, small) in ap (λ b. b ∷ []) whole

  pub behind_format : IsFormat IsForm (λ x. byte ∷ spelled x) (behind byte read)
  behind_format = made_format (pair_format (passing_format (number_format wide_8) (λ it. it == byte)) format) IsForm (λ x. byte ∷ spelled x) (λ both. both.1)
      (λ x is. ((byte, x), refl, ((small, eq-eqb byte byte refl), is))) (λ both is are. is.1) (λ both is. ap (λ told. told ++ spelled both.1) (sym (one_byte both.0 (eqb-true _ _ is.0.1))))

-- ---- truths and lists

flag_back : (truth : Bool) → (byte : ℕ) × ((byte == 1) ≡ truth) × ((byte < 2 ^ 8) × (nat_lt byte 2 ≡ true))
flag_back true = (1, refl, (omega arith, refl))
flag_back false = (0, refl, (omega arith, refl))

flag_same : (byte : ℕ) → nat_lt byte 2 ≡ true → flag (byte == 1) ≡ to_be_bytes w8 byte
flag_same zero is = refl
flag_same (suc zero) is = refl
flag_same (suc (suc byte)) is = let lt : suc (suc byte) < 2 = ltb-true _ _ is in absurd (omega (arith, lt))

pub flag_format : IsFormat (λ truth. Unit {0}) flag flag_at
flag_format = made_format (passing_format (number_format wide_8) (λ byte. nat_lt byte 2)) (λ truth. Unit {0}) flag (λ byte. byte == 1) (λ truth is. flag_back truth) (λ byte is are. tt) (λ byte is. flag_same byte is.1)

module _ {A : Type 0} {IsForm : A → Type 0} {spelled : A → List ℕ} {read : Reading A} (format : IsFormat IsForm spelled read) where
  abbrev AreSo : ℕ → List A → Type 0
  AreSo count all = (length all ≡ count) × AllByRecursion IsForm all

  none_back : (all : List A) → AreSo 0 all → all ≡ []
  none_back [] is = refl
  none_back (x ∷ all) is = absurd (omega (arith, is.0))

  one_back : (count : ℕ) (all : List A) → AreSo (suc count) all → (both : A × List A) × ((both.0 ∷ both.1) ≡ all) × (IsForm both.0 × AreSo count both.1)
  one_back count [] is = absurd (omega (arith, is.0))
  one_back count (x ∷ all) is = ((x, all), refl, (is.1.0, (omega (arith, is.0), is.1.1)))

  repeated_format : (count : ℕ) → IsFormat (AreSo count) (λ all. concat (map spelled all)) (in_order (replicate count read))
  repeated_format zero = record {
    again = λ all rest is. rw (none_back all is) refl;
    takes = λ bytes p are is. subst (λ (q : List A × List ℕ). (bytes ≡ concat (map spelled q.0) ++ q.1) × AreSo 0 q.0) (same_Some ([], bytes) p is) (refl, (refl, tt));
  }
  repeated_format (suc count) = made_format (pair_format format (repeated_format count)) (AreSo (suc count)) (λ all. concat (map spelled all)) (λ both. both.0 ∷ both.1)
      (one_back count) (λ both is are. (omega (arith, is.1.0), (is.0, is.1.1))) (λ both is. refl)

  pub listed_format : {w : Width} {limit : ℕ} (wide : IsWide w limit) (most : ℕ) → most < limit → IsFormat (λ all. (length all ≤ most) × AllByRecursion IsForm all) (listed w spelled) (listed_at w most read)
  listed_format {w} wide most small = told_format (followed_format (passing_format (number_format wide) (λ count. nat_le count most)) repeated_format length (λ count all is. is.0))
      (λ all. (length all ≤ most) × AllByRecursion IsForm all) (listed w spelled) (λ all is. ((omega (arith, is.0, small), le-leb _ _ is.0), (refl, is.1))) (λ all is are. (leb-true _ _ is.0.1, is.1.1)) (λ all. refl)
