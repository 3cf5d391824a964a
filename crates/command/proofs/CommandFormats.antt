-- The form of commands and their reading agree, kind by kind.
use Rattle.std.proofs.Common.{◌≡◌, ℕ, zero, suc, ◌^◌, ◌<◌, ◌≤◌, nat_le, Bool, true, false, ◌&&◌, ◌%◌, List, [], ◌∷◌, ◌++◌, length, Option, Some, None, refl, sym, ap, ◌∙◌, append_assoc, arith, IsTrue}
use Rattle.std.specs.Cmp.Lexicographic.{slice_cmp}
use Rattle.std.specs.Int.{w8, w16, w32, to_be_bytes}
use Rattle.std.specs.Ordering.{nat_cmp}
use Rattle.std.specs.declared.cmp.Ordering.{Ordering}
use Rattle.std.specs.declared.cmp.Ordering.TheVariants.{Less}
use Rattle.std.proofs.lemmas.Bool.{false≢true, leb-true, le-leb}
use Rattle.std.proofs.lemmas.List.{append-nil}
use Rattle.base_bytes.specs.Pieces.{counted}
use Rattle.base_bytes.specs.Reading.{bytes_at, pair}
use Rattle.base_bytes.specs.Words.{begins_with_letter, is_word}
use Rattle.base_bytes.proofs.Formats.{IsFormat, bytes_format, counted_format, followed_format, made_format, number_format, pair_format, passing_format, told_format, behind_format, wide_8, wide_16, wide_32}
use Rattle.command.specs.Reading.{Content, content_at, name_at, payload_at, tag_at, init_at, basic_at, finalize_at, front_at, header_at, merge_at, kind_at, command_at, is_less}
use Rattle.command.specs.Kinds.{carried}
use Rattle.command.specs.Wire.{AreContent, HasCut, HasFront, HasTag, IsInForm, header, wire}
use Rattle.command.specs.declared.command.Command.{Command}
use Rattle.command.specs.declared.command.Command.TheVariants.{Init, Basic, Finalize, Merge}

-- ---- the parts

pub word_short : (name : List ℕ) → is_word name ≡ true → length name ≤ 64
word_short name is = by_parts (begins_with_letter name) _ (nat_le (length name) 64) refl is
  where
    by_parts : (a b c : Bool) → c ≡ nat_le (length name) 64 → (a && b && c) ≡ true → length name ≤ 64
    by_parts true true true same all = leb-true _ _ (sym same)
    by_parts true true false same all = absurd (false≢true all)
    by_parts true false c same all = absurd (false≢true all)
    by_parts false b c same all = absurd (false≢true all)

name_format : IsFormat (λ name. IsTrue (is_word name)) (counted w16) name_at
name_format = told_format (passing_format (counted_format wide_16) is_word) (λ name. IsTrue (is_word name)) (counted w16)
    (λ name is. let short = word_short name is in (omega (arith, short), is)) (λ name is are. is.1) (λ name. refl)

payload_format : IsFormat (λ payload. length payload ≤ 4096) (counted w32) payload_at
payload_format = told_format (passing_format (counted_format wide_32) (λ payload. nat_le (length payload) 4096)) (λ payload. length payload ≤ 4096) (counted w32)
    (λ payload small. (omega (arith, small), le-leb _ _ small)) (λ payload is are. leb-true _ _ is.1) (λ payload. refl)

tag_format : IsFormat (λ tag. length tag ≤ 64) (counted w8) tag_at
tag_format = told_format (passing_format (counted_format wide_8) (λ tag. nat_le (length tag) 64)) (λ tag. length tag ≤ 64) (counted w8)
    (λ tag small. (omega (arith, small), le-leb _ _ small)) (λ tag is are. leb-true _ _ is.1) (λ tag. refl)

abbrev IsContent : Content → Type 0
IsContent c = AreContent c.0 c.1.0 × (length c.1.1 ≤ 64)

abbrev content_bytes : Content → List ℕ
content_bytes c = counted w16 c.0 ++ (counted w32 c.1.0 ++ counted w8 c.1.1)

content_format : IsFormat IsContent content_bytes content_at
content_format = told_format (pair_format name_format (pair_format payload_format tag_format)) IsContent content_bytes
    (λ c is. (is.0.word, (is.0.small, is.1))) (λ c is are. (record { word = is.0; small = is.1.0 }, is.1.1)) (λ c. refl)

-- ---- the kinds

abbrev pub IsCommand : Command → Type 0
IsCommand command = IsInForm command × HasFront command × HasTag command

-- the kind, and all that follows the header
abbrev kind_of : Command → ℕ
kind_of (Init cut digest author name payload tag) = 0
kind_of (Basic cut priority parent author name payload tag) = 1
kind_of (Finalize cut parent author name payload tag) = 2
kind_of (Merge cut left right) = 3

abbrev after_kind : Command → List ℕ
after_kind (Init cut digest author name payload tag) = digest ++ (author ++ content_bytes (name, (payload, tag)))
after_kind (Basic cut priority parent author name payload tag) = to_be_bytes w32 priority ++ (parent ++ (author ++ content_bytes (name, (payload, tag))))
after_kind (Finalize cut parent author name payload tag) = parent ++ (author ++ content_bytes (name, (payload, tag)))
after_kind (Merge cut left right) = left ++ right

abbrev IsOfKind : Option ℕ → ℕ → Command → Type 0
IsOfKind cut kind command = (kind_of command ≡ kind) × ((carried command ≡ cut) × IsCommand command)

abbrev Parts : Type 0
Parts = List ℕ × (List ℕ × Content)

abbrev AreParts : Parts → Type 0
AreParts p = (length p.0 ≡ 32) × ((length p.1.0 ≡ 32) × IsContent p.1.1)

parts_format : IsFormat AreParts (λ p. p.0 ++ (p.1.0 ++ content_bytes p.1.1)) (pair (bytes_at 32) (pair (bytes_at 32) content_at))
parts_format = pair_format (bytes_format 32) (pair_format (bytes_format 32) content_format)

less_is : (o : Ordering) → is_less o ≡ true → o ≡ Less
less_is Less is = refl
less_is _ is = absurd (false≢true is)

no_kind : (kind : ℕ) (command : Command) → kind_of command ≡ suc (suc (suc (suc kind))) → ⊥
no_kind kind (Init cut digest author name payload tag) is = omega (arith, is)
no_kind kind _ is = omega (arith, is)

module _ (cut : Option ℕ) where
  init_back : (command : Command) → IsOfKind cut 0 command → (p : Parts) × (Init cut p.0 p.1.0 p.1.1.0 p.1.1.1.0 p.1.1.1.1 ≡ command) × AreParts p
  init_back (Init own digest author name payload tag) is =
      ((digest, (author, (name, (payload, tag)))), ap (λ k. Init k digest author name payload tag) (sym is.1.0), (is.1.1.1.one_size, (is.1.1.1.other_size, (is.1.1.0, is.1.1.2))))
  init_back _ is = absurd (omega (arith, is.0))

  init_format : IsFormat (IsOfKind cut 0) after_kind (init_at cut)
  init_format = made_format parts_format (IsOfKind cut 0) after_kind (λ p. Init cut p.0 p.1.0 p.1.1.0 p.1.1.1.0 p.1.1.1.1) init_back
      (λ p is are. (refl, (refl, (is.1.1.0, record { one_size = is.0; other_size = is.1.0 }, is.1.1.1)))) (λ p is. refl)

  finalize_back : (command : Command) → IsOfKind cut 2 command → (p : Parts) × (Finalize cut p.0 p.1.0 p.1.1.0 p.1.1.1.0 p.1.1.1.1 ≡ command) × AreParts p
  finalize_back (Finalize own parent author name payload tag) is =
      ((parent, (author, (name, (payload, tag)))), ap (λ k. Finalize k parent author name payload tag) (sym is.1.0), (is.1.1.1.one_size, (is.1.1.1.other_size, (is.1.1.0, is.1.1.2))))
  finalize_back _ is = absurd (omega (arith, is.0))

  finalize_format : IsFormat (IsOfKind cut 2) after_kind (finalize_at cut)
  finalize_format = made_format parts_format (IsOfKind cut 2) after_kind (λ p. Finalize cut p.0 p.1.0 p.1.1.0 p.1.1.1.0 p.1.1.1.1) finalize_back
      (λ p is are. (refl, (refl, (is.1.1.0, record { one_size = is.0; other_size = is.1.0 }, is.1.1.1)))) (λ p is. refl)

  basic_back : (command : Command) → IsOfKind cut 1 command → (p : ℕ × Parts) × (Basic cut p.0 p.1.0 p.1.1.0 p.1.1.1.0 p.1.1.1.1.0 p.1.1.1.1.1 ≡ command) × ((p.0 < 2 ^ 32) × AreParts p.1)
  basic_back (Basic own priority parent author name payload tag) is =
      ((priority, (parent, (author, (name, (payload, tag))))), ap (λ k. Basic k priority parent author name payload tag) (sym is.1.0), (is.1.1.1.0, (is.1.1.1.1.one_size, (is.1.1.1.1.other_size, (is.1.1.0, is.1.1.2)))))
  basic_back _ is = absurd (omega (arith, is.0))

  basic_format : IsFormat (IsOfKind cut 1) after_kind (basic_at cut)
  basic_format = made_format (pair_format (number_format wide_32) parts_format) (IsOfKind cut 1) after_kind (λ p. Basic cut p.0 p.1.0 p.1.1.0 p.1.1.1.0 p.1.1.1.1.0 p.1.1.1.1.1) basic_back
      (λ p is are. (refl, (refl, (is.1.1.1.0, (is.0, record { one_size = is.1.0; other_size = is.1.1.0 }), is.1.1.1.1)))) (λ p is. refl)

  merge_back : (command : Command) → IsOfKind cut 3 command → (p : List ℕ × List ℕ) × (Merge cut p.0 p.1 ≡ command) × (((length p.0 ≡ 32) × (length p.1 ≡ 32)) × (is_less (slice_cmp nat_cmp p.0 p.1) ≡ true))
  merge_back (Merge own left right) is = ((left, right), ap (λ k. Merge k left right) (sym is.1.0), ((is.1.1.1.one_size, is.1.1.1.other_size), ap is_less is.1.1.0))
  merge_back _ is = absurd (omega (arith, is.0))

  merge_format : IsFormat (IsOfKind cut 3) after_kind (merge_at cut)
  merge_format = made_format (passing_format (pair_format (bytes_format 32) (bytes_format 32)) (λ p. is_less (slice_cmp nat_cmp p.0 p.1))) (IsOfKind cut 3) after_kind (λ p. Merge cut p.0 p.1) merge_back
      (λ p is are. (refl, (refl, (less_is (slice_cmp nat_cmp p.0 p.1) is.1, record { one_size = is.0.0; other_size = is.0.1 }, tt)))) (λ p is. refl)

  kind_format : (kind : ℕ) → IsFormat (IsOfKind cut kind) after_kind (kind_at cut kind)
  kind_format zero = init_format
  kind_format (suc zero) = basic_format
  kind_format (suc (suc zero)) = finalize_format
  kind_format (suc (suc (suc zero))) = merge_format
  kind_format (suc (suc (suc (suc kind)))) = record { again = λ command rest is. absurd (no_kind kind command is.0); takes = λ bytes p are is. absurd (cc) }

-- ---- the header: the version, the kind, and the cut where there is one

abbrev version_of : Option ℕ → ℕ
version_of None = 1
version_of (Some cut) = 2

abbrev cut_bytes : Option ℕ → List ℕ
cut_bytes None = []
cut_bytes (Some cut) = to_be_bytes w32 cut

abbrev Front : Type 0
Front = ℕ × Option ℕ

abbrev front_bytes : Front → List ℕ
front_bytes p = to_be_bytes w8 p.0 ++ cut_bytes p.1

abbrev IsFront : ℕ → Front → Type 0
IsFront version p = (version_of p.1 ≡ version) × ((p.0 < 2 ^ 8) × HasCut p.1)

plain_back : (p : Front) → IsFront 1 p → (kind : ℕ) × (◌≡◌ {A = Front} (kind, None) p) × (kind < 2 ^ 8)
plain_back p is = by p.1 refl is
  where
    by : (o : Option ℕ) → p.1 ≡ o → IsFront 1 (p.0, o) → (kind : ℕ) × (◌≡◌ {A = Front} (kind, None) p) × (kind < 2 ^ 8)
    by None same so = (p.0, ap (λ z. let both : Front = (p.0, z) in both) (sym same), so.1.0)
    by (Some cut) same so = absurd (omega (arith, so.0))

cut_back : (p : Front) → IsFront 2 p → (q : ℕ × ℕ) × (◌≡◌ {A = Front} (q.0, Some q.1) p) × ((q.0 < 2 ^ 8) × (q.1 < 2 ^ 32))
cut_back p is = by p.1 refl is
  where
    by : (o : Option ℕ) → p.1 ≡ o → IsFront 2 (p.0, o) → (q : ℕ × ℕ) × (◌≡◌ {A = Front} (q.0, Some q.1) p) × ((q.0 < 2 ^ 8) × (q.1 < 2 ^ 32))
    by None same so = absurd (omega (arith, so.0))
    by (Some cut) same so = ((p.0, cut), ap (λ z. let both : Front = (p.0, z) in both) (sym same), (so.1.0, so.1.1))

no_version : (o : Option ℕ) → (version_of o ≡ 0 → ⊥) × ((n : ℕ) → version_of o ≡ suc (suc (suc n)) → ⊥)
no_version None = ((λ is. omega (arith, is)), (λ n is. omega (arith, is)))
no_version (Some cut) = ((λ is. omega (arith, is)), (λ n is. omega (arith, is)))

front_format : (version : ℕ) → IsFormat (IsFront version) front_bytes (front_at version)
front_format zero = record { again = λ p rest is. absurd ((no_version p.1).0 is.0); takes = λ bytes p are is. absurd (cc) }
front_format (suc zero) = made_format (number_format wide_8) (IsFront 1) front_bytes (λ kind. (kind, None)) plain_back (λ kind lt are. (refl, (lt, tt))) (λ kind lt. append-nil (to_be_bytes w8 kind))
front_format (suc (suc zero)) = made_format (pair_format (number_format wide_8) (number_format wide_32)) (IsFront 2) front_bytes (λ q. (q.0, Some q.1)) cut_back (λ q lt are. (refl, lt)) (λ q lt. refl)
front_format (suc (suc (suc n))) = record { again = λ p rest is. absurd ((no_version p.1).1 n is.0); takes = λ bytes p are is. absurd (cc) }

abbrev header_bytes : Front → List ℕ
header_bytes p = to_be_bytes w8 (version_of p.1) ++ front_bytes p

abbrev IsHeader : Front → Type 0
IsHeader p = (version_of p.1 < 2 ^ 8) × IsFront (version_of p.1) p

header_format : IsFormat IsHeader header_bytes header_at
header_format = followed_format (number_format wide_8) front_format (λ p. version_of p.1) (λ version p is. is.0)

version_small : (o : Option ℕ) → version_of o < 2 ^ 8
version_small None = omega arith
version_small (Some cut) = omega arith

one_byte : (n : ℕ) → n < 2 ^ 8 → to_be_bytes w8 n ≡ n ∷ []
one_byte n lt = let same : n % 256 ≡ n = omega (arith, lt) in ap (λ b. b ∷ []) same

header_is : (cut : Option ℕ) (kind : ℕ) → kind < 2 ^ 8 → header cut kind ≡ header_bytes (kind, cut)
header_is None kind lt = ap (λ l. 1 ∷ l) (sym (append-nil (to_be_bytes w8 kind) ∙ one_byte kind lt))
header_is (Some cut) kind lt = ap (λ l. 2 ∷ (l ++ to_be_bytes w32 cut)) (sym (one_byte kind lt))

-- ---- the whole

kind_small : (command : Command) → kind_of command < 2 ^ 8
kind_small (Init cut digest author name payload tag) = omega arith
kind_small _ = omega arith

regroup : (h a b n p t : List ℕ) → (((h ++ a) ++ b) ++ (n ++ p)) ++ t ≡ h ++ (a ++ (b ++ (n ++ (p ++ t))))
regroup h a b n p t = simp append_assoc

abbrev key : Command → Front
key command = (kind_of command, carried command)

wire_is : (command : Command) → wire command ≡ header (carried command) (kind_of command) ++ after_kind command
wire_is (Init cut digest author name payload tag) = regroup (header cut 0) digest author (counted w16 name) (counted w32 payload) (counted w8 tag)
wire_is (Basic cut priority parent author name payload tag) =
    regroup (header cut 1 ++ to_be_bytes w32 priority) parent author (counted w16 name) (counted w32 payload) (counted w8 tag)
    ∙ append_assoc (header cut 1) (to_be_bytes w32 priority) (parent ++ (author ++ (counted w16 name ++ (counted w32 payload ++ counted w8 tag))))
wire_is (Finalize cut parent author name payload tag) = regroup (header cut 2) parent author (counted w16 name) (counted w32 payload) (counted w8 tag)
wire_is (Merge cut left right) = append-nil ((header cut 3 ++ left) ++ right) ∙ append_assoc (header cut 3) left right

keyed : (x : Front) (command : Command) → IsOfKind x.1 x.0 command → ◌≡◌ {A = Front} (key command) x
keyed x command is = ap (λ k. let both : Front = (k, carried command) in both) is.0 ∙ ap (λ o. let both : Front = (x.0, o) in both) is.1.0

pub command_format : IsFormat (λ command. HasCut (carried command) × IsCommand command) wire command_at
command_format = told_format (followed_format header_format (λ p. kind_format p.1 p.0) key keyed) (λ command. HasCut (carried command) × IsCommand command) wire
    (λ command is. ((version_small (carried command), (refl, (kind_small command, is.0))), (refl, (refl, is.1))))
    (λ command is are. (is.0.1.1.1, is.1.1.1))
    (λ command. wire_is command ∙ ap (λ l. l ++ after_kind command) (header_is (carried command) (kind_of command) (kind_small command)))
