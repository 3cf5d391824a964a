-- The form of a commit's body and its reading agree.
use Rattle.std.proofs.Common.{◌≡◌, ℕ, zero, suc, ◌<◌, ◌≤◌, ◌^◌, nat_le, nat_lt, All, List, [], ◌++◌, length, Some, refl, sym, ap, subst, ◌∙◌, arith}
use Rattle.std.specs.Int.{w8, w32, to_be_bytes}
use Rattle.std.specs.Option.{option_and_then}
use Rattle.std.proofs.lemmas.Bool.{le-leb, lt-ltb, ltb-true}
use Rattle.std.proofs.lemmas.List.{append-nil}
use Rattle.std.proofs.lemmas.List.Elements.{All-from_recursion, recursion_from_All}
use Rattle.base_bytes.specs.Pieces.{counted, listed}
use Rattle.base_bytes.specs.Reading.{Reading, bytes_at, ended}
use Rattle.base_bytes.proofs.Formats.{AreBytes, AreBytes-front, IsFormat, behind_format, bind_then, bytes_format, ended_then, followed_format, made_format, map_then, number_format, listed_format, passing_format, told_format, wide_8, wide_32}
use Rattle.command.specs.Wire.{IsFormed, wire}
use Rattle.command.specs.declared.command.Command.{Command}
use Rattle.command.proofs.CommandFormats.{command_format}
use Rattle.command.proofs.WireSizes.{wire_within}
use Rattle.journal.specs.Commits.{commit_body, counted_command, policy_body}
use Rattle.journal.specs.working.Reading.{commit_at, counted_body_at, counted_command_at, kind_at, listed_commands_at, policy_at, sized_at}
use Rattle.journal.specs.declared.commit.Commit.{Commit}
use Rattle.journal.specs.declared.commit.Commit.TheVariants.{Graph, Commands}

-- ---- so many bytes that are one value whole, and the same behind their number

module _ {A : Type 0} {IsForm : A → Type 0} {spelled : A → List ℕ} {read : Reading A} (format : IsFormat IsForm spelled read) where
  pub sized_format : (size : ℕ) → IsFormat (λ x. IsForm x × (length (spelled x) ≡ size)) spelled (sized_at read size)
  sized_format size = record {
    again = λ x rest is.
        let whole : read (spelled x) ≡ Some (x, []) = ap read (sym (append-nil (spelled x))) ∙ format.again x [] is.0 in
        rw ((bytes_format size).again (spelled x) rest is.1, whole) refl;
    takes = λ bytes p are is. bind_then (bytes_at size bytes) _ p is (λ piece reads more. map_then (option_and_then ended (read piece.0)) _ p more (λ x whole same. bind_then (read piece.0) ended x whole (λ found reads_too ends. ended_then found x ends (λ none_left.
        let t = (bytes_format size).takes bytes piece are reads in
        let are_front = AreBytes-front piece.0 piece.1 (subst AreBytes t.0 are) in
        let u = format.takes piece.0 (x, []) are_front (reads_too ∙ ap Some none_left) in
        let piece_is : piece.0 ≡ spelled x = u.0 ∙ append-nil (spelled x) in
        subst (λ (q : A × List ℕ). (bytes ≡ spelled q.0 ++ q.1) × (IsForm q.0 × (length (spelled q.0) ≡ size))) same
        (t.0 ∙ ap (λ told. told ++ piece.1) piece_is, (u.1, subst (λ told. length told ≡ size) piece_is t.1))))));
  }

  pub counted_body_format : IsFormat (λ x. IsForm x × (length (spelled x) < 2 ^ 32)) (λ x. counted w32 (spelled x)) (counted_body_at read)
  counted_body_format = told_format (followed_format (number_format wide_32) sized_format (λ x. length (spelled x)) (λ size x is. is.1))
      (λ x. IsForm x × (length (spelled x) < 2 ^ 32)) (λ x. counted w32 (spelled x)) (λ x is. (is.1, (is.0, refl))) (λ x is are. (is.1.0, is.0)) (λ x. refl)

-- ---- commands

pub counted_command_format : IsFormat IsFormed counted_command counted_command_at
counted_command_format = told_format
    (followed_format (passing_format (number_format wide_32) (λ size. nat_le size 4305)) (sized_format command_format) (λ command. length (wire command)) (λ size command is. is.1))
    IsFormed counted_command
    (λ command is. let within : length (wire command) ≤ 4305 = wire_within command (wire command) is in ((omega (arith, within), le-leb _ _ within), ((is.cut, (is.in_form, is.front, is.tag)), refl)))
    (λ command is are. record { cut = is.1.0.0; in_form = is.1.0.1.0; front = is.1.0.1.1; tag = is.1.0.1.2; spelled = refl })
    (λ command. refl)

-- ---- commits

-- a commit in its form, whose number of commands fits into four bytes
abbrev pub IsWhole : Commit → Type 0
IsWhole (Graph id) = length id ≡ 32
IsWhole (Commands commands) = (0 < length commands) × (length commands < 2 ^ 32) × All IsFormed commands

abbrev AreListed : List Command → Type 0
AreListed commands = (0 < length commands) × (length commands < 2 ^ 32) × All IsFormed commands

commands_format : IsFormat AreListed (listed w32 counted_command) listed_commands_at
commands_format = told_format
    (passing_format (listed_format counted_command_format wide_32 4294967295 (omega arith)) (λ commands. nat_lt 0 (length commands)))
    AreListed (listed w32 counted_command)
    (λ all is. ((omega (arith, is.1), recursion_from_All IsFormed all is.2), lt-ltb _ _ is.0))
    (λ all is are. (ltb-true _ _ is.1, omega (arith, is.0.0), All-from_recursion IsFormed all is.0.1))
    (λ all. refl)

abbrev kind_of : Commit → ℕ
kind_of (Graph id) = 0
kind_of (Commands commands) = 1

abbrev after_kind : Commit → List ℕ
after_kind (Graph id) = id
after_kind (Commands commands) = listed w32 counted_command commands

abbrev IsOfKind : ℕ → Commit → Type 0
IsOfKind kind commit = (kind_of commit ≡ kind) × IsWhole commit

graph_back : (commit : Commit) → IsOfKind 0 commit → (id : List ℕ) × (Graph id ≡ commit) × (length id ≡ 32)
graph_back (Graph id) is = (id, refl, is.1)
graph_back (Commands commands) is = absurd (omega (arith, is.0))

commands_back : (commit : Commit) → IsOfKind 1 commit → (commands : List Command) × (Commands commands ≡ commit) × AreListed commands
commands_back (Commands commands) is = (commands, refl, is.1)
commands_back (Graph id) is = absurd (omega (arith, is.0))

no_kind : (kind : ℕ) (commit : Commit) → kind_of commit ≡ suc (suc kind) → ⊥
no_kind kind (Graph id) is = omega (arith, is)
no_kind kind (Commands commands) is = omega (arith, is)

kind_format : (kind : ℕ) → IsFormat (IsOfKind kind) after_kind (kind_at kind)
kind_format zero = made_format (bytes_format 32) (IsOfKind 0) after_kind Graph graph_back (λ id is are. (refl, is)) (λ id is. refl)
kind_format (suc zero) = made_format commands_format (IsOfKind 1) after_kind Commands commands_back (λ commands is are. (refl, is)) (λ commands is. refl)
kind_format (suc (suc kind)) = record { again = λ commit rest is. absurd (no_kind kind commit is.0); takes = λ bytes p are is. absurd (cc) }

kind_small : (commit : Commit) → kind_of commit < 2 ^ 8
kind_small (Graph id) = omega arith
kind_small (Commands commands) = omega arith

body_is : (commit : Commit) → commit_body commit ≡ to_be_bytes w8 (kind_of commit) ++ after_kind commit
body_is (Graph id) = refl
body_is (Commands commands) = refl

pub commit_format : IsFormat IsWhole commit_body commit_at
commit_format = told_format (followed_format (number_format wide_8) kind_format kind_of (λ kind commit is. is.0)) IsWhole commit_body
    (λ commit is. (kind_small commit, (refl, is))) (λ commit is are. is.1.1) body_is

-- ---- records

pub commit_record_format : IsFormat (λ commit. IsWhole commit × (length (commit_body commit) < 2 ^ 32)) (λ commit. counted w32 (commit_body commit)) (counted_body_at commit_at)
commit_record_format = counted_body_format commit_format

pub policy_record_format : IsFormat (λ digest. (length digest ≡ 32) × (length (policy_body digest) < 2 ^ 32)) (λ digest. counted w32 (policy_body digest)) (counted_body_at policy_at)
policy_record_format = counted_body_format (behind_format 1 (omega arith) (bytes_format 32))
