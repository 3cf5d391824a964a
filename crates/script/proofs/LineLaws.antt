-- Lines: what is written is read, and only that; so bytes are at most one line.
use Rattle.std.proofs.Common.{◌≡◌, ℕ, ◌==◌, ◌&&◌, nat_le, Bool, true, false, List, [], ◌∷◌, ◌++◌, length, codes, Option, Some, option_map, option_and_then, refl, sym, ap, ◌∙◌, subst, arith, true≢false}
use Rattle.std.specs.Str.{byte, bytes_eq, is_utf8}
use Rattle.std.proofs.lemmas.Bool.{eqb-true}
use Rattle.std.proofs.lemmas.Bool.Decides.{nat_tests}
use Rattle.std.proofs.lemmas.Slice.Eq.{bytes_eq-Decides}
use Rattle.base_bytes.specs.declared.arg.Arg.{Arg}
use Rattle.script.specs.declared.line.Line.{Line}
use Rattle.script.specs.declared.line.Line.TheVariants as line
use Rattle.script.specs.Arguments.{Argument}
use Rattle.script.specs.Laws.{IsOneLine}
use Rattle.script.specs.Lines.{HasForm, IsEnd, IsLine, OfCall, OfHex, OfMessage, OfOne, OfTwo, Verb}
use Rattle.script.specs.Pieces.{Behind, Bytes, Listed, Spaces, begins_with}
use Rattle.script.specs.Tokens.{Word, message_number, replica_name, some_bytes_of_hex}
use Rattle.script.specs.working.Readers.{after, mark_at, unspaced}
use Rattle.script.specs.working.ReadingArguments.{argument_at, argument_within}
use Rattle.script.specs.working.ReadingLines.{arguments_at, ended, form_of, hex_alone, line_behind, line_of, name_and_call, name_and_number, one_name, two_names}
use Rattle.script.specs.working.ReadingTokens.{part_at, word_at}
use Rattle.script.proofs.ArgumentFacts.{behind_opens, behind_shorter, within_parts}
use Rattle.script.proofs.ArgumentLaws.{within_finds, within_reads, word_finds, word_reads}
use Rattle.script.proofs.Ends.{Ends, ends_at_mark, is_space_or, next_is}
use Rattle.script.proofs.ListLaws.{IsReadBefore, listed_finds, listed_reads}
use Rattle.script.proofs.MarkLaws.{after_finds, mark_finds, mark_reads, other_first}
use Rattle.script.proofs.Options.{bind_then, chosen_then, either_then, if_then, map_then, none_some, same_some}
use Rattle.script.proofs.RunLaws.{spaces_found, spaces_read}
use Rattle.script.proofs.TokenLaws.{behind_finds, behind_reads, part_finds, part_reads}

-- the arguments of a call
arguments_are_read : IsReadBefore (codes ")") (Behind Argument) argument_at Ends
arguments_are_read = record {
  reads = λ bytes rest a is ends. behind_reads Argument (argument_within 64) bytes rest a (λ bytes x. within_reads 64 bytes rest a x ends) is;
  opens = λ bytes rest a is. behind_opens Argument 41 bytes rest a refl (λ bytes x. (within_parts 64 bytes rest a x).begins) is;
  shorter = λ bytes rest a is. behind_shorter Argument bytes rest a (λ bytes x. (within_parts 64 bytes rest a x).shorter) is;
}

arguments_read : (bytes rest : Bytes) (args : List Arg) → Listed (codes ")") (Behind Argument) bytes rest args → arguments_at bytes ≡ Some (args, rest)
arguments_read bytes rest args is =
    listed_reads (codes ")") (Behind Argument) argument_at Ends arguments_are_read (omega arith) (λ mid rest is. ends_at_mark 41 mid rest refl is) (λ mid rest is. ends_at_mark 44 mid rest refl is) (λ rest. refl) bytes rest args is

argument_finds : (bytes : Bytes) (p : Arg × Bytes) → argument_at bytes ≡ Some p → Behind Argument bytes p.1 p.0
argument_finds bytes p is = behind_finds Argument bytes p.1 p.0 (within_finds 64 (unspaced bytes) p is)

arguments_find : (bytes : Bytes) (p : List Arg × Bytes) → arguments_at bytes ≡ Some p → Listed (codes ")") (Behind Argument) bytes p.1 p.0
arguments_find bytes p is = listed_finds (codes ")") (Behind Argument) argument_at argument_finds bytes p is

-- nothing but spaces
end_reads : {A : Type 0} (a : A) (rest : Bytes) → IsEnd rest → ended (a, rest) ≡ Some a
end_reads a rest is = rw (spaces_read rest [] is) refl

no_bytes : (bytes : Bytes) → length bytes ≡ 0 → bytes ≡ []
no_bytes [] is = refl
no_bytes (c ∷ bytes) is = absurd (omega (arith, is))

end_found : (bytes : Bytes) → (length (unspaced bytes) == 0) ≡ true → IsEnd bytes
end_found bytes is = subst (Spaces bytes) (no_bytes (unspaced bytes) (eqb-true (length (unspaced bytes)) 0 is)) (spaces_found bytes)

ended_then : {A P : Type 0} (found : A × Bytes) (a : A) → ended found ≡ Some a → (IsEnd found.1 → found.0 ≡ a → P) → P
ended_then found a is go = if_then (length (unspaced found.1) == 0) found.0 a is (λ none same. go (end_found found.1 none) same)

-- a line behind its verb
one_reads : (verb bytes a : Bytes) (is : OfOne verb bytes a) → one_name is.behind_verb ≡ Some a
unfolding one_name
one_reads verb bytes a is = rw (part_reads replica_name is.behind_verb is.rest a is.name) (end_reads a is.rest is.ends)

one_finds : (verb bytes behind a : Bytes) → Verb verb bytes behind → one_name behind ≡ Some a → OfOne verb bytes a
unfolding one_name
one_finds verb bytes behind a first is = bind_then (part_at replica_name behind) ended a is (λ p reads e. ended_then p a e (λ ends same.
    subst (OfOne verb bytes) same (record { behind_verb = behind; rest = p.1; verb_first = first; name = part_finds replica_name behind p reads; ends = ends })))

two_reads : (verb bytes a b : Bytes) (is : OfTwo verb bytes a b) → two_names is.behind_verb ≡ Some (a, b)
unfolding two_names
two_reads verb bytes a b is =
    rw (part_reads replica_name is.behind_verb is.behind_name a is.name, part_reads replica_name is.behind_name is.rest b is.other) (end_reads (a, b) is.rest is.ends)

two_finds : (verb bytes behind : Bytes) (found : Bytes × Bytes) → Verb verb bytes behind → two_names behind ≡ Some found → OfTwo verb bytes found.0 found.1
unfolding two_names
two_finds verb bytes behind found first is = bind_then (part_at replica_name behind) _ found is (λ p reads e. bind_then (part_at replica_name p.1) _ found e (λ q others e.
    ended_then ((p.0, q.0), q.1) found e (λ ends same. subst (λ (f : Bytes × Bytes). OfTwo verb bytes f.0 f.1) same (record {
      behind_verb = behind;
      behind_name = p.1;
      rest = q.1;
      verb_first = first;
      name = part_finds replica_name behind p reads;
      other = part_finds replica_name p.1 q others;
      ends = ends;
    }))))

message_reads : (verb bytes a : Bytes) (n : ℕ) (is : OfMessage verb bytes a n) → name_and_number is.behind_verb ≡ Some (a, n)
unfolding name_and_number
message_reads verb bytes a n is =
    rw (part_reads replica_name is.behind_verb is.behind_name a is.name, part_reads message_number is.behind_name is.rest n is.number) (end_reads (a, n) is.rest is.ends)

message_finds : (verb bytes behind : Bytes) (found : Bytes × ℕ) → Verb verb bytes behind → name_and_number behind ≡ Some found → OfMessage verb bytes found.0 found.1
unfolding name_and_number
message_finds verb bytes behind found first is = bind_then (part_at replica_name behind) _ found is (λ p reads e. bind_then (part_at message_number p.1) _ found e (λ q others e.
    ended_then ((p.0, q.0), q.1) found e (λ ends same. subst (λ (f : Bytes × ℕ). OfMessage verb bytes f.0 f.1) same (record {
      behind_verb = behind;
      behind_name = p.1;
      rest = q.1;
      verb_first = first;
      name = part_finds replica_name behind p reads;
      number = part_finds message_number p.1 q others;
      ends = ends;
    }))))

call_reads : (verb bytes a f : Bytes) (args : List Arg) (is : OfCall verb bytes a f args) → name_and_call is.behind_verb ≡ Some (a, f, args)
unfolding name_and_call
call_reads verb bytes a f args is =
    rw (
      part_reads replica_name is.behind_verb is.behind_name a is.name,
      behind_reads Word word_at is.behind_name is.behind_action f (λ bytes w. word_reads bytes is.behind_action f w) is.action,
      mark_reads (codes "(") is.behind_action is.inner is.opens,
      arguments_read is.inner is.rest args is.arguments,
    ) (end_reads (a, f, args) is.rest is.ends)

call_finds : (verb bytes behind : Bytes) (found : Bytes × Bytes × List Arg) → Verb verb bytes behind → name_and_call behind ≡ Some found → OfCall verb bytes found.0 found.1 found.2
unfolding name_and_call
call_finds verb bytes behind found first is = bind_then (part_at replica_name behind) _ found is (λ p reads e.
    bind_then (word_at (unspaced p.1)) _ found e (λ f names e.
    bind_then (mark_at (codes "(") f.1) _ found e (λ inner opens e.
    bind_then (arguments_at inner) _ found e (λ args more e.
    ended_then ((p.0, f.0, args.0), args.1) found e (λ ends same. subst (λ (c : Bytes × Bytes × List Arg). OfCall verb bytes c.0 c.1 c.2) same (record {
      behind_verb = behind;
      behind_name = p.1;
      behind_action = f.1;
      inner = inner;
      rest = args.1;
      verb_first = first;
      name = part_finds replica_name behind p reads;
      action = behind_finds Word p.1 f.1 f.0 (word_finds (unspaced p.1) f names);
      opens = mark_finds (codes "(") f.1 inner opens;
      arguments = arguments_find inner args more;
      ends = ends;
    }))))))

hex_reads : (bytes message : Bytes) (is : OfHex bytes message) → hex_alone is.behind_verb ≡ Some message
unfolding hex_alone
hex_reads bytes message is = rw (part_reads some_bytes_of_hex is.behind_verb is.rest message is.hex) (end_reads message is.rest is.ends)

hex_finds : (bytes behind message : Bytes) → Verb (codes "inject") bytes behind → hex_alone behind ≡ Some message → OfHex bytes message
unfolding hex_alone
hex_finds bytes behind message first is = bind_then (part_at some_bytes_of_hex behind) ended message is (λ p reads e. ended_then p message e (λ ends same.
    subst (OfHex bytes) same (record { behind_verb = behind; rest = p.1; verb_first = first; hex = part_finds some_bytes_of_hex behind p reads; ends = ends })))

-- the bytes of verbs
abbrev is_verb_byte : ℕ → Bool
is_verb_byte c = nat_le (byte "a") c && nat_le c (byte "z")

begins_as : (p : ℕ → Bool) (front rest : Bytes) → begins_with p front ≡ true → begins_with p (front ++ rest) ≡ true
begins_as p [] rest begins = absurd (true≢false (sym begins))
begins_as p (c ∷ front) rest begins = begins

verb_first : (verb bytes behind : Bytes) → Verb verb bytes behind → begins_with is_verb_byte verb ≡ true → begins_with is_verb_byte (unspaced bytes) ≡ true
verb_first verb bytes behind is begins =
    rw (spaces_read bytes is.inner is.spaces, is.is.is_run.whole, same_some is.is.run verb is.is.said) (begins_as is_verb_byte verb behind begins)

some_left : (p : ℕ → Bool) (bytes : Bytes) → begins_with p bytes ≡ true → (length bytes == 0) ≡ false
some_left p [] begins = absurd (true≢false (sym begins))
some_left p (c ∷ bytes) begins = grind (arith, nat_tests)

by_verb : (verb bytes behind : Bytes) (found : Option Line) → Verb verb bytes behind → begins_with is_verb_byte verb ≡ true → line_behind verb behind ≡ found → form_of bytes ≡ found
by_verb verb bytes behind found is begins more =
    let first = verb_first verb bytes behind is begins in
    rw (some_left is_verb_byte (unspaced bytes) first, other_first (is_space_or is_verb_byte) 35 [] bytes (next_is is_verb_byte bytes first) refl)
    (ap (option_and_then (λ (v : Bytes × Bytes). line_behind v.0 v.1)) (part_reads Some bytes behind verb is) ∙ more)

comment_left : (text : Bytes) → (length (unspaced (codes "#" ++ text)) == 0) ≡ false
unfolding unspaced
comment_left text = some_left (λ c. true) (unspaced (codes "#" ++ text)) refl

form_reads : (bytes : Bytes) (l : Line) → HasForm bytes l → form_of bytes ≡ Some l
form_reads bytes l (HasForm.empty is) = rw (spaces_read bytes [] is) refl
form_reads bytes l (HasForm.comment {text = text} begins) = rw (begins, comment_left text) refl
form_reads bytes l (HasForm.replica {a = a} is) = by_verb (codes "replica") bytes is.behind_verb (Some l) is.verb_first refl (ap (option_map line.Replica) (one_reads (codes "replica") bytes a is))
form_reads bytes l (HasForm.init {a = a} {f = f} {args = args} is) = by_verb (codes "init") bytes is.behind_verb (Some l) is.verb_first refl (ap (option_map (λ (c : Bytes × Bytes × List Arg). line.Init c.0 c.1 c.2)) (call_reads (codes "init") bytes a f args is))
form_reads bytes l (HasForm.join {a = a} {b = b} is) = by_verb (codes "join") bytes is.behind_verb (Some l) is.verb_first refl (ap (option_map (λ (n : Bytes × Bytes). line.Join n.0 n.1)) (two_reads (codes "join") bytes a b is))
form_reads bytes l (HasForm.act {a = a} {f = f} {args = args} is) = by_verb (codes "act") bytes is.behind_verb (Some l) is.verb_first refl (ap (option_map (λ (c : Bytes × Bytes × List Arg). line.Act c.0 c.1 c.2)) (call_reads (codes "act") bytes a f args is))
form_reads bytes l (HasForm.sync {a = a} {b = b} is) = by_verb (codes "sync") bytes is.behind_verb (Some l) is.verb_first refl (ap (option_map (λ (n : Bytes × Bytes). line.Sync n.0 n.1)) (two_reads (codes "sync") bytes a b is))
form_reads bytes l (HasForm.ask {a = a} is) = by_verb (codes "ask") bytes is.behind_verb (Some l) is.verb_first refl (ap (option_map line.Ask) (one_reads (codes "ask") bytes a is))
form_reads bytes l (HasForm.next {a = a} {n = n} is) = by_verb (codes "next") bytes is.behind_verb (Some l) is.verb_first refl (ap (option_map (λ (m : Bytes × ℕ). line.Next m.0 m.1)) (message_reads (codes "next") bytes a n is))
form_reads bytes l (HasForm.answer {a = a} {n = n} is) = by_verb (codes "answer") bytes is.behind_verb (Some l) is.verb_first refl (ap (option_map (λ (m : Bytes × ℕ). line.Answer m.0 m.1)) (message_reads (codes "answer") bytes a n is))
form_reads bytes l (HasForm.take {a = a} {n = n} is) = by_verb (codes "take") bytes is.behind_verb (Some l) is.verb_first refl (ap (option_map (λ (m : Bytes × ℕ). line.Take m.0 m.1)) (message_reads (codes "take") bytes a n is))
form_reads bytes l (HasForm.inject {message = message} is) = by_verb (codes "inject") bytes is.behind_verb (Some l) is.verb_first refl (ap (option_map line.Inject) (hex_reads bytes message is))
form_reads bytes l (HasForm.restart {a = a} is) = by_verb (codes "restart") bytes is.behind_verb (Some l) is.verb_first refl (ap (option_map line.Restart) (one_reads (codes "restart") bytes a is))
form_reads bytes l (HasForm.facts {a = a} is) = by_verb (codes "facts") bytes is.behind_verb (Some l) is.verb_first refl (ap (option_map line.Facts) (one_reads (codes "facts") bytes a is))
form_reads bytes l (HasForm.effects {a = a} is) = by_verb (codes "effects") bytes is.behind_verb (Some l) is.verb_first refl (ap (option_map line.Effects) (one_reads (codes "effects") bytes a is))
form_reads bytes l (HasForm.graph {a = a} is) = by_verb (codes "graph") bytes is.behind_verb (Some l) is.verb_first refl (ap (option_map line.Graph) (one_reads (codes "graph") bytes a is))

-- a verb that is one of these
is_verb : (verb written bytes behind : Bytes) → Verb verb bytes behind → bytes_eq verb written ≡ true → Verb written bytes behind
is_verb verb written bytes behind first same = subst (λ (v : Bytes). Verb v bytes behind) ((bytes_eq-Decides verb written).0 same) first

behind_verb_finds : (verb bytes behind : Bytes) (l : Line) → Verb verb bytes behind → line_behind verb behind ≡ Some l → HasForm bytes l
behind_verb_finds verb bytes behind l first is =
    either_then (bytes_eq verb (codes "replica")) _ _ (Some l) is
    (λ same e. map_then (one_name behind) _ l e (λ x reads equal. subst (HasForm bytes) equal (HasForm.replica (one_finds (codes "replica") bytes behind x (is_verb verb (codes "replica") bytes behind first same) reads))))
    (λ other e.
    either_then (bytes_eq verb (codes "init")) _ _ (Some l) e
    (λ same e. map_then (name_and_call behind) _ l e (λ x reads equal. subst (HasForm bytes) equal (HasForm.init (call_finds (codes "init") bytes behind x (is_verb verb (codes "init") bytes behind first same) reads))))
    (λ other e.
    either_then (bytes_eq verb (codes "join")) _ _ (Some l) e
    (λ same e. map_then (two_names behind) _ l e (λ x reads equal. subst (HasForm bytes) equal (HasForm.join (two_finds (codes "join") bytes behind x (is_verb verb (codes "join") bytes behind first same) reads))))
    (λ other e.
    either_then (bytes_eq verb (codes "act")) _ _ (Some l) e
    (λ same e. map_then (name_and_call behind) _ l e (λ x reads equal. subst (HasForm bytes) equal (HasForm.act (call_finds (codes "act") bytes behind x (is_verb verb (codes "act") bytes behind first same) reads))))
    (λ other e.
    either_then (bytes_eq verb (codes "sync")) _ _ (Some l) e
    (λ same e. map_then (two_names behind) _ l e (λ x reads equal. subst (HasForm bytes) equal (HasForm.sync (two_finds (codes "sync") bytes behind x (is_verb verb (codes "sync") bytes behind first same) reads))))
    (λ other e.
    either_then (bytes_eq verb (codes "ask")) _ _ (Some l) e
    (λ same e. map_then (one_name behind) _ l e (λ x reads equal. subst (HasForm bytes) equal (HasForm.ask (one_finds (codes "ask") bytes behind x (is_verb verb (codes "ask") bytes behind first same) reads))))
    (λ other e.
    either_then (bytes_eq verb (codes "next")) _ _ (Some l) e
    (λ same e. map_then (name_and_number behind) _ l e (λ x reads equal. subst (HasForm bytes) equal (HasForm.next (message_finds (codes "next") bytes behind x (is_verb verb (codes "next") bytes behind first same) reads))))
    (λ other e.
    either_then (bytes_eq verb (codes "answer")) _ _ (Some l) e
    (λ same e. map_then (name_and_number behind) _ l e (λ x reads equal. subst (HasForm bytes) equal (HasForm.answer (message_finds (codes "answer") bytes behind x (is_verb verb (codes "answer") bytes behind first same) reads))))
    (λ other e.
    either_then (bytes_eq verb (codes "take")) _ _ (Some l) e
    (λ same e. map_then (name_and_number behind) _ l e (λ x reads equal. subst (HasForm bytes) equal (HasForm.take (message_finds (codes "take") bytes behind x (is_verb verb (codes "take") bytes behind first same) reads))))
    (λ other e.
    either_then (bytes_eq verb (codes "inject")) _ _ (Some l) e
    (λ same e. map_then (hex_alone behind) _ l e (λ x reads equal. subst (HasForm bytes) equal (HasForm.inject (hex_finds bytes behind x (is_verb verb (codes "inject") bytes behind first same) reads))))
    (λ other e.
    either_then (bytes_eq verb (codes "restart")) _ _ (Some l) e
    (λ same e. map_then (one_name behind) _ l e (λ x reads equal. subst (HasForm bytes) equal (HasForm.restart (one_finds (codes "restart") bytes behind x (is_verb verb (codes "restart") bytes behind first same) reads))))
    (λ other e.
    either_then (bytes_eq verb (codes "facts")) _ _ (Some l) e
    (λ same e. map_then (one_name behind) _ l e (λ x reads equal. subst (HasForm bytes) equal (HasForm.facts (one_finds (codes "facts") bytes behind x (is_verb verb (codes "facts") bytes behind first same) reads))))
    (λ other e.
    either_then (bytes_eq verb (codes "effects")) _ _ (Some l) e
    (λ same e. map_then (one_name behind) _ l e (λ x reads equal. subst (HasForm bytes) equal (HasForm.effects (one_finds (codes "effects") bytes behind x (is_verb verb (codes "effects") bytes behind first same) reads))))
    (λ other e.
    either_then (bytes_eq verb (codes "graph")) _ _ (Some l) e
    (λ same e. map_then (one_name behind) _ l e (λ x reads equal. subst (HasForm bytes) equal (HasForm.graph (one_finds (codes "graph") bytes behind x (is_verb verb (codes "graph") bytes behind first same) reads))))
    (λ other e. none_some e))))))))))))))

form_finds : (bytes : Bytes) (l : Line) → form_of bytes ≡ Some l → HasForm bytes l
form_finds bytes l is = either_then (length (unspaced bytes) == 0) _ _ (Some l) is
    (λ none e. subst (HasForm bytes) (same_some line.Blank l e) (HasForm.empty (end_found bytes none)))
    (λ some e. chosen_then (after (codes "#") bytes) _ _ (Some l) e
    (λ none e. bind_then (part_at Some bytes) _ l e (λ verb reads e. behind_verb_finds verb.0 bytes verb.1 l (part_finds Some bytes verb reads) e))
    (λ text begins e. subst (HasForm bytes) (same_some line.Blank l e) (HasForm.comment (after_finds (codes "#") bytes text begins))))

-- the line that bytes are
pub line_reads : (bytes : Bytes) (l : Line) → IsLine bytes l → line_of bytes ≡ Some l
unfolding line_of
line_reads bytes l is = rw is.utf8 (form_reads bytes l is.form)

pub line_finds : (bytes : Bytes) (l : Line) → line_of bytes ≡ Some l → IsLine bytes l
unfolding line_of
line_finds bytes l is = either_then (is_utf8 bytes) _ _ (Some l) is
    (λ utf8 e. record { utf8 = utf8; form = form_finds bytes l e })
    (λ other e. none_some e)

pub one_line : (bytes : Bytes) → IsOneLine bytes
one_line bytes a b is_a is_b = same_some a b (sym (line_reads bytes a is_a) ∙ line_reads bytes b is_b)
