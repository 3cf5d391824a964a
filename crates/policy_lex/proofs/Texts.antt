-- The text between quotation marks, step by step.
use Rattle.std.proofs.Common.{◌≡◌, ℕ, ◌+◌, ◌≤◌, Bool, true, false, if◌then◌else◌, List, [], ◌∷◌, ◌++◌, length, drop, refl, ap, sym, ◌∙◌, arith, Option, Some, None, option_map, append_assoc, append-nil, codes, length-drop}
use Rattle.std.specs.Option.{option_and_then}
use Rattle.std.specs.Str.{IsUtf8}
use Rattle.std.proofs.lemmas.List.{drop-drop}
use Rattle.policy_ast.specs.declared.token.TokenKind.TheVariants.{Quoted}
use Rattle.policy_ast.specs.Lines.{is_line_feed}
use Rattle.policy_ast.specs.TokenForms.{behind, escaped, is_backslash, is_quotation_mark, quoted_at, text_from, written}
use Rattle.policy_lex.specs.working.QuotedTexts.{HoldsText, meaning, step_at}
use Rattle.policy_lex.specs.declared.quoted.Step.{Step}
use Rattle.policy_lex.specs.declared.quoted.Step.TheVariants.{Closes, Breaks, Means}

-- a text and so many bytes in front of what is found
abbrev pub with_prefix : List ℕ → ℕ → Option (List ℕ × ℕ) → Option (List ℕ × ℕ)
with_prefix text n found = option_map (λ more. (text ++ more.0, more.1 + n)) found

text_grown : (text : List ℕ) (n meant size : ℕ) (found : Option (List ℕ × ℕ)) → with_prefix (text ++ meant ∷ []) (n + size) found ≡ with_prefix text n (written meant size found)
text_grown text n meant size None = refl
text_grown text n meant size (Some more) =
    rw (append_assoc text (meant ∷ []) more.0) (let same : more.1 + (n + size) ≡ (more.1 + size) + n = omega arith in ap (λ k. Some (text ++ (meant ∷ more.0), k)) same)

-- what a step makes of what is found behind it
abbrev pub after_step : Step → (ℕ → Option (List ℕ × ℕ)) → Option (List ℕ × ℕ)
after_step Closes behind = Some ([], 1)
after_step Breaks behind = None
after_step (Means byte size) behind = written byte size (behind size)

last : (quote feed slash : Bool) (c : ℕ) → (if quote then Some ([], 1) else None)
    ≡ after_step (if quote then Closes else if feed then Breaks else if slash then Breaks else Means c 1) (λ size. text_from (drop size (c ∷ [])))
unfolding text_from
last true feed slash c = refl
last false true slash c = refl
last false false true c = refl
last false false false c = refl

escape : (o : Option ℕ) (c next : ℕ) (rest : List ℕ) → option_and_then (λ meant. written meant 2 (text_from rest)) o ≡ after_step (meaning o) (λ size. text_from (drop size (c ∷ next ∷ rest)))
escape None c next rest = refl
escape (Some meant) c next rest = refl

two : (quote feed slash : Bool) (c next : ℕ) (rest : List ℕ)
    → (if quote then Some ([], 1) else if feed then None else if slash then option_and_then (λ meant. written meant 2 (text_from rest)) (escaped next) else written c 1 (text_from (next ∷ rest)))
    ≡ after_step (if quote then Closes else if feed then Breaks else if slash then meaning (escaped next) else Means c 1) (λ size. text_from (drop size (c ∷ next ∷ rest)))
two true feed slash c next rest = refl
two false true slash c next rest = refl
two false false true c next rest = escape (escaped next) c next rest
two false false false c next rest = refl

stepped : (bytes : List ℕ) → text_from bytes ≡ after_step (step_at bytes) (λ size. text_from (drop size bytes))
unfolding text_from
stepped [] = refl
stepped (c ∷ []) = last (is_quotation_mark c) (is_line_feed c) (is_backslash c) c
stepped (c ∷ next ∷ rest) = two (is_quotation_mark c) (is_line_feed c) (is_backslash c) c next rest

-- the text from a place on, by the step there
text_stepped : (bytes : List ℕ) (i : ℕ) (step : Step) → step ≡ step_at (drop i bytes) → text_from (drop i bytes) ≡ after_step step (λ size. text_from (drop size (drop i bytes)))
text_stepped bytes i step is = rw is (stepped (drop i bytes))

-- the closing mark
pub text_closed : (text bytes : List ℕ) (i : ℕ) → Closes ≡ step_at (drop i bytes) → Some (text, i + 1) ≡ with_prefix text i (text_from (drop i bytes))
text_closed text bytes i is =
    let same : 1 + i ≡ i + 1 = omega arith in
    sym (ap (with_prefix text i) (text_stepped bytes i Closes is) ∙ (rw (append-nil text, same) refl))

-- what can't stand there
pub text_broken : (text bytes : List ℕ) (i : ℕ) → Breaks ≡ step_at (drop i bytes) → None ≡ with_prefix text i (text_from (drop i bytes))
text_broken text bytes i is = sym (ap (with_prefix text i) (text_stepped bytes i Breaks is))

-- a byte of the text
pub text_passed : (text bytes : List ℕ) (i byte size : ℕ) → Means byte size ≡ step_at (drop i bytes)
    → with_prefix (text ++ byte ∷ []) (i + size) (text_from (drop (i + size) bytes)) ≡ with_prefix text i (text_from (drop i bytes))
text_passed text bytes i byte size is =
    text_grown text i byte size (text_from (drop (i + size) bytes))
    ∙ ap (λ rest. with_prefix text i (written byte size (text_from rest))) (sym (drop-drop size i bytes))
    ∙ sym (ap (with_prefix text i) (text_stepped bytes i (Means byte size) is))

text_left_open : (bytes : List ℕ) → length bytes ≡ 0 → text_from bytes ≡ None
unfolding text_from
text_left_open [] empty = refl
text_left_open (c ∷ bytes) empty = absurd (omega (arith, empty))

-- where nothing is left, no mark closes the text
pub text_ended : (text bytes : List ℕ) (i : ℕ) → length bytes ≤ i → None ≡ with_prefix text i (text_from (drop i bytes))
text_ended text bytes i past = sym (ap (with_prefix text i) (text_left_open (drop i bytes) (omega (arith, length-drop {A = ℕ}))))

-- a text that is read
pub text_quoted : (bytes rest text : List ℕ) (size : ℕ) → Some rest ≡ behind (codes "\"") bytes → Some (text, size) ≡ text_from rest
    → Some (Quoted text, size + 1) ≡ quoted_at bytes
unfolding quoted_at
text_quoted bytes rest text size is found = rw (← is, ← found) refl

pub text_held : (bytes rest text : List ℕ) (size : ℕ) → Some rest ≡ behind (codes "\"") bytes → Some (text, size) ≡ text_from rest → HoldsText bytes → IsUtf8 text
text_held bytes rest text size is found held = held (text, size) (ap (option_and_then text_from) (sym is) ∙ sym found)
