-- Before which tokens an expression may end.
use Rattle.std.proofs.Common.{◌≡◌, ℕ, Bool, true, false, List, ◌∷◌, None, refl}
use Rattle.policy_ast.specs.declared.expr.Comparison.{Comparison}
use Rattle.policy_ast.specs.declared.expr.Comparison.TheVariants as comparison
use Rattle.policy_ast.specs.declared.token.TokenKind.TheVariants as token
use Rattle.policy_ast.specs.grammar.Expressions.{Level, conditional, operand, whole}
use Rattle.policy_ast.specs.grammar.Fixed.{and, arrow, close_brace, close_bracket, close_paren, colon, comma, comparison_token, dot, open_brace, open_paren, or, path, word}
use Rattle.policy_ast.specs.grammar.Parts.{Kinds}
use Rattle.policy_ast.specs.Version.{Two}
use Rattle.policy_ast.specs.Words.{is_name, is_reserved}
use Rattle.policy_ast.proofs.grammar.FieldLaws.{not_word}
use Rattle.policy_ast.proofs.grammar.Laws.{Always}
use Rattle.policy_ast.proofs.grammar.Reading.{after, operator}
use Rattle.policy_ast.proofs.grammar.ReadingExpressions.{comparisons}

-- an opening brace may follow a head alone
abbrev pub NoBrace : (is_head : Bool) → Kinds → Type 0
NoBrace true ts = Unit
NoBrace false ts = after open_brace ts ≡ None

pub no_brace : (is_head : Bool) (ts : Kinds) → after open_brace ts ≡ None → NoBrace is_head ts
no_brace true ts none = tt
no_brace false ts none = none

-- after a pattern, a name or a call; a primary; an operand; a comparison; `&&`; the whole
abbrev pub EndsPattern : Kinds → Type 0
EndsPattern ts = (after arrow ts ≡ None) × Always ts

abbrev pub EndsPrimary : (is_head : Bool) → Kinds → Type 0
EndsPrimary is_head ts = (after open_paren ts ≡ None) × (after path ts ≡ None) × NoBrace is_head ts × EndsPattern ts

abbrev pub EndsUnary : (is_head : Bool) → Kinds → Type 0
EndsUnary is_head ts = (after dot ts ≡ None) × EndsPrimary is_head ts × Always ts

abbrev pub EndsComparison : (is_head : Bool) → Kinds → Type 0
EndsComparison is_head ts = (operator comparison_token comparisons ts ≡ None) × (after (word "is") ts ≡ None) × EndsUnary is_head ts

abbrev pub EndsAnd : (is_head : Bool) → Kinds → Type 0
EndsAnd is_head ts = (after and ts ≡ None) × EndsComparison is_head ts × EndsComparison is_head ts

abbrev pub EndsWhole : (is_head : Bool) → Kinds → Type 0
EndsWhole is_head ts = (after or ts ≡ None) × EndsAnd is_head ts × EndsAnd is_head ts

abbrev pub Ends : Level → Kinds → Type 0
Ends (whole is_head) ts = EndsWhole is_head ts
Ends (operand is_head) ts = EndsUnary is_head ts
Ends conditional ts = Always ts

pub ends_primary : (is_head : Bool) (ts : Kinds) → after open_paren ts ≡ None → after path ts ≡ None → after open_brace ts ≡ None → after arrow ts ≡ None → EndsPrimary is_head ts
ends_primary h ts paren names brace value = (paren, names, no_brace h ts brace, (value, tt))

pub ends_comparison : (is_head : Bool) (ts : Kinds) → after open_paren ts ≡ None → after path ts ≡ None → after open_brace ts ≡ None → after arrow ts ≡ None → after dot ts ≡ None
    → operator comparison_token comparisons ts ≡ None → after (word "is") ts ≡ None → EndsComparison is_head ts
ends_comparison h ts paren names brace value field compared is = (compared, is, (field, ends_primary h ts paren names brace value, tt))

pub ends_whole : (is_head : Bool) (ts : Kinds) → after open_paren ts ≡ None → after path ts ≡ None → after open_brace ts ≡ None → after arrow ts ≡ None → after dot ts ≡ None
    → operator comparison_token comparisons ts ≡ None → after (word "is") ts ≡ None → after and ts ≡ None → after or ts ≡ None → EndsWhole is_head ts
ends_whole h ts paren names brace value field compared is also either =
    let low : EndsComparison h ts = ends_comparison h ts paren names brace value field compared is in
    (either, (also, low, low), (also, low, low))

-- a name may follow the whole
pub ends_before_name : (is_head : Bool) (text : List ℕ) → is_name Two text ≡ true → (ts : Kinds) → EndsWhole is_head (token.Word text ∷ ts)
unfolding is_reserved
ends_before_name h text named ts = ends_whole h (token.Word text ∷ ts) refl refl refl refl refl refl (not_word "is" refl text named ts) refl refl

-- a head may stand before its block
pub ends_before_brace : (ts : Kinds) → EndsWhole true (open_brace ∷ ts)
ends_before_brace ts =
    let low : EndsComparison true (open_brace ∷ ts) = (refl, refl, (refl, (refl, refl, tt, (refl, tt)), tt)) in
    (refl, (refl, low, low), (refl, low, low))

-- the tokens before which an expression of each kind ends
pub before_close_brace : (ts : Kinds) → EndsWhole false (close_brace ∷ ts)
before_close_brace ts = ends_whole false (close_brace ∷ ts) refl refl refl refl refl refl refl refl refl

pub before_close_paren : (ts : Kinds) → EndsWhole false (close_paren ∷ ts)
before_close_paren ts = ends_whole false (close_paren ∷ ts) refl refl refl refl refl refl refl refl refl

pub before_comma : (ts : Kinds) → EndsWhole false (comma ∷ ts)
before_comma ts = ends_whole false (comma ∷ ts) refl refl refl refl refl refl refl refl refl

pub before_close_bracket : (ts : Kinds) → EndsWhole false (close_bracket ∷ ts)
before_close_bracket ts = ends_whole false (close_bracket ∷ ts) refl refl refl refl refl refl refl refl refl

pub before_colon : (ts : Kinds) → EndsWhole false (colon ∷ ts)
before_colon ts = ends_whole false (colon ∷ ts) refl refl refl refl refl refl refl refl refl

pub before_let : (ts : Kinds) → EndsWhole false (word "let" ∷ ts)
before_let ts = ends_whole false (word "let" ∷ ts) refl refl refl refl refl refl refl refl refl

pub before_or : (h : Bool) (ts : Kinds) → EndsAnd h (or ∷ ts)
before_or h ts = let low : EndsComparison h (or ∷ ts) = ends_comparison h (or ∷ ts) refl refl refl refl refl refl refl in (refl, low, low)

pub before_and : (h : Bool) (ts : Kinds) → EndsComparison h (and ∷ ts)
before_and h ts = ends_comparison h (and ∷ ts) refl refl refl refl refl refl refl

pub before_dot : (h : Bool) (ts : Kinds) → EndsPrimary h (dot ∷ ts)
before_dot h ts = ends_primary h (dot ∷ ts) refl refl refl refl

pub before_is : (h : Bool) (ts : Kinds) → EndsUnary h (word "is" ∷ ts)
before_is h ts = (refl, ends_primary h (word "is" ∷ ts) refl refl refl refl, tt)

pub before_comparison : (h : Bool) (op : Comparison) (ts : Kinds) → EndsUnary h (comparison_token op ∷ ts)
before_comparison h comparison.Equal ts = (refl, ends_primary h _ refl refl refl refl, tt)
before_comparison h comparison.NotEqual ts = (refl, ends_primary h _ refl refl refl refl, tt)
before_comparison h comparison.Less ts = (refl, ends_primary h _ refl refl refl refl, tt)
before_comparison h comparison.LessOrEqual ts = (refl, ends_primary h _ refl refl refl refl, tt)
before_comparison h comparison.Greater ts = (refl, ends_primary h _ refl refl refl refl, tt)
before_comparison h comparison.GreaterOrEqual ts = (refl, ends_primary h _ refl refl refl refl, tt)
