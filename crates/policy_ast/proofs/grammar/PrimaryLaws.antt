-- The laws of the readings of primaries.
use Rattle.std.proofs.Common.{◌≡◌, ℕ, suc, ◌+◌, ◌≤◌, max, Bool, true, false, List, ◌∷◌, Some, None, option_and_then, refl, sym, subst, arith, true≢false}
use Rattle.policy_ast.specs.declared.bind.Bind.{Bind}
use Rattle.policy_ast.specs.declared.expr.Arithmetic.{Arithmetic}
use Rattle.policy_ast.specs.declared.expr.Arithmetic.TheVariants as arithmetic
use Rattle.policy_ast.specs.declared.expr.Count.{Count}
use Rattle.policy_ast.specs.declared.expr.Count.TheVariants as count
use Rattle.policy_ast.specs.declared.expr.Expr.{Expr}
use Rattle.policy_ast.specs.declared.expr.Expr.TheVariants as expr
use Rattle.policy_ast.specs.declared.literal.Literal.{Literal}
use Rattle.policy_ast.specs.declared.literal.Literal.TheVariants as literal
use Rattle.policy_ast.specs.declared.part.Part.{Part}
use Rattle.policy_ast.specs.declared.token.TokenKind.TheVariants as token
use Rattle.policy_ast.specs.grammar.Expressions as rows
use Rattle.policy_ast.specs.grammar.Expressions.{AndOver, BindOver, BodyOver, ComparisonOver, ConditionalOver, ElseExprOver, ExprOver, ExprWithin, IsExpr, LetOver, OrOver, Level, PrimaryOver, UnaryOver, conditional, operand, whole}
use Rattle.policy_ast.specs.grammar.Fields as fields
use Rattle.policy_ast.specs.grammar.Fields.{IsLiteral, IsName, IsNumber}
use Rattle.policy_ast.specs.grammar.Fixed.{arithmetic_token, close_brace, close_paren, comma, count_token, open_brace, open_paren, path, unary_token, word}
use Rattle.policy_ast.specs.grammar.Forms as forms
use Rattle.policy_ast.specs.grammar.Forms.{◌▸◌, ◌◂◌, ◌⊗◌, Chained, Empty, Listed, Made, Many, Node, Optional}
use Rattle.policy_ast.specs.grammar.Parts.{Nonterminal, Kinds, made_both, part}
use Rattle.policy_ast.specs.grammar.Patterns.{PatternOver}
use Rattle.policy_ast.specs.Version.{Two}
use Rattle.policy_ast.specs.Words.{is_name, is_reserved}
use Rattle.policy_ast.proofs.grammar.Ends.{Ends, NoBrace, EndsPattern, EndsPrimary, EndsWhole, before_close_paren, before_comma}
use Rattle.policy_ast.proofs.grammar.Facts.{AreParts}
use Rattle.policy_ast.proofs.grammar.FieldLaws.{constant_finds, name_then, named_then, not_word, number_is_read}
use Rattle.policy_ast.proofs.grammar.Laws.{Always, Finds, IsFound, IsRead, after_some, before_is_read, behind_found, behind_is_read, bind_then, built_then, chosen_then, empty_is_read, fits, found_as, found_by, moved, node_above, node_found, on_finds, operated_finds, pair_is_read, paired_found, starts_with}
use Rattle.policy_ast.proofs.grammar.PatternLaws.{arguments_are_read, binds_are_read, choice_is_read, choice_of, pattern_is_read}
use Rattle.policy_ast.proofs.grammar.Reading.{Reader, after, before, behind, built, listed, making, noded, operator, paired, read_empty}
use Rattle.policy_ast.proofs.grammar.ReadingExpressions.{arithmetic_over, arithmetics, bind_over, braced_over, conditional_over, count_over, counts, keyword_over, name_over, pattern_over, primary_over, signs, two_names_over}
use Rattle.policy_ast.proofs.grammar.ReadingFields.{read_constant, read_name}

module _ (Below Below' : Level → Nonterminal Expr) (below : Level → Reader Expr) (limit : ℕ) (parts : (level : Level) → AreParts (Below level))
    (law : (level : Level) → IsRead (Below level) (Below' level) (below level) limit (Ends level)) where
  arguments : IsRead (Listed (Below (whole false)) close_paren) (Listed (Below' (whole false)) close_paren) (listed close_paren (below (whole false))) limit Always
  arguments = arguments_are_read Below Below' below limit parts law

  binds : IsRead (Listed (BindOver Below) close_brace) (Listed (BindOver Below') close_brace) (listed close_brace (bind_over below limit)) limit Always
  binds = binds_are_read Below Below' below limit parts law

  pattern : IsRead (PatternOver (Below (whole false))) (PatternOver (Below' (whole false))) (pattern_over below limit) limit EndsPattern
  pattern = pattern_is_read Below Below' below limit parts law

  choice : IsRead (Node choice_of (Below (whole true) ⊗ BodyOver Below ⊗ word "else" ▸ ElseExprOver Below)) (Node choice_of (Below' (whole true) ⊗ BodyOver Below' ⊗ word "else" ▸ ElseExprOver Below')) (conditional_over below limit) (suc limit) Always
  choice = choice_is_read Below Below' below limit parts law

  -- what stands behind each first token of a primary
  none_is_read : IsRead (Node (λ none. expr.None) Empty) (Node (λ none. expr.None) Empty) (noded (suc limit) (λ none. expr.None) read_empty) (suc limit) Always
  none_is_read = node_above empty_is_read (λ none. expr.None)

  some_is_read : IsRead (Node expr.Some (open_paren ▸ Below (whole false) ◂ close_paren)) (Node expr.Some (open_paren ▸ Below' (whole false) ◂ close_paren))
      (noded (suc limit) expr.Some (behind open_paren (before close_paren (below (whole false))))) (suc limit) Always
  some_is_read = node_above (behind_is_read (before_is_read (law (whole false)) close_paren before_close_paren) open_paren) expr.Some

  this_is_read : IsRead (Node (λ none. expr.This) Empty) (Node (λ none. expr.This) Empty) (noded (suc limit) (λ none. expr.This) read_empty) (suc limit) Always
  this_is_read = node_above empty_is_read (λ none. expr.This)

  parens_are_read : IsRead (Node (λ inner. inner) (Below (whole false) ◂ close_paren)) (Node (λ inner. inner) (Below' (whole false) ◂ close_paren))
      (noded (suc limit) (λ inner. inner) (before close_paren (below (whole false)))) (suc limit) Always
  parens_are_read = node_above (before_is_read (law (whole false)) close_paren before_close_paren) (λ inner. inner)

  query_is_read : IsRead (Node expr.Query (PatternOver (Below (whole false)))) (Node expr.Query (PatternOver (Below' (whole false)))) (noded (suc limit) expr.Query (pattern_over below limit)) (suc limit) EndsPattern
  query_is_read = node_above pattern expr.Query

  exists_is_read : IsRead (Node expr.Exists (PatternOver (Below (whole false)))) (Node expr.Exists (PatternOver (Below' (whole false)))) (noded (suc limit) expr.Exists (pattern_over below limit)) (suc limit) EndsPattern
  exists_is_read = node_above pattern expr.Exists

  arithmetic_is_read : (op : Arithmetic) → IsRead (Node (λ t. expr.Arithmetic op t.0 t.1) (open_paren ▸ Below (whole false) ⊗ comma ▸ Below (whole false) ◂ close_paren))
      (Node (λ t. expr.Arithmetic op t.0 t.1) (open_paren ▸ Below' (whole false) ⊗ comma ▸ Below' (whole false) ◂ close_paren)) (arithmetic_over below limit op) (suc limit) Always
  arithmetic_is_read op = node_above (behind_is_read (pair_is_read (law (whole false)) (behind_is_read (before_is_read (law (whole false)) close_paren before_close_paren) comma)
      (starts_with (EndsWhole false) comma before_comma)) open_paren) (λ t. expr.Arithmetic op t.0 t.1)

  count_is_read : (op : Count) → IsRead (Node (λ t. expr.Count op t.0 t.1) (IsNumber ⊗ PatternOver (Below (whole false)))) (Node (λ t. expr.Count op t.0 t.1) (IsNumber ⊗ PatternOver (Below' (whole false))))
      (count_over below limit op) (suc limit) EndsPattern
  count_is_read op = node_above (pair_is_read number_is_read pattern (λ ts rest b y. tt)) (λ t. expr.Count op t.0 t.1)

  -- a primary
  arithmetic_here : (h : Bool) (op : Arithmetic) (ts : Kinds) → primary_over below limit h (arithmetic_token op ∷ ts) ≡ arithmetic_over below limit op ts
  unfolding is_reserved
  arithmetic_here h arithmetic.Add ts = refl
  arithmetic_here h arithmetic.Sub ts = refl
  arithmetic_here h arithmetic.SaturatingAdd ts = refl
  arithmetic_here h arithmetic.SaturatingSub ts = refl

  count_here : (h : Bool) (op : Count) (ts : Kinds) → primary_over below limit h (count_token op ∷ ts) ≡ count_over below limit op ts
  unfolding is_reserved
  count_here h count.AtLeast ts = refl
  count_here h count.AtMost ts = refl
  count_here h count.Exactly ts = refl
  count_here h count.CountUpTo ts = refl

  literal_reads : (h : Bool) (ts rest : Kinds) (a : Part Literal) → IsLiteral ts rest a → after open_paren rest ≡ None → a.height + 1 ≤ suc limit
      → primary_over below limit h ts ≡ Some (part (expr.Literal a.tree) (a.height + 1), rest)
  unfolding is_reserved
  literal_reads h ts rest a (fields.IsLiteral.number (forms.made_of fields.IsNumber.number)) ends low = fits (suc limit) (expr.Literal a.tree) a.height rest (omega (arith, low))
  literal_reads h ts rest a (fields.IsLiteral.quoted (forms.made_of fields.IsQuoted.quoted)) ends low = fits (suc limit) (expr.Literal a.tree) a.height rest (omega (arith, low))
  literal_reads h ts rest a (fields.IsLiteral.true (forms.behind (forms.made_of forms.empty))) ends low = fits (suc limit) (expr.Literal a.tree) a.height rest (omega (arith, low))
  literal_reads h ts rest a (fields.IsLiteral.false (forms.behind (forms.made_of forms.empty))) ends low = fits (suc limit) (expr.Literal a.tree) a.height rest (omega (arith, low))
  literal_reads h ts rest a (fields.IsLiteral.variant (forms.made_of (forms.pair (fields.name is) (forms.behind (fields.name also))))) ends low =
      rw (is, also, ends) (fits (suc limit) (expr.Literal a.tree) a.height rest (omega (arith, low)))

  braced_reads : (h : Bool) (text : List ℕ) (ts : Kinds) → NoBrace h ts → braced_over below limit h (part text 0) ts ≡ Some (part (expr.Name text) 1, ts)
  braced_reads true text ts ends = fits (suc limit) (expr.Name text) 0 ts (omega arith)
  braced_reads false text ts ends = rw ends (fits (suc limit) (expr.Name text) 0 ts (omega arith))

  fields_read : (h : Bool) → h ≡ false → (text : List ℕ) → is_name Two text ≡ true → (ts rest : Kinds) (b : Part (List (Bind Expr))) → Listed (BindOver Below) close_brace ts rest b → b.height ≤ limit
      → primary_over below limit h (token.Word text ∷ open_brace ∷ ts) ≡ Some (part (expr.Struct text b.tree) (max 0 b.height + 1), rest)
  fields_read true never text is ts rest b x low = absurd (true≢false never)
  fields_read false unheaded text is ts rest b x low = rw (is, binds.reads ts rest b x low tt) (fits (suc limit) (expr.Struct text b.tree) (max 0 b.height) rest (omega (arith, low)))

  primary_reads : (h : Bool) (ts rest : Kinds) (a : Part Expr) → PrimaryOver Below h ts rest a → a.height ≤ suc limit → EndsPrimary h rest → primary_over below limit h ts ≡ Some (a, rest)
  unfolding is_reserved
  primary_reads h ts rest a (rows.literal (forms.node_of {a = b} x)) low ends = literal_reads h ts rest b x ends.0 low
  primary_reads h ts rest a (rows.none (forms.behind {ts = inner} x)) low ends = none_is_read.reads inner rest a x low tt
  primary_reads h ts rest a (rows.some (forms.behind {ts = inner} x)) low ends = some_is_read.reads inner rest a x low tt
  primary_reads h ts rest a (rows.this (forms.behind {ts = inner} x)) low ends = this_is_read.reads inner rest a x low tt
  primary_reads h ts rest a (rows.name (forms.node_of (fields.name {text = text} is))) low ends = rw (is, ends.1, ends.0) (braced_reads h text rest ends.2)
  primary_reads h ts rest a (rows.parens (forms.behind {ts = inner} x)) low ends = parens_are_read.reads inner rest a x low tt
  primary_reads h ts rest a (rows.foreign_call (forms.node_of {a = all} (forms.pair (fields.name is) (forms.behind (forms.pair (fields.name also) (forms.behind {ts = inner} {a = b} x)))))) low ends =
      rw (is, also, arguments.reads inner rest b x (omega (arith, low)) tt) (fits (suc limit) (expr.ForeignCall (all.tree.0) (all.tree.1.0) (all.tree.1.1)) all.height rest (omega (arith, low)))
  primary_reads h ts rest a (rows.call (forms.node_of {a = all} (forms.pair (fields.name is) (forms.behind {ts = inner} {a = b} x)))) low ends =
      rw (is, arguments.reads inner rest b x (omega (arith, low)) tt) (fits (suc limit) (expr.Call (all.tree.0) (all.tree.1)) all.height rest (omega (arith, low)))
  primary_reads h ts rest a (rows.fields unheaded (forms.node_of (forms.pair (fields.name {text = text} is) (forms.behind {ts = inner} {a = b} x)))) low ends =
      fields_read h unheaded text is inner rest b x (omega (arith, low))
  primary_reads h ts rest a (rows.arithmetic op (forms.behind {ts = inner} x)) low ends = rw (arithmetic_here h op inner) ((arithmetic_is_read op).reads inner rest a x low tt)
  primary_reads h ts rest a (rows.query (forms.behind {ts = inner} x)) low ends = query_is_read.reads inner rest a x low ends.3
  primary_reads h ts rest a (rows.exists (forms.behind {ts = inner} x)) low ends = exists_is_read.reads inner rest a x low ends.3
  primary_reads h ts rest a (rows.count op (forms.behind {ts = inner} x)) low ends = rw (count_here h op inner) ((count_is_read op).reads inner rest a x low ends.3)
  primary_reads h ts rest a (rows.if (forms.behind {ts = inner} x)) low ends = choice.reads inner rest a x low tt

  two_names_found : (h : Bool) (ts mid inner : Kinds) (text other : List ℕ) → IsFound IsName limit ts (part text 0, path ∷ mid) → IsFound IsName limit mid (part other 0, inner)
      → (p : Part Expr × Kinds) → two_names_over below limit (part text 0) (part other 0) inner ≡ Some p → IsFound (PrimaryOver Below' h) (suc limit) ts p
  two_names_found h ts mid inner text other first second p is =
      chosen_then (after open_paren inner) (noded (suc limit) expr.Literal (making {A = List ℕ × List ℕ} (λ t. literal.Variant t.0 t.1) (λ ts. Some (made_both (λ a b. (a, b)) (part text 0) (part other 0), ts))) inner)
      (noded (suc limit) (λ t. expr.ForeignCall t.0 t.1.0 t.1.1) (paired (part text 0) (paired (part other 0) (listed close_paren (below (whole false)))))) (Some p) is
      (λ none e. built_then (suc limit) (expr.Literal (literal.Variant text other)) 0 inner p e (λ low same. found_as same
      (record { spelled = rows.literal (forms.node_of (fields.IsLiteral.variant (forms.made_of (forms.pair first.spelled (forms.behind second.spelled))))); low = omega arith })))
      (λ inside begins e. found_by rows.foreign_call (node_found (λ t. expr.ForeignCall t.0 t.1.0 t.1.1) (paired (part text 0) (paired (part other 0) (listed close_paren (below (whole false))))) ts inside
      (paired_found (part text 0) (paired (part other 0) (listed close_paren (below (whole false)))) ts (path ∷ mid) inside first
      (λ q e. behind_found path mid q (paired_found (part other 0) (listed close_paren (below (whole false))) mid inner inside second
      (λ r e. moved (sym (after_some open_paren inner inside begins)) (behind_found open_paren inside r (arguments.finds inside r e))) q e))) p e))

  braced_found : (h : Bool) (ts mid : Kinds) (text : List ℕ) → IsFound IsName limit ts (part text 0, mid) → (p : Part Expr × Kinds) → braced_over below limit h (part text 0) mid ≡ Some p
      → IsFound (PrimaryOver Below' h) (suc limit) ts p
  braced_found true ts mid text first p is = built_then (suc limit) (expr.Name text) 0 mid p is (λ low same. found_as same (record { spelled = rows.name (forms.node_of first.spelled); low = omega arith }))
  braced_found false ts mid text first p is =
      chosen_then (after open_brace mid) (built (suc limit) (expr.Name text) 0 mid) (noded (suc limit) (λ t. expr.Struct t.0 t.1) (paired (part text 0) (listed close_brace (bind_over below limit)))) (Some p) is
      (λ none e. built_then (suc limit) (expr.Name text) 0 mid p e (λ low same. found_as same (record { spelled = rows.name (forms.node_of first.spelled); low = omega arith })))
      (λ inside begins e. found_by (rows.fields refl) (node_found (λ t. expr.Struct t.0 t.1) (paired (part text 0) (listed close_brace (bind_over below limit))) ts inside
      (paired_found (part text 0) (listed close_brace (bind_over below limit)) ts mid inside first
      (λ q e. moved (sym (after_some open_brace mid inside begins)) (behind_found open_brace inside q (binds.finds inside q e)))) p e))

  name_found : (h : Bool) (ts mid : Kinds) (text : List ℕ) → IsFound IsName limit ts (part text 0, mid) → (p : Part Expr × Kinds) → name_over below limit h (part text 0) mid ≡ Some p
      → IsFound (PrimaryOver Below' h) (suc limit) ts p
  name_found h ts mid text first p is =
      chosen_then (after path mid) _ (λ ts. option_and_then (λ b. two_names_over below limit (part text 0) b.0 b.1) (read_name ts)) (Some p) is
      (λ none e. chosen_then (after open_paren mid) (braced_over below limit h (part text 0) mid) (noded (suc limit) (λ t. expr.Call t.0 t.1) (paired (part text 0) (listed close_paren (below (whole false))))) (Some p) e
      (λ none e. braced_found h ts mid text first p e)
      (λ inside begins e. found_by rows.call (node_found (λ t. expr.Call t.0 t.1) (paired (part text 0) (listed close_paren (below (whole false)))) ts inside
      (paired_found (part text 0) (listed close_paren (below (whole false))) ts mid inside first
      (λ q e. moved (sym (after_some open_paren mid inside begins)) (behind_found open_paren inside q (arguments.finds inside q e)))) p e)))
      (λ behind begins e. bind_then (read_name behind) (λ b. two_names_over below limit (part text 0) b.0 b.1) p e (λ b reads e. name_then behind b reads (λ other inner named here same.
      two_names_found h ts behind inner text other (subst (λ r. IsFound IsName limit ts (part text 0, r)) (after_some path mid behind begins) first)
      (moved (sym here) (record { spelled = fields.name named; low = omega arith })) p (subst (λ q. two_names_over below limit (part text 0) q.0 q.1 ≡ Some p) (sym same) e))))

  constant_found : (h : Bool) → Finds (PrimaryOver Below' h) (noded (suc limit) expr.Literal read_constant) (suc limit)
  constant_found h ts p is = found_by rows.literal (node_found expr.Literal read_constant ts ts (constant_finds limit ts) p is)

  keyword_finds : (h : Bool) → Finds (PrimaryOver Below' h) (keyword_over below limit) (suc limit)
  keyword_finds h =
      on_finds (word "None") none_is_read.finds (λ ts rest a x. rows.none x)
      (on_finds (word "Some") some_is_read.finds (λ ts rest a x. rows.some x)
      (on_finds (word "this") this_is_read.finds (λ ts rest a x. rows.this x)
      (on_finds open_paren parens_are_read.finds (λ ts rest a x. rows.parens x)
      (on_finds (word "query") query_is_read.finds (λ ts rest a x. rows.query x)
      (on_finds (word "exists") exists_is_read.finds (λ ts rest a x. rows.exists x)
      (on_finds (word "if") choice.finds (λ ts rest a x. rows.if x)
      (operated_finds arithmetic_token arithmetics (λ op. (arithmetic_is_read op).finds) (λ op ts rest a x. rows.arithmetic op x)
      (operated_finds count_token counts (λ op. (count_is_read op).finds) (λ op ts rest a x. rows.count op x)
      (constant_found h)))))))))

  pub primary_is_read : (h : Bool) → IsRead (PrimaryOver Below h) (PrimaryOver Below' h) (primary_over below limit h) (suc limit) (EndsPrimary h)
  primary_is_read h = record {
    reads = primary_reads h;
    finds = λ ts p is. named_then (name_over below limit h) (keyword_over below limit) ts p is (λ text mid first e. name_found h ts mid text first p e) (λ e. keyword_finds h ts p e);
  }

  -- no primary begins with a sign
  name_unsigned : (text : List ℕ) → is_name Two text ≡ true → (ts : Kinds) → operator unary_token signs (token.Word text ∷ ts) ≡ None
  unfolding is_reserved
  name_unsigned text is ts = rw (not_word "unwrap" refl text is ts, not_word "check_unwrap" refl text is ts) refl

  arithmetic_unsigned : (op : Arithmetic) (ts : Kinds) → operator unary_token signs (arithmetic_token op ∷ ts) ≡ None
  arithmetic_unsigned arithmetic.Add ts = refl
  arithmetic_unsigned arithmetic.Sub ts = refl
  arithmetic_unsigned arithmetic.SaturatingAdd ts = refl
  arithmetic_unsigned arithmetic.SaturatingSub ts = refl

  count_unsigned : (op : Count) (ts : Kinds) → operator unary_token signs (count_token op ∷ ts) ≡ None
  count_unsigned count.AtLeast ts = refl
  count_unsigned count.AtMost ts = refl
  count_unsigned count.Exactly ts = refl
  count_unsigned count.CountUpTo ts = refl

  pub primary_unsigned : (h : Bool) (ts rest : Kinds) (a : Part Expr) → PrimaryOver Below h ts rest a → operator unary_token signs ts ≡ None
  primary_unsigned h ts rest a (rows.literal (forms.node_of (fields.IsLiteral.number (forms.made_of fields.IsNumber.number)))) = refl
  primary_unsigned h ts rest a (rows.literal (forms.node_of (fields.IsLiteral.quoted (forms.made_of fields.IsQuoted.quoted)))) = refl
  primary_unsigned h ts rest a (rows.literal (forms.node_of (fields.IsLiteral.true (forms.behind x)))) = refl
  primary_unsigned h ts rest a (rows.literal (forms.node_of (fields.IsLiteral.false (forms.behind x)))) = refl
  primary_unsigned h ts rest a (rows.literal (forms.node_of (fields.IsLiteral.variant (forms.made_of (forms.pair {mid = mid} (fields.name {text = text} is) x))))) = name_unsigned text is mid
  primary_unsigned h ts rest a (rows.none (forms.behind x)) = refl
  primary_unsigned h ts rest a (rows.some (forms.behind x)) = refl
  primary_unsigned h ts rest a (rows.this (forms.behind x)) = refl
  primary_unsigned h ts rest a (rows.name (forms.node_of (fields.name {text = text} is))) = name_unsigned text is rest
  primary_unsigned h ts rest a (rows.parens (forms.behind x)) = refl
  primary_unsigned h ts rest a (rows.foreign_call (forms.node_of (forms.pair {mid = mid} (fields.name {text = text} is) x))) = name_unsigned text is mid
  primary_unsigned h ts rest a (rows.call (forms.node_of (forms.pair {mid = mid} (fields.name {text = text} is) x))) = name_unsigned text is mid
  primary_unsigned h ts rest a (rows.fields never (forms.node_of (forms.pair {mid = mid} (fields.name {text = text} is) x))) = name_unsigned text is mid
  primary_unsigned h ts rest a (rows.arithmetic op (forms.behind {ts = inner} x)) = arithmetic_unsigned op inner
  primary_unsigned h ts rest a (rows.query (forms.behind x)) = refl
  primary_unsigned h ts rest a (rows.exists (forms.behind x)) = refl
  primary_unsigned h ts rest a (rows.count op (forms.behind {ts = inner} x)) = count_unsigned op inner
  primary_unsigned h ts rest a (rows.if (forms.behind x)) = refl
