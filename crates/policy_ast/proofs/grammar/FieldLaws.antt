-- The laws of the readings of names, literals, types and fields.
use Rattle.std.proofs.Common.{◌≡◌, ℕ, zero, suc, ℤ, ◌<◌, ◌≤◌, Bool, true, false, List, [], ◌∷◌, Some, None, if◌then◌else◌, bytes_eq, refl, ap, sym, subst, ◌∙◌, arith, true≢false}
use Rattle.std.specs.Prelude.{codes}
use Prim.Native.String.{String}
use Rattle.std.proofs.lemmas.Slice.Eq.{bytes_eq-Decides}
use Rattle.policy_ast.specs.declared.field.FieldType.{FieldType}
use Rattle.policy_ast.specs.declared.field.FieldType.TheVariants as field_type
use Rattle.policy_ast.specs.declared.literal.Literal.{Literal}
use Rattle.policy_ast.specs.declared.literal.Literal.TheVariants as literal
use Rattle.policy_ast.specs.declared.pattern.PatternLiteral.{PatternLiteral}
use Rattle.policy_ast.specs.declared.pattern.PatternLiteral.TheVariants as pattern_literal
use Rattle.policy_ast.specs.declared.part.Part.{Part}
use Rattle.policy_ast.specs.declared.token.TokenKind.TheVariants as token
use Rattle.policy_ast.specs.grammar.Fields as fields
use Rattle.policy_ast.specs.grammar.Fields.{IsEffectField, IsField, IsLiteral, IsName, IsNumber, IsType, TypeOver, TypeWithin}
use Rattle.policy_ast.specs.grammar.Fixed.{path, word}
use Rattle.policy_ast.specs.grammar.Forms as forms
use Rattle.policy_ast.specs.grammar.Forms.{◌▸◌, ◌⊗◌, Empty, Made, Node, Optional}
use Rattle.policy_ast.specs.grammar.Parts.{Nonterminal, Kinds, part}
use Rattle.policy_ast.specs.grammar.Patterns as patterns
use Rattle.policy_ast.specs.grammar.Patterns.{IsPatternLiteral}
use Rattle.policy_ast.specs.Version.{Two}
use Rattle.policy_ast.specs.Words.{is_name, is_reserved}
use Rattle.policy_ast.proofs.grammar.Facts.{AreParts, LeavesTail, parts_tail, behind_parts, behind_tail, empty_tail, made_parts, made_tail, node_tail, optional_tail, pair_parts}
use Rattle.policy_ast.proofs.grammar.Tails.{IsTail}
use Rattle.policy_ast.proofs.grammar.Laws.{Always, Finds, IsFound, IsRead, behind_is_read, chosen_then, empty_is_read, found_as, found_by, if_then, made_found, made_is_read, moved, node_above, paired_found, nothing_finds, on_finds, optional_is_read, pair_is_read, same_some}
use Rattle.policy_ast.proofs.grammar.Reading.{Reader, after, behind, making, nothing, on, paired, read_empty}
use Rattle.policy_ast.proofs.grammar.ReadingFields.{named, read_constant, read_effect_field, read_field, read_literal, read_name, read_number, read_pattern_literal, read_type, read_variant, type_over}

-- Name
pub name_then : {P : Type 0} (ts : Kinds) (p : Part (List ℕ) × Kinds) → read_name ts ≡ Some p → ((text : List ℕ) (rest : Kinds) → is_name Two text ≡ true → ts ≡ token.Word text ∷ rest → (part text 0, rest) ≡ p → P) → P
name_then [] p is go = absurd (cc)
name_then (token.Number n ∷ ts) p is go = absurd (cc)
name_then (token.Quoted q ∷ ts) p is go = absurd (cc)
name_then (token.Symbol s ∷ ts) p is go = absurd (cc)
name_then (token.Word text ∷ ts) p is go = if_then (is_name Two text) (part text 0, ts) p is (λ named e. go text ts named refl e)

pub name_is_read : {limit : ℕ} → IsRead IsName IsName read_name limit Always
name_is_read = record {
  reads = λ ts rest a x low ends. name_reads ts rest a x;
  finds = λ ts p is. name_then ts p is (λ text rest named e same. found_as same (moved (sym e) (record { spelled = fields.name named; low = omega arith })));
}
  where
    name_reads : (ts rest : Kinds) (a : Part (List ℕ)) → IsName ts rest a → read_name ts ≡ Some (a, rest)
    name_reads ts rest a (fields.name is) = rw is refl

pub name_parts : AreParts IsName
name_parts ts rest a (fields.name is) = record { tail = IsTail.behind IsTail.all; shorter = omega arith; opens = refl }

-- a name isn't a word that is reserved
pub not_word : (reserved : String) → is_name Two (codes reserved) ≡ false → (text : List ℕ) → is_name Two text ≡ true → (ts : Kinds) → after (word reserved) (token.Word text ∷ ts) ≡ None
not_word reserved is text named ts = still_not (codes reserved) text (bytes_eq (codes reserved) text) refl is named ts
  where
    still_not : (a b : List ℕ) (same : Bool) → bytes_eq a b ≡ same → is_name Two a ≡ false → is_name Two b ≡ true → (ts : Kinds) → (if same then Some ts else None) ≡ None
    still_not a b true same not named ts = absurd (true≢false (sym named ∙ ap (is_name Two) (sym ((bytes_eq-Decides a b).0 same)) ∙ not))
    still_not a b false same not named ts = refl

-- what is found behind a name, or by another reading
pub named_then : {A P : Type 0} {limit : ℕ} (row : Part (List ℕ) → Reader A) (other : Reader A) (ts : Kinds) (p : Part A × Kinds) → named row other ts ≡ Some p
    → ((text : List ℕ) (mid : Kinds) → IsFound IsName limit ts (part text 0, mid) → row (part text 0) mid ≡ Some p → P) → (other ts ≡ Some p → P) → P
named_then row other ts p is name none = chosen_then (read_name ts) (other ts) (λ a. row a.0 a.1) (Some p) is
    (λ unnamed e. none e)
    (λ a reads e. name_then ts a reads (λ text rest named begins same. name text rest
    (moved (sym begins) (record { spelled = fields.name named; low = omega arith })) (subst (λ q. row q.0 q.1 ≡ Some p) (sym same) e)))

-- Number
pub number_is_read : {limit : ℕ} → IsRead IsNumber IsNumber read_number limit Always
number_is_read = record { reads = λ ts rest a x low ends. number_reads ts rest a x; finds = number_finds }
  where
    number_reads : (ts rest : Kinds) (a : Part ℤ) → IsNumber ts rest a → read_number ts ≡ Some (a, rest)
    number_reads ts rest a fields.IsNumber.number = refl

    number_finds : {limit : ℕ} (ts : Kinds) (p : Part ℤ × Kinds) → read_number ts ≡ Some p → IsFound IsNumber limit ts p
    number_finds [] p is = absurd (cc)
    number_finds (token.Word w ∷ ts) p is = absurd (cc)
    number_finds (token.Quoted q ∷ ts) p is = absurd (cc)
    number_finds (token.Symbol s ∷ ts) p is = absurd (cc)
    number_finds (token.Number n ∷ ts) p is = found_as (same_some (part n 0, ts) p is) (record { spelled = fields.IsNumber.number; low = omega arith })

-- literal
literal_reads : (ts rest : Kinds) (a : Part Literal) → IsLiteral ts rest a → read_literal ts ≡ Some (a, rest)
unfolding read_literal is_reserved
literal_reads ts rest a (fields.IsLiteral.number (forms.made_of fields.IsNumber.number)) = refl
literal_reads ts rest a (fields.IsLiteral.quoted (forms.made_of fields.IsQuoted.quoted)) = refl
literal_reads ts rest a (fields.IsLiteral.true (forms.behind (forms.made_of forms.empty))) = refl
literal_reads ts rest a (fields.IsLiteral.false (forms.behind (forms.made_of forms.empty))) = refl
literal_reads ts rest a (fields.IsLiteral.variant (forms.made_of (forms.pair (fields.name is) (forms.behind (fields.name also))))) = rw (is, also) refl

on_constant : (limit : ℕ) → Finds IsLiteral (on (word "true") (making (λ none. literal.True) read_empty) (on (word "false") (making (λ none. literal.False) read_empty) nothing)) limit
on_constant limit =
    on_finds (word "true") ((made_is_read empty_is_read (λ none. literal.True)).finds) (λ ts rest a x. fields.IsLiteral.true x)
    (on_finds (word "false") ((made_is_read empty_is_read (λ none. literal.False)).finds) (λ ts rest a x. fields.IsLiteral.false x)
    nothing_finds)

pub constant_finds : (limit : ℕ) → Finds IsLiteral read_constant limit
constant_finds limit [] p is = absurd (cc)
constant_finds limit (token.Symbol s ∷ ts) p is = on_constant limit (token.Symbol s ∷ ts) p is
constant_finds limit (token.Word w ∷ ts) p is = on_constant limit (token.Word w ∷ ts) p is
constant_finds limit (token.Number n ∷ ts) p is =
    found_as (same_some (part (literal.Number n) 0, ts) p is) (record { spelled = fields.IsLiteral.number (forms.made_of fields.IsNumber.number); low = omega arith })
constant_finds limit (token.Quoted q ∷ ts) p is =
    found_as (same_some (part (literal.Text q) 0, ts) p is) (record { spelled = fields.IsLiteral.quoted (forms.made_of fields.IsQuoted.quoted); low = omega arith })

literal_finds : (limit : ℕ) → Finds IsLiteral read_literal limit
unfolding read_literal
literal_finds limit ts p is = named_then read_variant read_constant ts p is
    (λ text mid here e. found_by fields.IsLiteral.variant (made_found (λ t. literal.Variant t.0 t.1) (paired (part text 0) (behind path read_name)) ts mid
    (paired_found (part text 0) (behind path read_name) ts mid mid here ((behind_is_read name_is_read path).finds mid)) p e))
    (λ e. constant_finds limit ts p e)

pub literal_is_read : {limit : ℕ} → IsRead IsLiteral IsLiteral read_literal limit Always
literal_is_read {limit} = record { reads = λ ts rest a x low ends. literal_reads ts rest a x; finds = literal_finds limit }

pub literal_parts : AreParts IsLiteral
literal_parts ts rest a (fields.IsLiteral.number (forms.made_of fields.IsNumber.number)) = record { tail = IsTail.behind IsTail.all; shorter = omega arith; opens = refl }
literal_parts ts rest a (fields.IsLiteral.quoted (forms.made_of fields.IsQuoted.quoted)) = record { tail = IsTail.behind IsTail.all; shorter = omega arith; opens = refl }
literal_parts ts rest a (fields.IsLiteral.true x) = behind_parts (made_tail empty_tail _) (word "true") refl ts rest a x
literal_parts ts rest a (fields.IsLiteral.false x) = behind_parts (made_tail empty_tail _) (word "false") refl ts rest a x
literal_parts ts rest a (fields.IsLiteral.variant x) = made_parts (pair_parts name_parts (behind_tail (parts_tail name_parts) path)) _ ts rest a x

-- patlit
none_is_read : {limit : ℕ} → IsRead (Made (λ none. pattern_literal.None) Empty) (Made (λ none. pattern_literal.None) Empty) (making (λ none. pattern_literal.None) read_empty) limit Always
none_is_read = made_is_read empty_is_read (λ none. pattern_literal.None)

written_is_read : {limit : ℕ} → IsRead (Made pattern_literal.Literal IsLiteral) (Made pattern_literal.Literal IsLiteral) (making pattern_literal.Literal read_literal) limit Always
written_is_read = made_is_read literal_is_read pattern_literal.Literal

-- a literal isn't the word None
literal_not_none : (ts rest : Kinds) (a : Part Literal) → IsLiteral ts rest a → after (word "None") ts ≡ None
unfolding is_reserved
literal_not_none ts rest a (fields.IsLiteral.number (forms.made_of fields.IsNumber.number)) = refl
literal_not_none ts rest a (fields.IsLiteral.quoted (forms.made_of fields.IsQuoted.quoted)) = refl
literal_not_none ts rest a (fields.IsLiteral.true (forms.behind x)) = refl
literal_not_none ts rest a (fields.IsLiteral.false (forms.behind x)) = refl
literal_not_none ts rest a (fields.IsLiteral.variant (forms.made_of (forms.pair {mid = mid} (fields.name {text = text} is) x))) = not_word "None" refl text is mid

pattern_literal_reads : (limit : ℕ) (ts rest : Kinds) (a : Part PatternLiteral) → IsPatternLiteral ts rest a → a.height ≤ limit → read_pattern_literal ts ≡ Some (a, rest)
unfolding read_pattern_literal
pattern_literal_reads limit ts rest a (patterns.none (forms.behind {ts = inner} x)) low = none_is_read.reads inner rest a x low tt
pattern_literal_reads limit ts rest a (patterns.written (forms.made_of {a = b} x)) low =
    rw (literal_not_none ts rest b x) (written_is_read.reads ts rest a (forms.made_of x) low tt)

pattern_literal_finds : (limit : ℕ) → Finds IsPatternLiteral read_pattern_literal limit
unfolding read_pattern_literal
pattern_literal_finds limit = on_finds (word "None") none_is_read.finds (λ ts rest a x. patterns.none x) (λ ts p e. found_by patterns.written (written_is_read.finds ts p e))

pub pattern_literal_is_read : {limit : ℕ} → IsRead IsPatternLiteral IsPatternLiteral read_pattern_literal limit Always
pattern_literal_is_read {limit} = record { reads = λ ts rest a x low ends. pattern_literal_reads limit ts rest a x low; finds = pattern_literal_finds limit }

pub pattern_literal_parts : AreParts IsPatternLiteral
pattern_literal_parts ts rest a (patterns.none x) = behind_parts (made_tail empty_tail _) (word "None") refl ts rest a x
pattern_literal_parts ts rest a (patterns.written x) = made_parts literal_parts _ ts rest a x

-- type
module _ (Below Below' : Nonterminal FieldType) (below : Reader FieldType) (limit : ℕ) (law : IsRead Below Below' below limit Always) where
  type_over_reads : (ts rest : Kinds) (a : Part FieldType) → TypeOver Below ts rest a → a.height ≤ suc limit → type_over below (suc limit) ts ≡ Some (a, rest)
  type_over_reads ts rest a (fields.int (forms.behind {ts = inner} x)) low = (node_above empty_is_read (λ none. field_type.Int)).reads inner rest a x low tt
  type_over_reads ts rest a (fields.bool (forms.behind {ts = inner} x)) low = (node_above empty_is_read (λ none. field_type.Bool)).reads inner rest a x low tt
  type_over_reads ts rest a (fields.string (forms.behind {ts = inner} x)) low = (node_above empty_is_read (λ none. field_type.Str)).reads inner rest a x low tt
  type_over_reads ts rest a (fields.bytes (forms.behind {ts = inner} x)) low = (node_above empty_is_read (λ none. field_type.Raw)).reads inner rest a x low tt
  type_over_reads ts rest a (fields.id (forms.behind {ts = inner} x)) low = (node_above empty_is_read (λ none. field_type.Ident)).reads inner rest a x low tt
  type_over_reads ts rest a (fields.enum (forms.behind {ts = inner} x)) low = (node_above name_is_read field_type.Enum).reads inner rest a x low tt
  type_over_reads ts rest a (fields.struct (forms.behind {ts = inner} x)) low = (node_above name_is_read field_type.Struct).reads inner rest a x low tt
  type_over_reads ts rest a (fields.optional (forms.behind {ts = inner} x)) low = (node_above law field_type.Optional).reads inner rest a x low tt

  type_over_finds : Finds (TypeOver Below') (type_over below (suc limit)) (suc limit)
  type_over_finds =
      on_finds (word "int") ((node_above empty_is_read (λ none. field_type.Int)).finds) (λ ts rest a x. fields.int x)
      (on_finds (word "bool") ((node_above empty_is_read (λ none. field_type.Bool)).finds) (λ ts rest a x. fields.bool x)
      (on_finds (word "string") ((node_above empty_is_read (λ none. field_type.Str)).finds) (λ ts rest a x. fields.string x)
      (on_finds (word "bytes") ((node_above empty_is_read (λ none. field_type.Raw)).finds) (λ ts rest a x. fields.bytes x)
      (on_finds (word "id") ((node_above empty_is_read (λ none. field_type.Ident)).finds) (λ ts rest a x. fields.id x)
      (on_finds (word "enum") ((node_above name_is_read field_type.Enum).finds) (λ ts rest a x. fields.enum x)
      (on_finds (word "struct") ((node_above name_is_read field_type.Struct).finds) (λ ts rest a x. fields.struct x)
      (on_finds (word "optional") ((node_above law field_type.Optional).finds) (λ ts rest a x. fields.optional x)
      nothing_finds)))))))

type_within_finds : (limit : ℕ) → Finds (TypeWithin limit) (read_type limit) limit
unfolding read_type
type_within_finds zero ts p is = absurd (cc)
type_within_finds (suc limit) ts p is = type_over_finds (TypeWithin zero) (TypeWithin limit) (read_type limit) limit
    (record { reads = λ ts rest a x low ends. absurd x; finds = type_within_finds limit }) ts p is

type_within_high : (n : ℕ) (ts rest : Kinds) (a : Part FieldType) → TypeWithin n ts rest a → 0 < a.height
type_within_high zero ts rest a x = absurd x
type_within_high (suc n) ts rest a (fields.int (forms.behind (forms.node_of x))) = omega arith
type_within_high (suc n) ts rest a (fields.bool (forms.behind (forms.node_of x))) = omega arith
type_within_high (suc n) ts rest a (fields.string (forms.behind (forms.node_of x))) = omega arith
type_within_high (suc n) ts rest a (fields.bytes (forms.behind (forms.node_of x))) = omega arith
type_within_high (suc n) ts rest a (fields.id (forms.behind (forms.node_of x))) = omega arith
type_within_high (suc n) ts rest a (fields.enum (forms.behind (forms.node_of x))) = omega arith
type_within_high (suc n) ts rest a (fields.struct (forms.behind (forms.node_of x))) = omega arith
type_within_high (suc n) ts rest a (fields.optional (forms.behind (forms.node_of x))) = omega arith

type_within_reads : (n limit : ℕ) (ts rest : Kinds) (a : Part FieldType) → TypeWithin n ts rest a → a.height ≤ limit → read_type limit ts ≡ Some (a, rest)
unfolding read_type
type_within_reads zero limit ts rest a x low = absurd x
type_within_reads (suc n) zero ts rest a x low = let high = type_within_high (suc n) ts rest a x in absurd (omega (arith, high, low))
type_within_reads (suc n) (suc limit) ts rest a x low = type_over_reads (TypeWithin n) (TypeWithin limit) (read_type limit) limit
    (record { reads = λ ts rest a x low ends. type_within_reads n limit ts rest a x low; finds = type_within_finds limit }) ts rest a x low

type_reads : (limit : ℕ) (ts rest : Kinds) (a : Part FieldType) → IsType ts rest a → a.height ≤ limit → read_type limit ts ≡ Some (a, rest)
type_reads limit ts rest a (fields.nested n x) low = type_within_reads n limit ts rest a x low

pub type_is_read : (limit : ℕ) → IsRead IsType IsType (read_type limit) limit Always
type_is_read limit = record {
  reads = λ ts rest a x low ends. type_reads limit ts rest a x low;
  finds = λ ts p is. let found = type_within_finds limit ts p is in record { spelled = fields.nested limit found.spelled; low = found.low };
}

type_within_tail : (n : ℕ) → LeavesTail (TypeWithin n)
type_within_tail zero ts rest a x = absurd x
type_within_tail (suc n) ts rest a (fields.int x) = behind_tail (node_tail empty_tail _) (word "int") ts rest a x
type_within_tail (suc n) ts rest a (fields.bool x) = behind_tail (node_tail empty_tail _) (word "bool") ts rest a x
type_within_tail (suc n) ts rest a (fields.string x) = behind_tail (node_tail empty_tail _) (word "string") ts rest a x
type_within_tail (suc n) ts rest a (fields.bytes x) = behind_tail (node_tail empty_tail _) (word "bytes") ts rest a x
type_within_tail (suc n) ts rest a (fields.id x) = behind_tail (node_tail empty_tail _) (word "id") ts rest a x
type_within_tail (suc n) ts rest a (fields.enum x) = behind_tail (node_tail (parts_tail name_parts) _) (word "enum") ts rest a x
type_within_tail (suc n) ts rest a (fields.struct x) = behind_tail (node_tail (parts_tail name_parts) _) (word "struct") ts rest a x
type_within_tail (suc n) ts rest a (fields.optional x) = behind_tail (node_tail (type_within_tail n) _) (word "optional") ts rest a x

pub type_tail : LeavesTail IsType
type_tail ts rest a (fields.nested n x) = type_within_tail n ts rest a x

-- field
pub field_is_read : (limit : ℕ) → IsRead IsField IsField (read_field limit) limit Always
field_is_read limit = made_is_read (pair_is_read name_is_read (type_is_read limit) (λ ts rest b y. tt)) _

pub field_parts : AreParts IsField
field_parts = made_parts (pair_parts name_parts type_tail) _

-- what may follow a field of an effect
abbrev pub NotDynamic : Kinds → Type 0
NotDynamic ts = (after (word "dynamic") ts ≡ None) × Always ts

pub effect_field_is_read : (limit : ℕ) → IsRead IsEffectField IsEffectField (read_effect_field limit) limit NotDynamic
effect_field_is_read limit = made_is_read (pair_is_read (field_is_read limit) (optional_is_read empty_is_read (word "dynamic")) (λ ts rest b y. tt)) _

pub effect_field_parts : AreParts IsEffectField
effect_field_parts = made_parts (pair_parts field_parts (optional_tail empty_tail (word "dynamic"))) _
