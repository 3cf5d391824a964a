-- One step down of each reading that leads back to itself.
use Rattle.std.proofs.Common.{◌≡◌, ℕ, zero, suc, ◌<◌, ◌-◌, Option, None, Some, Result, Ok, Err, refl, subst, arith}
use Rattle.policy_ast.specs.grammar.Parts.{Kinds}
use Rattle.policy_ast.specs.grammar.Expressions.{Level}
use Rattle.policy_ast.specs.grammar.Statements.{Inner}
use Rattle.policy_ast.proofs.grammar.ReadingExpressions.{expr_over, read_expr}
use Rattle.policy_ast.proofs.grammar.ReadingFields.{read_type, type_over}
use Rattle.policy_ast.proofs.grammar.ReadingStatements.{inner_over, read_stmt}
use Rattle.policy_parse.specs.declared.unparsed.Unparsed.{Unparsed}
use Rattle.policy_parse.specs.declared.unparsed.Unparsed.TheVariants as unparsed
use Rattle.policy_parse.specs.working.Reads.{Reads, or_none}

pub type_none : (limit : ℕ) (ts : Kinds) → limit ≡ 0 → read_type limit ts ≡ None
unfolding read_type
type_none zero ts is = refl
type_none (suc limit) ts is = absurd (omega (arith, is))

pub type_step : (limit : ℕ) (ts : Kinds) → 0 < limit → read_type limit ts ≡ type_over (read_type (limit - 1)) limit ts
unfolding read_type
type_step zero ts is = absurd (omega (arith, is))
type_step (suc limit) ts is = let e : suc limit - 1 ≡ limit = omega arith in rw e refl

pub expr_none : (limit : ℕ) (place : Level) (ts : Kinds) → limit ≡ 0 → read_expr limit place ts ≡ None
unfolding read_expr
expr_none zero place ts is = refl
expr_none (suc limit) place ts is = absurd (omega (arith, is))

pub expr_step : (limit : ℕ) (place : Level) (ts : Kinds) → 0 < limit → read_expr limit place ts ≡ expr_over (read_expr (limit - 1)) (limit - 1) place ts
unfolding read_expr
expr_step zero place ts is = absurd (omega (arith, is))
expr_step (suc limit) place ts is = let e : suc limit - 1 ≡ limit = omega arith in rw e refl

pub stmt_none : (limit : ℕ) (inner : Inner) (ts : Kinds) → limit ≡ 0 → read_stmt limit inner ts ≡ None
unfolding read_stmt
stmt_none zero inner ts is = refl
stmt_none (suc limit) inner ts is = absurd (omega (arith, is))

pub stmt_step : (limit : ℕ) (inner : Inner) (ts : Kinds) → 0 < limit → read_stmt limit inner ts ≡ inner_over (read_stmt (limit - 1)) (limit - 1) inner ts
unfolding read_stmt
stmt_step zero inner ts is = absurd (omega (arith, is))
stmt_step (suc limit) inner ts is = let e : suc limit - 1 ≡ limit = omega arith in rw e refl

-- what a reader's call answered, where it is handed on without its refusal
pub read_none : {X A : Type 0} (view : X → A) (r : Result X Unparsed) (found : Option A) → Ok None ≡ or_none r → Reads view r found → found ≡ None
read_none view (Ok x) found is read = absurd (cc)
read_none view (Err unparsed.NoMatch) found is read = read
read_none view (Err unparsed.NoMemory) found is read = absurd (cc)

pub read_some : {X A : Type 0} (view : X → A) (r : Result X Unparsed) (x : X) (found : Option A) → Ok (Some x) ≡ or_none r → Reads view r found → found ≡ Some (view x)
read_some view (Ok y) x found is read = let same : y ≡ x = cc in subst (λ z. found ≡ Some (view z)) same read
read_some view (Err unparsed.NoMatch) x found is read = absurd (cc)
read_some view (Err unparsed.NoMemory) x found is read = absurd (cc)
