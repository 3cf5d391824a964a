-- How parts are read from the front of a list of tokens: a reading for each form of the grammar's rows.
-- This serves the proofs alone: what is spelled stands in the grammar, and the laws say that the two agree.
use Rattle.std.specs.Prelude.{ℕ, zero, suc, ◌+◌, max, ◌==◌, nat_lt, Bool, false, if◌then◌else◌, List, [], ◌∷◌, length, Option, Some, None, option_and_then}
use Rattle.std.proofs.Common.{int_eq}
use Rattle.std.specs.Str.{bytes_eq}
use Rattle.policy_ast.specs.declared.part.Part.{Part}
use Rattle.policy_ast.specs.declared.token.TokenKind.{TokenKind}
use Rattle.policy_ast.specs.declared.token.TokenKind.TheVariants as token
use Rattle.policy_ast.specs.grammar.Fixed.{comma}
use Rattle.policy_ast.specs.grammar.Parts.{Kinds, made_both, appended, made, nothing_yet, part}

-- what the tokens begin with, and the tokens behind it
abbrev pub Reader : Type 0 → Type 0
Reader A = Kinds → Option (Part A × Kinds)

abbrev pub is_token : TokenKind → TokenKind → Bool
is_token (token.Word a) (token.Word b) = bytes_eq a b
is_token (token.Number a) (token.Number b) = int_eq a b
is_token (token.Quoted a) (token.Quoted b) = bytes_eq a b
is_token (token.Symbol a) (token.Symbol b) = a == b
is_token _ _ = false

-- the tokens behind this one, where it is the first
abbrev pub after : TokenKind → Kinds → Option Kinds
after t [] = None
after t (u ∷ ts) = if is_token t u then Some ts else None

-- a look that isn't a failure: what is done where nothing is seen, and where something is
abbrev pub chosen : {A B : Type 0} → Option A → B → (A → B) → B
chosen None x f = x
chosen (Some a) x f = f a

-- where the first token is this one, what is read behind it, and otherwise another reading
abbrev pub on : {A : Type 0} → TokenKind → Reader A → Reader A → Reader A
on t read other ts = chosen (after t ts) (other ts) read

abbrev pub nothing : {A : Type 0} → Reader A
nothing ts = None

abbrev pub read_empty : Reader Unit
read_empty ts = Some (part tt 0, ts)

abbrev pub behind : {A : Type 0} → TokenKind → Reader A → Reader A
behind t read ts = option_and_then read (after t ts)

abbrev pub before : {A : Type 0} → TokenKind → Reader A → Reader A
before t read ts = option_and_then (λ a. option_and_then (λ rest. Some (a.0, rest)) (after t a.1)) (read ts)

-- what is read behind a part, and the two
abbrev pub paired : {A B : Type 0} → Part A → Reader B → Reader (A × B)
paired a second ts = option_and_then (λ b. Some (made_both (λ a b. (a, b)) a b.0, b.1)) (second ts)

abbrev pub pair : {A B : Type 0} → Reader A → Reader B → Reader (A × B)
pair first second ts = option_and_then (λ a. paired a.0 second a.1) (first ts)

abbrev pub making : {A B : Type 0} → (A → B) → Reader A → Reader B
making make read ts = option_and_then (λ a. Some (made make a.0, a.1)) (read ts)

-- a node over parts of this height, where it is not too high
abbrev pub built : {A : Type 0} → ℕ → A → ℕ → Reader A
built limit tree height ts = if nat_lt height limit then Some (part tree (height + 1), ts) else None

abbrev pub noded : {A B : Type 0} → ℕ → (A → B) → Reader A → Reader B
noded limit make read ts = option_and_then (λ a. built limit (make a.0.tree) a.0.height a.1) (read ts)

abbrev pub optional : {A : Type 0} → TokenKind → Reader A → Reader (Option A)
optional t read ts = chosen (after t ts) (Some (part None 0, ts)) (making Some read)

-- parts up to a token, at most so many turns
unfoldable pub many_more : {A : Type 0} → TokenKind → Reader A → ℕ → Part (List A) → Reader (List A)
many_more close one zero found ts = None
many_more close one (suc k) found ts = chosen (after close ts)
    (option_and_then (λ a. many_more close one k (appended found a.0) a.1) (one ts))
    (λ rest. Some (found, rest))

abbrev pub many : {A : Type 0} → TokenKind → Reader A → Reader (List A)
many close one ts = many_more close one (length ts) nothing_yet ts

-- parts with commas up to a token
unfoldable pub listed_more : {A : Type 0} → TokenKind → Reader A → ℕ → Part (List A) → Reader (List A)
listed_more close one zero found ts = None
listed_more close one (suc k) found ts = chosen (after close ts)
    (option_and_then (λ a. chosen (after close a.1)
    (option_and_then (λ mid. listed_more close one k (appended found a.0) mid) (after comma a.1))
    (λ rest. Some (appended found a.0, rest))) (one ts))
    (λ rest. Some (found, rest))

abbrev pub listed : {A : Type 0} → TokenKind → Reader A → Reader (List A)
listed close one ts = listed_more close one (length ts) nothing_yet ts

-- further parts, each behind a token and added to what there is; `added` may find the whole too high
unfoldable pub chain : {A B : Type 0} → TokenKind → (Part B → Part A → Reader B) → Reader A → ℕ → Part B → Reader B
chain t added one zero b ts = chosen (after t ts) (Some (b, ts)) nothing
chain t added one (suc k) b ts = chosen (after t ts) (Some (b, ts))
    (λ mid. option_and_then (λ a. option_and_then (λ c. chain t added one k c.0 c.1) (added b a.0 a.1)) (one mid))

abbrev pub chained : {A B : Type 0} → TokenKind → (Part B → Part A → Reader B) → Reader B → Reader A → Reader B
chained t added first one ts = option_and_then (λ b. chain t added one (length b.1) b.0 b.1) (first ts)

-- what is added as a node, and to a list
abbrev pub node_added : {A B : Type 0} → ℕ → (B → A → B) → Part B → Part A → Reader B
node_added limit make b a ts = built limit (make b.tree a.tree) (max b.height a.height) ts

abbrev pub list_added : {A : Type 0} → Part (List A) → Part A → Reader (List A)
list_added b a ts = Some (appended b a, ts)

-- one of several operators, each written as a token
abbrev pub operator : {A : Type 0} → (A → TokenKind) → List A → Kinds → Option (A × Kinds)
operator written [] ts = None
operator written (op ∷ ops) ts = chosen (after (written op) ts) (operator written ops ts) (λ rest. Some (op, rest))

-- where the tokens begin with an operator, what is read behind it, and otherwise another reading
abbrev pub operated : {A B : Type 0} → (A → TokenKind) → List A → (A → Reader B) → Reader B → Reader B
operated written ops row other ts = chosen (operator written ops ts) (other ts) (λ o. row o.0 o.1)
