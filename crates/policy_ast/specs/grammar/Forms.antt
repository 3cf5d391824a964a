-- The forms of which the grammar's productions are made.
use Rattle.std.specs.Prelude.{List, ◌∷◌, Option, Some, None}
use Rattle.policy_ast.specs.declared.part.Part.{Part}
use Rattle.policy_ast.specs.declared.token.TokenKind.{TokenKind}
use Rattle.policy_ast.specs.grammar.Fixed.{comma}
use Rattle.policy_ast.specs.grammar.Parts.{Nonterminal, Kinds, made_both, appended, made, node, nothing_yet, part}

infixr 40 ◌▸◌ ◌⊗◌
infixl 50 ◌◂◌
-- nothing is written
pub data Empty : Kinds → Kinds → Part Unit → Type 0 where
  empty : {ts : Kinds} → Empty ts ts (part tt 0)

-- `t ▸ X`: the token, and then X
pub data ◌▸◌ {A : Type 0} (t : TokenKind) (X : Nonterminal A) : Kinds → Kinds → Part A → Type 0 where
  behind : {ts rest : Kinds} {a : Part A} → X ts rest a → (t ▸ X) (t ∷ ts) rest a

-- `X ◂ t`: X, and then the token
pub data ◌◂◌ {A : Type 0} (X : Nonterminal A) (t : TokenKind) : Kinds → Kinds → Part A → Type 0 where
  before : {ts rest : Kinds} {a : Part A} → X ts (t ∷ rest) a → (X ◂ t) ts rest a

-- `X ⊗ Y`: X, and then Y
pub data ◌⊗◌ {A B : Type 0} (X : Nonterminal A) (Y : Nonterminal B) : Kinds → Kinds → Part (A × B) → Type 0 where
  pair : {ts mid rest : Kinds} {a : Part A} {b : Part B} → X ts mid a → Y mid rest b → (X ⊗ Y) ts rest (made_both (λ a b. (a, b)) a b)

-- what is made of X, no node of its own
pub data Made {A B : Type 0} (make : A → B) (X : Nonterminal A) : Kinds → Kinds → Part B → Type 0 where
  made_of : {ts rest : Kinds} {a : Part A} → X ts rest a → Made make X ts rest (made make a)

-- what is made of X, a node
pub data Node {A B : Type 0} (make : A → B) (X : Nonterminal A) : Kinds → Kinds → Part B → Type 0 where
  node_of : {ts rest : Kinds} {a : Part A} → X ts rest a → Node make X ts rest (node make a)

-- `(t X)?`
pub data Optional {A : Type 0} (t : TokenKind) (X : Nonterminal A) : Kinds → Kinds → Part (Option A) → Type 0 where
  absent : {ts : Kinds} → Optional t X ts ts (part None 0)
  present : {ts rest : Kinds} {a : Part A} → X ts rest a → Optional t X (t ∷ ts) rest (made Some a)

-- `X*` and the token after it: what was there so far, and all
pub data ManyMore {A : Type 0} (close : TokenKind) (X : Nonterminal A) : Kinds → Kinds → Part (List A) → Part (List A) → Type 0 where
  none : {rest : Kinds} {found : Part (List A)} → ManyMore close X (close ∷ rest) rest found found
  more : {ts mid rest : Kinds} {a : Part A} {found all : Part (List A)} → X ts mid a → ManyMore close X mid rest (appended found a) all → ManyMore close X ts rest found all

abbrev pub Many : {A : Type 0} → Nonterminal A → TokenKind → Nonterminal (List A)
Many X close ts rest all = ManyMore close X ts rest nothing_yet all

-- `list(X)` and the token after it: any number of X separated by commas, with an optional comma after the last
pub data ListedMore {A : Type 0} (close : TokenKind) (X : Nonterminal A) : Kinds → Kinds → Part (List A) → Part (List A) → Type 0 where
  none : {rest : Kinds} {found : Part (List A)} → ListedMore close X (close ∷ rest) rest found found
  last : {ts rest : Kinds} {a : Part A} {found : Part (List A)} → X ts (close ∷ rest) a → ListedMore close X ts rest found (appended found a)
  more : {ts mid rest : Kinds} {a : Part A} {found all : Part (List A)} → X ts (comma ∷ mid) a → ListedMore close X mid rest (appended found a) all → ListedMore close X ts rest found all

abbrev pub Listed : {A : Type 0} → Nonterminal A → TokenKind → Nonterminal (List A)
Listed X close ts rest all = ListedMore close X ts rest nothing_yet all

-- `(t X)*`: what was there so far, and the whole, to which each X is added
pub data Chain {A B : Type 0} (t : TokenKind) (add : Part B → Part A → Part B) (X : Nonterminal A) : Kinds → Kinds → Part B → Part B → Type 0 where
  done : {ts : Kinds} {b : Part B} → Chain t add X ts ts b b
  more : {ts mid rest : Kinds} {a : Part A} {b c : Part B} → X ts mid a → Chain t add X mid rest (add b a) c → Chain t add X (t ∷ ts) rest b c

-- `X (t Y)*`
pub data Chained {A B : Type 0} (t : TokenKind) (add : Part B → Part A → Part B) (X : Nonterminal B) (Y : Nonterminal A) : Kinds → Kinds → Part B → Type 0 where
  chained : {ts mid rest : Kinds} {b c : Part B} → X ts mid b → Chain t add Y mid rest b c → Chained t add X Y ts rest c
