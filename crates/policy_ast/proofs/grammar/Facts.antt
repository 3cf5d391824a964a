-- What each form takes of the tokens, and that it begins with no closing symbol.
use Rattle.std.proofs.Common.{◌≡◌, ◌<◌, ◌≤◌, ◌==◌, ◌||◌, not, Bool, true, false, List, [], ◌∷◌, length, Some, None, if◌then◌else◌, refl, ap, sym, ◌∙◌, arith, true≢false}
use Rattle.policy_ast.specs.declared.part.Part.{Part}
use Rattle.policy_ast.specs.declared.token.TokenKind.{TokenKind}
use Rattle.policy_ast.specs.declared.token.TokenKind.TheVariants as token
use Rattle.policy_ast.specs.Symbols.{symbol_index}
use Rattle.policy_ast.specs.Version.{Two}
use Rattle.policy_ast.specs.grammar.Fixed.{comma}
use Rattle.policy_ast.specs.grammar.Forms as forms
use Rattle.policy_ast.specs.grammar.Forms.{◌▸◌, ◌◂◌, ◌⊗◌, Chain, Chained, Empty, Listed, ListedMore, Made, Many, ManyMore, Node, Optional}
use Rattle.policy_ast.specs.grammar.Parts.{Nonterminal, Kinds, appended, nothing_yet}
use Rattle.policy_ast.proofs.grammar.Laws.{token_same}
use Rattle.policy_ast.proofs.grammar.Loops.{IsForward, Unclosed}
use Rattle.policy_ast.proofs.grammar.Reading.{after, is_token}
use Rattle.policy_ast.proofs.grammar.Tails.{IsTail, tail_length, tail_next, tail_of_tail}

-- a symbol with which no part of a list begins
abbrev pub is_closing : TokenKind → Bool
is_closing (token.Symbol s) = (s == symbol_index Two "}") || (s == symbol_index Two "]") || (s == symbol_index Two ")") || (s == symbol_index Two ":")
    || (s == symbol_index Two "?") || (s == symbol_index Two "{") || (s == symbol_index Two ",")
is_closing _ = false

abbrev pub is_open : Kinds → Bool
is_open [] = false
is_open (t ∷ ts) = not (is_closing t)

pub record IsPart (ts rest : Kinds) : Type 0 where
  pub tail : IsTail ts rest
  pub shorter : length rest < length ts
  pub opens : is_open ts ≡ true

abbrev pub AreParts : {A : Type 0} → Nonterminal A → Type 0
AreParts X = (ts rest : Kinds) (a : Part _) → X ts rest a → IsPart ts rest

abbrev pub LeavesTail : {A : Type 0} → Nonterminal A → Type 0
LeavesTail X = (ts rest : Kinds) (a : Part _) → X ts rest a → IsTail ts rest

still_open : (close u : TokenKind) (b : Bool) → is_token close u ≡ b → is_closing close ≡ true → not (is_closing u) ≡ true → (ts : Kinds) → (if b then Some ts else None) ≡ None
still_open close u true same closing opens ts = absurd (true≢false (sym opens ∙ ap not (sym (ap is_closing (token_same close u same)) ∙ closing)))
still_open close u false same closing opens ts = refl

pub not_after : (close : TokenKind) → is_closing close ≡ true → (ts : Kinds) → is_open ts ≡ true → after close ts ≡ None
not_after close closing [] opens = refl
not_after close closing (u ∷ ts) opens = still_open close u (is_token close u) refl closing opens ts

pub unclosed : {A : Type 0} {X : Nonterminal A} → AreParts X → (close : TokenKind) → is_closing close ≡ true → Unclosed close X
unclosed parts close closing ts rest a x = not_after close closing ts ((parts ts rest a x).opens)

pub forward : {A : Type 0} {X : Nonterminal A} → AreParts X → IsForward X
forward parts ts rest a x = (parts ts rest a x).shorter

pub parts_tail : {A : Type 0} {X : Nonterminal A} → AreParts X → LeavesTail X
parts_tail parts ts rest a x = (parts ts rest a x).tail

pub empty_tail : LeavesTail Empty
empty_tail ts rest a forms.empty = IsTail.all

module _ {A : Type 0} {X : Nonterminal A} (tail : LeavesTail X) where
  pub behind_parts : (t : TokenKind) → is_closing t ≡ false → AreParts (t ▸ X)
  behind_parts t opens ts rest a (forms.behind {ts = inner} x) =
      let p = tail inner rest a x in let q = tail_length p in record { tail = IsTail.behind p; shorter = omega (arith, q); opens = ap not opens }

  pub behind_tail : (t : TokenKind) → LeavesTail (t ▸ X)
  behind_tail t ts rest a (forms.behind {ts = inner} x) = IsTail.behind (tail inner rest a x)

  pub before_tail : (t : TokenKind) → LeavesTail (X ◂ t)
  before_tail t ts rest a (forms.before x) = tail_next (tail ts (t ∷ rest) a x)

  pub made_tail : {B : Type 0} (make : A → B) → LeavesTail (Made make X)
  made_tail make ts rest a (forms.made_of {a = b} x) = tail ts rest b x

  pub node_tail : {B : Type 0} (make : A → B) → LeavesTail (Node make X)
  node_tail make ts rest a (forms.node_of {a = b} x) = tail ts rest b x

  pub optional_tail : (t : TokenKind) → LeavesTail (Optional t X)
  optional_tail t ts rest a forms.absent = IsTail.all
  optional_tail t ts rest a (forms.present {ts = inner} {a = b} x) = IsTail.behind (tail inner rest b x)

  many_more_tail : (close : TokenKind) (ts rest : Kinds) (found all : Part (List A)) → ManyMore close X ts rest found all → IsTail ts rest
  many_more_tail close ts rest found all forms.ManyMore.none = IsTail.behind IsTail.all
  many_more_tail close ts rest found all (forms.ManyMore.more {mid = mid} {a = a} x xs) = tail_of_tail (tail ts mid a x) (many_more_tail close mid rest (appended found a) all xs)

  pub many_tail : (close : TokenKind) → LeavesTail (Many X close)
  many_tail close ts rest a x = many_more_tail close ts rest nothing_yet a x

  listed_more_tail : (close : TokenKind) (ts rest : Kinds) (found all : Part (List A)) → ListedMore close X ts rest found all → IsTail ts rest
  listed_more_tail close ts rest found all forms.ListedMore.none = IsTail.behind IsTail.all
  listed_more_tail close ts rest found all (forms.ListedMore.last {a = a} x) = tail_next (tail ts (close ∷ rest) a x)
  listed_more_tail close ts rest found all (forms.ListedMore.more {mid = mid} {a = a} x xs) =
      tail_of_tail (tail_next (tail ts (comma ∷ mid) a x)) (listed_more_tail close mid rest (appended found a) all xs)

  pub listed_tail : (close : TokenKind) → LeavesTail (Listed X close)
  listed_tail close ts rest a x = listed_more_tail close ts rest nothing_yet a x

  pub chain_tail : {B : Type 0} (t : TokenKind) (add : Part B → Part A → Part B) (ts rest : Kinds) (b c : Part B) → Chain t add X ts rest b c → IsTail ts rest
  chain_tail t add ts rest b c forms.Chain.done = IsTail.all
  chain_tail t add ts rest b c (forms.Chain.more {ts = inner} {mid = mid} {a = a} x xs) = IsTail.behind (tail_of_tail (tail inner mid a x) (chain_tail t add mid rest (add b a) c xs))

pub pair_tail : {A B : Type 0} {X : Nonterminal A} {Y : Nonterminal B} → LeavesTail X → LeavesTail Y → LeavesTail (X ⊗ Y)
pair_tail tail also ts rest c (forms.pair {mid = mid} {a = a} {b = b} x y) = tail_of_tail (tail ts mid a x) (also mid rest b y)

-- a part, and what stands behind it
shortened : {ts mid rest : Kinds} → IsPart ts mid → IsTail mid rest → IsPart ts rest
shortened part tail =
    let p = part.shorter in let q = tail_length tail in record { tail = tail_of_tail part.tail tail; shorter = omega (arith, p, q); opens = part.opens }

-- it is a node, or has one in it
abbrev pub AreHigh : {A : Type 0} → Nonterminal A → Type 0
AreHigh X = (ts rest : Kinds) (a : Part _) → X ts rest a → 0 < a.height

pub node_high : {A B : Type 0} {X : Nonterminal A} (make : A → B) → AreHigh (Node make X)
node_high make ts rest a (forms.node_of x) = omega arith

pub behind_high : {A : Type 0} {X : Nonterminal A} → AreHigh X → (t : TokenKind) → AreHigh (t ▸ X)
behind_high high t ts rest a (forms.behind {ts = inner} x) = high inner rest a x

chain_high : {A B : Type 0} {X : Nonterminal A} (t : TokenKind) (add : Part B → Part A → Part B) → ((b : Part B) (a : Part A) → b.height ≤ (add b a).height)
    → (ts rest : Kinds) (b c : Part B) → Chain t add X ts rest b c → b.height ≤ c.height
chain_high t add grows ts rest b c forms.Chain.done = omega arith
chain_high t add grows ts rest b c (forms.Chain.more {mid = mid} {a = a} x xs) = let p = grows b a in let q = chain_high t add grows mid rest (add b a) c xs in omega (arith, p, q)

pub chained_high : {A B : Type 0} {X : Nonterminal B} {Y : Nonterminal A} → AreHigh X → (t : TokenKind) (add : Part B → Part A → Part B) → ((b : Part B) (a : Part A) → b.height ≤ (add b a).height) → AreHigh (Chained t add X Y)
chained_high high t add grows ts rest c (forms.chained {mid = mid} {b = b} x ys) = let p = high ts mid b x in let q = chain_high t add grows mid rest b c ys in omega (arith, p, q)

module _ {A : Type 0} {X : Nonterminal A} (parts : AreParts X) where
  pub before_parts : (t : TokenKind) → AreParts (X ◂ t)
  before_parts t ts rest a (forms.before x) =
      let p = parts ts (t ∷ rest) a x in let q = p.shorter in record { tail = tail_next p.tail; shorter = omega (arith, q); opens = p.opens }

  pub made_parts : {B : Type 0} (make : A → B) → AreParts (Made make X)
  made_parts make ts rest a (forms.made_of {a = b} x) = parts ts rest b x

  pub node_parts : {B : Type 0} (make : A → B) → AreParts (Node make X)
  node_parts make ts rest a (forms.node_of {a = b} x) = parts ts rest b x

  pub pair_parts : {B : Type 0} {Y : Nonterminal B} → LeavesTail Y → AreParts (X ⊗ Y)
  pair_parts also ts rest c (forms.pair {mid = mid} {a = a} {b = b} x y) = shortened (parts ts mid a x) (also mid rest b y)

  pub chained_parts : {B : Type 0} {Y : Nonterminal B} (t : TokenKind) (add : Part A → Part B → Part A) → LeavesTail Y → AreParts (Chained t add X Y)
  chained_parts t add also ts rest c (forms.chained {mid = mid} {b = b} x ys) = shortened (parts ts mid b x) (chain_tail also t add mid rest b c ys)
