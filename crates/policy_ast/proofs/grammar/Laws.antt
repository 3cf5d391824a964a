-- The laws of the readings: what is spelled is read, and only that; for each form of the grammar's rows.
use Rattle.std.proofs.Common.{◌≡◌, ℕ, suc, ◌+◌, ◌<◌, ◌≤◌, Bool, true, false, List, [], ◌∷◌, Option, Some, None, option_and_then, if◌then◌else◌, nat_lt, refl, ap, sym, subst, arith, true≢false}
use Rattle.std.specs.Cmp.{signed_Decides, unsigned_Decides}
use Rattle.std.proofs.lemmas.Bool.Decides.{Decides-ltb}
use Rattle.std.proofs.lemmas.Slice.Eq.{bytes_eq-Decides}
use Rattle.policy_ast.specs.declared.part.Part.{Part}
use Rattle.policy_ast.specs.declared.token.TokenKind.{TokenKind}
use Rattle.policy_ast.specs.declared.token.TokenKind.TheVariants as token
use Rattle.policy_ast.specs.grammar.Forms as forms
use Rattle.policy_ast.specs.grammar.Forms.{◌▸◌, ◌◂◌, ◌⊗◌, Empty, Made, Node, Optional}
use Rattle.policy_ast.specs.grammar.Parts.{Nonterminal, Kinds, made_both, made, part}
use Rattle.policy_ast.proofs.grammar.Reading.{Reader, after, before, behind, built, chosen, is_token, making, noded, nothing, on, operated, operator, optional, pair, paired, read_empty}

abbrev pub Always : Kinds → Type 0
Always ts = Unit

-- what is read is spelled, and no higher than the limit
pub record IsFound {A : Type 0} (X : Nonterminal A) (limit : ℕ) (ts : Kinds) (p : Part A × Kinds) : Type 0 where
  pub spelled : X ts p.1 p.0
  pub low : p.0.height ≤ limit

abbrev pub Finds : {A : Type 0} → Nonterminal A → Reader A → ℕ → Type 0
Finds {A} X read limit = (ts : Kinds) (p : Part A × Kinds) → read ts ≡ Some p → IsFound X limit ts p

-- Both laws, where tokens follow before which the part may end. What is read is said to be X': that is X,
-- or X with another number of how deep things lie in one another.
pub record IsRead {A : Type 0} (X X' : Nonterminal A) (read : Reader A) (limit : ℕ) (End : Kinds → Type 0) : Type 0 where
  pub reads : (ts rest : Kinds) (a : Part A) → X ts rest a → a.height ≤ limit → End rest → read ts ≡ Some (a, rest)
  pub finds : Finds X' read limit

abbrev some_or : {A : Type 0} → A → Option A → A
some_or x None = x
some_or x (Some y) = y

pub same_some : {A : Type 0} (x y : A) → Some x ≡ Some y → x ≡ y
same_some x y is = ap (some_or x) is

pub bind_then : {A B P : Type 0} (o : Option A) (f : A → Option B) (y : B) → option_and_then f o ≡ Some y → ((x : A) → o ≡ Some x → f x ≡ Some y → P) → P
bind_then None f y is go = absurd (cc)
bind_then (Some x) f y is go = go x refl is

pub chosen_then : {A B P : Type 0} (o : Option A) (x : B) (f : A → B) (y : B) → chosen o x f ≡ y → (o ≡ None → x ≡ y → P) → ((a : A) → o ≡ Some a → f a ≡ y → P) → P
chosen_then None x f y is none some = none refl is
chosen_then (Some a) x f y is none some = some a refl is

pub if_then : {A P : Type 0} (b : Bool) (x : A) (y : A) → (if b then Some x else None) ≡ Some y → (b ≡ true → x ≡ y → P) → P
if_then true x y is go = go refl (same_some x y is)
if_then false x y is go = absurd (cc)

-- one token
same_token : (t : TokenKind) → is_token t t ≡ true
same_token (token.Word w) = (bytes_eq-Decides w w).1 refl
same_token (token.Number n) = (signed_Decides n n).1 refl
same_token (token.Quoted q) = (bytes_eq-Decides q q).1 refl
same_token (token.Symbol s) = (unsigned_Decides s s).1 refl

pub token_same : (t u : TokenKind) → is_token t u ≡ true → t ≡ u
token_same (token.Word a) (token.Word b) is = ap token.Word ((bytes_eq-Decides a b).0 is)
token_same (token.Number a) (token.Number b) is = ap token.Number ((signed_Decides a b).0 is)
token_same (token.Quoted a) (token.Quoted b) is = ap token.Quoted ((bytes_eq-Decides a b).0 is)
token_same (token.Symbol a) (token.Symbol b) is = ap token.Symbol ((unsigned_Decides a b).0 is)
token_same (token.Word a) (token.Number b) is = absurd (true≢false (sym is))
token_same (token.Word a) (token.Quoted b) is = absurd (true≢false (sym is))
token_same (token.Word a) (token.Symbol b) is = absurd (true≢false (sym is))
token_same (token.Number a) (token.Word b) is = absurd (true≢false (sym is))
token_same (token.Number a) (token.Quoted b) is = absurd (true≢false (sym is))
token_same (token.Number a) (token.Symbol b) is = absurd (true≢false (sym is))
token_same (token.Quoted a) (token.Word b) is = absurd (true≢false (sym is))
token_same (token.Quoted a) (token.Number b) is = absurd (true≢false (sym is))
token_same (token.Quoted a) (token.Symbol b) is = absurd (true≢false (sym is))
token_same (token.Symbol a) (token.Word b) is = absurd (true≢false (sym is))
token_same (token.Symbol a) (token.Number b) is = absurd (true≢false (sym is))
token_same (token.Symbol a) (token.Quoted b) is = absurd (true≢false (sym is))

pub after_here : (t : TokenKind) (ts : Kinds) → after t (t ∷ ts) ≡ Some ts
after_here t ts = rw (same_token t) refl

pub after_some : (t : TokenKind) (ts rest : Kinds) → after t ts ≡ Some rest → ts ≡ t ∷ rest
after_some t [] rest is = absurd (cc)
after_some t (u ∷ ts) rest is = if_then (is_token t u) ts rest is (λ same e. rw (← token_same t u same, e) refl)

-- a node of allowed height, and what one tells
pub fits : {A : Type 0} (limit : ℕ) (tree : A) (height : ℕ) (rest : Kinds) → height < limit → built limit tree height rest ≡ Some (part tree (height + 1), rest)
fits limit tree height rest low = rw ((Decides-ltb height limit).1 low) refl

pub built_then : {A P : Type 0} (limit : ℕ) (tree : A) (height : ℕ) (ts : Kinds) (p : Part A × Kinds) → built limit tree height ts ≡ Some p → (height < limit → (part tree (height + 1), ts) ≡ p → P) → P
built_then limit tree height ts p is go = if_then (nat_lt height limit) (part tree (height + 1), ts) p is (λ low e. go ((Decides-ltb height limit).0 low) e)

-- a finding, told of other tokens or of an equal part
pub moved : {A : Type 0} {X : Nonterminal A} {limit : ℕ} {ts us : Kinds} {p : Part A × Kinds} → us ≡ ts → IsFound X limit us p → IsFound X limit ts p
moved {X = X} {limit = limit} {p = p} e found = subst (λ t. IsFound X limit t p) e found

pub found_as : {A : Type 0} {X : Nonterminal A} {limit : ℕ} {ts : Kinds} {p q : Part A × Kinds} → p ≡ q → IsFound X limit ts p → IsFound X limit ts q
found_as {X = X} {limit = limit} {ts = ts} e found = subst (λ t. IsFound X limit ts t) e found

-- what is an X is a Y
pub found_by : {A : Type 0} {X Y : Nonterminal A} {limit : ℕ} {ts : Kinds} {p : Part A × Kinds} → (X ts p.1 p.0 → Y ts p.1 p.0) → IsFound X limit ts p → IsFound Y limit ts p
found_by case found = record { spelled = case found.spelled; low = found.low }

pub empty_is_read : {limit : ℕ} → IsRead Empty Empty read_empty limit Always
empty_is_read = record {
  reads = λ ts rest a is low ends. empty_reads ts rest a is;
  finds = λ ts p is. found_as (same_some (part tt 0, ts) p is) (record { spelled = forms.empty; low = omega arith });
}
  where
    empty_reads : (ts rest : Kinds) (a : Part Unit) → Empty ts rest a → read_empty ts ≡ Some (a, rest)
    empty_reads ts rest a forms.empty = refl

module _ {A : Type 0} {X X' : Nonterminal A} {read : Reader A} {limit : ℕ} {End : Kinds → Type 0} (law : IsRead X X' read limit End) where
  pub ends_before : (Other : Kinds → Type 0) → ((ts : Kinds) → Other ts → End ts) → IsRead X X' read limit Other
  ends_before Other then_ends = record { reads = λ ts rest a x low ends. law.reads ts rest a x low (then_ends rest ends); finds = law.finds }

  pub behind_is_read : (t : TokenKind) → IsRead (t ▸ X) (t ▸ X') (behind t read) limit End
  behind_is_read t = record {
    reads = reads;
    finds = λ ts p is. bind_then (after t ts) read p is (λ inner begins e.
        moved (sym (after_some t ts inner begins)) (let found = law.finds inner p e in record { spelled = forms.behind found.spelled; low = found.low }));
  }
    where
      reads : (ts rest : Kinds) (a : Part A) → (t ▸ X) ts rest a → a.height ≤ limit → End rest → behind t read ts ≡ Some (a, rest)
      reads ts rest a (forms.behind {ts = inner} x) low ends = rw (after_here t inner) (law.reads inner rest a x low ends)

  pub before_is_read : (t : TokenKind) → ((rest : Kinds) → End (t ∷ rest)) → IsRead (X ◂ t) (X' ◂ t) (before t read) limit Always
  before_is_read t ends = record {
    reads = reads;
    finds = λ ts p is. bind_then (read ts) _ p is (λ a reads e. bind_then (after t a.1) _ p e (λ rest closes e.
        found_as (same_some (a.0, rest) p e) (let found = law.finds ts a reads in
        record { spelled = forms.before (subst (λ r. X' ts r a.0) (after_some t a.1 rest closes) found.spelled); low = found.low })));
  }
    where
      reads : (ts rest : Kinds) (a : Part A) → (X ◂ t) ts rest a → a.height ≤ limit → Always rest → before t read ts ≡ Some (a, rest)
      reads ts rest a (forms.before x) low always = rw (law.reads ts (t ∷ rest) a x low (ends rest), after_here t rest) refl

  pub made_is_read : {B : Type 0} (make : A → B) → IsRead (Made make X) (Made make X') (making make read) limit End
  made_is_read {B} make = record {
    reads = reads;
    finds = λ ts p is. bind_then (read ts) _ p is (λ a reads e. found_as (same_some (made make a.0, a.1) p e)
        (let found = law.finds ts a reads in record { spelled = forms.made_of found.spelled; low = found.low }));
  }
    where
      reads : (ts rest : Kinds) (b : Part B) → Made make X ts rest b → b.height ≤ limit → End rest → making make read ts ≡ Some (b, rest)
      reads ts rest b (forms.made_of {a = a} x) low ends = rw (law.reads ts rest a x low ends) refl

  -- a node may be one higher than its parts
  pub node_within : (above : ℕ) → above ≤ limit + 1 → {B : Type 0} (make : A → B) → IsRead (Node make X) (Node make X') (noded above make read) above End
  node_within above room {B} make = record {
    reads = reads;
    finds = λ ts p is. bind_then (read ts) _ p is (λ a reads e. built_then above (make a.0.tree) a.0.height a.1 p e (λ lower same.
        found_as same (record { spelled = forms.node_of ((law.finds ts a reads).spelled); low = omega (arith, lower) })));
  }
    where
      reads : (ts rest : Kinds) (b : Part B) → Node make X ts rest b → b.height ≤ above → End rest → noded above make read ts ≡ Some (b, rest)
      reads ts rest b (forms.node_of {a = a} x) low ends = rw (law.reads ts rest a x (omega (arith, low, room)) ends) (fits above (make a.tree) a.height rest (omega (arith, low)))

  pub node_is_read : {B : Type 0} (make : A → B) → IsRead (Node make X) (Node make X') (noded limit make read) limit End
  node_is_read make = node_within limit (omega arith) make

  pub node_above : {B : Type 0} (make : A → B) → IsRead (Node make X) (Node make X') (noded (suc limit) make read) (suc limit) End
  node_above make = node_within (suc limit) (omega arith) make

  pub optional_is_read : (t : TokenKind) → IsRead (Optional t X) (Optional t X') (optional t read) limit (λ ts. (after t ts ≡ None) × End ts)
  optional_is_read t = record {
    reads = reads;
    finds = λ ts p is. chosen_then (after t ts) (Some (part None 0, ts)) (making Some read) (Some p) is
        (λ none e. found_as (same_some (part None 0, ts) p e) (record { spelled = forms.absent; low = omega arith }))
        (λ inner begins e. bind_then (read inner) _ p e (λ a reads e. moved (sym (after_some t ts inner begins)) (found_as (same_some (made Some a.0, a.1) p e)
        (let found = law.finds inner a reads in record { spelled = forms.present found.spelled; low = found.low }))));
  }
    where
      reads : (ts rest : Kinds) (b : Part (Option A)) → Optional t X ts rest b → b.height ≤ limit → (after t rest ≡ None) × End rest → optional t read ts ≡ Some (b, rest)
      reads ts rest b forms.absent low ends = rw ends.0 refl
      reads ts rest b (forms.present {ts = inner} {a = a} x) low ends = rw (after_here t inner, law.reads inner rest a x low ends.1) refl

module _ {A B : Type 0} {X X' : Nonterminal A} {Y Y' : Nonterminal B} {first : Reader A} {second : Reader B} {limit : ℕ} {End Last : Kinds → Type 0}
    (law : IsRead X X' first limit End) (next : IsRead Y Y' second limit Last) where
  -- what Y begins with may follow X
  pub pair_is_read : ((ts rest : Kinds) (b : Part B) → Y ts rest b → End ts) → IsRead (X ⊗ Y) (X' ⊗ Y') (pair first second) limit Last
  pair_is_read follows = record {
    reads = reads;
    finds = λ ts p is. bind_then (first ts) _ p is (λ a reads e. bind_then (second a.1) _ p e (λ b more e.
        found_as (same_some (made_both (λ a b. (a, b)) a.0 b.0, b.1) p e)
        (let found = law.finds ts a reads in let behind = next.finds a.1 b more in record { spelled = forms.pair found.spelled behind.spelled; low = omega (arith, found.low, behind.low) })));
  }
    where
      reads : (ts rest : Kinds) (c : Part (A × B)) → (X ⊗ Y) ts rest c → c.height ≤ limit → Last rest → pair first second ts ≡ Some (c, rest)
      reads ts rest c (forms.pair {mid = mid} {a = a} {b = b} x y) low ends =
          rw (law.reads ts mid a x (omega (arith, low)) (follows mid rest b y), next.reads mid rest b y (omega (arith, low)) ends) refl

-- the same of a part that was found before, and of what is made of what is found
pub paired_found : {A B : Type 0} {X : Nonterminal A} {Y : Nonterminal B} {limit : ℕ} (a : Part A) (second : Reader B) (ts us mid : Kinds) → IsFound X limit ts (a, us)
    → ((q : Part B × Kinds) → second mid ≡ Some q → IsFound Y limit us q) → (p : Part (A × B) × Kinds) → paired a second mid ≡ Some p → IsFound (X ⊗ Y) limit ts p
paired_found a second ts us mid here finds p is = bind_then (second mid) _ p is (λ b more e. found_as (same_some (made_both (λ a b. (a, b)) a b.0, b.1) p e)
    (let found = finds b more in let low = here.low in record { spelled = forms.pair here.spelled found.spelled; low = omega (arith, low, found.low) }))

pub behind_found : {A : Type 0} {X : Nonterminal A} {limit : ℕ} (t : TokenKind) (ts : Kinds) (p : Part A × Kinds) → IsFound X limit ts p → IsFound (t ▸ X) limit (t ∷ ts) p
behind_found t ts p found = record { spelled = forms.behind found.spelled; low = found.low }

pub made_found : {A B : Type 0} {X : Nonterminal A} {limit : ℕ} (make : A → B) (read : Reader A) (ts mid : Kinds) → ((q : Part A × Kinds) → read mid ≡ Some q → IsFound X limit ts q)
    → (p : Part B × Kinds) → making make read mid ≡ Some p → IsFound (Made make X) limit ts p
made_found make read ts mid found p is = bind_then (read mid) _ p is (λ a reads e. found_as (same_some (made make a.0, a.1) p e)
    (let one = found a reads in record { spelled = forms.made_of one.spelled; low = one.low }))

pub node_found : {A B : Type 0} {X : Nonterminal A} {limit above : ℕ} (make : A → B) (read : Reader A) (ts mid : Kinds) → ((q : Part A × Kinds) → read mid ≡ Some q → IsFound X limit ts q)
    → (p : Part B × Kinds) → noded above make read mid ≡ Some p → IsFound (Node make X) above ts p
node_found {above = above} make read ts mid found p is = bind_then (read mid) _ p is (λ a reads e. built_then above (make a.0.tree) a.0.height a.1 p e (λ lower same.
    found_as same (record { spelled = forms.node_of ((found a reads).spelled); low = omega (arith, lower) })))

-- Y begins with a fixed token that may follow X
pub starts_with : {B : Type 0} {Y : Nonterminal B} (End : Kinds → Type 0) (t : TokenKind) → ((ts : Kinds) → End (t ∷ ts)) → (ts rest : Kinds) (b : Part B) → (t ▸ Y) ts rest b → End ts
starts_with End t ends ts rest b (forms.behind {ts = inner} y) = ends inner

-- one of several readings by the first token
pub on_finds : {A : Type 0} {X : Nonterminal A} {Y : Nonterminal A} {row other : Reader A} {limit : ℕ} (t : TokenKind)
    → Finds X row limit → ((ts rest : Kinds) (a : Part A) → (t ▸ X) ts rest a → Y ts rest a) → Finds Y other limit → Finds Y (on t row other) limit
on_finds {row = row} {other = other} t found case others ts p is = chosen_then (after t ts) (other ts) row (Some p) is
    (λ none e. others ts p e)
    (λ inner begins e. moved (sym (after_some t ts inner begins)) (let one = found inner p e in record { spelled = case (t ∷ inner) p.1 p.0 (forms.behind one.spelled); low = one.low }))

-- one of several operators
operated_first : {A B P : Type 0} (op : A) (first : Option Kinds) (next : Option (A × Kinds)) (row : A → Reader B) (other : Option (Part B × Kinds)) (p : Part B × Kinds)
    → chosen (chosen first next (λ rest. Some (op, rest))) other (λ o. row o.0 o.1) ≡ Some p
    → (chosen next other (λ o. row o.0 o.1) ≡ Some p → P) → ((mid : Kinds) → first ≡ Some mid → row op mid ≡ Some p → P) → P
operated_first op None next row other p is later here = later is
operated_first op (Some mid) next row other p is later here = here mid refl is

pub operated_then : {A B P : Type 0} (written : A → TokenKind) (ops : List A) (row : A → Reader B) (other : Reader B) (ts : Kinds) (p : Part B × Kinds)
    → operated written ops row other ts ≡ Some p → ((op : A) (mid : Kinds) → ts ≡ written op ∷ mid → row op mid ≡ Some p → P) → (other ts ≡ Some p → P) → P
operated_then written [] row other ts p is here none = none is
operated_then written (op ∷ ops) row other ts p is here none =
    operated_first op (after (written op) ts) (operator written ops ts) row (other ts) p is
    (λ e. operated_then written ops row other ts p e here none) (λ mid begins e. here op mid (after_some (written op) ts mid begins) e)

pub operated_finds : {A B : Type 0} {X : A → Nonterminal B} {Y : Nonterminal B} {row : A → Reader B} {other : Reader B} {limit : ℕ} (written : A → TokenKind) (ops : List A)
    → ((op : A) → Finds (X op) (row op) limit) → ((op : A) (ts rest : Kinds) (b : Part B) → (written op ▸ X op) ts rest b → Y ts rest b) → Finds Y other limit
    → Finds Y (operated written ops row other) limit
operated_finds {X = X} {row = row} {other = other} written ops found case others ts p is = operated_then written ops row other ts p is
    (λ op mid begins e. moved (sym begins) (let one = found op mid p e in record { spelled = case op (written op ∷ mid) p.1 p.0 (forms.behind one.spelled); low = one.low }))
    (λ e. others ts p e)

pub nothing_finds : {A : Type 0} {Y : Nonterminal A} {limit : ℕ} → Finds Y nothing limit
nothing_finds ts p is = absurd (cc)
