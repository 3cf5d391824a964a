-- The laws of the readings that go on as long as they can: lists with and without commas, and chains.
use Rattle.std.proofs.Common.{◌≡◌, ℕ, zero, suc, ◌<◌, ◌≤◌, max, List, ◌∷◌, length, Some, None, option_and_then, refl, sym, subst, arith}
use Rattle.policy_ast.specs.declared.part.Part.{Part}
use Rattle.policy_ast.specs.declared.token.TokenKind.{TokenKind}
use Rattle.policy_ast.specs.grammar.Fixed.{comma}
use Rattle.policy_ast.specs.grammar.Forms as forms
use Rattle.policy_ast.specs.grammar.Forms.{Chain, Chained, Listed, ListedMore, Many, ManyMore}
use Rattle.policy_ast.specs.grammar.Parts.{Nonterminal, Kinds, node_both, appended, nothing_yet}
use Rattle.policy_ast.proofs.grammar.Laws.{Always, IsFound, IsRead, after_here, after_some, bind_then, built_then, chosen_then, fits, found_as, moved, same_some}
use Rattle.policy_ast.proofs.grammar.Reading.{Reader, after, chain, chained, chosen, list_added, listed, listed_more, many, many_more, node_added, nothing}

-- it is spelled by one token at least, and by none at least
abbrev pub IsForward : {A : Type 0} → Nonterminal A → Type 0
IsForward X = (ts rest : Kinds) (a : Part _) → X ts rest a → length rest < length ts

abbrev pub Unclosed : {A : Type 0} → TokenKind → Nonterminal A → Type 0
Unclosed close X = (ts rest : Kinds) (a : Part _) → X ts rest a → after close ts ≡ None

module _ {A : Type 0} {X X' : Nonterminal A} {read : Reader A} {limit : ℕ} {End : Kinds → Type 0} (close : TokenKind)
    (law : IsRead X X' read limit End) (forward : IsForward X) (unclosed : Unclosed close X) (closes : (rest : Kinds) → End (close ∷ rest)) where
  module _ (follows : (ts rest : Kinds) (a : Part A) → X ts rest a → End ts) where
    many_begin : (ts rest : Kinds) (found all : Part (List A)) → ManyMore close X ts rest found all → End ts
    many_begin ts rest found all (forms.ManyMore.none {rest = behind}) = closes behind
    many_begin ts rest found all (forms.ManyMore.more {mid = mid} {a = a} x xs) = follows ts mid a x

    many_grow : (ts rest : Kinds) (found all : Part (List A)) → ManyMore close X ts rest found all → found.height ≤ all.height
    many_grow ts rest found all (forms.ManyMore.none) = omega arith
    many_grow ts rest found all (forms.ManyMore.more {mid = mid} {a = a} x xs) = let more = many_grow mid rest (appended found a) all xs in omega (arith, more)

    many_reads : (ts rest : Kinds) (found all : Part (List A)) → ManyMore close X ts rest found all → (k : ℕ) → length ts ≤ k → all.height ≤ limit
        → many_more close read k found ts ≡ Some (all, rest)
    unfolding many_more
    many_reads ts rest found all (forms.ManyMore.none) zero room low = absurd (omega (arith, room))
    many_reads ts rest found all (forms.ManyMore.none {rest = behind}) (suc k) room low = rw (after_here close behind) refl
    many_reads ts rest found all (forms.ManyMore.more {mid = mid} {a = a} x xs) zero room low = let p = forward ts mid a x in absurd (omega (arith, p, room))
    many_reads ts rest found all (forms.ManyMore.more {mid = mid} {a = a} x xs) (suc k) room low =
        let p = forward ts mid a x in
        let q = many_grow mid rest (appended found a) all xs in
        rw (unclosed ts mid a x, law.reads ts mid a x (omega (arith, q, low)) (many_begin mid rest (appended found a) all xs))
        (many_reads mid rest (appended found a) all xs k (omega (arith, p, room)) low)

    many_finds : (k : ℕ) (found : Part (List A)) (ts : Kinds) (p : Part (List A) × Kinds) → many_more close read k found ts ≡ Some p → found.height ≤ limit
        → IsFound (λ ts rest all. ManyMore close X' ts rest found all) limit ts p
    unfolding many_more
    many_finds zero found ts p is low = absurd (cc)
    many_finds (suc k) found ts p is low = chosen_then (after close ts) (option_and_then (λ a. many_more close read k (appended found a.0) a.1) (read ts)) (λ rest. Some (found, rest)) (Some p) is
        (λ none e. bind_then (read ts) _ p e (λ a reads e.
        let one = law.finds ts a reads in
        let more = many_finds k (appended found a.0) a.1 p e (omega (arith, one.low, low)) in
        record { spelled = forms.ManyMore.more one.spelled more.spelled; low = more.low }))
        (λ rest ends e. moved {X = λ ts rest all. ManyMore close X' ts rest found all} (sym (after_some close ts rest ends))
        (found_as {X = λ ts rest all. ManyMore close X' ts rest found all} (same_some (found, rest) p e) (record { spelled = forms.ManyMore.none; low = low })))

    pub many_is_read : IsRead (Many X close) (Many X' close) (many close read) limit Always
    many_is_read = record {
      reads = λ ts rest all is low ends. many_reads ts rest nothing_yet all is (length ts) (omega arith) low;
      finds = λ ts p is. let found = many_finds (length ts) nothing_yet ts p is (omega arith) in record { spelled = found.spelled; low = found.low };
    }

  module _ (parted : (rest : Kinds) → End (comma ∷ rest)) (differs : (rest : Kinds) → after close (comma ∷ rest) ≡ None) where
    listed_grow : (ts rest : Kinds) (found all : Part (List A)) → ListedMore close X ts rest found all → found.height ≤ all.height
    listed_grow ts rest found all (forms.ListedMore.none) = omega arith
    listed_grow ts rest found all (forms.ListedMore.last x) = omega arith
    listed_grow ts rest found all (forms.ListedMore.more {mid = mid} {a = a} x xs) = let more = listed_grow mid rest (appended found a) all xs in omega (arith, more)

    listed_reads : (ts rest : Kinds) (found all : Part (List A)) → ListedMore close X ts rest found all → (k : ℕ) → length ts ≤ k → all.height ≤ limit
        → listed_more close read k found ts ≡ Some (all, rest)
    unfolding listed_more
    listed_reads ts rest found all (forms.ListedMore.none) zero room low = absurd (omega (arith, room))
    listed_reads ts rest found all (forms.ListedMore.none {rest = behind}) (suc k) room low = rw (after_here close behind) refl
    listed_reads ts rest found all (forms.ListedMore.last {a = a} x) zero room low = let p = forward ts (close ∷ rest) a x in absurd (omega (arith, p, room))
    listed_reads ts rest found all (forms.ListedMore.last {a = a} x) (suc k) room low =
        rw (unclosed ts (close ∷ rest) a x, law.reads ts (close ∷ rest) a x (omega (arith, low)) (closes rest), after_here close rest) refl
    listed_reads ts rest found all (forms.ListedMore.more {mid = mid} {a = a} x xs) zero room low = let p = forward ts (comma ∷ mid) a x in absurd (omega (arith, p, room))
    listed_reads ts rest found all (forms.ListedMore.more {mid = mid} {a = a} x xs) (suc k) room low =
        let p = forward ts (comma ∷ mid) a x in
        let q = listed_grow mid rest (appended found a) all xs in
        rw (unclosed ts (comma ∷ mid) a x, law.reads ts (comma ∷ mid) a x (omega (arith, q, low)) (parted mid), differs mid)
        (listed_reads mid rest (appended found a) all xs k (omega (arith, p, room)) low)

    listed_finds : (k : ℕ) (found : Part (List A)) (ts : Kinds) (p : Part (List A) × Kinds) → listed_more close read k found ts ≡ Some p → found.height ≤ limit
        → IsFound (λ ts rest all. ListedMore close X' ts rest found all) limit ts p
    unfolding listed_more
    listed_finds zero found ts p is low = absurd (cc)
    listed_finds (suc k) found ts p is low = chosen_then (after close ts) (option_and_then (λ a. chosen (after close a.1)
        (option_and_then (λ mid. listed_more close read k (appended found a.0) mid) (after comma a.1)) (λ rest. Some (appended found a.0, rest))) (read ts))
        (λ rest. Some (found, rest)) (Some p) is
        (λ none e. bind_then (read ts) _ p e (λ a reads e.
        let one = law.finds ts a reads in
        chosen_then (after close a.1) (option_and_then (λ mid. listed_more close read k (appended found a.0) mid) (after comma a.1)) (λ rest. Some (appended found a.0, rest)) (Some p) e
        (λ none e. bind_then (after comma a.1) _ p e (λ mid parts e.
        let more = listed_finds k (appended found a.0) mid p e (omega (arith, one.low, low)) in
        record { spelled = forms.ListedMore.more (subst (λ r. X' ts r a.0) (after_some comma a.1 mid parts) one.spelled) more.spelled; low = more.low }))
        (λ rest ends e. found_as {X = λ ts rest all. ListedMore close X' ts rest found all} (same_some (appended found a.0, rest) p e)
        (record { spelled = forms.ListedMore.last (subst (λ r. X' ts r a.0) (after_some close a.1 rest ends) one.spelled); low = omega (arith, one.low, low) }))))
        (λ rest ends e. moved {X = λ ts rest all. ListedMore close X' ts rest found all} (sym (after_some close ts rest ends))
        (found_as {X = λ ts rest all. ListedMore close X' ts rest found all} (same_some (found, rest) p e) (record { spelled = forms.ListedMore.none; low = low })))

    pub listed_is_read : IsRead (Listed X close) (Listed X' close) (listed close read) limit Always
    listed_is_read = record {
      reads = λ ts rest all is low ends. listed_reads ts rest nothing_yet all is (length ts) (omega arith) low;
      finds = λ ts p is. let found = listed_finds (length ts) nothing_yet ts p is (omega arith) in record { spelled = found.spelled; low = found.low };
    }

-- what is added to what there is so far, and how that is read
pub record IsAdded {A B : Type 0} (add : Part B → Part A → Part B) (added : Part B → Part A → Reader B) (limit : ℕ) : Type 0 where
  pub grows : (b : Part B) (a : Part A) → max b.height a.height ≤ (add b a).height
  pub fit : (b : Part B) (a : Part A) (ts : Kinds) → (add b a).height ≤ limit → added b a ts ≡ Some (add b a, ts)
  pub only : (b : Part B) (a : Part A) (ts : Kinds) (p : Part B × Kinds) → added b a ts ≡ Some p → b.height ≤ limit → a.height ≤ limit
      → ((add b a, ts) ≡ p) × ((add b a).height ≤ limit)

pub node_is_added : {A B : Type 0} {limit : ℕ} (make : B → A → B) → IsAdded (node_both make) (node_added limit make) limit
node_is_added {A} {B} {limit} make = record {
  grows = λ b a. omega arith;
  fit = λ b a ts low. fits limit (make b.tree a.tree) (max b.height a.height) ts (omega (arith, low));
  only = λ b a ts p is low small. built_then limit (make b.tree a.tree) (max b.height a.height) ts p is (λ lower same. (same, omega (arith, lower)));
}

pub list_is_added : {A : Type 0} {limit : ℕ} → IsAdded {A = A} appended list_added limit
list_is_added {A} {limit} = record {
  grows = λ b a. omega arith;
  fit = λ b a ts low. refl;
  only = λ b a ts p is low small. (same_some (appended b a, ts) p is, omega (arith, low, small));
}

module _ {A B : Type 0} {X X' : Nonterminal B} {Y Y' : Nonterminal A} {first : Reader B} {read : Reader A} {limit : ℕ} {End Last : Kinds → Type 0}
    {add : Part B → Part A → Part B} {added : Part B → Part A → Reader B} (t : TokenKind)
    (law : IsRead X X' first limit Last) (next : IsRead Y Y' read limit End) (adds : IsAdded add added limit) (forward : IsForward Y)
    (goes_on : (ts : Kinds) → End (t ∷ ts)) (begins : (ts : Kinds) → Last (t ∷ ts)) where
  chain_end : (ts rest : Kinds) (b c : Part B) → Chain t add Y ts rest b c → End rest → End ts
  chain_end ts rest b c forms.Chain.done ends = ends
  chain_end ts rest b c (forms.Chain.more {ts = inner} y ys) ends = goes_on inner

  chain_last : (ts rest : Kinds) (b c : Part B) → Chain t add Y ts rest b c → Last rest → Last ts
  chain_last ts rest b c forms.Chain.done ends = ends
  chain_last ts rest b c (forms.Chain.more {ts = inner} y ys) ends = begins inner

  chain_grows : (ts rest : Kinds) (b c : Part B) → Chain t add Y ts rest b c → b.height ≤ c.height
  chain_grows ts rest b c forms.Chain.done = omega arith
  chain_grows ts rest b c (forms.Chain.more {mid = mid} {a = a} y ys) = let more = chain_grows mid rest (add b a) c ys in let here = adds.grows b a in omega (arith, more, here)

  chain_reads : (ts rest : Kinds) (b c : Part B) → Chain t add Y ts rest b c → (k : ℕ) → length ts ≤ k → c.height ≤ limit → End rest → after t rest ≡ None
      → chain t added read k b ts ≡ Some (c, rest)
  unfolding chain
  chain_reads ts rest b c forms.Chain.done zero room low ends over = rw over refl
  chain_reads ts rest b c forms.Chain.done (suc k) room low ends over = rw over refl
  chain_reads ts rest b c (forms.Chain.more y ys) zero room low ends over = absurd (omega (arith, room))
  chain_reads ts rest b c (forms.Chain.more {ts = inner} {mid = mid} {a = a} y ys) (suc k) room low ends over =
      let q = chain_grows mid rest (add b a) c ys in
      let here = adds.grows b a in
      let p = forward inner mid a y in
      rw (after_here t inner, next.reads inner mid a y (omega (arith, q, here, low)) (chain_end mid rest (add b a) c ys ends), adds.fit b a mid (omega (arith, q, low)))
      (chain_reads mid rest (add b a) c ys k (omega (arith, p, room)) low ends over)

  chain_finds : (k : ℕ) (b : Part B) (ts : Kinds) (p : Part B × Kinds) → chain t added read k b ts ≡ Some p → b.height ≤ limit
      → IsFound (λ ts rest c. Chain t add Y' ts rest b c) limit ts p
  unfolding chain
  chain_finds zero b ts p is low = chosen_then (after t ts) (Some (b, ts)) nothing (Some p) is
      (λ none e. found_as {X = λ ts rest c. Chain t add Y' ts rest b c} (same_some (b, ts) p e) (record { spelled = forms.Chain.done; low = low }))
      (λ mid more e. absurd (cc))
  chain_finds (suc k) b ts p is low = chosen_then (after t ts) (Some (b, ts)) _ (Some p) is
      (λ none e. found_as {X = λ ts rest c. Chain t add Y' ts rest b c} (same_some (b, ts) p e) (record { spelled = forms.Chain.done; low = low }))
      (λ inner more e. bind_then (read inner) _ p e (λ a reads e. bind_then (added b a.0 a.1) _ p e (λ c fit e.
      let one = next.finds inner a reads in
      let sum = adds.only b a.0 a.1 c fit low one.low in
      let others = chain_finds k (add b a.0) a.1 p (subst (λ q. chain t added read k q.0 q.1 ≡ Some p) (sym sum.0) e) sum.1 in
      moved {X = λ ts rest c. Chain t add Y' ts rest b c} (sym (after_some t ts inner more))
      (record { spelled = forms.Chain.more one.spelled others.spelled; low = others.low }))))

  pub chained_is_read : IsRead (Chained t add X Y) (Chained t add X' Y') (chained t added first read) limit (λ ts. (after t ts ≡ None) × Last ts × End ts)
  chained_is_read = record {
    reads = reads;
    finds = λ ts p is. bind_then (first ts) _ p is (λ b reads e.
        let one = law.finds ts b reads in
        let others = chain_finds (length b.1) b.0 b.1 p e one.low in
        record { spelled = forms.chained one.spelled others.spelled; low = others.low });
  }
    where
      reads : (ts rest : Kinds) (c : Part B) → Chained t add X Y ts rest c → c.height ≤ limit → (after t rest ≡ None) × Last rest × End rest
          → chained t added first read ts ≡ Some (c, rest)
      reads ts rest c (forms.chained {mid = mid} {b = b} x ys) low ends =
          let q = chain_grows mid rest b c ys in
          rw (law.reads ts mid b x (omega (arith, q, low)) (chain_last mid rest b c ys ends.1))
          (chain_reads mid rest b c ys (length mid) (omega arith) low ends.2 ends.0)
