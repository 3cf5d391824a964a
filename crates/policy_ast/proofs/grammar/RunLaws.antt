-- A policy is spelled in one way, and the longest run of items is the one that is read.
use Rattle.std.proofs.Common.{◌≡◌, ℕ, zero, suc, ◌-◌, ◌≤◌, List, [], ◌∷◌, ◌++◌, drop, length, map, min, Option, Some, None, append_assoc, append-nil, refl, ap, sym, subst, ◌∙◌, arith}
use Rattle.std.proofs.lemmas.List.{drop-map, drop_min, length-drop, length-map}
use Rattle.policy_ast.specs.declared.item.Item.{Item}
use Rattle.policy_ast.specs.declared.policy.PlacedItem.{PlacedItem}
use Rattle.policy_ast.specs.declared.token.Token.{Token}
use Rattle.policy_ast.specs.grammar.Parts.{Kinds}
use Rattle.policy_ast.specs.Laws.{HaveOneReading}
use Rattle.policy_ast.specs.grammar.Policies as policies
use Rattle.policy_ast.specs.grammar.Policies.{IsItem, IsRun, LongestRun, Spells, kinds, placed}
use Rattle.policy_ast.proofs.grammar.ItemLaws.{item_found, item_part, item_reads}
use Rattle.policy_ast.proofs.grammar.ReadingItems.{read_item, read_placed, read_run}
use Rattle.policy_ast.proofs.grammar.Tails.{shorter_tail}

-- what is left behind n is known by how many it is
drop_again : {A : Type 0} (n : ℕ) (xs : List A) → drop (length xs - length (drop n xs)) xs ≡ drop n xs
drop_again n xs = let p = length-drop n xs in let e : length xs - length (drop n xs) ≡ min n (length xs) = omega (arith, p) in ap (λ m. drop m xs) e ∙ drop_min n xs

pub kinds_length : (ts : List Token) → length (kinds ts) ≡ length ts
kinds_length ts = length-map ts (λ t. t.kind)

-- an item that is spelled is read
placed_reads : (t : Token) (ts : List Token) (n : ℕ) (x : Item) → IsItem (kinds (t ∷ ts)) (kinds (drop n ts)) x → read_placed (t ∷ ts) ≡ Some (placed t x, drop n ts)
placed_reads t ts n x is = rw (item_reads (kinds (t ∷ ts)) (kinds (drop n ts)) x is, kinds_length (drop n ts), drop_again n ts) refl

-- an item that is read takes the first token and some more
item_behind : (t : Token) (ts : List Token) (rest : Kinds) (x : Item) → IsItem (kinds (t ∷ ts)) rest x → rest ≡ kinds (drop (length ts - length rest) ts)
item_behind t ts rest x is =
    let part = item_part (kinds (t ∷ ts)) rest x is in
    shorter_tail t.kind (kinds ts) rest part.tail part.shorter ∙ ap (λ n. drop (n - length rest) (kinds ts)) (kinds_length ts) ∙ drop-map (λ t. t.kind) (length ts - length rest) ts

-- a look at the next item
item_then : {P : Type 0} (t : Token) (ts : List Token) (k : ℕ) (found : List PlacedItem) → (read_placed (t ∷ ts) ≡ None → read_run (suc k) found (t ∷ ts) ≡ (found, t ∷ ts) → P)
    → ((n : ℕ) (x : Item) → IsItem (kinds (t ∷ ts)) (kinds (drop n ts)) x → read_run (suc k) found (t ∷ ts) ≡ read_run k (found ++ placed t x ∷ []) (drop n ts) → P) → P
unfolding read_run
item_then {P} t ts k found none some = go (read_item (kinds (t ∷ ts))) refl
  where
    go : (o : Option (Item × Kinds)) → read_item (kinds (t ∷ ts)) ≡ o → P
    go None is = none (rw is refl) (rw is refl)
    go (Some p) is =
        let one = item_found (kinds (t ∷ ts)) p is in
        some (length ts - length p.1) p.0 (subst (λ rest. IsItem (kinds (t ∷ ts)) rest p.0) (item_behind t ts p.1 p.0 one) one) (rw is refl)

-- what is read is a run behind what was found
pub record IsReadRun (found : List PlacedItem) (ts : List Token) (p : List PlacedItem × List Token) : Type 0 where
  pub items : List PlacedItem
  pub run : IsRun ts p.1 items
  pub all : p.0 ≡ found ++ items
  pub shorter : length p.1 ≤ length ts

nothing_read : (found : List PlacedItem) (ts : List Token) → IsReadRun found ts (found, ts)
nothing_read found ts = record { items = []; run = policies.done; all = sym (append-nil found); shorter = omega arith }

run_read : (k : ℕ) (found : List PlacedItem) (ts : List Token) → IsReadRun found ts (read_run k found ts)
unfolding read_run
run_read zero found ts = nothing_read found ts
run_read (suc k) found [] = nothing_read found []
run_read (suc k) found (t ∷ ts) = item_then t ts k found
    (λ none is. subst (λ p. IsReadRun found (t ∷ ts) p) (sym is) (nothing_read found (t ∷ ts)))
    (λ n x one is. subst (λ p. IsReadRun found (t ∷ ts) p) (sym is)
    (let more = run_read k (found ++ placed t x ∷ []) (drop n ts) in let p = length-drop n ts in let q = more.shorter in
    record { items = placed t x ∷ more.items; run = policies.more n one more.run; all = more.all ∙ append_assoc found (placed t x ∷ []) more.items; shorter = omega (arith, p, q) }))

-- the run that is read is longest
longest : (ts other : List Token) (ys : List PlacedItem) → IsRun ts other ys → (k : ℕ) (found : List PlacedItem) → length ts ≤ k → length (read_run k found ts).1 ≤ length other
unfolding read_run
longest ts other ys policies.done k found room = (run_read k found ts).shorter
longest ts other ys (policies.more n is others) zero found room = absurd (omega (arith, room))
longest ts other ys (policies.more {t = t} {ts = inner} {x = x} {xs = xs} n is others) (suc k) found room =
    let p = length-drop n inner in rw (placed_reads t inner n x is) (longest (drop n inner) other xs others k (found ++ placed t x ∷ []) (omega (arith, p, room)))

a_run : List PlacedItem → List Token → List PlacedItem × List Token
a_run zs r = (zs, r)

-- a run that ends as far as the one that is read, ends there and has the same items
same_run : (ts other : List Token) (ys : List PlacedItem) → IsRun ts other ys → (k : ℕ) (found : List PlacedItem) → length ts ≤ k → length other ≤ length (read_run k found ts).1
    → read_run k found ts ≡ (found ++ ys, other)
unfolding read_run a_run
same_run ts other ys policies.done zero found room far = rw (append-nil found) refl
same_run [] other ys policies.done (suc k) found room far = rw (append-nil found) refl
same_run (t ∷ ts) other ys policies.done (suc k) found room far = item_then t ts k found
    (λ none is. rw (append-nil found) is)
    (λ n x one is. let p = length-drop n ts in let q = (run_read k (found ++ placed t x ∷ []) (drop n ts)).shorter in
    let r = subst (λ p. length (t ∷ ts) ≤ length p.1) is far in absurd (omega (arith, p, q, r)))
same_run ts other ys (policies.more n is others) zero found room far = absurd (omega (arith, room))
same_run ts other ys (policies.more {t = t} {ts = inner} {x = x} {xs = xs} n is others) (suc k) found room far =
    let p = length-drop n inner in
    let more = same_run (drop n inner) other xs others k (found ++ placed t x ∷ []) (omega (arith, p, room)) (rw (placed_reads t inner n x is) at far) in
    rw (placed_reads t inner n x is) (more ∙ ap (λ zs. a_run zs other) (append_assoc found (placed t x ∷ []) xs))

pub run_shorter : (ts rest : List Token) (xs : List PlacedItem) → IsRun ts rest xs → length rest ≤ length ts
run_shorter ts rest xs policies.done = omega arith
run_shorter ts rest xs (policies.more {ts = inner} {xs = ys} n is others) = let p = length-drop n inner in let q = run_shorter (drop n inner) rest ys others in omega (arith, p, q)

-- the whole
pub spelled_is_read : (ts : List Token) (xs : List PlacedItem) → Spells ts xs → read_run (length ts) [] ts ≡ (xs, [])
spelled_is_read ts xs is = same_run ts [] xs is (length ts) [] (omega arith) (omega arith)

pub read_is_run : (ts : List Token) (p : List PlacedItem × List Token) → read_run (length ts) [] ts ≡ p → IsRun ts p.1 p.0
read_is_run ts p is = let found = run_read (length ts) [] ts in subst (λ q. IsRun ts q.1 q.0) is (subst (λ xs. IsRun ts (read_run (length ts) [] ts).1 xs) (sym found.all) found.run)

pub spelled_once : (ts : List Token) (a b : List PlacedItem) → Spells ts a → Spells ts b → a ≡ b
spelled_once ts a b first second = ap (λ p. p.0) (sym (spelled_is_read ts a first) ∙ spelled_is_read ts b second)

pub longest_run : (ts : List Token) → LongestRun ts (read_run (length ts) [] ts).1
longest_run ts = record {
  items = (run_read (length ts) [] ts).items;
  run = (run_read (length ts) [] ts).run;
  longest = λ other others is. longest ts other others is (length ts) [] (omega arith);
}

longest_is_read : (ts rest : List Token) → LongestRun ts rest → rest ≡ (read_run (length ts) [] ts).1
longest_is_read ts rest run = sym (ap (λ p. p.1) (same_run ts rest run.items run.run (length ts) [] (omega arith) (run.longest (read_run (length ts) [] ts).1 (longest_run ts).items (longest_run ts).run)))

pub longest_once : (ts a b : List Token) → LongestRun ts a → LongestRun ts b → a ≡ b
longest_once ts a b first second = longest_is_read ts a first ∙ sym (longest_is_read ts b second)

pub run_length : (ts rest : List Token) (xs : List PlacedItem) → IsRun ts rest xs → length xs ≤ length ts
run_length ts rest xs policies.done = omega arith
run_length ts rest xs (policies.more {ts = inner} {xs = ys} n is others) = let p = length-drop n inner in let q = run_length (drop n inner) rest ys others in omega (arith, p, q)

pub have_one_reading : (tokens : List Token) → HaveOneReading tokens
have_one_reading ts = record {
  one = spelled_once ts;
  few = run_length ts [];
  run = ((read_run (length ts) [] ts).1, longest_run ts);
  one_run = longest_once ts;
}
