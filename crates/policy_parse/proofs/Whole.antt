-- What is read of all tokens, by the laws of the grammar.
use Rattle.std.proofs.Common.{◌≡◌, ℕ, zero, suc, ◌+◌, ◌-◌, ◌<◌, ◌≤◌, List, [], ◌∷◌, ◌++◌, drop, take, length, get_or, Some, None, refl, ap, sym, subst, ◌∙◌, arith}
use Rattle.std.proofs.lemmas.List.{length-drop, length-take}
use Rattle.policy_ast.specs.declared.policy.PlacedItem.{PlacedItem}
use Rattle.policy_ast.specs.declared.token.Token.{Token}
use Rattle.policy_ast.specs.declared.part.Part.{Part}
use Rattle.policy_ast.specs.declared.item.Item.{Item}
use Rattle.policy_ast.specs.grammar.Policies.{IsFaultLine, LongestRun, Spells, kinds, max_height, placed}
use Rattle.policy_ast.specs.grammar.Policies as policies
use Rattle.policy_ast.proofs.grammar.ItemLaws.{item_found, item_part}
use Rattle.policy_ast.proofs.grammar.Laws.{bind_then, same_some}
use Rattle.policy_ast.proofs.grammar.ReadingItems.{read_item, read_item_tree, read_placed, read_run}
use Rattle.policy_ast.proofs.grammar.RunLaws.{longest_run, read_is_run, run_length, spelled_is_read}
use Rattle.policy_parse.proofs.Turns.{kinds_length}

-- one turn
pub run_full : (k : ℕ) (found : List PlacedItem) (ts : List Token) → k ≡ 0 → read_run k found ts ≡ (found, ts)
unfolding read_run
run_full zero found ts is = refl
run_full (suc k) found ts is = absurd (omega (arith, is))

pub run_ends : (k : ℕ) (found : List PlacedItem) (ts : List Token) → None ≡ read_placed ts → read_run k found ts ≡ (found, ts)
unfolding read_run
run_ends zero found ts ends = refl
run_ends (suc k) found ts ends = rw (sym ends) refl

pub run_goes_on : (k next : ℕ) (found : List PlacedItem) (ts rest : List Token) (x : PlacedItem) → k ≡ next + 1 → Some (x, rest) ≡ read_placed ts → read_run k found ts ≡ read_run next (found ++ x ∷ []) rest
unfolding read_run
run_goes_on zero next found ts rest x room reads = absurd (omega (arith, room))
run_goes_on (suc k) next found ts rest x room reads = let e : k ≡ next = omega (arith, room) in rw (sym reads, e) refl

-- an item takes a token at least
item_shorter : (tokens left : List Token) (a : Part Item) → Some (a, kinds left) ≡ read_item_tree max_height (kinds tokens) → length left < length tokens
item_shorter tokens left a reads =
    let is : read_item (kinds tokens) ≡ Some (a.tree, kinds left) = rw (sym reads) refl in
    let p = (item_part (kinds tokens) (kinds left) a.tree (item_found (kinds tokens) (a.tree, kinds left) is)).shorter in
    omega (arith, p, kinds_length tokens, kinds_length left)

pub item_leaves : (tokens left : List Token) (a : Part Item) → Some (a, kinds left) ≡ read_item_tree max_height (kinds tokens) → length left ≤ length (take (length tokens - 1) (drop 1 tokens))
item_leaves tokens left a reads =
    let p = item_shorter tokens left a reads in
    let q = length-take (length tokens - 1) (drop 1 tokens) in
    let r = length-drop 1 tokens in
    omega (arith, p, q, r)

-- what stands behind an item is no longer
pub placed_within : (tokens rest : List Token) (x : PlacedItem) → Some (x, rest) ≡ read_placed tokens → length rest ≤ length tokens
placed_within [] rest x reads = absurd (cc)
placed_within (t ∷ ts) rest x reads = bind_then (read_item (kinds (t ∷ ts))) _ (x, rest) (sym reads) (λ a is e.
    let same : drop (length ts - length a.1) ts ≡ rest = ap (λ p. p.1) (same_some (placed t a.0, drop (length ts - length a.1) ts) (x, rest) e) in
    let few = length-drop (length ts - length a.1) ts in
    let p = ap length same in
    omega (arith, few, p))

-- what is read of all tokens: the items, and the tokens that are left
abbrev AreRead : List Token → List PlacedItem → List Token → Type 0
AreRead tokens found rest = ◌≡◌ {A = List PlacedItem × List Token} (found, rest) (read_run (length tokens) [] tokens)

pub whole_spelled : (tokens : List Token) (found : List PlacedItem) (rest : List Token) → AreRead tokens found rest → length rest < 1 → Spells tokens found
whole_spelled tokens found [] is none = read_is_run tokens (found, []) (sym is)
whole_spelled tokens found (t ∷ rest) is none = absurd (omega (arith, none))

pub whole_few : (tokens : List Token) (found : List PlacedItem) (rest : List Token) → AreRead tokens found rest → length found ≤ length tokens
whole_few tokens found rest is = run_length tokens rest found (read_is_run tokens (found, rest) (sym is))

spelled_so : (tokens : List Token) (found : List PlacedItem) (rest : List Token) → AreRead tokens found rest → (policy : List PlacedItem) → Spells tokens policy → ◌≡◌ {A = List PlacedItem × List Token} (found, rest) (policy, [])
spelled_so tokens found rest is policy spelled = is ∙ spelled_is_read tokens policy spelled

pub whole_one : (tokens : List Token) (found : List PlacedItem) (rest : List Token) → AreRead tokens found rest → (policy : List PlacedItem) → Spells tokens policy → found ≡ policy
whole_one tokens found rest is policy spelled = ap (λ p. p.0) (spelled_so tokens found rest is policy spelled)

pub whole_left : (tokens : List Token) (found : List PlacedItem) (rest : List Token) → AreRead tokens found rest → (policy : List PlacedItem) → Spells tokens policy → length rest ≡ 0
whole_left tokens found rest is policy spelled = ap (λ p. length p.1) (spelled_so tokens found rest is policy spelled)

pub fault_line : (tokens : List Token) (found : List PlacedItem) (rest : List Token) (first : Token) → AreRead tokens found rest → 1 ≤ length rest → first ≡ get_or rest 0 first → IsFaultLine tokens first.line
fault_line tokens found [] first is some here = absurd (omega (arith, some))
fault_line tokens found (t ∷ rest) first is some here =
    subst (λ (u : Token). IsFaultLine tokens u.line) (sym here) (policies.behind_run t rest (subst (λ p. LongestRun tokens p.1) (sym is) (longest_run tokens)))
