-- A policy, and the line of a syntax fault.
use Rattle.std.specs.Prelude.{ℕ, ◌≤◌, List, [], ◌∷◌, drop, length, map}
use Rattle.policy_ast.specs.declared.item.Item.{Item}
use Rattle.policy_ast.specs.declared.policy.PlacedItem.{PlacedItem}
use Rattle.policy_ast.specs.declared.token.Token.{Token}
use Rattle.policy_ast.specs.grammar.Items.{IsItemTree}
use Rattle.policy_ast.specs.grammar.Parts.{Kinds}

-- at most so many nodes stand on one path of an item's tree
abbrev pub max_height : ℕ
max_height = 64

pub data IsItem (ts rest : Kinds) (x : Item) : Type 0 where
  low : (height : ℕ) → IsItemTree ts rest (record { tree = x; height = height }) → height ≤ max_height → IsItem ts rest x

-- the kinds of tokens, which alone an item looks at
abbrev pub kinds : List Token → Kinds
kinds tokens = map (λ t. t.kind) tokens

-- an item at the line of the token that it begins with
abbrev pub placed : Token → Item → PlacedItem
placed first x = record { line = first.line; item = x }

-- items, one after another: the tokens where they begin, the tokens behind them, and the items. The first of them takes one token and n more.
pub data IsRun : List Token → List Token → List PlacedItem → Type 0 where
  done : {ts : List Token} → IsRun ts ts []
  more : {t : Token} {ts rest : List Token} {x : Item} {xs : List PlacedItem} (n : ℕ)
      → IsItem (kinds (t ∷ ts)) (kinds (drop n ts)) x → IsRun (drop n ts) rest xs → IsRun (t ∷ ts) rest (placed t x ∷ xs)

-- tokens spell the policy of these items. A policy of 2^32 items, or an enum of 2^32 variants, has that many tokens at least.
abbrev pub Spells : List Token → List PlacedItem → Type 0
Spells tokens items = IsRun tokens [] items

-- what is left behind the longest run of whole items with which the tokens begin
pub record LongestRun (tokens rest : List Token) : Type 0 where
  pub items : List PlacedItem
  pub run : IsRun tokens rest items
  pub longest : (other : List Token) (others : List PlacedItem) → IsRun tokens other others → length rest ≤ length other

-- the line of a syntax fault is that of the first token that is left behind the longest run
pub data IsFaultLine : List Token → ℕ → Type 0 where
  behind_run : {tokens : List Token} (first : Token) (rest : List Token) → LongestRun tokens (first ∷ rest) → IsFaultLine tokens first.line
