-- The blocks of lines, line by line.
use Rattle.std.proofs.Common.{◌≡◌, ℕ, zero, suc, ◌+◌, ◌<◌, ◌≤◌, Bool, true, false, cond, not, if◌then◌else◌, List, [], ◌∷◌, ◌++◌, length, drop, get_or, map, add-one, drop-cons, refl, ap, sym, ◌∙◌, arith, append_assoc, append-nil, Ok, Err}
use Rattle.std.proofs.Math.Nat.{le_refl, le_trans}
use Rattle.std.specs.List.{take_while}
use Rattle.std.proofs.lemmas.List.{drop-drop, map-append}
use Rattle.std.proofs.lemmas.List.Sums.{take_while-cons}
use Rattle.policy_ast.specs.Fences.{BlocksResult, backticks, blocks_from, is_closing, is_fence, opens_policy, with_block, with_opened}
use Rattle.policy_ast.specs.Lines.{Line}
use Rattle.policy_lex.specs.working.BlockViews.{AreBlocks, IsBlock, from_closing, plain}
use Rattle.policy_lex.specs.declared.blocks.Block.{Block}
use Rattle.policy_lex.specs.working.LineViews.{lines_at}
use Rattle.policy_lex.proofs.LineSteps.{no_lines}

-- lines that belong to a block before open none
blocks_passed : (document : List ℕ) (inside : ℕ) (lines : List Line) → blocks_from inside document lines ≡ blocks_from 0 document (drop inside lines)
unfolding blocks_from
blocks_passed document zero lines = refl
blocks_passed document (suc inside) [] = refl
blocks_passed document (suc inside) (line ∷ lines) = blocks_passed document inside lines

pub no_blocks : (document : List ℕ) (place : ℕ) → length document ≤ place → blocks_from 0 document (lines_at document place) ≡ Ok []
unfolding blocks_from
no_blocks document place past = rw (no_lines document place past) refl

-- a line that opens no block
pub blocks_other : (document : List ℕ) (line : Line) (lines : List Line) → is_fence line.text ≡ false → blocks_from 0 document (line ∷ lines) ≡ blocks_from 0 document lines
unfolding blocks_from
blocks_other document line lines is = rw is refl

-- a line that opens one
pub blocks_opened : (document : List ℕ) (line : Line) (lines rest : List Line) (is_policy : Bool) → is_fence line.text ≡ true → opens_policy line.text ≡ is_policy
    → from_closing (backticks line.text) lines ≡ rest
    → blocks_from 0 document (line ∷ lines) ≡ with_opened document line is_policy rest (blocks_from 0 document (drop 1 rest))
unfolding blocks_from
blocks_opened document line lines rest is_policy is policy found =
    let count = length (take_while (λ l. not (is_closing (backticks line.text) l.text)) lines) in
    rw (is, blocks_passed document (count + 1) lines, ← drop-drop 1 count lines, found, policy) refl

pub blocks_none : (document : List ℕ) → blocks_from 0 document [] ≡ Ok []
unfolding blocks_from
blocks_none document = refl

closing_step : (b : Bool) (count : ℕ) (line : Line) (lines : List Line) → is_closing count line.text ≡ b →
    drop (length (cond (not b) (line ∷ take_while (λ l. not (is_closing count l.text)) lines) [])) (line ∷ lines) ≡ (if b then line ∷ lines else from_closing count lines)
closing_step true count line lines is = refl
closing_step false count line lines is = refl

closing_is : (count : ℕ) (line : Line) (lines : List Line) → from_closing count (line ∷ lines) ≡ (if is_closing count line.text then line ∷ lines else from_closing count lines)
closing_is count line lines = rw (take_while-cons (λ l. not (is_closing count l.text)) line lines) (closing_step (is_closing count line.text) count line lines refl)

-- a line that closes the block, one that doesn't, and the end
pub closing_found : (count : ℕ) (document : List ℕ) (place next : ℕ) (line : Line) → lines_at document place ≡ line ∷ lines_at document next → is_closing count line.text ≡ true
    → from_closing count (lines_at document place) ≡ line ∷ lines_at document next
closing_found count document place next line is closes = ap (from_closing count) is ∙ closing_is count line (lines_at document next) ∙ (rw closes refl)

pub closing_passed : (count : ℕ) (document : List ℕ) (place next : ℕ) (line : Line) → lines_at document place ≡ line ∷ lines_at document next → is_closing count line.text ≡ false
    → from_closing count (lines_at document next) ≡ from_closing count (lines_at document place)
closing_passed count document place next line is closes = sym (ap (from_closing count) is ∙ closing_is count line (lines_at document next) ∙ (rw closes refl))

pub closing_past : (count : ℕ) (document : List ℕ) (place : ℕ) → length document ≤ place → from_closing count (lines_at document place) ≡ []
closing_past count document place past = ap (from_closing count) (no_lines document place past)

-- blocks in front of others
abbrev pub with_plain : List Block → BlocksResult → BlocksResult
with_plain prefix (Ok blocks) = Ok (map plain prefix ++ blocks)
with_plain prefix (Err fault) = Err fault

pub with_one_more : (prefix : List Block) (block : Block) (blocks : BlocksResult) → with_plain (prefix ++ block ∷ []) blocks ≡ with_plain prefix (with_block (plain block) blocks)
with_one_more prefix block (Ok blocks) = ap Ok (ap (λ bs. bs ++ blocks) (map-append plain prefix (block ∷ [])) ∙ append_assoc (map plain prefix) (plain block ∷ []) blocks)
with_one_more prefix block (Err fault) = refl

pub with_none : (blocks : BlocksResult) → with_plain [] blocks ≡ blocks
with_none (Ok blocks) = refl
with_none (Err fault) = refl

pub with_no_more : (prefix : List Block) → with_plain prefix (Ok []) ≡ Ok (map plain prefix)
with_no_more prefix = ap Ok (append-nil (map plain prefix))

-- the end of blocks may be later
pub blocks_until : (document : List ℕ) (place : ℕ) (blocks : List Block) (end later : ℕ) → end ≤ later → AreBlocks document place blocks end → AreBlocks document place blocks later
blocks_until document place [] end later le are = omega arith
blocks_until document place (block ∷ blocks) end later le are = (are.0, blocks_until document block.to blocks end later le are.1)

-- one block more
pub blocks_more : (document : List ℕ) (place : ℕ) (blocks : List Block) (end : ℕ) (block : Block) → AreBlocks document place blocks end → IsBlock document end block
    → AreBlocks document place (blocks ++ block ∷ []) block.to
blocks_more document place [] end block are is = (record { behind = le_trans are is.behind; ordered = is.ordered; within = is.within; line = is.line }, le_refl block.to)
blocks_more document place (first ∷ blocks) end block are is = (are.0, blocks_more document first.to blocks end block are.1 is)

-- blocks behind a place stand behind each earlier one
pub blocks_after : (document : List ℕ) (earlier place : ℕ) (blocks : List Block) (end : ℕ) → earlier ≤ place → AreBlocks document place blocks end → AreBlocks document earlier blocks end
blocks_after document earlier place [] end le are = omega arith
blocks_after document earlier place (block ∷ blocks) end le are = (record { behind = le_trans le are.0.behind; ordered = are.0.ordered; within = are.0.within; line = are.0.line }, are.1)

-- the block at an index, and those behind it
pub block_from : (blocks : List Block) (i : ℕ) (block : Block) → i < length blocks → drop i blocks ≡ get_or blocks i block ∷ drop (i + 1) blocks
block_from blocks i block within = rw (add-one i) (drop-cons blocks i block within)

pub blocks_at : (document : List ℕ) (place : ℕ) (blocks : List Block) (i : ℕ) (end : ℕ) (block : Block) → i < length blocks → AreBlocks document place (drop i blocks) end
    → IsBlock document place (get_or blocks i block) × AreBlocks document (get_or blocks i block).to (drop (i + 1) blocks) end
blocks_at document place blocks i end block within are = rw (block_from blocks i block within) at are
