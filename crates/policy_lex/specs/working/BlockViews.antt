-- Blocks as the code finds them.
use Rattle.std.specs.Prelude.{◌≡◌, ℕ, ◌<◌, ◌≤◌, ⊤, not, List, [], ◌∷◌, length, drop, map, Option, Some, None, Ok, Err}
use Rattle.std.specs.List.{take_while}
use Rattle.policy_ast.specs.DocumentFault.{OpenBlock}
use Rattle.policy_ast.specs.Fences.{BlocksResult, PolicyBlock, blocks_from, is_closing, with_block}
use Rattle.policy_ast.specs.Lines.{Line, line_number}
use Rattle.policy_lex.specs.working.LineViews.{lines_at}
use Rattle.policy_lex.specs.declared.blocks.Block.{Block}
use Rattle.policy_lex.specs.declared.blocks.Part.{Part}
use Rattle.policy_lex.specs.declared.blocks.Part.TheVariants as part

-- a block without its line
abbrev pub plain : Block → PolicyBlock
plain block = record { from = block.from; to = block.to }

-- blocks, where the document doesn't end in one that this line opens
abbrev pub plain_blocks : Option ℕ → List Block → BlocksResult
plain_blocks None blocks = Ok (map plain blocks)
plain_blocks (Some line) blocks = Err (OpenBlock line)

-- a block stands behind a place of the document, with the number of the line where it begins
pub record IsBlock (document : List ℕ) (place : ℕ) (block : Block) : Type 0 where
  pub behind : place ≤ block.from
  pub ordered : block.from ≤ block.to
  pub within : block.to ≤ length document
  pub line : block.line ≡ line_number document block.from

-- blocks stand one behind another from a place to an end
abbrev pub AreBlocks : List ℕ → ℕ → List Block → ℕ → Type 0
AreBlocks document place [] end = place ≤ end
AreBlocks document place (block ∷ blocks) end = IsBlock document place block × AreBlocks document block.to blocks end

-- the lines from the one on that closes a block that so many backticks opened
abbrev pub from_closing : ℕ → List Line → List Line
from_closing count lines = drop (length (take_while (λ line. not (is_closing count line.text)) lines)) lines

-- the blocks from a line on, by what begins with it
abbrev pub blocks_of_part : List ℕ → Line → Part → BlocksResult
blocks_of_part document line (part.Block from to next) = with_block (record { from = from; to = to }) (blocks_from 0 document (lines_at document next))
blocks_of_part document line (part.Other next) = blocks_from 0 document (lines_at document next)
blocks_of_part document line part.Open = Err (OpenBlock (line_number document line.start))

-- where its places are
abbrev pub IsPart : List ℕ → Line → Part → Type 0
IsPart document line (part.Block from to next) = (from ≡ line.next) × (from ≤ to) × (to < next) × (next ≤ length document)
IsPart document line (part.Other next) = (line.next ≤ next) × (next ≤ length document)
IsPart document line part.Open = ⊤
