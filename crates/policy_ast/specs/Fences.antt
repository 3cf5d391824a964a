-- The blocks of a document, which fences open and close.
use Rattle.std.specs.Prelude.{ℕ, zero, suc, ◌+◌, Bool, true, false, ◌==◌, ◌&&◌, not, if◌then◌else◌, nat_le, List, [], ◌∷◌, length, drop, codes, Result, Ok, Err}
use Rattle.std.specs.List.{list_all, list_any, take_while}
use Rattle.std.specs.Str.{byte, bytes_eq}
use Rattle.policy_ast.specs.DocumentFault.{DocumentFault, OpenBlock}
use Rattle.policy_ast.specs.Lines.{Line, line_number}
use Rattle.policy_ast.specs.Spaces.{indent, is_space, unindented}

abbrev pub is_backtick : ℕ → Bool
is_backtick c = c == byte "`"

-- how many backticks stand behind the spaces in front of a text
abbrev pub backticks : List ℕ → ℕ
backticks text = length (take_while is_backtick (unindented text))

-- what stands behind these
abbrev pub behind_backticks : List ℕ → List ℕ
behind_backticks text = drop (backticks text) (unindented text)

-- a line that opens a block outside of blocks: at most three spaces, three backticks or more, then no more of them
abbrev pub is_fence : List ℕ → Bool
is_fence text = nat_le (indent text) 3 && nat_le 3 (backticks text) && not (list_any is_backtick (behind_backticks text))

-- a line that closes a block that so many backticks opened: at most three spaces, no fewer backticks, then spaces alone
abbrev pub is_closing : ℕ → List ℕ → Bool
is_closing count text = nat_le (indent text) 3 && nat_le count (backticks text) && list_all is_space (behind_backticks text)

-- the words of what stands behind the backticks are parted by spaces alone; the first is `policy`
abbrev pub opens_policy : List ℕ → Bool
opens_policy text = bytes_eq (take_while (λ c. not (is_space c)) (unindented (behind_backticks text))) (codes "policy")

-- the bytes of a policy block: from the place behind the line that opens it to that of the line that closes it
pub record PolicyBlock : Type 0 where
  pub from : ℕ
  pub to : ℕ

-- blocks, or the fault that keeps a document from having any
abbrev pub BlocksResult : Type 0
BlocksResult = Result (List PolicyBlock) DocumentFault

abbrev pub with_block : PolicyBlock → BlocksResult → BlocksResult
with_block block (Ok blocks) = Ok (block ∷ blocks)
with_block block (Err fault) = Err fault

-- a block from the line that opens it, with the lines from the closing one on, and the blocks behind these
abbrev pub with_opened : List ℕ → Line → Bool → List Line → BlocksResult → BlocksResult
with_opened document opening true [] blocks = Err (OpenBlock (line_number document opening.start))
with_opened document opening true (closing ∷ lines) blocks = with_block (record { from = opening.next; to = closing.start }) blocks
with_opened document opening false lines blocks = blocks

-- the policy blocks of lines, of which so many in front belong to a block before: these open none
unfoldable pub blocks_from : ℕ → List ℕ → List Line → BlocksResult
blocks_from inside document [] = Ok []
blocks_from (suc inside) document (line ∷ lines) = blocks_from inside document lines
blocks_from zero document (line ∷ lines) =
    let body = take_while (λ l. not (is_closing (backticks line.text) l.text)) lines in
    let behind = blocks_from (if is_fence line.text then length body + 1 else 0) document lines in
    if is_fence line.text then with_opened document line (opens_policy line.text) (drop (length body) lines) behind else behind
