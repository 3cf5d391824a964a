use Rattle.std.proofs.Common.{sym, true≢false}
use Rattle.policy_lex.proofs.WordRuns.{run_is_text}
use Rattle.policy_lex.proofs.word.run_at.Goals as goal

pub unreachable-requires : goal.unreachable-requires
unreachable-requires c = absurd (true≢false (sym ((rw c.in-None.is at c.in_ok-text.ensures.found).1 (rw c.word_length.ensures (run_is_text c.args.bytes.now)))))
