use Rattle.std.proofs.Common.{append_assoc, append-nil}
use Rattle.script_texts.proofs.pieces.reply_line.Goals as goal

pub returns : goal.returns
returns c =
    rw (c.in_ok-extend-2.ensures.ok, c.in_ok-push_all.ensures, c.in_ok-extend.ensures.ok, c.in_ok-push_names.ensures, c.in_ok-text.ensures) (simp (append_assoc, append-nil))
