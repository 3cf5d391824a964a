use Rattle.aranyad.proofs.Goings.{no_journal_checked}
use Rattle.aranyad.proofs.telling.check_file.Goals as goal

pub returns-in-Ok-clause-no_journal : goal.returns-in-Ok-clause-no_journal
returns-in-Ok-clause-no_journal g c = no_journal_checked c.in-Ok.loaded c.tell_loaded.result _ _ c.tell_loaded.ensures.goes
