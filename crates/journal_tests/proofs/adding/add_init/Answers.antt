use Rattle.std.proofs.Common.{[]}
use Rattle.journal_tests.proofs.Answers.{on_ok_then}
use Rattle.journal_tests.proofs.adding.add_init.Goals as goal

pub returns : goal.returns
returns c = on_ok_then c.add.result (λ adds. adds c.args.digest.now [] c.requires.works) c.add.ensures
