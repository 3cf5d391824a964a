use Rattle.std.proofs.Common.{Some}
use Rattle.sync_peer.proofs.SessionFacts.{names_held, sessions_send}
use Rattle.sync_peer.proofs.laws.sessions_send_what_is_missing.Goals as goal

pub returns : goal.returns
returns c = record { missing = sessions_send; held = λ held request answers session. names_held answers held (Some request) session }
