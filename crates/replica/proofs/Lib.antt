-- Lemmas that the proofs of this crate share.
pub mod FrontFacts
pub mod TakeFacts
pub mod KeptFacts
pub mod ActFacts
pub mod JoinLists
pub mod JoinFacts
pub mod JoinWhole
pub mod ExchangeFacts
pub mod CommitFacts
pub mod CallFacts
pub mod NamedFacts
pub mod Opens
pub mod OpenFacts
pub mod DoneFacts
pub mod OpenedFacts
pub mod ReopenFacts
