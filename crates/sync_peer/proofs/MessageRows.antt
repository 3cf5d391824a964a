-- Samples and responses of a few commands, computed.
use Rattle.std.proofs.Common.{◌≡◌, ℕ, Bool, true, false, List, [], ◌∷◌, length, replicate, refl}
use Rattle.command.specs.declared.command.Command.{Command}
use Rattle.sync_codec.specs.declared.request.Request.{Request}
use Rattle.sync_peer.specs.Messages.{response_of}
use Rattle.sync_peer.specs.Samples.{distances, sample_places}

none : sample_places 0 ≡ []
unfolding distances
none = refl

one : sample_places 1 ≡ 0 ∷ []
unfolding distances
one = refl

two : sample_places 2 ≡ 1 ∷ 0 ∷ []
unfolding distances
two = refl

six : sample_places 6 ≡ 5 ∷ 4 ∷ 2 ∷ 0 ∷ []
unfolding distances
six = refl

eight : sample_places 8 ≡ 7 ∷ 6 ∷ 4 ∷ 0 ∷ []
unfolding distances
eight = refl

thousand : sample_places 1000 ≡ 999 ∷ 998 ∷ 996 ∷ 992 ∷ 984 ∷ 968 ∷ 936 ∷ 872 ∷ 744 ∷ 488 ∷ 0 ∷ []
unfolding distances
thousand = refl

all : length (sample_places 65536) ≡ 17
unfolding distances
all = refl

-- what a response to a request with no sample has, where so many are missing

module _ (cs : List Command) (graph : List ℕ) (c : Command) where
  from : ℕ → Request
  from place = record { graph = graph; sample = []; from = place }

  has_more : ℕ → ℕ → Bool
  has_more place missing = (response_of cs (from place) (replicate missing c)).more

  sent : ℕ → ℕ → ℕ
  sent place missing = length (response_of cs (from place) (replicate missing c)).commands

  no_more_at_64 : has_more 0 64 ≡ false
  unfolding has_more from
  no_more_at_64 = refl

  more_at_65 : has_more 0 65 ≡ true
  unfolding has_more from
  more_at_65 = refl

  sixty_four_of_65 : sent 0 65 ≡ 64
  unfolding sent from
  sixty_four_of_65 = refl

  one_behind_64 : sent 64 65 ≡ 1
  unfolding sent from
  one_behind_64 = refl

  none_behind_all : sent 70 65 ≡ 0
  unfolding sent from
  none_behind_all = refl
