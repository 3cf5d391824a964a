use Rattle.braid_run.proofs.SoundFacts.{lawful_across, lawful_on, sound_on}
use Rattle.braid_run.proofs.laws.extensions_stay_sound.Goals as goal

pub returns : goal.returns
returns c = record { lawful = lawful_on; across = lawful_across; state = sound_on }
