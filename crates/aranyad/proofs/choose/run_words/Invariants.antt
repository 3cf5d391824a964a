use Rattle.std.proofs.Common.{◌≡◌, drop}
use Rattle.aranyad.specs.Modes.{no_words, run_words}
use Rattle.aranyad.proofs.choose.run_words.Given as goal

abbrev pub invariant-loop-word : goal.invariant-loop-word
invariant-loop-word l = run_words l.said (drop l.word-index l.words) ≡ run_words no_words l.words
