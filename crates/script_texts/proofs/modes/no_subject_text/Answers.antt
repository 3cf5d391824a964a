use Rattle.script_texts.proofs.modes.no_subject_text.Goals as goal

pub returns : goal.returns
returns c = rw c.as_str.ensures at c.joined.ensures
