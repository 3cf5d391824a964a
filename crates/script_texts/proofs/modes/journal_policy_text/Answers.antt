use Rattle.script_texts.proofs.modes.journal_policy_text.Goals as goal

pub returns : goal.returns
returns c = rw (c.as_str.ensures, c.as_str-2.ensures.value, c.in_ok-digest.ensures, c.as_slice.ensures.value) at c.joined.ensures
