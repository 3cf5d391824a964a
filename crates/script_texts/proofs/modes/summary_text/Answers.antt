use Rattle.script_texts.proofs.modes.summary_text.Goals as goal

pub returns : goal.returns
returns c = rw (
  c.as_str.ensures,
  c.as_str-2.ensures.value,
  c.in_ok-commands.ensures.ok,
  c.as_str-3.ensures.value,
  c.in_ok-facts.ensures.ok,
  c.as_str-4.ensures.value,
  c.in_ok-effects.ensures.ok,
  c.as_str-5.ensures.value,
  c.in_ok-digest.ensures,
  c.as_slice.ensures.value,
) at c.joined.ensures
