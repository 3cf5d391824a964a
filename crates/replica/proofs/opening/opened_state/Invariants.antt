use Rattle.replica.proofs.opening.opened_state.Given as goal

abbrev pub ghosts-led_state : goal.ghosts-led_state
ghosts-led_state g a = record { name = a.blank.name; parts = a.blank.parts }
