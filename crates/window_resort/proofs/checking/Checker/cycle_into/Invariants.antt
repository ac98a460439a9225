use Rattle.window_resort.proofs.checking.Checker.cycle_into.Given as goal

abbrev pub ghosts-cycle_counted : goal.ghosts-cycle_counted
ghosts-cycle_counted a = record { name = a.blank.name; parts = a.blank.parts }
