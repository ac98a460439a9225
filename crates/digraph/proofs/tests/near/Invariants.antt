use Rattle.digraph.proofs.tests.near.Given as goal

abbrev pub ghosts-near_counted : goal.ghosts-near_counted
ghosts-near_counted a = record { name = a.blank.name; parts = a.blank.parts }
