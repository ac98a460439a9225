use Rattle.graph_model.proofs.tests.dynamic.Given as goal

abbrev pub ghosts-dynamic_counted : goal.ghosts-dynamic_counted
ghosts-dynamic_counted a = record { name = a.blank.name; parts = a.blank.parts }
