use Rattle.gg_program.proofs.program.Program.run_cone.Given as goal

abbrev pub ghosts-cone_by : goal.ghosts-cone_by
ghosts-cone_by a = record { name = a.blank.name; parts = a.blank.parts }
