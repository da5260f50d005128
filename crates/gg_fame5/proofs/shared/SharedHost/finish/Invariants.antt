use Rattle.gg_fame5.proofs.shared.SharedHost.finish.Given as goal

abbrev pub ghosts-finish_by : goal.ghosts-finish_by
ghosts-finish_by a = record { name = a.blank.name; parts = a.blank.parts }
