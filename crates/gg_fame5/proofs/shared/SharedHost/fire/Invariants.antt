use Rattle.gg_fame5.proofs.shared.SharedHost.fire.Given as goal

abbrev pub ghosts-token_by : goal.ghosts-token_by
ghosts-token_by a = record { name = a.blank.name; parts = a.blank.parts }
