use Rattle.gg_workers.proofs.run.run_up.Given as goal

abbrev pub ghosts-run_net : goal.ghosts-run_net
ghosts-run_net g a = record { start = a.net }
