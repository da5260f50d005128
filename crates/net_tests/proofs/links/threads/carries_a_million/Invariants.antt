use Rattle.std.proofs.Common.{[], ◌∷◌}
use Rattle.net_tests.proofs.links.threads.carries_a_million.Given as goal

-- the one channel carries the values
abbrev pub ghosts-carries : goal.ghosts-carries
ghosts-carries g a = record { flow = record { lists = a.values.now ∷ []; runs = []; begin = 0; states = [] } }
