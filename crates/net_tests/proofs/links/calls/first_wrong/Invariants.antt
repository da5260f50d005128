use Rattle.std.proofs.Common.{[], ◌∷◌}
use Rattle.net_tests.proofs.links.calls.first_wrong.Given as goal

-- the one channel carries the values
abbrev pub ghosts-answers : goal.ghosts-answers
ghosts-answers g a = record { flow = record { lists = a.values.now ∷ []; runs = []; begin = 0; states = [] } }
