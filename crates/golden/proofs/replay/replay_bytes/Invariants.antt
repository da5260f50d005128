use Rattle.golden_commands.specs.Replayed.{fed_flow}
use Rattle.golden.proofs.replay.replay_bytes.Given as goal

-- what the plan's network computes on the trace
abbrev pub ghosts-replay_net : goal.ghosts-replay_net
ghosts-replay_net g a = record { flow = fed_flow a._models.now a.fed.now }
