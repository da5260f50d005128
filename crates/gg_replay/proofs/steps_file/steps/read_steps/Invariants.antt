use Rattle.std.proofs.Common.{◌≡◌, ◌++◌, length, map}
use Rattle.gg_replay.specs.steps_file.Steps.{step_of, steps_of}
use Rattle.gg_replay.proofs.steps_file.steps.read_steps.Given as goal

abbrev pub invariant-loop-line : goal.invariant-loop-line
invariant-loop-line l = l.steps.items ++ map (step_of l.names) l.lines ≡ steps_of l.names l.bytes

abbrev pub decreases-loop-line : goal.decreases-loop-line
decreases-loop-line l = length l.lines
