use Rattle.std.proofs.Common.{◌≡◌, ◌++◌, take}
use Rattle.gg_cut_reference.specs.Made.{pipe_registers}
use Rattle.gg_cut_pipes.proofs.made.add_pipe_registers.Given as goal

abbrev pub invariant-loop-place : goal.invariant-loop-place
invariant-loop-place l = l.piece ≡ record l.initial.piece { registers = l.initial.piece.registers ++ pipe_registers l.one.signals (take l.place l.pipes) }
