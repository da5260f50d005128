use Rattle.std.proofs.Common.{◌≡◌, ◌++◌, take}
use Rattle.gg_flat.specs.Line.{value_at}
use Rattle.gg_bits.specs.Lists.{by_number}
use Rattle.gg_cut_pipes.specs.inside.Tables.{seen_in}
use Rattle.gg_flat.specs.Renaming.{renamed_register, signals_by}
use Rattle.gg_cut_pipes.proofs.made.add_registers.Given as goal

abbrev pub invariant-loop-place : goal.invariant-loop-place
invariant-loop-place l = l.piece ≡ record l.initial.piece { registers = l.initial.piece.registers ++ by_number (λ r register. renamed_register (signals_by (seen_in l.tables (value_at l.tables.holders r))) register) 0 (take l.place l.one.registers) }
