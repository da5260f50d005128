use Rattle.std.proofs.Common.{◌≡◌, ◌++◌, take}
use Rattle.gg_flat.specs.Line.{value_at}
use Rattle.gg_bits.specs.Lists.{by_number}
use Rattle.gg_cut_pipes.specs.inside.Tables.{seen_in}
use Rattle.gg_flat.specs.Renaming.{renamed_memory, signals_by}
use Rattle.gg_cut_pipes.proofs.made.add_memories.Given as goal

abbrev pub invariant-loop-place : goal.invariant-loop-place
invariant-loop-place l = l.piece ≡ record l.initial.piece { memories = l.initial.piece.memories ++ by_number (λ m memory. renamed_memory (signals_by (seen_in l.tables (value_at l.tables.keepers m))) memory) 0 (take l.place l.one.memories) }
