use Rattle.std.proofs.Common.{◌≡◌, map, take}
use Rattle.gg_flat.specs.Renaming.{renamed_writer}
use Rattle.gg_flat.proofs.renamed.renamed_writers.Given as goal

abbrev pub invariant-loop-writer : goal.invariant-loop-writer
invariant-loop-writer g l = l.own.items ≡ map (λ writer. renamed_writer (g.R.Renames.numbers l.by) writer) (take l.writer-index l.writers)
