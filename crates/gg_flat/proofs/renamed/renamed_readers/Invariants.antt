use Rattle.std.proofs.Common.{◌≡◌, map, take}
use Rattle.gg_flat.specs.Renaming.{renamed_reader}
use Rattle.gg_flat.proofs.renamed.renamed_readers.Given as goal

abbrev pub invariant-loop-reader : goal.invariant-loop-reader
invariant-loop-reader g l = l.own.items ≡ map (λ reader. renamed_reader (g.R.Renames.numbers l.by) reader) (take l.reader-index l.readers)
