use Rattle.std.proofs.Common.{◌≡◌, ◌++◌, take}
use Rattle.std.specs.Prelude.{flat_map}
use Rattle.gg_flat_tree.specs.Scoped.{reader_fields}
use Rattle.gg_cut_routes.proofs.names.push_readers.Given as goal

abbrev pub invariant-loop-reader : goal.invariant-loop-reader
invariant-loop-reader l = l.names.items ≡ l.initial.names.items ++ flat_map (λ reader. reader_fields reader) (take l.reader-index l.readers)
