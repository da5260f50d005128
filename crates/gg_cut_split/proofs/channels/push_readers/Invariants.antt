use Rattle.std.proofs.Common.{◌≡◌, ◌++◌, take}
use Rattle.gg_cut_plan.specs.Channels.{flattened, reader_wires}
use Rattle.gg_cut_split.proofs.channels.push_readers.Given as goal

abbrev pub invariant-loop-reader : goal.invariant-loop-reader
invariant-loop-reader l = l.wires.items ≡ l.initial.wires.items ++ flattened (reader_wires l.outside l.number) (take l.reader-index l.readers)
