use Rattle.std.proofs.Common.{◌≡◌, ◌++◌, take}
use Rattle.gg_cut_plan.specs.Channels.{flattened, writer_wires}
use Rattle.gg_cut_split.proofs.channels.push_writers.Given as goal

abbrev pub invariant-loop-writer : goal.invariant-loop-writer
invariant-loop-writer l = l.wires.items ≡ l.initial.wires.items ++ flattened (writer_wires l.outside l.number) (take l.writer-index l.writers)
