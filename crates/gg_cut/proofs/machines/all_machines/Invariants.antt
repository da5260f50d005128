use Rattle.std.proofs.Common.{◌≡◌, ℕ, length}
use Rattle.gg_flat.specs.Line.{value_at}
use Rattle.gg_cut.specs.inside.Drafted.{AreEarlier}
use Rattle.gg_cut.proofs.machines.all_machines.Given as goal

abbrev pub invariant-loop-number : goal.invariant-loop-number
invariant-loop-number l =
    (length l.table.items ≡ length l.making.draft.now.design.now.circuit.signals)
    × ((s : ℕ) → value_at l.table.items s ≡ 0)
    × AreEarlier l.making.draft.now l.making.domains.now l.«number» l.machines.items
