use Rattle.std.proofs.Common.{◌≡◌, length}
use Rattle.gg_flat.specs.Circuit.{FlatCircuit}
use Rattle.gg_flat.specs.State.{opening}
use Rattle.gg_snap.specs.text.Known.{AreKnown}
use Rattle.gg_snap.proofs.TextLemmas.ReadLemmas.{Reads}
use Rattle.gg_snap.proofs.text.reading.take_lines.Given as goal

abbrev pub invariant-loop-rest : goal.invariant-loop-rest
invariant-loop-rest l = (circuit : FlatCircuit) → AreKnown circuit l.rows → l.initial.draft ≡ opening circuit → Reads circuit l.rows l.text l.rest l.count l.cursor l.draft

abbrev pub decreases-loop-rest : goal.decreases-loop-rest
decreases-loop-rest l = length l.rest
