use Rattle.std.proofs.Common.{ℕ, List, sym, subst}
use Rattle.gg_flat.specs.Circuit.{FlatCircuit}
use Rattle.gg_flat.specs.Settled.{IsInputs}
use Rattle.net_tests.proofs.circuits.begins.advance.Goals as goal

pub settle-requires-clause-inputs : goal.settle-requires-clause-inputs
settle-requires-clause-inputs c =
    subst (λ (circuit : FlatCircuit). IsInputs circuit c.row-row.result.now) (sym c.piece-piece.ensures.circuit)
    (subst (λ (row : List ℕ). IsInputs c.args.design.now.circuit row) (sym c.row-row.ensures.values) (c.requires.fed.inputs c.args.cycle c.requires.within))
