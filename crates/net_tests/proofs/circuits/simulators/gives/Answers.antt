use Rattle.std.proofs.Common.{◌<◌, ℕ, List, sym, subst, arith}
use Rattle.gg_flat.specs.Circuit.{FlatCircuit}
use Rattle.gg_flat.specs.Settled.{IsInputs}
use Rattle.net_tests.proofs.circuits.simulators.gives.Goals as goal

pub step-requires-clause-inputs : goal.step-requires-clause-inputs
step-requires-clause-inputs c =
    let below = c.loop-cycle-test.true in
    let count = c.rows-cycle-end.ensures.count in
    let lt : c.loop-cycle.cycle < c.args.inputs.now.rows = omega arith in
    subst (λ (circuit : FlatCircuit). IsInputs circuit c.row.result.now) (sym c.loop-cycle.invariant.0)
    (subst (λ (row : List ℕ). IsInputs c.args.mono.now.circuit row) (sym c.row.ensures.values) (c.requires.inputs.inputs c.loop-cycle.cycle lt))
