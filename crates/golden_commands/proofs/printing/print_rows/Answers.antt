use Rattle.std.proofs.Common.{◌≡◌, ◌<◌, ℕ, List, sym, subst, arith}
use Rattle.gg_flat.specs.Circuit.{FlatCircuit}
use Rattle.gg_flat.specs.Settled.{IsInputs}
use Rattle.gg_io.proofs.EndingLemmas.{exit-is}
use Rattle.golden_commands.proofs.PrintingLemmas.{simulated-all, simulated-fails, simulated-last, simulated-next}
use Rattle.golden_commands.proofs.printing.print_rows.Goals as goal

pub print_row-requires-clause-inputs : goal.print_row-requires-clause-inputs
print_row-requires-clause-inputs g c =
    let below = c.loop-cycle-test.true in
    let count = c.rows-cycle-end.ensures.count in
    let lt : c.loop-cycle.cycle < c.args.inputs.now.rows = omega arith in
    subst (λ (circuit : FlatCircuit). IsInputs circuit c.row.result.now) (sym c.loop-cycle.invariant.same)
    (subst (λ (row : List ℕ). IsInputs c.args.mono.now.circuit row) (sym c.row.ensures.values) (c.requires.fed.inputs c.loop-cycle.cycle lt))

pub print_row-requires-clause-few : goal.print_row-requires-clause-few
print_row-requires-clause-few g c =
    let below = c.loop-cycle-test.true in
    omega (arith, below, c.rows-cycle-end.ensures.count, c.loop-cycle.invariant.made, c.requires.few)

pub print_row-requires-clause-within : goal.print_row-requires-clause-within
print_row-requires-clause-within g c =
    let below = c.loop-cycle-test.true in
    omega (arith, below, c.rows-cycle-end.ensures.count, c.requires.few)

pub returns-in_err-goes_on-clause-took : goal.returns-in_err-goes_on-clause-took
returns-in_err-goes_on-clause-took g c =
    let below = c.loop-cycle-test.true in
    let count = c.rows-cycle-end.ensures.count in
    let lt : c.loop-cycle.cycle < c.args.inputs.now.rows = omega arith in
    simulated-fails c.settled_once.ensures c.requires.ordered.0 c.requires.ordered.1 lt c.row.result.now c.row.ensures.values c.loop-cycle.invariant c.print_row.new.mono c.print_row.ensures.cycle
    c.print_row.new.out (exit-is c.from_residual.ensures.1) c.in_err-goes_on.ensures.prints

pub returns-then-not-goes_on-clause-took : goal.returns-then-not-goes_on-clause-took
returns-then-not-goes_on-clause-took g c =
    let below = c.loop-cycle-test.true in
    let count = c.rows-cycle-end.ensures.count in
    let lt : c.loop-cycle.cycle < c.args.inputs.now.rows = omega arith in
    simulated-last c.settled_once.ensures c.requires.ordered.0 c.requires.ordered.1 lt c.row.result.now c.row.ensures.values c.loop-cycle.invariant c.print_row.new.mono c.print_row.ensures.cycle
    c.print_row.new.out c.in_ok-goes_on.goes_on (grind (arith, c.if-not-goes_on.true)) c.in_ok-goes_on.ensures.prints

pub loop-cycle-preserved : goal.loop-cycle-preserved
loop-cycle-preserved g c =
    let below = c.loop-cycle-test.true in
    let count = c.rows-cycle-end.ensures.count in
    let lt : c.loop-cycle.cycle < c.args.inputs.now.rows = omega arith in
    simulated-next c.settled_once.ensures c.requires.ordered.0 c.requires.ordered.1 lt c.row.result.now c.row.ensures.values c.loop-cycle.invariant c.print_row.new.mono c.print_row.ensures.cycle
    c.print_row.new.out c.in_ok-goes_on.goes_on (grind (arith, c.if-not-goes_on.false)) c.in_ok-goes_on.ensures.prints
    c.print_row.ensures.circuit c.print_row.ensures.ratios c.print_row.ensures.count c.print_row.auto.outs

pub returns-clause-took : goal.returns-clause-took
returns-clause-took g c =
    let past = c.loop-cycle-test.false in
    let within = c.loop-cycle.auto.cycle-end in
    let count = c.rows-cycle-end.ensures.count in
    let all : c.loop-cycle.cycle ≡ c.args.inputs.now.rows = omega arith in
    simulated-all c.loop-cycle.invariant all
