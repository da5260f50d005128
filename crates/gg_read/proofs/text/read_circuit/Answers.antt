use Rattle.std.proofs.Common.{ℕ, List, subst}
use Rattle.std.specs.Prelude.{IfOk, IfErr}
use Rattle.gg_read.specs.Text.{Spells, HasNoFaultLine, HasReadFault}
use Rattle.gg_read.proofs.TextSteps.{only_circuit, only_fault}
use Rattle.gg_read.proofs.text.read_circuit.Goals as goal

pub returns-in-Ok-clause-faultless : goal.returns-in-Ok-clause-faultless
returns-in-Ok-clause-faultless c =
    subst (λ (t : List ℕ). IfOk c.read_text.result (λ d. HasNoFaultLine t)) c.in-Ok.ensures.cases.0 c.read_text.ensures.faultless

pub returns-in-Ok-clause-only_circuit : goal.returns-in-Ok-clause-only_circuit
returns-in-Ok-clause-only_circuit c =
    let same = c.in-Ok.ensures.cases.0 in
    let ok = subst (λ (t : List ℕ). IfOk c.read_text.result (λ d. Spells t d)) same c.read_text.ensures.circuit in
    let err = subst (λ (t : List ℕ). IfErr c.read_text.result (λ f. HasReadFault t f)) same c.read_text.ensures.fault in
    only_circuit c.args.bytes.now c.read_text.result ok err

pub returns-in-Ok-clause-only_fault : goal.returns-in-Ok-clause-only_fault
returns-in-Ok-clause-only_fault c =
    let same = c.in-Ok.ensures.cases.0 in
    let ok = subst (λ (t : List ℕ). IfOk c.read_text.result (λ d. HasNoFaultLine t)) same c.read_text.ensures.faultless in
    let err = subst (λ (t : List ℕ). IfErr c.read_text.result (λ f. HasReadFault t f)) same c.read_text.ensures.fault in
    only_fault c.args.bytes.now c.read_text.result ok err
