use Rattle.std.proofs.Common.{◌+◌, ℕ, List, None, Some, refl, sym, ap, ◌∙◌, subst}
use Rattle.std.proofs.lemmas.Result.{err_from_is_err_and}
use Rattle.gg_flat.specs.State.{opening}
use Rattle.gg_snap.specs.declared.text.row.Row.{Row}
use Rattle.gg_snap.specs.declared.text.fault.SnapFault.{SnapFault}
use Rattle.gg_snap.specs.declared.text.fault.SnapFault.TheVariants.{S1, NoMemory}
use Rattle.gg_snap.specs.text.Known.{AreKnown}
use Rattle.gg_snap.specs.inside.Places.{Ends}
use Rattle.gg_snap.specs.text.Standing.{IfFault, IsSnap}
use Rattle.gg_snap.proofs.TextLemmas.SnapLemmas.{heading-fault, read-all, read-stops}
use Rattle.gg_snap.proofs.text.snap.read_snap.Goals as goal

weaker : {P Q : ℕ → Type 0} (f : SnapFault) → ((line : ℕ) → P line → Q line) → IfFault P f → IfFault Q f
weaker (S1 line) to h = to line h
weaker NoMemory to h = tt

pub returns-in_err-cycle-clause-refused : goal.returns-in_err-cycle-clause-refused
returns-in_err-cycle-clause-refused c =
    let fault = c.in_err-cycle.field-0.0 in
    let p = err_from_is_err_and c.from_residual-in_err-cycle.result c.from_residual-in_err-cycle.ensures.1 in
    rw (p.1, p.2) (weaker fault (λ line h. heading-fault c.args.design.now.circuit c.args.design.now.tree c.args.bytes.now line h) c.in_err-cycle.ensures.refused)

pub returns-in-Some-clause-refused : goal.returns-in-Some-clause-refused
returns-in-Some-clause-refused c =
    let circuit = c.args.design.now.circuit in
    let tree = c.args.design.now.tree in
    let state = c.take_lines.new.draft in
    let rest = c.in_ok-cycle.rest.now in
    let ends = c.in_ok-count.ensures.ends circuit (subst (AreKnown circuit) (sym c.deref.ensures.value) c.in_ok-rows.ensures.known) (c.in_ok-draft.ensures ∙ ap opening c.piece.ensures.circuit) in
    let stops = subst (λ (rows : List Row). Ends circuit rows rest state (Some c.in-Some.count)) (c.deref.ensures.value ∙ c.in_ok-rows.ensures.rows) (subst (Ends circuit c.deref.result.now rest state) c.in-Some.is ends.1) in
    read-stops circuit tree c.args.bytes.now c.in_ok-cycle.cycle rest c.in_ok-cycle.ensures.read.0 c.in_ok-cycle.ensures.read.1 state ends.0 c.in-Some.count stops (c.in-Some.count + 3) refl

pub returns-clause-read : goal.returns-clause-read
returns-clause-read c =
    let circuit = c.args.design.now.circuit in
    let tree = c.args.design.now.tree in
    let state = c.take_lines.new.draft in
    let rest = c.in_ok-cycle.rest.now in
    let ends = c.in_ok-count.ensures.ends circuit (subst (AreKnown circuit) (sym c.deref.ensures.value) c.in_ok-rows.ensures.known) (c.in_ok-draft.ensures ∙ ap opening c.piece.ensures.circuit) in
    let all = subst (λ (rows : List Row). Ends circuit rows rest state None) (c.deref.ensures.value ∙ c.in_ok-rows.ensures.rows) (subst (Ends circuit c.deref.result.now rest state) c.in_default.is ends.1) in
    subst (IsSnap circuit tree c.args.bytes.now c.in_ok-cycle.cycle) (sym c.in_ok-state.ensures)
    (read-all circuit tree c.args.bytes.now c.in_ok-cycle.cycle rest c.in_ok-cycle.ensures.read.0 c.in_ok-cycle.ensures.read.1 state ends.0 all)
