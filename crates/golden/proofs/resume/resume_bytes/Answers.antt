use Rattle.std.proofs.Common.{◌≤◌, refl, sym, arith}
use Rattle.gg_snap.specs.text.Known.{AreKnown, CanSave}
use Rattle.gg_snap.specs.text.Standing.{IsSnap}
use Rattle.gg_snap.specs.text.Table.{rows_of}
use Rattle.gg_io.specs.inside.Endings.{PrintsText, Stops, Wants}
use Rattle.gg_io.proofs.EndingLemmas.{IfRefused-map, exit-is}
use Rattle.golden_commands.specs.Partition.{to_save}
use Rattle.golden_commands.proofs.CaseLemmas.{case-can-save, of-made}
use Rattle.golden_commands.proofs.PartitionLemmas.{designs-agree}
use Rattle.golden.proofs.RestLemmas.{resumed-so, snap-tells}
use Rattle.golden.proofs.resume.resume_bytes.Goals as goal

pub reference_of-requires : goal.reference_of-requires
reference_of-requires g c = let r = c.requires.fed in (to_save c.args.tools.now.models.now, r.0, r.1, r.3, r.4.case)

pub returns-in_err-reference-clause-ended : goal.returns-in_err-reference-clause-ended
returns-in_err-reference-clause-ended g c = λ circuit partition trace capacity is. Wants (exit-is c.from_residual.ensures.1) refl

pub snap_in-requires : goal.snap_in-requires
snap_in-requires g c =
    of-made CanSave (sym c.in_ok-reference.ensures.circuit) (sym c.in_ok-reference.ensures.tree) (case-can-save c.plans_can_save.ensures c.requires.fed.4.case)

pub returns-in_err-snap-clause-ended : goal.returns-in_err-snap-clause-ended
returns-in_err-snap-clause-ended g c = λ circuit partition trace capacity is.
    Stops c.in_err-snap.field-0.0 (exit-is c.from_residual-in_err-snap.ensures.1)
    (IfRefused-map
    (snap-tells c.args.tools.now.models.now circuit partition trace capacity c.args.fed.now is c.in_ok-reference.reference c.rows.result c.args.bytes.items c.in_ok-reference.ensures.circuit c.in_ok-reference.ensures.tree c.rows.ensures.count)
    c.in_err-snap.field-0.0 c.in_err-snap.ensures.refused)
    refl

pub print_rest-requires-clause-fed : goal.print_rest-requires-clause-fed
print_rest-requires-clause-fed g c κs within = c.requires.fed

pub print_rest-requires-clause-within : goal.print_rest-requires-clause-within
print_rest-requires-clause-within g c = omega (arith, c.in_ok-snap.ensures.within, c.rows.ensures.count)

pub print_rest-requires-clause-typed : goal.print_rest-requires-clause-typed
print_rest-requires-clause-typed g c κs within =
    let snap = c.in_ok-snap.snap in
    (of-made (λ f t. IsSnap f t c.args.bytes.items snap.cycle snap.state) c.in_ok-reference.ensures.circuit c.in_ok-reference.ensures.tree c.in_ok-snap.ensures.read).typed

pub returns-clause-ended : goal.returns-clause-ended
returns-clause-ended g c = λ circuit partition trace capacity is.
    let d = c.one_meaning.ensures in
    let fed = c.args.fed.now in
    let snap = c.in_ok-snap.snap in
    let circuit-is = c.in_ok-reference.ensures.circuit in
    let tree-is = c.in_ok-reference.ensures.tree in
    let reads = of-made (λ f t. IsSnap f t c.args.bytes.items snap.cycle snap.state) circuit-is tree-is c.in_ok-snap.ensures.read in
    let known = of-made (λ f t. AreKnown f (rows_of f t)) circuit-is tree-is c.in_ok-snap.ensures.known in
    let within : snap.cycle ≤ fed.trace.rows = omega (arith, c.in_ok-snap.ensures.within, c.rows.ensures.count) in
    PrintsText _
    (resumed-so c.args.tools.now.models.now circuit partition trace capacity fed is snap.cycle snap.state within reads.typed c.args.bytes.items reads known (designs-agree d.flat d.tree) c.one_snapshot.ensures.once c.plans_are_whole.ensures)
    c.print_rest.ensures.prints
