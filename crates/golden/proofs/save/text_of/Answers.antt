use Rattle.std.proofs.Common.{refl, sym}
use Rattle.std.proofs.lemmas.Result.{IfOk-weaker}
use Rattle.gg_snap.specs.text.Known.{CanSave}
use Rattle.golden_commands.specs.Partition.{to_save}
use Rattle.golden_commands.proofs.CaseLemmas.{case-can-save, case-fresh, of-made}
use Rattle.golden.proofs.UptoLemmas.{after-is, has-ended}
use Rattle.golden.proofs.save.text_of.Goals as goal

pub reference_of-requires : goal.reference_of-requires
reference_of-requires g c =
    let r = c.requires.case in
    (to_save r.0, r.1, r.2, r.3, r.4)

pub snapshot-requires-clause-ended : goal.snapshot-requires-clause-ended
snapshot-requires-clause-ended g c κs within =
    let run = c.requires.run in
    has-ended c.args.fed.now g.Z.Streams.flow run.0 (c.requires.case.4.cuts.alone refl) c.args.net.now c.rows-cycle.result c.rows-cycle.ensures.count run.1 c.in_ok-reference.reference.circuit c.in_ok-reference.ensures.circuit

pub snapshot-requires-clause-fresh : goal.snapshot-requires-clause-fresh
snapshot-requires-clause-fresh g c κs within = case-fresh c.requires.case.4

pub snapshot-requires-clause-held : goal.snapshot-requires-clause-held
snapshot-requires-clause-held g c κs within = c.requires.case.4.whole

pub snap_text-requires : goal.snap_text-requires
snap_text-requires g c =
    rw c.in_ok-snap.ensures.design (of-made CanSave (sym c.in_ok-reference.ensures.circuit) (sym c.in_ok-reference.ensures.tree) (case-can-save c.plans_can_save.ensures c.requires.case.4))

pub returns : goal.returns
returns g c =
    IfOk-weaker c.snap_text.result _ _
    (λ text is replay stands.
    after-is c.args.fed.now g.Z.Streams.flow replay (c.requires.case.4.cuts.alone refl) c.args.net.now c.rows-cycle.result c.rows-cycle.ensures.count stands c.in_ok-snap.snap c.in_ok-reference.reference text
    c.in_ok-snap.ensures.design c.in_ok-reference.ensures.circuit c.in_ok-reference.ensures.tree c.in_ok-snap.ensures.cycle c.in_ok-snap.ensures.state is)
    c.snap_text.ensures.text
