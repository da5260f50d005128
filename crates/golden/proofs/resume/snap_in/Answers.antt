use Rattle.std.proofs.Common.{ℕ, List, sym, inr, subst}
use Rattle.std.proofs.lemmas.Result.{IfErr-weaker, IfOk-weaker}
use Rattle.gg_snap.specs.inside.Snap.{Snapshot}
use Rattle.gg_snap.specs.text.Standing.{IsSnap}
use Rattle.gg_io.proofs.EndingLemmas.{IfRefused-map}
use Rattle.golden.proofs.RestLemmas.{snap-fault}
use Rattle.golden.proofs.resume.snap_in.Goals as goal

pub returns-in-Ok-clause-read : goal.returns-in-Ok-clause-read
returns-in-Ok-clause-read c =
    let made = c.args.reference.now in
    let read = subst (λ (b : List ℕ). IsSnap made.circuit made.tree b c.in-Ok.snap.cycle c.in-Ok.snap.state) c.as_slice.ensures.value c.in-Ok.ensures.read in
    IfOk-weaker c.within.result _ _ (λ snap same. subst (λ (s : Snapshot). IsSnap made.circuit made.tree c.args.bytes.items s.cycle s.state) (sym same) read) c.within.ensures.same

pub returns-in-Ok-clause-known : goal.returns-in-Ok-clause-known
returns-in-Ok-clause-known c = IfOk-weaker c.within.result _ _ (λ snap same. c.in-Ok.ensures.known) c.within.ensures.same

pub returns-in-Ok-clause-refused : goal.returns-in-Ok-clause-refused
returns-in-Ok-clause-refused c =
    let made = c.args.reference.now in
    let read = subst (λ (b : List ℕ). IsSnap made.circuit made.tree b c.in-Ok.snap.cycle c.in-Ok.snap.state) c.as_slice.ensures.value c.in-Ok.ensures.read in
    IfErr-weaker c.within.result _ _ (λ ending. IfRefused-map (λ said late. inr (c.in-Ok.snap.cycle, c.in-Ok.snap.state, read, late.0, late.1)) ending) c.within.ensures.refused

pub returns-clause-refused : goal.returns-clause-refused
returns-clause-refused c =
    IfRefused-map
    (λ said told. snap-fault c.args.reference.now c.args.rows c.args.bytes.items c.as_slice.result.now c.in-Err.fault said c.as_slice.ensures.value told.0 c.in-Err.ensures.refused told.1)
    c.end_at_snap.result c.end_at_snap.ensures
