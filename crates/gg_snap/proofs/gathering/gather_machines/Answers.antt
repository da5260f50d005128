use Rattle.std.proofs.Common.{◌≡◌, ◌<◌, get_or, length, sym, ap, ◌∙◌, subst, arith}
use Rattle.gg_flat.specs.State.{State}
use Rattle.gg_cut_plan.specs.declared.plan.Machine as planned
use Rattle.gg_cut_plan.specs.declared.plan.Plan.{Plan}
use Rattle.gg_node.specs.Machine.{machine_at}
use Rattle.gg_snap.specs.inside.Parts.{HasPart}
use Rattle.gg_snap.specs.inside.Gathered.{AreDone, AreIn, HoldsBody, held_by, kept_by}
use Rattle.gg_snap.proofs.GatherLemmas.{body-is, done-more, holds-sized, sized-more}
use Rattle.gg_snap.proofs.gathering.gather_machines.Goals as goal

pub loop-m-preserved : goal.loop-m-preserved
loop-m-preserved g c =
    let machines = c.args.machines.now in
    let piece = c.args.piece.now in
    let net = c.args.net.now in
    let old = c.loop-m.draft in
    let new = c.put_machine.new.draft in
    let m = c.loop-m.m in
    let lt = c.loop-m-test.true in
    let any = c.index-machines-m.result in
    let machine = get_or machines m any in
    let at = ap (λ (x : planned.Machine). x.body) c.index-machines-m.is in
    let sized = c.loop-m.invariant.0 in
    let drawn : (plan : Plan) (whole : State) → plan.machines ≡ machines → AreIn piece plan net whole → HasPart whole (held_by machine.body) (kept_by machine.body) old new = λ plan whole same in_all.
    let is = body-is plan machines m any same c.index-machines-m.is lt ∙ at in
    let here : m < length plan.machines = omega (arith, lt, ap length same) in
    c.in_ok-put_machine.ensures.part whole
    (holds-sized whole (length piece.registers) (length piece.memories) (length old.registers) (length old.banks) machine.body (machine_at net.machines m) (sym sized.registers) (sym sized.banks)
    (subst (λ b. HoldsBody whole (length piece.registers) (length piece.memories) b (machine_at net.machines m)) is (in_all.each m here))) in
    let some = c.requires.holds in (
      sized-more piece some.1 old new (held_by machine.body) (kept_by machine.body) sized (drawn some.0 some.1 some.2 some.3) c.in_ok-put_machine.ensures.sizes,
      λ plan whole same in_all. done-more plan whole old new m machine.body (body-is plan machines m any same c.index-machines-m.is lt ∙ at) (c.loop-m.invariant.1 plan whole same in_all) (drawn plan whole same in_all),
    )

pub returns-clause-done : goal.returns-clause-done
returns-clause-done g c = λ plan whole same in_all.
    let high = c.loop-m-test.false in
    let e : c.loop-m.m ≡ length c.args.machines.now = omega (arith, high, c.loop-m.auto.m-end) in
    subst (λ n. AreDone plan whole n c.loop-m.draft) e (c.loop-m.invariant.1 plan whole same in_all)
