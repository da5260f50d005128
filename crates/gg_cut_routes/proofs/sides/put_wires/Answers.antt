use Rattle.std.proofs.Common.{◌+◌, set, sym, ◌∙◌, ap, subst, arith}
use Rattle.std.proofs.lemmas.List.{get_or_default}
use Rattle.gg_cut_plan.specs.Channels.{wire}
use Rattle.gg_cut_plan.specs.Plan.{wire_at}
use Rattle.gg_cut_routes.specs.declared.sides.Side.TheVariants.{Other}
use Rattle.gg_cut_routes.specs.inside.Tables.{side_by}
use Rattle.gg_cut_routes.proofs.SideTables.{SidesTo, SidesTo-none, SidesTo-more, SidesTo-end}
use Rattle.gg_cut_routes.proofs.sides.put_wires.Goals as goal

pub loop-place-init : goal.loop-place-init
loop-place-init c = SidesTo-none c.args.wires.now c.args.sides.now.items

pub loop-place-preserved : goal.loop-place-preserved
loop-place-preserved c =
    let w = wire_at c.args.wires.now c.loop-place.place in
    let known = c.requires.known c.loop-place.place (wire 0 0 0) c.loop-place-test.true in
    subst (λ side. SidesTo c.args.wires.now (c.loop-place.place + 1) c.args.sides.now.items (set c.loop-place.sides.items (wire_at c.args.wires.now c.loop-place.place).signal side))
    (sym (c.side_of-side.ensures ∙ ap (side_by w) (c.index.ensures ∙ get_or_default c.loop-place.sides.items w.signal c.index.result.now Other (omega (arith, known, c.loop-place.invariant.count)))))
    (SidesTo-more c.args.wires.now c.loop-place.place c.args.sides.now.items c.loop-place.sides.items c.loop-place-test.true (omega (arith, known, c.loop-place.invariant.count)) c.loop-place.invariant)

pub returns-clause-sides : goal.returns-clause-sides
returns-clause-sides c = λ globals own.
    SidesTo-end c.args.wires.now c.loop-place.place c.args.sides.now.items c.loop-place.sides.items c.loop-place.invariant
    (let past = c.loop-place-test.false in omega (arith, past)) globals own
