use Rattle.std.proofs.Common.{◌+◌, set, sym, subst, arith}
use Rattle.gg_flat.specs.Line.{value_at}
use Rattle.gg_cut_routes.proofs.OriginTables.{OriginsTo, OriginsTo-none, OriginsTo-more, OriginsTo-end}
use Rattle.gg_cut_routes.proofs.origins.fill_origins.Goals as goal

pub loop-place-init : goal.loop-place-init
loop-place-init c = OriginsTo-none c.args.piece.now c.args.order.now c.args.sides.now c.args.barred.now c.args.origins.now.items c.requires.none

pub loop-place-preserved : goal.loop-place-preserved
loop-place-preserved c =
    subst (λ found. OriginsTo c.args.piece.now c.args.order.now c.args.sides.now c.args.barred.now (c.loop-place.place + 1) c.args.origins.now.items (set c.loop-place.origins.items (value_at c.args.order.now c.loop-place.place) found)) (sym c.origin_of-origin.ensures)
    (OriginsTo-more c.args.piece.now c.args.order.now c.args.sides.now c.args.barred.now c.loop-place.place c.args.origins.now.items c.loop-place.origins.items c.requires.ordered c.loop-place-test.true c.requires.count c.loop-place.invariant)

pub returns-clause-origins : goal.returns-clause-origins
returns-clause-origins c = λ hub seen.
    OriginsTo-end c.args.piece.now c.args.order.now c.args.sides.now c.args.barred.now c.loop-place.place c.args.origins.now.items c.loop-place.origins.items c.requires.ordered
    (let past = c.loop-place-test.false in omega (arith, past)) c.loop-place.invariant hub seen
