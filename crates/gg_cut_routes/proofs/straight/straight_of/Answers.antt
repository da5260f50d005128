use Rattle.std.proofs.Common.{◌+◌, set, length, sym, subst, ◌∙◌, arith}
use Rattle.gg_cut_plan.specs.Channels.{wire}
use Rattle.gg_cut_plan.specs.Plan.{wire_at}
use Rattle.gg_cut_routes.specs.inside.Tables.{direct_by}
use Rattle.gg_cut_routes.proofs.StraightTables.{EntriesTo, EntriesTo-none, EntriesTo-more, EntriesTo-end, direct-known}
use Rattle.gg_cut_routes.proofs.straight.straight_of.Goals as goal

pub loop-place-init : goal.loop-place-init
loop-place-init c =
    EntriesTo-none (direct_by c.args.piece.now c.args.numbering c.args.sides.now c.args.origins.now c.args.named.now c.args.direct) (length c.args.piece.now.signals) c.args.wires.now c.in_ok-straight.straight.items
    (c.in_ok-straight.ensures.count ∙ c.signal_count.ensures.count) c.in_ok-straight.ensures.none

pub loop-place-preserved : goal.loop-place-preserved
loop-place-preserved c =
    subst (λ found. EntriesTo (direct_by c.args.piece.now c.args.numbering c.args.sides.now c.args.origins.now c.args.named.now c.args.direct) (length c.args.piece.now.signals) c.args.wires.now (c.loop-place.place + 1) (set c.loop-place.straight.items (wire_at c.args.wires.now c.loop-place.place).signal found)) (sym c.direct_of-origin.ensures)
    (EntriesTo-more (direct_by c.args.piece.now c.args.numbering c.args.sides.now c.args.origins.now c.args.named.now c.args.direct) (length c.args.piece.now.signals) c.args.wires.now c.loop-place.place c.loop-place.straight.items c.loop-place-test.true
    (c.requires.signals c.loop-place.place (wire 0 0 0) c.loop-place-test.true) c.requires.once
    (λ x e. direct-known c.args.piece.now c.args.numbering c.args.sides.now c.args.origins.now c.args.named.now c.args.direct (length c.args.piece.now.signals) (wire_at c.args.wires.now c.loop-place.place) x c.requires.known e) c.loop-place.invariant)

pub returns-clause-entries : goal.returns-clause-entries
returns-clause-entries c =
    EntriesTo-end (direct_by c.args.piece.now c.args.numbering c.args.sides.now c.args.origins.now c.args.named.now c.args.direct) (length c.args.piece.now.signals) c.args.wires.now c.loop-place.place c.loop-place.straight.items
    (let past = c.loop-place-test.false in omega (arith, past)) c.loop-place.invariant
