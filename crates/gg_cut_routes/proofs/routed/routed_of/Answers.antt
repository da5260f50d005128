use Rattle.std.proofs.Common.{◌++◌, ◌<◌, [], ◌∷◌, length, not, ◌∙◌, sym, ap₂, subst}
use Rattle.std.specs.Prelude.{if◌then◌else◌}
use Rattle.gg_order.specs.Marks.{is_marked}
use Rattle.gg_cut_plan.specs.Channels.{wire}
use Rattle.gg_cut_plan.specs.Plan.{wire_at}
use Rattle.gg_cut_routes.specs.inside.Tables.{entry_at, routed_by}
use Rattle.gg_cut_routes.proofs.FoundTables.{if-some}
use Rattle.gg_cut_routes.proofs.ListTables.{map-filter-next}
use Rattle.gg_cut_routes.proofs.routed.routed_of.Goals as goal

pub route_of-route-requires : goal.route_of-route-requires
route_of-route-requires c =
    let s = (wire_at c.args.wires.now c.loop-place.place).signal in
    if-some (entry_at c.args.straight.now s) (λ x. x < length c.args.sides.now) (λ x e. subst (λ n. x < n) (sym c.requires.sides) (c.requires.known s x e))

pub loop-place-preserved : goal.loop-place-preserved
loop-place-preserved c =
    let w = wire_at c.args.wires.now c.loop-place.place in
    c.in_ok-push_route.ensures
    ∙ ap₂ (λ routed route. routed ++ (if not (is_marked c.args.gone.now w.signal) then route ∷ [] else [])) c.loop-place.invariant c.route_of-route.ensures
    ∙ sym (map-filter-next (λ v. routed_by c.args.sides.now v (entry_at c.args.straight.now v.signal)) (λ v. not (is_marked c.args.gone.now v.signal)) c.args.wires.now c.loop-place.place (wire 0 0 0) c.loop-place-test.true)
