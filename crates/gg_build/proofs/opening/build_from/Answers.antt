use Rattle.std.proofs.Common.{◌≡◌, ℕ, sym, subst}
use Rattle.gg_net.specs.inside.Stations.{machines_by}
use Rattle.gg_net.specs.inside.Net.{Opens}
use Rattle.gg_net.specs.Net.{opening_net}
use Rattle.gg_build.specs.inside.Begin.{AreTokens}
use Rattle.gg_build.proofs.BeginLemmas.{begins-within}
use Rattle.gg_build.proofs.ReadyLemmas.{all-named, all-ready, faultless}
use Rattle.gg_build.proofs.OpenLemmas.{lists_of, opens, opens-there}
use Rattle.gg_build.proofs.opening.build_from.Goals as goal

pub placement_of-requires-clause-ready : goal.placement_of-requires-clause-ready
placement_of-requires-clause-ready g c = all-ready c.args.plan.now c.args.begin.now c.args.trace.now.columns c.args.trace.now.rows g.Z.Streams.flow c.requires.run

pub placement_of-requires-clause-cycle : goal.placement_of-requires-clause-cycle
placement_of-requires-clause-cycle g c = begins-within c.args.plan.now c.args.begin.now c.args.trace.now.columns c.args.trace.now.rows g.Z.Streams.flow c.requires.run

pub placement_of-requires-clause-names : goal.placement_of-requires-clause-names
placement_of-requires-clause-names g c = all-named c.args.plan.now c.args.begin.now c.args.trace.now.columns c.args.trace.now.rows g.Z.Streams.flow c.requires.run

pub wires_of-requires : goal.wires_of-requires
wires_of-requires g c = faultless c.args.plan.now c.args.begin.now c.args.trace.now.columns c.args.trace.now.rows g.Z.Streams.flow c.requires.run

pub new-requires-after_bounds : goal.new-requires-after_bounds
new-requires-after_bounds g c κs within =
    let plan = c.args.plan.now in
    let begin = c.args.begin.now in
    let columns = c.args.trace.now.columns in
    let n = c.args.trace.now.rows in
    let is = c.requires.run in
    let hosts = c.in_ok-hosts.field-0.hosts.items in
    let stations = c.in_ok-hosts.field-0.stations.items in
    let wires = c.in_ok-wires.wires.items in
    subst (Opens g.Z.Streams.flow (lists_of plan begin columns n hosts stations c.in_ok-hosts.ensures.placed) stations wires) (sym c.rows-end.ensures.count)
    (opens plan begin columns n hosts stations c.in_ok-hosts.ensures.placed is.start g.Z.Streams.flow is.run is.begins wires
    (λ token have. c.in_ok-wires.ensures token (subst (AreTokens plan.channels token) (sym c.deref.ensures.value) have)))

pub returns : goal.returns
returns g c = λ start run begins.
    let plan = c.args.plan.now in
    let begin = c.args.begin.now in
    let columns = c.args.trace.now.columns in
    let n = c.args.trace.now.rows in
    let hosts = c.in_ok-hosts.field-0.hosts.items in
    let stations = c.in_ok-hosts.field-0.stations.items in
    let wires = c.in_ok-wires.wires.items in
    opens-there plan begin columns n hosts stations c.in_ok-hosts.ensures.placed start g.Z.Streams.flow run begins wires
    (λ token have. c.in_ok-wires.ensures token (subst (AreTokens plan.channels token) (sym c.deref.ensures.value) have)) c.in_ok-net.net
    (subst (λ k. c.in_ok-net.net ≡ opening_net (machines_by (lists_of plan begin columns n hosts stations c.in_ok-hosts.ensures.placed) stations) wires k) c.rows-end.ensures.count c.in_ok-net.ensures)
