use Rattle.std.proofs.Common.{[], map}
use Rattle.std.specs.Option.{option_map_or}
use Rattle.net_tests.proofs.WorkersLemmas.OptionalHostLemmas.{still-net}
use Rattle.net_tests.proofs.workers.optional_host.beside_none.Goals as goal

pub of-requires-after_bounds : goal.of-requires-after_bounds
of-requires-after_bounds g c κs within =
    let parts = c.parts-hosts.result in
    still-net g.Z.Streams.flow (map g.H.Host.machines parts.hosts.items) (map (λ optional. option_map_or g.H.Host.machines optional.host []) c.in_ok-hosts.hosts.items)
    parts.shape.stations.items parts.shape.wires.items parts.queues.items parts.shape.end
    c.in_ok-hosts.ensures c.parts-hosts.ensures.parts
