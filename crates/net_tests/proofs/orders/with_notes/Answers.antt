use Rattle.std.proofs.Common.{List, sym, subst}
use Rattle.gg_node.specs.Machine.{Machine}
use Rattle.gg_net.specs.inside.Net.{AreParts}
use Rattle.net_tests.proofs.orders.with_notes.Goals as goal

pub of-requires-after_bounds : goal.of-requires-after_bounds
of-requires-after_bounds g c κs within =
    let parts = c.parts-hosts.result in
    subst (λ (hosts : List (List Machine)). AreParts g.Z.Streams.flow hosts parts.shape parts.queues.items) (sym c.in_ok-hosts.ensures) c.parts-hosts.ensures.parts
