use Rattle.std.proofs.Common.{◌≡◌, ◌<◌, length, sym, ap, subst, ◌∙◌, arith}
use Rattle.gg_net.specs.Network.{Network, wire_at}
use Rattle.gg_net.specs.Kept.{Kept}
use Rattle.gg_net.proofs.CloseLemmas.{wire-is}
use Rattle.gg_net.proofs.NetLemmas.{wire-producer, wire-out, wire-consumer, wire-place}
use Rattle.gg_net.proofs.net.Net.wire.Goals as goal

pub index-requires : goal.index-requires
index-requires g c = omega (arith, c.requires, ap (λ (n : Network). length n.wires) c.self.view_is)

pub returns : goal.returns
returns g c =
    let flow = g.Z.Streams.flow in
    let net = c.args.self.now in
    let channel = c.args.channel in
    let w = c.index.result.now in
    let kept = subst (Kept flow) c.self.view_is c.self.invariant.kept in
    let known = subst (λ (n : Network). channel < length n.wires) (sym c.self.view_is) c.requires in
    let is : w ≡ wire_at net.wires channel = wire-is c.self.invariant channel w c.index.ensures known ∙ ap (λ (n : Network). wire_at n.wires channel) c.self.view_is in
    record {
      is = is;
      producer = wire-producer flow net kept channel c.requires w is;
      out = wire-out flow net kept channel c.requires w is;
      consumer = wire-consumer flow net kept channel c.requires w is;
      place = wire-place flow net kept channel c.requires w is;
    }
