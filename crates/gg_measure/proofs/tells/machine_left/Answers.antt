use Rattle.std.proofs.Common.{◌≡◌, ◌*◌, ◌∙◌, ap, arith}
use Rattle.gg_net.specs.Network.{frame_of}
use Rattle.gg_net.specs.inside.LayoutOf.{layout_of}
use Rattle.gg_measure.specs.inside.Nets.{dues_at}
use Rattle.gg_measure.proofs.GoLemmas.{laid-out}
use Rattle.gg_measure.proofs.NetLemmas.{serves-within}
use Rattle.gg_measure.proofs.tells.machine_left.Goals as goal

pub overflow_sub-serves : goal.overflow_sub-serves
overflow_sub-serves g c =
    let product : c.from.result * c.end-end.result ≡ dues_at c.args.net.now c.args.machine * c.args.net.now.end =
    ap (λ n. n * c.end-end.result) (c.from.ensures ∙ c.dues.ensures) ∙ ap (λ n. dues_at c.args.net.now c.args.machine * n) c.end-end.ensures in
    omega (arith, product, c.serves.ensures, serves-within g.Z.Streams.flow c.args.net.now c.kept.ensures (layout_of (frame_of c.args.net.now)) (laid-out g.Z.Streams.flow c.args.net.now c.kept.ensures) c.args.machine c.requires)
