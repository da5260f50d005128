use Rattle.std.proofs.Common.{◌≡◌, ℕ, ◌+◌, ◌<◌, length, ◌∙◌, arith}
use Rattle.gg_flat.specs.Line.{value_at}
use Rattle.gg_node.specs.Machine.{machine_at}
use Rattle.gg_rows.specs.inside.Rows.{told_value}
use Rattle.gg_rows.proofs.OutputLemmas.{outputs-are}
use Rattle.gg_rows.proofs.rows.output_values.Goals as goal

pub returns : goal.returns
returns g c =
    let count : length c.loop-k.outs ≡ length c.args.outs.now = omega (arith, c.loop-k.auto.outs) in
    let told : (k : ℕ) → k < length c.loop-k.outs → value_at c.loop-k.outs k ≡ told_value (machine_at c.args.net.now.machines (c.args.first + k)) c.args.cycle =
    (λ k lt. c.loop-k.invariant k (omega (arith, lt, count, c.loop-k-test.false))) in
    λ plan start columns n upto run is from are all done near.
    outputs-are plan start columns n g.Z.Streams.flow run c.args.net.now is c.kept.ensures c.args.first upto c.args.cycle c.loop-k.outs (record { begin = are.begin; many = count ∙ are.many }) from all done near told
