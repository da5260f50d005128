use Rattle.std.proofs.Common.{◌≡◌, ◌+◌, suc, codes, arith, ap, ◌∙◌, ◌++◌, string_bytes}
use Rattle.gg_rows.specs.PartitionText.{stage_capacities}
use Rattle.gg_rows.proofs.RangeLemmas.{line-more}
use Rattle.gg_rows.proofs.partition.capacities.Goals as goal

pub loop-i-preserved : goal.loop-i-preserved
loop-i-preserved c =
    let i = c.loop-i.i-counter in
    let one : i + 1 ≡ suc i = omega arith in
    let place : 0 + i ≡ i = omega arith in
    line-more stage_capacities 0 i _ i (codes "{\"x\":1,\"y\":1,\"z\":1") _ _ _ c.loop-i.invariant one place c.in_ok-line.ensures.ok
    (c.in_ok-push_str.ensures.bytes ∙ ap (λ t. string_bytes c.loop-i.text ++ t) c.as_str.ensures.value)
