use Rattle.std.proofs.Common.{◌≡◌, ◌+◌, ap, ◌∙◌, arith}
use Rattle.gg_bits.specs.Lists.{count_below}
use Rattle.gg_cut_split.specs.inside.Ends.{is_open}
use Rattle.gg_cut_split.proofs.NumberLemmas.{count-next}
use Rattle.gg_cut_split.proofs.ends.open_count.Goals as goal

pub loop-place-preserved : goal.loop-place-preserved
loop-place-preserved c =
    let takers = c.args.takers.now in
    let n = c.loop-place.place in
    let was : c.loop-place.count ≡ 0 + count_below (is_open takers) n = omega (arith, c.loop-place.invariant.0) in
    let more = count-next takers n c.loop-place.count 0 was in
    let one = c.one_if-count.ensures in (
      ap (λ t. c.loop-place.count + t) one.one ∙ more ∙ (let e : 0 + count_below (is_open takers) (n + 1) ≡ count_below (is_open takers) (n + 1) = omega arith in e),
      (let few = one.small in omega (arith, few, c.loop-place.invariant.1)),
    )
