use Rattle.std.proofs.Common.{List, Option, ℕ, ◌++◌, ◌+◌, ◌-◌, ap, ◌∙◌, arith}
use Rattle.gg_flat_tree.specs.Clocked.{clocks_from}
use Rattle.gg_elab_sites.proofs.ClockLemmas.{clocks-more}
use Rattle.gg_elab_sites.proofs.clocks.top_clocks.Goals as goal

pub loop-number-preserved : goal.loop-number-preserved
loop-number-preserved c =
    let n = c.loop-number.number in
    let count = c.in_ok-count.count in
    ap (λ (l : List (Option ℕ)). l ++ clocks_from (n + 1) (count - (n + 1))) c.in_ok-push.ensures.items
    ∙ clocks-more n count c.loop-number.clocks.items (clocks_from 0 count) (omega arith) c.loop-number.invariant
