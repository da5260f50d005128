use Rattle.std.proofs.Common.{◌≡◌, ◌++◌, ◌-◌}
use Rattle.gg_flat_tree.specs.Clocked.{clocks_from}
use Rattle.gg_elab_sites.proofs.clocks.top_clocks.Given as goal

abbrev pub invariant-loop-number : goal.invariant-loop-number
invariant-loop-number l = l.clocks.items ++ clocks_from l.number (l.count - l.number) ≡ clocks_from 0 l.count
