use Rattle.std.proofs.Common.{◌≡◌}
use Rattle.gg_flat_tree.specs.Clocked.{clocks_from}
use Rattle.gg_cut_parts.proofs.tables.numbered.Given as goal

abbrev pub invariant-loop-number : goal.invariant-loop-number
invariant-loop-number l = l.clocks.items ≡ clocks_from 0 l.number
