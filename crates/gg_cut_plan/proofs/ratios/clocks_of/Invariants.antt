use Rattle.std.proofs.Common.{◌≡◌, [], map, take}
use Rattle.std.specs.Prelude.{slice_index_or}
use Rattle.gg_flat_tree.specs.Clocked.{clock_at}
use Rattle.gg_cut_plan.proofs.ratios.clocks_of.Given as goal

abbrev pub invariant-loop-stop : goal.invariant-loop-stop
invariant-loop-stop l = l.clocks.items ≡ map (λ stop. clock_at (slice_index_or l.tops stop.instance []) stop.clock) (take l.stop-index l.stops)
