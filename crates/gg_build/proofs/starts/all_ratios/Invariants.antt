use Rattle.std.proofs.Common.{◌≡◌, take}
use Rattle.gg_build.specs.inside.Begin.{starts_of}
use Rattle.gg_build.specs.inside.Hosts.{ratios_for}
use Rattle.gg_build.proofs.starts.all_ratios.Given as goal

abbrev pub invariant-loop-thread : goal.invariant-loop-thread
invariant-loop-thread l = l.lists.items ≡ ratios_for (starts_of l.ratios l.begin) l.machines (take l.thread l.group)
