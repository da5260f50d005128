use Rattle.std.proofs.Common.{◌≡◌, take}
use Rattle.gg_build.specs.inside.Begin.{starts_of}
use Rattle.gg_build.specs.inside.Hosts.{states_for}
use Rattle.gg_build.proofs.starts.all_states.Given as goal

abbrev pub invariant-loop-thread : goal.invariant-loop-thread
invariant-loop-thread l = l.states.items ≡ states_for (starts_of l.ratios l.begin) l.machines (take l.thread l.group)
