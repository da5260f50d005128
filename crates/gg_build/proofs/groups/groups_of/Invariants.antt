use Rattle.std.proofs.Common.{map}
use Rattle.gg_build.specs.inside.Groups.{AreSoFar}
use Rattle.gg_build.proofs.groups.groups_of.Given as goal

abbrev pub invariant-loop-number : goal.invariant-loop-number
invariant-loop-number l = AreSoFar (map (λ machine. machine.host) l.machines) l.«number» l.numbers.items l.hosts.items l.threads.items (map (λ list. list.items) l.members.items)
