use Rattle.std.proofs.Common.{◌≡◌, ◌++◌, take}
use Rattle.gg_cut_plan.specs.Machines.{first_memory}
use Rattle.gg_cut_plan.specs.Channels.{numbered, field_wires}
use Rattle.gg_cut_split.proofs.channels.push_memories.Given as goal

abbrev pub invariant-loop-place : goal.invariant-loop-place
invariant-loop-place l = l.wires.items ≡ l.initial.wires.items ++ numbered (field_wires l.piece l.tree l.listed.units) (first_memory l.listed) (take l.place l.listed.memories)
