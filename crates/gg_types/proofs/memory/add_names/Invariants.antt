use Rattle.std.proofs.Common.{◌≡◌, ◌++◌, map, take}
use Rattle.gg_types.proofs.memory.add_names.Given as goal

abbrev pub invariant-loop-name : goal.invariant-loop-name
invariant-loop-name l = map (λ n. n.now) l.names.items ≡ map (λ n. n.now) l.fn.names.items ++ take l.name-index l.more
