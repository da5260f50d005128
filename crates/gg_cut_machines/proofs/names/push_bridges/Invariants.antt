use Rattle.std.proofs.Common.{◌≡◌, ◌++◌, take, map, codes}
use Rattle.gg_partfile.specs.declared.request.BridgeEntry.{BridgeEntry}
use Rattle.gg_cut_machines.proofs.names.push_bridges.Given as goal

abbrev pub invariant-loop-entry : goal.invariant-loop-entry
invariant-loop-entry l = l.names.items ≡ l.initial.names.items ++ map (λ (e : BridgeEntry). codes "bridge:" ++ e.name) (take l.entry-index l.entries)
