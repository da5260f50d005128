use Rattle.std.proofs.Common.{map}
use Rattle.gg_build.proofs.PlaceLemmas.{ArePlacedTo}
use Rattle.gg_build.proofs.wires.places_of.Given as goal

abbrev pub invariant-loop-machine : goal.invariant-loop-machine
invariant-loop-machine l =
    ArePlacedTo (map (λ machine. machine.outs) l.machines) l.count l.machine-index l.outs.items
    × ArePlacedTo (map (λ machine. machine.ins) l.machines) l.count l.machine-index l.ins.items
