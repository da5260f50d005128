use Rattle.std.proofs.Common.{◌≡◌, ◌++◌, map, take}
use Rattle.gg_elab_sites.specs.IsFlat.{number_of, port_names}
use Rattle.gg_ast.specs.declared.module.Direction.TheVariants as direction
use Rattle.gg_elab.proofs.ports.add_ports.Given as goal

abbrev pub invariant-loop-port : goal.invariant-loop-port
invariant-loop-port l =
    (l.piece.ins ≡ l.fn.piece.ins ++ map (number_of l.paths) (port_names direction.Input (take l.port-index l.ports)))
    × (l.piece.outs ≡ l.fn.piece.outs ++ map (number_of l.paths) (port_names direction.Output (take l.port-index l.ports)))
    × (l.piece ≡ record l.fn.piece { ins = l.piece.ins; outs = l.piece.outs })
