use Rattle.std.proofs.Common.{ap, ◌∙◌, arith}
use Rattle.gg_ast.specs.declared.module.Direction.TheVariants as direction
use Rattle.gg_flat.specs.Circuit.{FlatCircuit}
use Rattle.gg_elab.proofs.WholeLemmas.{names-more}
use Rattle.gg_elab.proofs.ports.add_ports.Goals as goal

pub loop-port-preserved : goal.loop-port-preserved
loop-port-preserved c =
    let paths = c.args.paths.now in
    let ports = c.args.ports.now in
    let i = c.loop-port.port-index in
    let new = c.add_port.new.piece in (
      names-more paths direction.Input c.args.piece.now.ins c.loop-port.piece.ins new.ins ports i c.port-item.result (omega arith) c.port-item.is c.loop-port.invariant.0 c.in_ok-add_port.ensures.ins,
      names-more paths direction.Output c.args.piece.now.outs c.loop-port.piece.outs new.outs ports i c.port-item.result (omega arith) c.port-item.is c.loop-port.invariant.1 c.in_ok-add_port.ensures.outs,
      c.in_ok-add_port.ensures.rest ∙ ap (λ (f : FlatCircuit). record f { ins = new.ins; outs = new.outs }) c.loop-port.invariant.2,
    )
