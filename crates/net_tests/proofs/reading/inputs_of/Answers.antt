use Rattle.std.proofs.Common.{◌≡◌, ap, ◌∙◌}
use Rattle.gg_flat.specs.Circuit.{FlatCircuit}
use Rattle.gg_flat.specs.Ports.{in_ports}
use Rattle.net_tests.proofs.PortLemmas.{ports-distinct, ports-fed}
use Rattle.net_tests.proofs.reading.inputs_of.Goals as goal

pub read_trace-requires : goal.read_trace-requires
read_trace-requires c =
    let e : c.in-Ok.ports ≡ in_ports c.args.design.now.circuit = c.in-Ok.ensures {u = tt} ∙ ap (λ (x : FlatCircuit). in_ports x) c.piece-piece.ensures.circuit in
    ports-distinct c.args.design.now.circuit c.in-Ok.ports e c.piece-piece.ensures.formed

pub returns-in-Ok-read_trace : goal.returns-in-Ok-read_trace
returns-in-Ok-read_trace c =
    let e : c.in-Ok.ports ≡ in_ports c.args.design.now.circuit = c.in-Ok.ensures {u = tt} ∙ ap (λ (x : FlatCircuit). in_ports x) c.piece-piece.ensures.circuit in
    ports-fed c.args.design.now.circuit c.in-Ok.ports _ _ _ e c.piece-piece.ensures.formed c.in-Ok-read_trace.ensures.columns c.in-Ok-read_trace.ensures.widths
