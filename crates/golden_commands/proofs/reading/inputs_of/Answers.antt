use Rattle.gg_io.proofs.EndingLemmas.{IfRefused-map}
use Rattle.std.proofs.Common.{◌≡◌, List, refl, ap, ◌∙◌, subst, sym}
use Rattle.gg_flat.specs.Circuit.{FlatCircuit}
use Rattle.gg_flat.specs.WellFormed.{IsWellFormed}
use Rattle.gg_flat.specs.declared.ports.Port.{Port}
use Rattle.gg_trace.specs.Trace.{Columns, HaveWidths}
use Rattle.golden_commands.specs.RunText.{fed_ports}
use Rattle.golden_commands.proofs.ReadingLemmas.{fault-of, ports-distinct}
use Rattle.golden_commands.proofs.reading.inputs_of.Goals as goal

pub fed_ports-requires : goal.fed_ports-requires
fed_ports-requires c = subst IsWellFormed (sym c.piece.ensures.circuit) c.piece.ensures.formed

pub read_trace-requires : goal.read_trace-requires
read_trace-requires c =
    ports-distinct c.args.design.now.circuit c.args.request.now _ (c.in_ok-ports.ensures ∙ ap (λ (f : FlatCircuit). fed_ports f c.args.request.now) c.piece.ensures.circuit) c.piece.ensures.formed

pub returns-clause-refused : goal.returns-clause-refused
returns-clause-refused c =
    let e : c.in_ok-ports.ports ≡ fed_ports c.args.design.now.circuit c.args.request.now = c.in_ok-ports.ensures ∙ ap (λ (f : FlatCircuit). fed_ports f c.args.request.now) c.piece.ensures.circuit in
    IfRefused-map
    (λ said h. (c.in-Err.fault, fault-of c.args.design.now.circuit c.args.request.now c.in_ok-ports.ports c.args.bytes.now c.args.bytes.now c.in-Err.fault e refl h.0 c.in-Err.ensures.fault, h.1))
    c.end_at_trace.result c.end_at_trace.ensures

pub returns-in-Ok-clause-widths : goal.returns-in-Ok-clause-widths
returns-in-Ok-clause-widths c =
    subst (λ (p : List Port). HaveWidths p c.in-Ok.trace.rows c.in-Ok.trace.columns) (c.in_ok-ports.ensures ∙ ap (λ (f : FlatCircuit). fed_ports f c.args.request.now) c.piece.ensures.circuit) c.in-Ok.ensures.widths

pub returns-in-Ok-clause-accepted : goal.returns-in-Ok-clause-accepted
returns-in-Ok-clause-accepted c =
    let e : c.in_ok-ports.ports ≡ fed_ports c.args.design.now.circuit c.args.request.now = c.in_ok-ports.ensures ∙ ap (λ (f : FlatCircuit). fed_ports f c.args.request.now) c.piece.ensures.circuit in
    record {
      feeds = subst (λ (p : List Port). Columns p c.args.bytes.now c.in-Ok.trace.rows c.in-Ok.trace.columns) e c.in-Ok.ensures.columns;
      only = λ m others fed. c.in-Ok.ensures.complete m others (subst (λ (p : List Port). Columns p c.args.bytes.now m others) (sym e) fed);
    }
