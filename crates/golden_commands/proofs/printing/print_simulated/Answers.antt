use Rattle.std.proofs.Common.{List, ℕ, ◌≤◌, length, refl, sym, ap, subst}
use Rattle.gg_flat.specs.Circuit.{FlatCircuit}
use Rattle.gg_flat.specs.Run.{IsRunFrom, clocked_start}
use Rattle.gg_flat.proofs.StateLemmas.{IsState-opening}
use Rattle.gg_rows.specs.inside.Printed.{text_of}
use Rattle.gg_refsim.specs.inside.Cycle.{Simulation}
use Rattle.gg_io.specs.inside.Endings.{PrintsOn}
use Rattle.gg_io.proofs.WritingLemmas.{none-front}
use Rattle.golden_commands.proofs.printing.print_simulated.Goals as goal

pub returns-in-Err-clause-prints : goal.returns-in-Err-clause-prints
returns-in-Err-clause-prints g c = (
  _,
  c.runs_along.ensures.from c.args.design.now.circuit c.args.design.now.order (clocked_start c.args.design.now.circuit c.args.ratios.now) c.args.inputs.now.columns c.args.inputs.now.rows c.piece.ensures.formed c.order.ensures.ordered
      (IsState-opening c.args.design.now.circuit) c.requires.fed.inputs,
  none-front _ _ _ refl,
)

pub print_all-requires-clause-ports : goal.print_all-requires-clause-ports
print_all-requires-clause-ports g c =
    subst (λ (f : FlatCircuit). length c.args.ports.now ≤ length f.outs) (sym (ap (λ (mono : Simulation). mono.circuit) c.in-Ok.ensures)) c.requires.ports

pub returns-clause-prints : goal.returns-clause-prints
returns-clause-prints g c =
    let circuit = c.args.design.now.circuit in
    let inputs = c.args.inputs.now in
    let start = clocked_start circuit c.args.ratios.now in
    let run = c.runs_along.ensures.from circuit c.args.design.now.order start inputs.columns inputs.rows c.piece.ensures.formed c.order.ensures.ordered (IsState-opening circuit) c.requires.fed.inputs in (
      _,
      run,
      subst
          (λ (mono : Simulation). (rows : List (List ℕ)) → IsRunFrom mono.circuit (clocked_start mono.circuit mono.ratios) inputs.columns inputs.rows rows
          → PrintsOn g.K.Sink c.args.out.now c.print_all.new.out (text_of c.args.stops.now mono.circuit c.args.ports.now rows inputs.rows) c.print_all.result)
          c.in-Ok.ensures c.print_all.ensures.prints _ run,
    )
