use Rattle.std.proofs.Common.{◌≡◌, ℕ, ◌+◌, List, Bool, Err, Ok, length, ap, ◌∙◌, refl, subst, arith}
use Rattle.std.specs.Io.KnownBytes.{append_known}
use Rattle.gg_rows.specs.inside.Printed.{PrintsRow, RowForm, rows_to, shown_columns}
use Rattle.gg_rows.specs.inside.Rows.{outputs_in}
use Rattle.gg_rows.specs.inside.Taken.{Took}
use Rattle.gg_rows.proofs.PrintLemmas.{header-stop, stop-as, text-whole, took-text}
use Rattle.gg_io.specs.inside.Endings.{PrintsOn}
use Rattle.gg_io.proofs.EndingLemmas.{exit-is}
use Rattle.gg_io.proofs.WritingLemmas.{none-front}
use Rattle.golden_commands.proofs.printing.print_all.Goals as goal

pub returns-in_err-outs-clause-prints : goal.returns-in_err-outs-clause-prints
returns-in_err-outs-clause-prints g c =
    λ rows run. rw (exit-is c.from_residual.ensures.1) (none-front _ _ _ refl)

pub returns-in_err-put-clause-prints : goal.returns-in_err-put-clause-prints
returns-in_err-put-clause-prints g c =
    λ rows run. rw (exit-is c.from_residual-in_err-put.ensures.1)
    (header-stop (Unit {0}) _ _ _ c.args.ports.now (shown_columns c.args.mono.now.circuit c.args.ports.now rows) 0 (rows_to c.args.stops.now c.args.mono.now.circuit c.args.ports.now rows c.args.inputs.now.rows) c.as_bytes.result.now c.in_err-put.field-0.0 (c.as_bytes.ensures ∙ c.in_ok-header.ensures) c.in_err-put.ensures.prints)

pub returns-in_err-print_rows-clause-prints : goal.returns-in_err-print_rows-clause-prints
returns-in_err-print_rows-clause-prints g c =
    λ rows run.
    let told = c.in_err-print_rows.ensures.took rows run in
    let ending = c.in_err-print_rows.field-0.0 in
    let header = c.in_ok-put.ensures.prints ∙ ap (append_known (g.K.Sink.written c.args.out.now)) (c.as_bytes.ensures ∙ c.in_ok-header.ensures) in
    let took = subst (λ (form : RowForm). Took (PrintsRow g.K.Sink form.stops form.ports) (outputs_in c.args.mono.now.circuit rows) 0 c.args.inputs.now.rows told.0 c.put.new.out c.print_rows.new.out (Err ending)) c.new-printer.ensures told.1 in
    let counted : length rows ≡ 0 + c.args.inputs.now.rows = omega (arith, run.count) in
    rw (exit-is c.from_residual-in_err-print_rows.ensures.1)
    (subst (λ (text : List ℕ). PrintsOn {T = Unit {0}} g.K.Sink c.args.out.now c.print_rows.new.out text (Err ending)) (text-whole c.args.stops.now c.args.mono.now.circuit c.args.ports.now rows c.args.inputs.now.rows c.args.inputs.now.rows refl)
    (stop-as (Unit {0}) Bool _ _ _ _ ending (took-text g.K.Sink c.args.stops.now c.args.mono.now.circuit c.args.ports.now rows 0 c.args.inputs.now.rows counted c.put.new.out c.args.out.now header c.put.ensures.out took)))

pub returns-clause-prints : goal.returns-clause-prints
returns-clause-prints g c =
    λ rows run.
    let told = c.in_ok-print_rows.ensures.took rows run in
    let header = c.in_ok-put.ensures.prints ∙ ap (append_known (g.K.Sink.written c.args.out.now)) (c.as_bytes.ensures ∙ c.in_ok-header.ensures) in
    let took = subst (λ (form : RowForm). Took (PrintsRow g.K.Sink form.stops form.ports) (outputs_in c.args.mono.now.circuit rows) 0 c.args.inputs.now.rows told.0 c.put.new.out c.print_rows.new.out (Ok c.in_ok-print_rows.field-0)) c.new-printer.ensures told.1 in
    let counted : length rows ≡ 0 + c.args.inputs.now.rows = omega (arith, run.count) in
    subst (λ (text : List ℕ). PrintsOn {T = Bool} g.K.Sink c.args.out.now c.print_rows.new.out text (Ok c.in_ok-print_rows.field-0)) (text-whole c.args.stops.now c.args.mono.now.circuit c.args.ports.now rows c.args.inputs.now.rows c.args.inputs.now.rows refl)
    (took-text g.K.Sink c.args.stops.now c.args.mono.now.circuit c.args.ports.now rows 0 c.args.inputs.now.rows counted c.put.new.out c.args.out.now header c.put.ensures.out took)
