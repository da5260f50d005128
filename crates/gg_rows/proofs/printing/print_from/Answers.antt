use Rattle.std.proofs.Common.{◌≡◌, ◌-◌, Bool, length, refl, ap, ◌∙◌, arith}
use Rattle.std.specs.Io.KnownBytes.{append_known}
use Rattle.gg_cut_reference.specs.whole.Whole.{plan_circuit}
use Rattle.gg_io.proofs.EndingLemmas.{exit-is}
use Rattle.gg_io.proofs.WritingLemmas.{none-front, on-then}
use Rattle.gg_rows.specs.inside.Rows.{AreTraysOf}
use Rattle.gg_rows.specs.inside.Printed.{RowForm, rows_since, shown_columns}
use Rattle.gg_rows.specs.Printed.{plan_stops}
use Rattle.gg_rows.proofs.PrintLemmas.{header-stop, sink-went, stop-as}
use Rattle.gg_rows.proofs.PrintedLemmas.{ran-kept, ran-text}
use Rattle.gg_rows.proofs.printing.print_from.Goals as goal

pub returns-in_err-values-clause-prints : goal.returns-in_err-values-clause-prints
returns-in_err-values-clause-prints g c = λ plan start columns n run opens from same follows. rw (exit-is c.from_residual.ensures.1) (none-front _ _ _ refl)

pub returns-in_err-header-clause-prints : goal.returns-in_err-header-clause-prints
returns-in_err-header-clause-prints g c = λ plan start columns n run opens from same follows. rw (exit-is c.from_residual-in_err-header.ensures.1) (none-front _ _ _ refl)

pub returns-in_err-put-clause-prints : goal.returns-in_err-put-clause-prints
returns-in_err-put-clause-prints g c =
    λ plan start columns n run opens from same follows.
    let all = plan_circuit run.design run.request run.models in
    let told = rows_since (plan_stops run.design run.request) all c.args.ports.now run.rows c.args.begin (n - c.args.begin) in
    rw (exit-is c.from_residual-in_err-put.ensures.1)
    (header-stop (Unit {0}) _ _ _ c.args.ports.now (shown_columns all c.args.ports.now run.rows) c.args.begin told c.as_bytes.result.now c.in_err-put.field-0.0 (c.as_bytes.ensures ∙ c.in_ok-header.ensures) c.in_err-put.ensures.prints)

pub run_rows-requires-clause-outs : goal.run_rows-requires-clause-outs
run_rows-requires-clause-outs g c = omega (arith, c.in_ok-values.ensures.len, c.requires.trays, ap length c.as_mut_slice.ensures.value)

pub run_rows-requires-clause-can : goal.run_rows-requires-clause-can
run_rows-requires-clause-can g c =
    omega (arith, c.requires.ports, c.in_ok-values.ensures.len, ap length c.as_mut_slice.ensures.value, ap (λ (form : RowForm). length form.ports) c.new-printer.ensures)

pub returns-in_err-run_rows-clause-prints : goal.returns-in_err-run_rows-clause-prints
returns-in_err-run_rows-clause-prints g c =
    λ plan start columns n run opens from same follows.
    let counted : AreTraysOf run c.args.trays.first (length c.as_mut_slice.result.now) =
    record { begin = same.begin; many = omega (arith, c.in_ok-values.ensures.len, same.many, ap length c.as_mut_slice.ensures.value) } in
    let form : c.new-printer.result ≡ record { ports = c.args.ports.now; stops = plan_stops run.design run.request } =
    c.new-printer.ensures ∙ ap (λ stops. record { ports = c.args.ports.now; stops = stops }) follows in
    let header = c.in_ok-put.ensures.prints ∙ ap (append_known (g.K.Sink.written c.args.out.now)) (c.as_bytes.ensures ∙ c.in_ok-header.ensures) in
    rw (exit-is c.from_residual-in_err-run_rows.ensures.1)
    (stop-as (Unit {0}) Bool _ _ _ _ c.in_err-run_rows.field-0.0
    (ran-text g.K.Sink run c.args.begin from c.new-printer.result c.args.ports.now form c.args.net _ c.put.new.out c.run_rows.new.taken c.args.out.now header c.put.ensures.out (c.in_err-run_rows.ensures.ran plan start columns n run opens from counted)))

pub returns-clause-prints : goal.returns-clause-prints
returns-clause-prints g c =
    λ plan start columns n run opens from same follows.
    let counted : AreTraysOf run c.args.trays.first (length c.as_mut_slice.result.now) =
    record { begin = same.begin; many = omega (arith, c.in_ok-values.ensures.len, same.many, ap length c.as_mut_slice.ensures.value) } in
    let form : c.new-printer.result ≡ record { ports = c.args.ports.now; stops = plan_stops run.design run.request } =
    c.new-printer.ensures ∙ ap (λ stops. record { ports = c.args.ports.now; stops = stops }) follows in
    let header = c.in_ok-put.ensures.prints ∙ ap (append_known (g.K.Sink.written c.args.out.now)) (c.as_bytes.ensures ∙ c.in_ok-header.ensures) in
    ran-text g.K.Sink run c.args.begin from c.new-printer.result c.args.ports.now form c.args.net _ c.put.new.out c.run_rows.new.taken c.args.out.now header c.put.ensures.out (c.in_ok-run_rows.ensures.ran plan start columns n run opens from counted)

pub returns-clause-kept : goal.returns-clause-kept
returns-clause-kept g c =
    λ plan start columns n run opens from same follows.
    let counted : AreTraysOf run c.args.trays.first (length c.as_mut_slice.result.now) =
    record { begin = same.begin; many = omega (arith, c.in_ok-values.ensures.len, same.many, ap length c.as_mut_slice.ensures.value) } in
    let form : c.new-printer.result ≡ record { ports = c.args.ports.now; stops = plan_stops run.design run.request } =
    c.new-printer.ensures ∙ ap (λ stops. record { ports = c.args.ports.now; stops = stops }) follows in
    ran-kept g.K.Sink run c.args.begin from c.new-printer.result c.args.ports.now form c.args.net _ c.put.new.out c.run_rows.new.taken (c.in_ok-run_rows.ensures.ran plan start columns n run opens from counted)

pub returns-in_err-run_rows-clause-out : goal.returns-in_err-run_rows-clause-out
returns-in_err-run_rows-clause-out g c =
    let form = c.new-printer.result in
    on-then c.put.ensures.out (sink-went g.K.Sink form.stops form.ports c.put.new.out c.run_rows.new.taken c.in_err-run_rows.ensures.went.count c.in_err-run_rows.ensures.went.took)

pub returns-clause-out : goal.returns-clause-out
returns-clause-out g c =
    let form = c.new-printer.result in
    on-then c.put.ensures.out (sink-went g.K.Sink form.stops form.ports c.put.new.out c.run_rows.new.taken c.in_ok-run_rows.ensures.went.count c.in_ok-run_rows.ensures.went.took)
