use Rattle.std.proofs.Common.{◌≡◌, ◌+◌, ◌++◌, length, take, drop, sym, ap, ◌∙◌, subst, arith}
use Rattle.std.proofs.lemmas.List.{take_at}
use Rattle.std.proofs.lemmas.Result.{err_from_is_err_and}
use Rattle.gg_trace.specs.Fields.{fields}
use Rattle.gg_trace.specs.inside.Places.{ReadsRow, HasRowFault}
use Rattle.gg_trace.specs.inside.Table.{Table}
use Rattle.gg_trace.specs.Trace.{Columns}
use Rattle.gg_trace.proofs.TraceLaws.{ReadsRows, reads_row, row_fault, reads_all_rows}
use Rattle.gg_trace.proofs.reading.read_lines.Goals as goal

pub returns-in_err-read_row : goal.returns-in_err-read_row
returns-in_err-read_row c =
    let ports = c.args.ports.now in
    let reads = subst (λ lines. ReadsRows ports c.args.bytes.now lines c.in_ok-places.places.items c.loop-line.values.items c.loop-line.cells.items c.loop-line.rows) c.in-Some.ensures c.loop-line.invariant in
    let fault = c.in_err-read_row.field-0.0 in
    let p = err_from_is_err_and c.from_residual-in_err-read_row.result c.from_residual-in_err-read_row.ensures.1 in
    rw (p.1, p.2)
    (row_fault ports c.args.bytes.now c.in-Some.line.now c.next.new.self c.in_ok-places.places.items c.loop-line.values.items c.loop-line.cells.items c.loop-line.rows fault reads c.requires
    (subst (λ places. HasRowFault ports places c.loop-line.rows (fields c.in-Some.line.now) fault) c.deref.ensures.value c.in_err-read_row.ensures))

pub loop-line-preserved : goal.loop-line-preserved
loop-line-preserved c =
    let ports = c.args.ports.now in
    let bytes = c.args.bytes.now in
    let places = c.in_ok-places.places.items in
    let cells = c.loop-line.cells.items in
    let new = c.read_row.new.values in
    let reads = subst (λ lines. ReadsRows ports bytes lines places c.loop-line.values.items cells c.loop-line.rows) c.in-Some.ensures c.loop-line.invariant in
    let len : length new ≡ c.loop-line.values.len = omega (arith, c.read_row.auto.values, c.deref_mut.ensures.len, c.loop-line.values.ok.0) in
    let size : length new ≡ length ports = omega (arith, len, c.loop-line.values.ok.0, c.loop-line.invariant.size) in
    let same : take c.loop-line.values.len (new ++ drop (length new) c.loop-line.values.items) ≡ new = take_at new _ c.loop-line.values.len len in
    let row = subst (λ p. ReadsRow ports p c.loop-line.rows (fields c.in-Some.line.now) new) c.deref.ensures.value c.in_ok-read_row.ensures in
    let longer = c.in_ok-extend_from_slice.ensures.items ∙ ap (λ xs. cells ++ xs) (c.deref-in-Some.ensures.value ∙ same) in
    subst (λ values. ReadsRows ports bytes c.next.new.self places values c.extend_from_slice.new.self.items (c.loop-line.rows + 1)) (sym same)
    (subst (λ xs. ReadsRows ports bytes c.next.new.self places new xs (c.loop-line.rows + 1)) (sym longer)
    (reads_row ports bytes c.in-Some.line.now c.next.new.self places c.loop-line.values.items cells new c.loop-line.rows reads size row))

pub returns : goal.returns
returns c =
    let ports = c.args.ports.now in
    let bytes = c.args.bytes.now in
    let places = c.in_ok-places.places.items in
    let reads = subst (λ lines. ReadsRows ports bytes lines places c.loop-line.values.items c.loop-line.cells.items c.loop-line.rows) c.in_default.ensures.0 c.loop-line.invariant in
    subst (λ (t : Table). Columns ports bytes t.rows t.columns) (sym c.of.ensures)
    (reads_all_rows ports bytes places c.loop-line.values.items c.loop-line.cells.items c.loop-line.rows reads c.requires)
