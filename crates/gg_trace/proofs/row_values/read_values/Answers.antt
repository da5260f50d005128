use Rattle.std.proofs.Common.{◌+◌, get_or, sym, subst}
use Rattle.std.proofs.lemmas.Result.{err_from_is_err_and}
use Rattle.gg_trace.specs.Cells.{IsCell}
use Rattle.gg_trace.specs.inside.Places.{HasValueFault}
use Rattle.gg_trace.proofs.PortLaws.{width_at-get}
use Rattle.gg_trace.proofs.RowLaws.{ReadsCells, next_cell, reads_cell, cell_fault, reads_all_cells}
use Rattle.gg_trace.proofs.row_values.read_values.Goals as goal

pub returns-in_err-values : goal.returns-in_err-values
returns-in_err-values c =
    let ports = c.args.ports.now in
    let places = c.args.places.now in
    let place = get_or places c.loop-text.at 0 in
    let reads = subst (λ rest. ReadsCells ports places c.args.cells.now rest c.loop-text.values c.loop-text.at) c.in-Some.ensures c.loop-text.invariant in
    let width = width_at-get ports place c.index-ports-place.result (c.requires.places.within c.loop-text.at (next_cell reads)) in
    let fault = c.in_err-values.field-0.0 in
    let p = err_from_is_err_and c.from_residual.result c.from_residual.ensures.1 in
    rw (p.1, p.2)
    (cell_fault ports places c.args.cells.now c.next.new.self c.in-Some.text.now c.loop-text.values c.loop-text.at c.args.row fault reads
    (subst (λ w. HasValueFault w c.in-Some.text.now c.args.row (c.loop-text.at + 1) fault) (sym width) c.in_err-values.ensures))

pub loop-text-preserved : goal.loop-text-preserved
loop-text-preserved c =
    let ports = c.args.ports.now in
    let places = c.args.places.now in
    let place = get_or places c.loop-text.at 0 in
    let reads = subst (λ rest. ReadsCells ports places c.args.cells.now rest c.loop-text.values c.loop-text.at) c.in-Some.ensures c.loop-text.invariant in
    let inside = c.requires.places.within c.loop-text.at (next_cell reads) in
    let width = width_at-get ports place c.index-ports-place.result inside in
    let cell = c.in_ok-values.ensures in
    reads_cell ports places c.args.cells.now c.next.new.self c.in-Some.text.now c.loop-text.values c.loop-text.at c.in_ok-values.field-0 reads c.requires.places
    (subst (λ w. IsCell w c.in-Some.text.now) (sym width) cell.0) cell.1

pub returns : goal.returns
returns c =
    let ports = c.args.ports.now in
    let places = c.args.places.now in
    reads_all_cells ports places c.args.cells.now c.loop-text.values c.loop-text.at
    (subst (λ rest. ReadsCells ports places c.args.cells.now rest c.loop-text.values c.loop-text.at) c.in_default.ensures.0 c.loop-text.invariant)
