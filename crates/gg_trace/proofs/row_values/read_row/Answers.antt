use Rattle.std.proofs.Common.{◌≡◌, ◌+◌, ◌<◌, ◌∷◌, length, sym, ◌∙◌, arith}
use Rattle.std.proofs.lemmas.Result.{MatchResult-weaker}
use Rattle.gg_bits.specs.Limits.{cycle_limit}
use Rattle.gg_trace.specs.Fields.{fields}
use Rattle.gg_trace.proofs.RowLaws.{row_reads, row_fault}
use Rattle.gg_trace.proofs.row_values.read_row.Goals as goal

pub returns-in-Some : goal.returns-in-Some
returns-in-Some c =
    let ports = c.args.ports.now in
    let places = c.args.places.now in
    let line = fields c.args.line.now in
    let e : line ≡ c.in-Some.first.now ∷ c.next.new.self = sym c.of-cells.ensures ∙ c.in-Some.ensures in
    let limit : c.args.row < cycle_limit = omega arith in
    let count : length line ≡ length places + 1 = omega arith in
    let is = c.if-is_decimal.ensures.same in
    MatchResult-weaker c.read_values.result c.read_values.ensures
    (λ _ read. row_reads ports places c.args.row line c.next.new.self c.in-Some.first.now c.read_values.new.values e limit count is read)
    (λ fault read. row_fault ports places c.args.row line c.next.new.self c.in-Some.first.now fault e limit count is read)
