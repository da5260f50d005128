use Rattle.std.proofs.Common.{[], ◌≡◌, get_or, ◌+◌, ◌-◌, ◌*◌, ◌<◌, List, ℕ, length, take, drop, sym, ap, ◌∙◌, subst, arith}
use Rattle.std.proofs.lemmas.List.{length-map, get_or-map}
use Rattle.gg_trace.specs.inside.Table.{Table}
use Rattle.gg_trace.specs.Table.{row_of}
use Rattle.gg_trace.proofs.TableLaws.{row_in}
use Rattle.gg_trace.proofs.trace_table.Trace.row.Goals as goal

pub returns-clause-values : goal.returns-clause-values
returns-clause-values c =
    let a = c.self.inside in
    let r = c.args.row in
    let from = r * a.inputs in
    let wide : from + a.inputs - from ≡ a.inputs = omega arith in
    let inside : r < a.rows = subst (λ (t : Table). r < t.rows) (sym c.self.view_is) c.requires in
    subst (λ (t : Table). take (from + a.inputs - from) (drop from c.deref.result.now) ≡ row_of t.columns r) c.self.view_is
    (ap (λ n. take n (drop from c.deref.result.now)) wide
    ∙ ap (λ (xs : List ℕ). take a.inputs (drop from xs)) c.deref.ensures.value
    ∙ row_in a.rows a.inputs a.cells.items r c.self.invariant.0 inside)

pub returns-clause-count : goal.returns-clause-count
returns-clause-count c =
    ap length (returns-clause-values c) ∙ length-map c.args.self.now.columns (λ column. get_or column c.args.row 0)

pub returns-clause-at : goal.returns-clause-at
returns-clause-at c = λ i h.
    ap (λ (values : List ℕ). get_or values i 0) (returns-clause-values c)
    ∙ get_or-map (λ column. get_or column c.args.row 0) c.args.self.now.columns i [] 0 h
