use Rattle.std.proofs.Common.{◌<◌, ◌-◌, length, take, sym, ap, subst, arith}
use Rattle.std.proofs.lemmas.List.{length-set, length-take-le}
use Rattle.gg_tape.specs.inside.Cells.{Celled}
use Rattle.gg_tape.proofs.CellsLemmas.{Celled-same, take-set-below}
use Rattle.gg_tape.proofs.cells.Cells.set.Goals as goal

pub returns : goal.returns
returns c =
    let all = c.self.inside.all.items in
    let n = c.self.inside.signals in
    let known : c.args.signal < length (take n all) = subst (λ (x : Celled). c.args.signal < length x.values) (sym c.self.view_is) c.requires in
    let lt : c.args.signal < n = omega (arith, known, length-take-le n all c.self.invariant) in
    rw (← c.self.view_is) (Celled-same (take-set-below n all c.args.signal c.args.value lt) (ap (λ k. k - n) (length-set all c.args.signal c.args.value)))
