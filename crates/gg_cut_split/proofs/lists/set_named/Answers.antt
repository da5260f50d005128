use Rattle.std.proofs.Common.{◌∙◌, sym, arith}
use Rattle.gg_cut_split.proofs.NamedLemmas.{named-set}
use Rattle.gg_cut_split.proofs.lists.set_named.Goals as goal

pub returns-in-Some-clause-set : goal.returns-in-Some-clause-set
returns-in-Some-clause-set c = λ s lt.
    let known = c.signal_count.ensures in
    named-set c.args.piece.now.paths c.args.path.now c.in-Some.signal c.args.«number» c.args.table.now.items known.distinct c.in-Some.ensures.found (c.requires ∙ sym known.paths) s (omega (arith, lt, known.paths))
