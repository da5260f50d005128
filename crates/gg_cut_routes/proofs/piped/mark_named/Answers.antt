use Rattle.std.proofs.Common.{◌<◌, sym, ◌∙◌, subst}
use Rattle.gg_cut_routes.proofs.PipedTables.{mark-found, mark-missing}
use Rattle.gg_cut_routes.proofs.piped.mark_named.Goals as goal

pub returns-in-Some-clause-marks : goal.returns-in-Some-clause-marks
returns-in-Some-clause-marks c = λ s lt.
    mark-found c.args.piece.now.paths c.args.name.now c.args.marks.now c.in-Some.signal s c.signal_count.ensures.distinct c.in-Some.ensures.found (c.requires.count ∙ sym c.signal_count.ensures.paths) (subst (λ n. s < n) (sym c.signal_count.ensures.paths) lt)

pub returns-in-None-clause-marks : goal.returns-in-None-clause-marks
returns-in-None-clause-marks c = λ s lt.
    mark-missing c.args.piece.now.paths c.args.name.now c.args.marks.now s c.in-None.ensures.missing (subst (λ n. s < n) (sym c.signal_count.ensures.paths) lt)
