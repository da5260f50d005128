use Rattle.std.proofs.Common.{nat_lt, ◌∙◌, arith}
use Rattle.gg_flat.specs.Line.{value_at}
use Rattle.gg_flat_tree.specs.Tree.{path_at}
use Rattle.gg_cut_plan.specs.Ports.{lister}
use Rattle.gg_cut_split.specs.inside.Ends.{one_more, entry_ports}
use Rattle.gg_cut_split.proofs.TakerLemmas.{taken-as}
use Rattle.gg_cut_split.proofs.ports.takers_of.Goals as goal

pub returns-clause-takers : goal.returns-clause-takers
returns-clause-takers c = λ p lt.
    c.loop-place.invariant.1 p (omega (arith, lt, c.loop-place-test.false))
    ∙ taken-as (nat_lt p c.args.count) (value_at c.in_ok-table.table.items (value_at c.args.signals.now p)) (one_more (lister (entry_ports c.args.seen) c.args.entries.now (path_at c.args.piece.now.paths (value_at c.args.signals.now p))))
    (c.in_ok-table.ensures.takers (value_at c.args.signals.now p) (c.requires.known p 0 lt))
