use Rattle.std.proofs.Common.{length}
use Rattle.gg_cut_split.proofs.NumberedLemmas.{some-parent-known, parent-read}
use Rattle.gg_cut_split.proofs.channels.outside_of.Goals as goal

-- the place of the instance's parent is within the table of owners
pub bounds-owners-parent : goal.bounds-owners-parent
bounds-owners-parent c =
    some-parent-known c.args._piece.now c.args.tree.now c.args.place c.in-Some.parent (length c.args.owners.now) c.requires.fitting c.requires.known c.requires.count
    (parent-read c.args.tree.now c.args.place c.in-Some.parent c.instances.result.now _ c.requires.known c.instances.ensures c.in-Some.is)
