use Rattle.std.proofs.Common.{◌∙◌, ap}
use Rattle.gg_cut_plan.specs.inside.Machines.{count_end}
use Rattle.gg_cut_split.proofs.PartingLemmas.{all-shares}
use Rattle.gg_cut_split.proofs.parting.shares.Goals as goal

pub signals_of-requires-clause-count : goal.signals_of-requires-clause-count
signals_of-requires-clause-count c = c.count-count.ensures ∙ ap count_end c.requires.whole.ends.numbers

pub memories_of-requires-clause-count : goal.memories_of-requires-clause-count
memories_of-requires-clause-count c = c.count-count.ensures ∙ ap count_end c.requires.whole.ends.numbers

pub returns : goal.returns
returns c =
    let whole = c.args.whole.now in
    all-shares whole.piece.now whole.tree.now whole.order.now whole.listed.now whole.entries.now c.requires.whole.can c.in_ok-globals.globals.items c.in_ok-memories.memories.items c.deref_mut.result.now c.deref_mut-2.result.now
    c.count-count.result c.in_ok-shares.shares (c.count-count.ensures ∙ ap count_end c.requires.whole.ends.numbers)
    c.in_ok-globals.ensures c.in_ok-memories.ensures c.deref_mut.ensures.value c.deref_mut-2.ensures.value c.in_ok-shares.ensures
