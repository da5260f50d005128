use Rattle.std.proofs.Common.{◌∙◌, ap}
use Rattle.gg_flat.specs.Line.{value_at}
use Rattle.gg_cut_split.proofs.NumberedLemmas.{channels-all}
use Rattle.gg_cut_split.proofs.channels.channels.Goals as goal

pub returns : goal.returns
returns c =
    let whole = c.args.whole.now in
    channels-all whole.piece.now whole.tree.now whole.listed.now whole.entries.now c.deref.result.now c.args.holders.now c.deref-2.result.now c.ins.result.now c.as_slice.result.now c.outs.result.now
    c.new-wires.result.items c.push_inputs.new.wires.items c.push_units.new.wires.items c.push_memories.new.wires.items c.push_outputs.new.wires.items
    c.ins.ensures c.as_slice.ensures c.outs.ensures (λ p lt. ap (λ l. value_at l p) c.deref.ensures.value ∙ c.requires.whole.ends.giver p lt) (λ p lt. ap (λ l. value_at l p) c.deref-2.ensures.value ∙ c.requires.whole.ends.keeper p lt)
    c.requires.holders c.new-wires.ensures.items (c.in_ok-push_inputs.ensures {u = tt}) (c.in_ok-push_units.ensures {u = tt}) (c.in_ok-push_memories.ensures {u = tt}) (c.in_ok-push_outputs.ensures {u = tt})
