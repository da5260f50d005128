use Rattle.std.proofs.Common.{arith}
use Rattle.gg_cut_parts.proofs.MachineLemmas.{from-below}
use Rattle.gg_cut.proofs.NeedLemmas.{places-within, given-once, part-told, others-left}
use Rattle.gg_cut.proofs.needs.tell_part.Goals as goal

pub put_all-requires-clause-places : goal.put_all-requires-clause-places
put_all-requires-clause-places c = places-within c.args._wires.now c.args.part.now c.args.ins.now c.args.outs.now c.in_ok-lists.lists.items c.requires.served (c.in_ok-lists.ensures {u = tt})

pub put_all-requires-clause-known : goal.put_all-requires-clause-known
put_all-requires-clause-known c = λ k d lt. let below = from-below c.args._wires.now c.args._number c.args.outs.now c.requires.outs k d lt in omega (arith, below, c.requires.count)

pub put_all-requires-clause-once : goal.put_all-requires-clause-once
put_all-requires-clause-once c = given-once c.args._wires.now c.args._number c.args.outs.now c.requires.outs

pub returns-clause-told : goal.returns-clause-told
returns-clause-told c =
    part-told c.args._wires.now c.args.part.now c.args.ins.now c.args.outs.now c.args._number c.in_ok-lists.lists.items c.args.table.now.items c.put_all.new.table.items c.requires.served c.requires.ins c.requires.outs (c.in_ok-lists.ensures {u = tt}) c.put_all.ensures

pub returns-clause-others : goal.returns-clause-others
returns-clause-others c = λ k lt other. others-left c.args._wires.now c.args.ins.now c.args.outs.now c.args._number c.in_ok-lists.lists.items c.args.table.now.items c.put_all.new.table.items c.requires.outs c.put_all.ensures k other
