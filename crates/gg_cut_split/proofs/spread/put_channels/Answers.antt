use Rattle.std.proofs.Common.{length, ap}
use Rattle.std.proofs.lemmas.List.{get_or_default}
use Rattle.gg_cut_plan.specs.declared.wires.Wire.{Wire}
use Rattle.gg_cut_plan.specs.Channels.{wire}
use Rattle.gg_cut_plan.specs.Plan.{wire_at}
use Rattle.gg_cut_split.proofs.SpreadLemmas.{AreLists-channel}
use Rattle.gg_cut_split.proofs.spread.put_channels.Goals as goal

pub loop-channel-preserved : goal.loop-channel-preserved
loop-channel-preserved c =
    let wires = c.args.wires.now in
    let i = c.loop-channel.channel in
    let read = get_or_default wires i _ (wire 0 0 0) c.loop-channel-test.true in
    record {
      ins = AreLists-channel (λ k. (wire_at wires k).consumer) i _ (length c.args.ins.now) c.loop-channel.ins c.put.new.piles (ap (λ (w : Wire). w.consumer) read) c.loop-channel.invariant.ins c.in_ok-put.ensures;
      outs = AreLists-channel (λ k. (wire_at wires k).producer) i _ (length c.args.outs.now) c.loop-channel.outs c.put-in-loop-channel.new.piles (ap (λ (w : Wire). w.producer) read) c.loop-channel.invariant.outs c.in_ok-put-2.ensures;
    }
