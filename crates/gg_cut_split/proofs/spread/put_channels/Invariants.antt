use Rattle.std.proofs.Common.{length}
use Rattle.std.specs.Prelude.{filter, ◌==◌}
use Rattle.std.specs.List.{range_with_len}
use Rattle.gg_cut_plan.specs.Plan.{wire_at}
use Rattle.gg_cut_split.specs.inside.Spread.{AreLists}
use Rattle.gg_cut_split.proofs.spread.put_channels.Given as goal

abbrev pub invariant-loop-channel : goal.invariant-loop-channel
invariant-loop-channel l =
    record {
      ins : AreLists (λ m. filter (λ c. (wire_at l.wires c).consumer == m) (range_with_len 0 l.channel)) (length l.initial.ins) l.ins;
      outs : AreLists (λ m. filter (λ c. (wire_at l.wires c).producer == m) (range_with_len 0 l.channel)) (length l.initial.outs) l.outs;
    }
