use Rattle.std.proofs.Common.{length, sym, ap, ◌∙◌}
use Rattle.gg_fame5.specs.inside.Lane.{empty_count}
use Rattle.gg_fame5.proofs.EmptyLemmas.{all-empty}
use Rattle.gg_fame5.proofs.lane.Lane.new.Goals as goal

pub invariant_of-result : goal.invariant_of-result
invariant_of-result c = sym (ap empty_count c.in_ok-latches.ensures ∙ all-empty (length c.ins-empty.result.now))
