use Rattle.std.proofs.Common.{◌∙◌, ap}
use Rattle.gg_flat.specs.Line.{value_at}
use Rattle.gg_cut_plan.specs.Listed.{has_signal}
use Rattle.gg_cut_split.specs.inside.Spread.{claimed}
use Rattle.gg_cut_split.proofs.TableLemmas.{OwnedTo-more}
use Rattle.gg_cut_split.proofs.tables.claim_units.Goals as goal

pub loop-number-preserved : goal.loop-number-preserved
loop-number-preserved c =
    OwnedTo-more c.args.tree.now c.args.units.now c.loop-number.number c.args.owners.now c.loop-number.owners c.claim_unit.new.owners c.loop-number-test.true c.loop-number.invariant c.claim_unit.ensures.count
    (λ s. c.claim_unit.ensures.owners s ∙ ap (λ n. claimed (has_signal c.args.tree.now s (value_at c.args.units.now c.loop-number.number)) n (value_at c.loop-number.owners s)) c.unit.ensures)
