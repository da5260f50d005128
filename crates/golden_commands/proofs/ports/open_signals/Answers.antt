use Rattle.std.proofs.Common.{arith}
use Rattle.std.specs.Prelude.{not}
use Rattle.gg_cut_plan.specs.Listed.{is_among}
use Rattle.gg_flat_tree.specs.Tree.{path_at}
use Rattle.golden_commands.proofs.OpenLemmas.{filter-more}
use Rattle.golden_commands.proofs.ports.open_signals.Goals as goal

pub loop-signal-preserved : goal.loop-signal-preserved
loop-signal-preserved c =
    let test = c.loop-signal-test.true in
    filter-more (λ s. not (is_among c.args.set.now (path_at c.args.piece.now.paths s))) c.args.signals.now c.loop-signal.signal-index _ (omega (arith, test)) c.loop-signal.kept.items c.add_open.new.kept.items c.loop-signal.invariant c.in_ok-add_open.ensures
