use Rattle.std.proofs.Common.{◌++◌, [], ◌∷◌, ◌∙◌, sym, ap₂}
use Rattle.std.specs.Prelude.{if◌then◌else◌}
use Rattle.gg_flat.specs.Line.{value_at}
use Rattle.gg_cut_routes.specs.inside.Tables.{side_at, is_makers}
use Rattle.gg_cut_routes.proofs.ListTables.{filter-next}
use Rattle.gg_cut_routes.proofs.sides.made_of.Goals as goal

pub loop-signal-preserved : goal.loop-signal-preserved
loop-signal-preserved c =
    c.in_ok-push_if.ensures
    ∙ ap₂ (λ found chosen. found ++ (if chosen then value_at c.args.globals.now c.loop-signal.signal-index ∷ [] else [])) c.loop-signal.invariant c.is_makers.ensures
    ∙ sym (filter-next (λ s. is_makers (side_at c.args.sides.now s)) c.args.globals.now c.loop-signal.signal-index 0 c.loop-signal-test.true)
