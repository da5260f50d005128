use Rattle.std.proofs.Common.{◌≡◌, take}
use Rattle.std.specs.Prelude.{filter}
use Rattle.gg_cut_routes.specs.inside.Share.{stays_by}
use Rattle.gg_cut_routes.proofs.plan.staying.Given as goal

abbrev pub invariant-loop-signal : goal.invariant-loop-signal
invariant-loop-signal l = l.staying.items ≡ filter (stays_by l.wires l.gone) (take l.signal-index l.globals)
