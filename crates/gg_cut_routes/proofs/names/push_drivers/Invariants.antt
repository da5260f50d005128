use Rattle.std.proofs.Common.{◌≡◌, ◌++◌, take}
use Rattle.std.specs.Prelude.{flat_map}
use Rattle.gg_flat.specs.Circuit.{driver_at}
use Rattle.gg_cut_plan.specs.Direct.{driver_names}
use Rattle.gg_cut_routes.proofs.names.push_drivers.Given as goal

abbrev pub invariant-loop-signal : goal.invariant-loop-signal
invariant-loop-signal l = l.names.items ≡ l.initial.names.items ++ flat_map (λ s. driver_names l.piece (driver_at l.piece s)) (take l.signal-index l.signals)
