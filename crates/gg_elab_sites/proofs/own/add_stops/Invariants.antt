use Rattle.std.proofs.Common.{◌≡◌, ◌++◌, map, take}
use Rattle.gg_elab_sites.specs.Signals.{stop_signal}
use Rattle.gg_elab_sites.specs.inside.Views.{own_of, own_stop_of}
use Rattle.gg_elab_sites.proofs.own.add_stops.Given as goal

abbrev pub invariant-loop-stop : goal.invariant-loop-stop
invariant-loop-stop l = map own_of l.signals.items ≡ map own_of l.fn.signals.items ++ map (λ stop. stop_signal (own_stop_of stop)) (take l.stop-index l.stops)
