use Rattle.std.proofs.Common.{◌≡◌, take}
use Rattle.std.specs.Prelude.{flat_map}
use Rattle.std.specs.Option.{option_to_list}
use Rattle.gg_cut_routes.specs.inside.Tables.{entry_at}
use Rattle.gg_cut_routes.proofs.gone.found_in.Given as goal

abbrev pub invariant-loop-signal : goal.invariant-loop-signal
invariant-loop-signal l = l.found.items ≡ flat_map (λ s. option_to_list (entry_at l.table s)) (take l.signal-index l.signals)
