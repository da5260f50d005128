use Rattle.std.proofs.Common.{◌≡◌, take}
use Rattle.std.specs.Prelude.{filter}
use Rattle.gg_cut_routes.specs.inside.Tables.{side_at, entry_at, is_kept}
use Rattle.gg_cut_routes.proofs.gone.kept_of.Given as goal

abbrev pub invariant-loop-signal : goal.invariant-loop-signal
invariant-loop-signal l = l.kept.items ≡ filter (λ s. is_kept (side_at l.sides s) (entry_at l.origins s) (entry_at l.straight s)) (take l.signal-index l.made)
