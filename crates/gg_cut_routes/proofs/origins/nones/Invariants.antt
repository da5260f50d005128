use Rattle.std.proofs.Common.{◌≡◌, ℕ, length, None}
use Rattle.gg_cut_routes.specs.inside.Tables.{entry_at}
use Rattle.gg_cut_routes.proofs.origins.nones.Given as goal

abbrev pub invariant-loop : goal.invariant-loop
invariant-loop l = (length l.nones.items ≡ l.counter) × ((s : ℕ) → entry_at l.nones.items s ≡ None)
