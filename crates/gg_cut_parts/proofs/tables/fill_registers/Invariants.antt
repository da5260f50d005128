use Rattle.std.proofs.Common.{◌≡◌, ℕ, ◌<◌, length}
use Rattle.gg_flat.specs.declared.piece.Driver.TheVariants.{Held}
use Rattle.gg_flat.specs.Circuit.{driver_at}
use Rattle.gg_cut_parts.specs.inside.Innermost.{IsTimedBy}
use Rattle.gg_cut_parts.proofs.tables.fill_registers.Given as goal

abbrev pub invariant-loop-signal : goal.invariant-loop-signal
invariant-loop-signal l =
    record {
      count : length l.table ≡ length l.initial.table;
      each : (s r : ℕ) → s < l.signal → driver_at l.piece s ≡ Held r → IsTimedBy l.piece l.tree l.inner l.places l.table r;
    }
