use Rattle.std.proofs.Common.{◌≡◌, ◌⊎◌, ℕ, ◌<◌, ◌≤◌, length}
use Rattle.gg_flat.specs.Line.{value_at}
use Rattle.gg_cut_parts.proofs.tables.paint.Given as goal

abbrev pub invariant-loop-signal : goal.invariant-loop-signal
invariant-loop-signal l =
    record {
      count : length l.places ≡ length l.initial.places;
      here : (s : ℕ) → l.first ≤ s → s < l.signal → value_at l.places s ≡ l.place;
      others : (s : ℕ) → (s < l.first) ⊎ (l.signal ≤ s) → value_at l.places s ≡ value_at l.initial.places s;
    }
