use Rattle.std.proofs.Common.{◌≡◌, ℕ, ◌<◌, get_or}
use Rattle.gg_trace.specs.Fields.{is_blank}
use Rattle.gg_trace.proofs.field_cuts.run_len.Given as goal

abbrev pub invariant-loop-i : goal.invariant-loop-i
invariant-loop-i l = (k : ℕ) → k < l.i → is_blank (get_or l.text k 0) ≡ l.blank
