use Rattle.std.proofs.Common.{◌≡◌, ◌++◌, ◌≤◌, string_bytes}
use Rattle.gg_trace.specs.Printing.{hex_digits}
use Rattle.gg_snap.proofs.text.writing.push_digits.Given as goal

abbrev pub invariant-loop-place : goal.invariant-loop-place
invariant-loop-place l = (l.place ≤ 32) × (string_bytes l.text ++ hex_digits l.place l.value ≡ string_bytes l.initial.text ++ hex_digits l.digits l.value)

abbrev pub decreases-loop-place : goal.decreases-loop-place
decreases-loop-place l = l.place
