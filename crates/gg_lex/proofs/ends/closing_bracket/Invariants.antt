use Rattle.std.proofs.Common.{ℕ, ◌+◌, ◌-◌, ◌<◌, ◌≤◌, length}
use Rattle.gg_lex.specs.Lines.{ClosesBehind}
use Rattle.gg_lex.proofs.ends.closing_bracket.Given as goal

abbrev pub invariant-loop-at : goal.invariant-loop-at
invariant-loop-at l = (1 ≤ l.at) × (l.at ≤ length l.bytes + 1) × ((k : ℕ) → 1 ≤ k → k < l.at → ClosesBehind l.bytes k → ⊥)

abbrev pub decreases-loop-at : goal.decreases-loop-at
decreases-loop-at l = length l.bytes - l.at
