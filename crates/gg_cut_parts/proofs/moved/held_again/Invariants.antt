use Rattle.std.proofs.Common.{◌≡◌, ℕ, length}
use Rattle.gg_cut_parts.specs.inside.MovedPart.{HoldAgain, HasAgain}
use Rattle.gg_cut_parts.proofs.moved.held_again.Given as goal

abbrev pub invariant-loop-place : goal.invariant-loop-place
invariant-loop-place l =
    record {
      count : length l.table.items ≡ length l.whole.registers;
      has : (registers : ℕ → ℕ) → HoldAgain l.whole l.part l.globals registers → HasAgain l.part registers l.table.items l.place;
    }
