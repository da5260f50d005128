use Rattle.std.proofs.Common.{ℕ, ◌<◌, ◌≤◌, get_or}
use Rattle.gg_flat.specs.declared.piece.Register.{Register}
use Rattle.gg_order.specs.runs.Room.{register_length}
use Rattle.std.specs.Prelude.{All}
use Rattle.gg_order.proofs.runs.room.longest_register.Given as goal

abbrev pub invariant-loop-register : goal.invariant-loop-register
invariant-loop-register l =
    ((k : ℕ) (d : Register) → k < l.register-index → register_length (get_or l.registers k d) ≤ l.longest)
    × ((places : ℕ) → All (λ (register : Register). register_length register ≤ places) l.registers → l.longest ≤ places)
