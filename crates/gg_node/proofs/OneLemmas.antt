-- A host of one thread: its only machine is the machine of each of its threads.
use Rattle.std.proofs.Common.{◌≡◌, ℕ, zero, suc, ◌<◌, [], ◌∷◌, refl, arith}
use Rattle.std.specs.Prelude.{slice_set}
use Rattle.gg_node.specs.Machine.{Machine, machine_at}

pub only : (machine : Machine) (t : ℕ) → t < 1 → machine_at (machine ∷ []) t ≡ machine
only machine zero below = refl
only machine (suc t) below = absurd (omega arith)

pub only_set : (machine new : Machine) (t : ℕ) → t < 1 → slice_set (machine ∷ []) t new ≡ new ∷ []
only_set machine new zero below = refl
only_set machine new (suc t) below = absurd (omega arith)
