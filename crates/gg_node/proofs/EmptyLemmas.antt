-- Latches that are empty.
use Rattle.std.proofs.Common.{◌≡◌, ℕ, zero, suc, Option, None, Some, refl, sym}
use Rattle.std.specs.Prelude.{replicate}
use Rattle.std.proofs.lemmas.Option.{none-some}
use Rattle.gg_node.specs.Machine.{latch_at, latched_value, empty_or}

-- where none is empty, a latch holds its value, and none of the others is empty
pub filled : (latch : Option ℕ) (i : ℕ) (rest : Option ℕ) → empty_or latch i rest ≡ None → (latch ≡ Some (latched_value latch)) × (rest ≡ None)
filled None i rest is = absurd (none-some i (sym is))
filled (Some value) i rest is = (refl, is)

pub empty-after : (n i : ℕ) → latch_at (replicate n None) i ≡ None
empty-after zero i = refl
empty-after (suc n) zero = refl
empty-after (suc n) (suc i) = empty-after n i
