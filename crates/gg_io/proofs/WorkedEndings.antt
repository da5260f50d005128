-- What isn't told of a put or a load.
use Rattle.std.proofs.Common.{◌≡◌, ◌≤◌, ℕ, List, [], Some, inl, inr, ap, arith}
use Rattle.std.specs.Prelude.{Err}
use Rattle.gg_io.specs.Told.{Told}
use Rattle.gg_io.specs.Count.{Rose}
use Rattle.gg_io.specs.Said.{Said, cannot_load}
use Rattle.gg_io.specs.Order.{LoadReports}
use Rattle.gg_io.specs.inside.Endings.{Prints}
use Rattle.gg_io.specs.declared.endings.Ending.TheVariants.{Unwritten}

-- where no put failed, it isn't told that the output can't be written
not-unwritten : (text : List ℕ) → Prints {T = ℕ} (Some []) (Some []) (Rose 3 3) text (Err Unwritten) → ⊥
not-unwritten text prints = let rose : 4 ≤ 3 = prints.0 in absurd (omega (arith, rose))

-- where no load failed, it isn't told that a file can't be loaded
not-unloaded : (told : Told) (name : List ℕ) (limit : ℕ) → LoadReports told (Rose 3 3) (Rose 0 1) name limit (cannot_load name) → ⊥
not-unloaded told name limit (inl load) = let rose : 4 ≤ 3 = load.0 in absurd (omega (arith, rose))
not-unloaded told name limit (inr cut) = let e : 3 ≡ 8 = ap (λ (said : Said). said.status) cut.2 in absurd (omega (arith, e))
