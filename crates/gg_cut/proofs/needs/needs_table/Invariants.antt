use Rattle.std.proofs.Common.{◌≡◌, ℕ, ◌<◌, ◌≤◌, [], length}
use Rattle.std.specs.Prelude.{slice_index_or}
use Rattle.gg_cut_plan.specs.declared.plan.Machine.{Machine}
use Rattle.gg_cut_plan.specs.Plan.{wire_at}
use Rattle.gg_cut.specs.inside.Made.{AreGiven}
use Rattle.gg_cut.proofs.needs.needs_table.Given as goal

abbrev pub invariant-loop-number : goal.invariant-loop-number
invariant-loop-number l =
    (length l.table.items ≡ length l.wires)
    × ((c : ℕ) (any : Machine) → c < length l.wires → (wire_at l.wires c).producer < l.«number» → AreGiven (slice_index_or l.machines (wire_at l.wires c).producer any) (wire_at l.wires c) (slice_index_or l.table.items c []))
    × ((c : ℕ) → c < length l.wires → l.«number» ≤ (wire_at l.wires c).producer → slice_index_or l.table.items c [] ≡ [])
