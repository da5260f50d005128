use Rattle.std.proofs.Common.{◌≡◌, ℕ, ◌<◌, ◌≤◌, [], length}
use Rattle.std.specs.Prelude.{slice_index_or}
use Rattle.gg_cut_plan.specs.declared.plan.Channel.{Channel}
use Rattle.gg_cut_plan.specs.Channels.{capacity_of}
use Rattle.gg_cut_plan.specs.Direct.{is_piped}
use Rattle.gg_cut_plan.specs.Plan.{wire_at}
use Rattle.gg_cut.specs.inside.Made.{IsWired}
use Rattle.gg_cut.proofs.channels.channels_of.Given as goal

abbrev pub invariant-loop-number : goal.invariant-loop-number
invariant-loop-number l =
    (length l.table.items ≡ length l.initial.table.items)
    × ((k : ℕ) → l.«number» ≤ k → slice_index_or l.table.items k [] ≡ slice_index_or l.initial.table.items k [])
    × (length l.channels.items ≡ l.«number»)
    × ((k : ℕ) (any : Channel) → k < l.«number» → IsWired l.piece (capacity_of l.draft.request.now.capacity l.draft.default_capacity) (is_piped l.piece l.draft.request.now) (wire_at l.wires k) (slice_index_or l.channels.items k any))
    × ((k : ℕ) (any : Channel) → k < l.«number» → (slice_index_or l.channels.items k any).needs ≡ slice_index_or l.initial.table.items k [])
