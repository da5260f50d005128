-- What a split begins with.
-- Source: ICCAD 2019 (instances that are marked lie apart, each a model of its own).
use Rattle.std.specs.Prelude.{◌≡◌, ℕ, ◌<◌, length}
use Rattle.gg_flat.specs.Line.{value_at}
use Rattle.gg_order.specs.Design.{Ordered}
use Rattle.gg_cut_plan.specs.Channels.{wires_of}
use Rattle.gg_cut_plan.specs.Listed.{first_place, has_signal, owner_of_instance, unit_or_hub}
use Rattle.gg_cut_plan.specs.Ports.{machine_end, ports_of}
use Rattle.gg_cut_split.specs.inside.CanSplit.{CanSplit}
use Rattle.gg_cut_split.specs.inside.Ends.{AreEndsOf}
use Rattle.gg_cut_split.specs.declared.beginning.Beginning.{Beginning}
use Rattle.gg_cut_split.specs.declared.beginning.Whole.{Whole}

-- What is split can be split, with these machines at its ports.
pub record IsWhole (whole : Whole) : Type 0 where
  pub can : CanSplit whole.piece.now whole.tree.now whole.order.now whole.listed.now whole.entries.now
  pub ends : AreEndsOf whole.piece.now whole.tree.now whole.listed.now whole.entries.now whole.ends.now

-- the circuit that is split, with its tree and its order
abbrev pub ordered_of : Whole → Ordered
ordered_of whole = record { circuit = whole.piece.now; tree = whole.tree.now; order = whole.order.now }

-- how many machines the cut has
abbrev pub whole_end : Whole → ℕ
whole_end whole = machine_end (ports_of whole.piece.now whole.tree.now whole.listed.now whole.entries.now)

-- the machine of each instance, the machine of each signal by its instance, and the channels
pub record IsBeginning (whole : Whole) (beginning : Beginning) : Type 0 where
  pub owners_many : length beginning.owners.items ≡ length whole.tree.now.instances
  pub owner : (k : ℕ) → k < length whole.tree.now.instances → value_at beginning.owners.items k ≡ owner_of_instance whole.tree.now whole.listed.now.units k
  pub holders_many : length beginning.holders.items ≡ length whole.piece.now.signals
  pub holder : (s : ℕ) → value_at beginning.holders.items s ≡ unit_or_hub (first_place (has_signal whole.tree.now s) whole.listed.now.units)
  pub channels : beginning.wires.items ≡ wires_of whole.piece.now whole.tree.now whole.listed.now whole.entries.now
