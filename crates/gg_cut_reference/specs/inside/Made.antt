-- More on Made: what no promise of the program reaches.
-- Source: this program's profile (the numbers and the paths of pipes).
use Rattle.std.specs.Prelude.{ℕ, List, Bool}
use Rattle.gg_flat.specs.Circuit.{FlatCircuit}
use Rattle.gg_flat_tree.specs.Tree.{InstanceTree}
use Rattle.gg_partfile.specs.declared.request.BridgeEntry.{BridgeEntry}
use Rattle.gg_cut_plan.specs.declared.listed.Listed.{Listed}
use Rattle.gg_cut_plan.specs.Direct.{hub_of}
use Rattle.gg_cut_reference.specs.Reference.{Views}
use Rattle.gg_cut_reference.specs.Links.{views_of}
use Rattle.gg_cut_reference.specs.Made.{holder_of, keeper_of}

-- ---- holders and keepers

-- who names what in a cut: of a circuit with its tree, what is listed, the signals of piped channels, the inputs that a bridge drives, and whether
-- channels are to be direct
abbrev pub views_in : FlatCircuit → InstanceTree → Listed → (piped : ℕ → Bool) → List BridgeEntry → Bool → Views
views_in circuit tree listed piped entries direct = let hub = hub_of circuit tree listed piped entries direct in views_of hub (holder_of hub) (keeper_of tree listed)
