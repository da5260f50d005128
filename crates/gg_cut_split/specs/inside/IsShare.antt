-- What a machine has, as the split gives it.
-- Source: MEMOCODE 2009 (the nodes of a network, with the channels that each takes and gives).
use Rattle.std.specs.Prelude.{◌≡◌, ℕ, ◌<◌, List, [], length, slice_index_or}
use Rattle.gg_order.specs.Design.{Ordered}
use Rattle.gg_partfile.specs.declared.request.BridgeEntry.{BridgeEntry}
use Rattle.gg_cut_plan.specs.Ports.{ports_of, machine_end}
use Rattle.gg_cut_plan.specs.declared.listed.Listed.{Listed}
use Rattle.gg_cut_plan.specs.Channels.{wires_of}
use Rattle.gg_cut_plan.specs.Plan.{channels_to, channels_from}
use Rattle.gg_cut_split.specs.inside.Share.{IsShareOf}
use Rattle.gg_cut_split.specs.declared.share.Share.{Share}

-- what machine m of a cut has, with its channels
abbrev pub IsShare : Ordered → Listed → List BridgeEntry → ℕ → Share → Type 0
IsShare design listed entries m share =
    let wires = wires_of design.circuit design.tree listed entries in
    IsShareOf design listed wires m (channels_to wires m) (channels_from wires m) share.globals share.memories

-- what the machines of a cut have: one share for each machine
pub record AreShares (design : Ordered) (listed : Listed) (entries : List BridgeEntry) (shares : List Share) : Type 0 where
  pub many : length shares ≡ machine_end (ports_of design.circuit design.tree listed entries)
  pub each : (m : ℕ) (any : Share) → m < machine_end (ports_of design.circuit design.tree listed entries) → IsShare design listed entries m (slice_index_or shares m any)

-- a share has the entries of machine m in two lists of lists
pub record IsGathered (globals memories : List (List ℕ)) (m : ℕ) (share : Share) : Type 0 where
  pub signals : share.globals ≡ slice_index_or globals m []
  pub banks : share.memories ≡ slice_index_or memories m []

-- `count` shares; each has the entries of its machine in the lists
pub record AreGathered (globals memories : List (List ℕ)) (count : ℕ) (shares : List Share) : Type 0 where
  pub many : length shares ≡ count
  pub each : (m : ℕ) (any : Share) → m < count → IsGathered globals memories m (slice_index_or shares m any)
