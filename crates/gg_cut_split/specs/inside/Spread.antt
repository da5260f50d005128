-- The tables that say what machines have, and the lists that are filled by them.
-- Source: this program's own way to give each machine its signals in one pass.
use Rattle.std.specs.Prelude.{◌≡◌, ◌↔◌, ◌⊎◌, ℕ, zero, suc, ◌<◌, List, [], ◌∷◌, ◌++◌, Bool, true, false, if◌then◌else◌, ◌||◌, ◌==◌, Option, Some, None, Contains, AllPairs, length, map, filter, slice_index_or}
use Rattle.std.specs.List.{range_with_len}
use Rattle.gg_flat.specs.Line.{value_at}
use Rattle.gg_flat_tree.specs.Tree.{InstanceTree, memory_at}
use Rattle.gg_cut_plan.specs.declared.wires.Wire.{Wire}
use Rattle.gg_flat.specs.Circuit.{FlatCircuit}
use Rattle.gg_flat.specs.inside.InOrder.{IsAlong}
use Rattle.gg_partfile.specs.declared.request.BridgeEntry.{BridgeEntry}
use Rattle.gg_cut_plan.specs.declared.listed.Listed.{Listed}
use Rattle.gg_cut_plan.specs.Channels.{wire, wires_of}
use Rattle.gg_cut_plan.specs.Plan.{wire_at, Takes, HasMemory}
use Rattle.gg_cut_plan.specs.inside.Plan.{Makes}

-- one list for each machine: f m for machine m
pub record AreLists (f : ℕ → List ℕ) (count : ℕ) (lists : List (List ℕ)) : Type 0 where
  pub many : length lists ≡ count
  pub each : (m : ℕ) → m < count → slice_index_or lists m [] ≡ f m

-- a number is added to the end of the lists of the machines that pass a test; the others don't change
pub record IsPut (test : ℕ → Bool) (number : ℕ) (old new : List (List ℕ)) : Type 0 where
  pub many : length new ≡ length old
  pub each : (m : ℕ) → m < length old → slice_index_or new m [] ≡ slice_index_or old m [] ++ (if test m then number ∷ [] else [])

-- ---- channels

-- the channel of a top input, from the machine that a table has for it to the hub, machine 0
abbrev pub given_wires : List ℕ → ℕ → ℕ → List Wire
given_wires givers place signal = wire signal (value_at givers place) 0 ∷ []

-- the channel of an out-signal of the top, from the machine that one table has for the signal to the machine that another has for its place
abbrev pub held_wires : (holders keepers : List ℕ) → ℕ → ℕ → List Wire
held_wires holders keepers place signal = wire signal (value_at holders signal) (value_at keepers place) ∷ []

-- ---- signals

-- the owner of a signal after a machine claims it, or does not; a claim counts only while the hub owns the signal
abbrev pub claimed : Bool → ℕ → ℕ → ℕ
claimed false machine owner = owner
claimed true machine zero = machine
claimed true machine (suc owner) = suc owner

-- a signal's channel among the first n channels, or none if none of them carries it
abbrev pub IsChannelBelow : List Wire → ℕ → ℕ → Option ℕ → Type 0
IsChannelBelow wires n s None = (c : ℕ) → c < n → ¬ ((wire_at wires c).signal ≡ s)
IsChannelBelow wires n s (Some c) = (c < n) × ((wire_at wires c).signal ≡ s)

-- the table has the channel of each signal, or none if no channel carries it
abbrev pub AreChannels : List Wire → List (Option ℕ) → Type 0
AreChannels wires channels = (s : ℕ) → s < length channels → IsChannelBelow wires (length wires) s (slice_index_or channels s None)

-- whether machine m has a signal: it is at an end of the signal's channel, or owns the signal if there is no channel
abbrev pub has_by : List Wire → ℕ → ℕ → Option ℕ → Bool
has_by wires owner m None = owner == m
has_by wires owner m (Some c) = ((wire_at wires c).producer == m) || ((wire_at wires c).consumer == m)

-- whether machine m has signal s, from tables of owners and of channels
abbrev pub has : List Wire → List ℕ → List (Option ℕ) → ℕ → ℕ → Bool
has wires owners channels m s = has_by wires (value_at owners s) m (slice_index_or channels s None)

-- the signals of machine m among these, in order
abbrev pub signals_among : List Wire → List ℕ → List (Option ℕ) → List ℕ → ℕ → List ℕ
signals_among wires owners channels signals m = filter (has wires owners channels m) signals

-- ---- memories

-- the memories of machine m among the first n of the tree, by their numbers in the circuit
abbrev pub memories_below : InstanceTree → List ℕ → ℕ → ℕ → List ℕ
memories_below tree owners n m = map (λ place. (memory_at tree place).memory) (filter (λ place. value_at owners place == m) (range_with_len 0 n))

-- ---- what the lists have to be

-- exactly the signals that machine m makes or takes, along the order
pub record AreSignals (circuit : FlatCircuit) (tree : InstanceTree) (order : List ℕ) (listed : Listed) (entries : List BridgeEntry) (m : ℕ) (globals : List ℕ) : Type 0 where
  pub just : (s : ℕ) → Contains globals s ↔ (Makes circuit tree listed (wires_of circuit tree listed entries) m s ⊎ Takes (wires_of circuit tree listed entries) m s)
  pub along : IsAlong order globals

-- exactly the memories that belong to machine m, ascending
pub record AreMemories (tree : InstanceTree) (listed : Listed) (m : ℕ) (memories : List ℕ) : Type 0 where
  pub just : (k : ℕ) → Contains memories k ↔ HasMemory tree listed m k
  pub ascend : AllPairs (λ a b. a < b) memories

-- one list for each machine, each with a property
pub record EachList (P : ℕ → List ℕ → Type 0) (count : ℕ) (lists : List (List ℕ)) : Type 0 where
  pub many : length lists ≡ count
  pub each : (m : ℕ) → m < count → P m (slice_index_or lists m [])
