-- What is wrong with a request for a design.
-- Source: ICCAD 2019 for what can be cut and shared; the numbers of faults, their order and the limits are this program's own.
use Rattle.std.specs.Prelude.{◌≡◌, ◌⊎◌, ◌<◌, ◌^◌, Ok, Err, Result, ℕ, ◌+◌, List, [], ◌∷◌, ◌++◌, Bool, false, not, ◌||◌, ◌==◌, if◌then◌else◌, Option, Some, None, option_map, length, find, codes, nat_lt, bytes_eq}
use Rattle.std.specs.Fmt.{decimal}
use Rattle.std.specs.List.{list_any}
use Rattle.gg_bits.specs.Limits.{most_channels, most_units, capacity_limit}
use Rattle.gg_partfile.specs.Size.{entries, all_driven, all_seen}
use Rattle.gg_bits.specs.Lists.{first_of, or_else}
use Rattle.gg_flat.specs.Circuit.{FlatCircuit}
use Rattle.gg_flat_tree.specs.Tree.{InstanceTree, path_at, instance_at}
use Rattle.gg_order.specs.Design.{Ordered}
use Rattle.gg_partfile.specs.declared.request.Request.{Request}
use Rattle.gg_cut_plan.specs.declared.fault.CutFault.{CutFault}
use Rattle.gg_cut_plan.specs.declared.fault.CutFault.TheVariants.{UnknownUnit, Doubled, OtherModule, UnknownMemory, Unmatched, UnknownChannel, OutOfRange, TooManyUnits, TooManyChannels, UnknownPipe, DoubledPipe, UnknownClock, WrongRatio, UnknownBridge, WrongPort, UnfitBridge, NoMemory}
use Rattle.gg_cut_plan.specs.Listed.{is_among, is_instance_path, is_memory_path, instance_of, lies, listed_of}
use Rattle.gg_cut_plan.specs.declared.listed.Listed.{Listed}
use Rattle.gg_cut_plan.specs.Channels.{channel_names}
use Rattle.gg_cut_plan.specs.Clocks.{is_ratio}
use Rattle.gg_cut_plan.specs.Direct.{plan_signals}
use Rattle.gg_cut_plan.specs.Bridges.{Models, bridge_faults}

-- ---- entries that name nothing

-- the first of these paths that isn't an instance's
abbrev pub unknown_unit : InstanceTree → List (List ℕ) → Option (List ℕ)
unknown_unit tree units = find (λ path. not (is_instance_path tree path)) units

-- the first entry of the lists that isn't among the units
abbrev pub unshared : List (List ℕ) → List (List (List ℕ)) → Option (List ℕ)
unshared units [] = None
unshared units (group ∷ share) = or_else (find (λ path. not (is_among units path)) group) (unshared units share)

-- ---- entries that occur twice

-- the first of these paths that clashes with an earlier one; `earlier` has the paths before all of them
abbrev pub first_clash : (List ℕ → List ℕ → Bool) → List (List ℕ) → List (List ℕ) → Option (List ℕ)
first_clash clash earlier [] = None
first_clash clash earlier (path ∷ paths) = if list_any (clash path) earlier then Some path else first_clash clash (earlier ++ path ∷ []) paths

-- a unit holds another, is in it or equals it
abbrev pub overlap : InstanceTree → List ℕ → List ℕ → Bool
overlap tree a b = lies tree (instance_of tree a) (instance_of tree b) || lies tree (instance_of tree b) (instance_of tree a)

-- two paths are equal
abbrev pub same_path : List ℕ → List ℕ → Bool
same_path a b = bytes_eq a b

-- the first unit that overlaps an earlier one
abbrev pub overlapping : InstanceTree → List (List ℕ) → Option (List ℕ)
overlapping tree units = first_clash (overlap tree) [] units

-- the first path that equals an earlier one
abbrev pub repeated : List (List ℕ) → Option (List ℕ)
repeated paths = first_clash same_path [] paths

-- ---- lists of units of different modules

-- the module of the instance with a path, by its number in the circuit
abbrev pub module_of : InstanceTree → List ℕ → ℕ
module_of tree path = (instance_at tree (instance_of tree path)).«module»

-- the first unit of one list with another module than the list's first unit
abbrev pub other_in : InstanceTree → List (List ℕ) → Option (List ℕ)
other_in tree group = find (λ path. not (module_of tree path == module_of tree (path_at group 0))) group

-- the first entry of a list of `share` with another module than the list's first entry
abbrev pub other_module : InstanceTree → List (List (List ℕ)) → Option (List ℕ)
other_module tree [] = None
other_module tree (group ∷ share) = or_else (other_in tree group) (other_module tree share)

-- ---- memories

-- the first of these that isn't the path of a memory
abbrev pub unknown_memory : InstanceTree → List (List ℕ) → Option (List ℕ)
unknown_memory tree memories = find (λ path. not (is_memory_path tree path)) memories

-- a rest of a path that begins with a dot
abbrev pub dotted : List ℕ → Option (List ℕ)
dotted [] = None
dotted (byte ∷ rest) = if byte == 46 then Some (byte ∷ rest) else None

-- what follows the path of a unit in a path, including the dot, if the path is in the unit
abbrev pub rest_behind : List ℕ → List ℕ → Option (List ℕ)
rest_behind [] path = dotted path
rest_behind (a ∷ unit) [] = None
rest_behind (a ∷ unit) (b ∷ path) = if a == b then rest_behind unit path else None

-- whether some unit of a list, followed by this rest, isn't among the memories
abbrev pub lacks_counterpart : List (List ℕ) → List (List ℕ) → Option (List ℕ) → Bool
lacks_counterpart memories group None = false
lacks_counterpart memories group (Some rest) = list_any (λ unit. not (is_among memories (unit ++ rest))) group

-- whether a memory is in a unit of a list, and its counterpart in a unit of the list isn't listed
abbrev pub lacks_in : List (List ℕ) → List ℕ → List (List ℕ) → Bool
lacks_in memories path group = list_any (λ unit. lacks_counterpart memories group (rest_behind unit path)) group

-- the first listed memory that is in a shared unit and has an unlisted counterpart in another unit of the list
abbrev pub unmatched : List (List ℕ) → List (List (List ℕ)) → Option (List ℕ)
unmatched memories share = find (λ path. list_any (lacks_in memories path) share) memories

-- ---- capacities

-- the first name with a capacity that isn't the name of a channel
abbrev pub unknown_channel : List (List ℕ) → List (List ℕ × ℕ) → Option (List ℕ)
unknown_channel names capacities = option_map (λ pair. pair.0) (find (λ pair. not (is_among names pair.0)) capacities)

-- the first name with a capacity of 0, or one above the limit, with that capacity
abbrev pub out_of_range : List (List ℕ × ℕ) → Option (List ℕ × ℕ)
out_of_range capacities = find (λ pair. (pair.1 == 0) || nat_lt capacity_limit pair.1) capacities

-- the first capacity that is out of range, as a fault
abbrev pub range_fault : List (List ℕ × ℕ) → Option CutFault
range_fault capacities = option_map (λ pair. OutOfRange pair.0 pair.1) (out_of_range capacities)

-- ---- clocks

-- the first name of a ratio that isn't among the names
abbrev pub unknown_clock : List (List ℕ) → List (List ℕ × (ℕ × ℕ)) → Option (List ℕ)
unknown_clock names clocks = option_map (λ pair. pair.0) (find (λ pair. not (is_among names pair.0)) clocks)

-- the first clock with numbers that are no ratio, as a fault
abbrev pub ratio_fault : List (List ℕ × (ℕ × ℕ)) → Option CutFault
ratio_fault clocks = option_map (λ pair. WrongRatio pair.0 pair.1.0 pair.1.1) (find (λ pair. not (is_ratio pair.1.0 pair.1.1)) clocks)

-- ---- limits

-- the number of units and listed memories together, if it is above its limit
abbrev pub too_many_units : Listed → Option ℕ
too_many_units listed = if nat_lt most_units (length listed.units + length listed.memories) then Some (length listed.units + length listed.memories) else None

-- the number of channels, if it is above its limit
abbrev pub too_many_channels : List ℕ → Option ℕ
too_many_channels signals = if nat_lt most_channels (length signals) then Some (length signals) else None

-- ---- the first of all faults

-- the faults of the entries: entries that name nothing, that occur twice, lists of units with different modules; memories
abbrev pub entry_faults : InstanceTree → Request → List (Option CutFault)
entry_faults tree request =
    option_map UnknownUnit (unknown_unit tree request.units)
    ∷ option_map UnknownUnit (unshared request.units request.share)
    ∷ option_map Doubled (overlapping tree request.units)
    ∷ option_map Doubled (repeated (entries request.share))
    ∷ option_map Doubled (repeated request.memories)
    ∷ option_map OtherModule (other_module tree request.share)
    ∷ option_map UnknownMemory (unknown_memory tree request.memories)
    ∷ option_map Unmatched (unmatched request.memories request.share)
    ∷ []

-- the faults of the channels: capacities, and the numbers of units and of channels
abbrev pub channel_faults : FlatCircuit → Request → Listed → List ℕ → List (Option CutFault)
channel_faults circuit request listed signals =
    option_map UnknownChannel (unknown_channel (channel_names circuit signals) request.capacity)
    ∷ range_fault request.capacity
    ∷ option_map TooManyUnits (too_many_units listed)
    ∷ option_map TooManyChannels (too_many_channels signals)
    ∷ []

-- the faults of the pipes: names that no channel has, and names that occur twice
abbrev pub pipe_faults : FlatCircuit → Request → List ℕ → List (Option CutFault)
pipe_faults circuit request signals =
    option_map UnknownPipe (find (λ name. not (is_among (channel_names circuit signals) name)) request.pipe)
    ∷ option_map DoubledPipe (repeated request.pipe)
    ∷ []

-- the faults of the clocks: names that no Clock input of the top has, and numbers that are no ratio
abbrev pub clock_faults : InstanceTree → Request → List (Option CutFault)
clock_faults tree request =
    option_map UnknownClock (unknown_clock tree.clocks request.clocks)
    ∷ ratio_fault request.clocks
    ∷ []

-- the faults of the channels, the pipes and the clocks, in the order of reporting
abbrev pub later_faults : FlatCircuit → InstanceTree → Request → List (Option CutFault)
later_faults circuit tree request =
    channel_faults circuit request (listed_of tree request) (plan_signals circuit tree request)
    ++ (pipe_faults circuit request (plan_signals circuit tree request)
    ++ clock_faults tree request)

-- all faults except the faults of bridges, in the order of their numbers
abbrev pub faults_in : FlatCircuit → InstanceTree → Request → List (Option CutFault)
faults_in circuit tree request = entry_faults tree request ++ later_faults circuit tree request

-- the first of all faults except the faults of bridges, if there is one
abbrev pub fault_in : FlatCircuit → InstanceTree → Request → Option CutFault
fault_in circuit tree request = first_of (faults_in circuit tree request)

-- The fault of a request for a design, its bridges aside: the fault with the least number. Among faults with the same number it is the first in
-- `units`, then in `share`, then in `memories`. For capacities and clocks it is the fault with the least name, for pipes the first.
abbrev pub first_fault : Ordered → Request → Option CutFault
first_fault design request = fault_in design.circuit design.tree request

-- `first_fault`, otherwise the first fault of the bridges, where these models are known: in the first entry with a fault it has the least number.
abbrev pub first_fault_with : Ordered → Models → Request → Option CutFault
first_fault_with design models request = or_else (first_fault design request) (first_of (bridge_faults design.circuit (length design.tree.stops) models request.bridges))

-- a fault: its code P2 to P16, and what it is about
abbrev pub fault_text : CutFault → List ℕ
fault_text (UnknownUnit path) = codes "P2 " ++ path
fault_text (Doubled path) = codes "P3 " ++ path
fault_text (OtherModule path) = codes "P4 " ++ path
fault_text (UnknownMemory path) = codes "P5 " ++ path
fault_text (Unmatched path) = codes "P6 " ++ path
fault_text (UnknownChannel name) = codes "P7 " ++ name
fault_text (OutOfRange name capacity) = codes "P8 " ++ name ++ codes " " ++ decimal capacity
fault_text (TooManyUnits count) = codes "P9 units " ++ decimal count
fault_text (TooManyChannels count) = codes "P9 channels " ++ decimal count
fault_text (UnknownPipe name) = codes "P10 " ++ name
fault_text (DoubledPipe name) = codes "P11 " ++ name
fault_text (UnknownClock name) = codes "P12 " ++ name
fault_text (WrongRatio name m d) = codes "P13 " ++ name ++ codes " " ++ decimal m ++ codes " " ++ decimal d
fault_text (UnknownBridge name) = codes "P14 " ++ name
fault_text (WrongPort name) = codes "P15 " ++ name
fault_text (UnfitBridge name) = codes "P16 " ++ name
fault_text NoMemory = codes "out of memory"

-- ---- what a check returns

-- the error is this fault, or `NoMemory`
abbrev pub IsTold : Option CutFault → CutFault → Type 0
IsTold fault cause = (cause ≡ NoMemory) ⊎ (fault ≡ Some cause)

-- Ok exactly if there is no fault, otherwise the fault; `NoMemory` implies nothing
abbrev pub Tells : {A : Type 0} → Option CutFault → Result A CutFault → Type 0
Tells fault (Ok answer) = fault ≡ None
Tells fault (Err cause) = IsTold fault cause

-- ---- requests

-- A request has fewer than 2 ^ 32 entries of each kind, and fewer than 2 ^ 31 bridges, so that its machines have numbers of 32 bits.
pub record IsSmall (request : Request) : Type 0 where
  pub units : length request.units < 2 ^ 32
  pub share : length (entries request.share) < 2 ^ 32
  pub memories : length request.memories < 2 ^ 32
  pub pipe : length request.pipe < 2 ^ 32
  pub bridges : length request.bridges < 2 ^ 31
  pub seen : length (all_seen request.bridges) < 2 ^ 32
  pub driven : length (all_driven request.bridges) < 2 ^ 32
