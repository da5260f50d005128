-- The text of `check`: a line for each machine that the request cuts the design into, and one for each channel with what it needs.
-- Sources: MEMOCODE 2009 for machines, channels and what an output of a machine depends on; ICCAD 2019 for hosts that several
-- units share. How the lines look is this program's own.
use Rattle.std.specs.Prelude.{◌≡◌, ◌↔◌, ℕ, ◌<◌, List, [], ◌∷◌, ◌++◌, Bool, if◌then◌else◌, length, map, flat_map, slice_index_or, codes, decimal, Contains, AllPairs}
use Rattle.std.specs.List.{range_with_len}
use Rattle.gg_bits.specs.Shape.{Shape}
use Rattle.gg_bits.specs.declared.types.Kind.{Kind}
use Rattle.gg_bits.specs.declared.types.Kind.TheVariants.{UInt, SInt}
use Rattle.gg_flat.specs.Circuit.{FlatCircuit, signal_shapes}
use Rattle.gg_flat.specs.Line.{shape_at}
use Rattle.gg_flat.specs.Reads.{Reads}
use Rattle.gg_flat_tree.specs.Tree.{path_at}
use Rattle.gg_order.specs.Design.{Ordered}
use Rattle.gg_partfile.specs.declared.request.Request.{Request}
use Rattle.gg_cut_plan.specs.Machines.{first_source}
use Rattle.gg_cut_plan.specs.Channels.{capacity_of}
use Rattle.gg_cut_plan.specs.Direct.{is_piped, plan_wires}
use Rattle.gg_cut_plan.specs.Ports.{machine_end, plan_bridges}
use Rattle.gg_cut_plan.specs.Hosts.{host_of}
use Rattle.gg_cut_plan.specs.Listed.{listed_of}
use Rattle.gg_cut_plan.specs.Plan.{channels_to, machine_names, signals_of, wire_at}
use Rattle.gg_cut_plan.specs.declared.listed.Listed.{Listed}
use Rattle.gg_cut_plan.specs.declared.wires.Wire.{Wire}

-- ---- needs

-- A path of reads from signal a to signal b inside a machine that takes these signals. No signal before the last is
-- one of them.
abbrev pub IsPathInside : FlatCircuit → List ℕ → ℕ → List ℕ → ℕ → Type 0
IsPathInside circuit taken a [] b = a ≡ b
IsPathInside circuit taken a (next ∷ path) b = (¬ Contains taken a) × Reads circuit a next × IsPathInside circuit taken next path b

-- Channel c needs channel d: the machine that gives c is no source and no bridge, it takes d, and the signal that gives c its value reaches d's
-- signal by reads inside that machine.
pub record NeedsChannel (circuit : FlatCircuit) (listed : Listed) (wires : List Wire) (c d : ℕ) : Type 0 where
  pub made : (wire_at wires c).producer < first_source listed
  pub known : d < length wires
  pub taken : (wire_at wires d).consumer ≡ (wire_at wires c).producer
  pub path : List ℕ
  pub reads : IsPathInside circuit (signals_of wires (channels_to wires (wire_at wires c).producer)) (wire_at wires c).given path (wire_at wires d).signal

-- exactly the channels that channel c needs, in their order
pub record AreChannelNeeds (circuit : FlatCircuit) (listed : Listed) (wires : List Wire) (c : ℕ) (needs : List ℕ) : Type 0 where
  pub ascending : AllPairs (λ a b. a < b) needs
  pub each : (d : ℕ) → Contains needs d ↔ NeedsChannel circuit listed wires c d

-- ---- lines

-- the text of a type up to its width: `UInt<` or `SInt<`
abbrev pub kind_text : Kind → List ℕ
kind_text UInt = codes "UInt<"
kind_text SInt = codes "SInt<"

-- how a type is written on a channel's line
abbrev pub type_text : Shape → List ℕ
type_text shape = kind_text shape.kind ++ decimal shape.width ++ codes ">"

-- the names of needed channels, each after a blank
abbrev pub spaced : List (List ℕ) → List ℕ
spaced [] = []
spaced (name ∷ names) = 32 ∷ name ++ spaced names

-- the names of needed channels, each after a blank; ` -` if none is needed
abbrev pub needs_text : List (List ℕ) → List ℕ
needs_text [] = codes " -"
needs_text (name ∷ names) = spaced (name ∷ names)

-- the line of a machine with this name, on the host with this number
abbrev pub machine_line : (name : List ℕ) (host : ℕ) → List ℕ
machine_line name host = codes "machine " ++ name ++ codes " host " ++ decimal host ++ codes "\n"

-- the word on the line of a channel with a pipe
abbrev pub pipe_text : Bool → List ℕ
pipe_text pipe = if pipe then codes " pipe" else []

-- the line of a channel: its name, the names of the machines at its ends, its type, its capacity, whether it has a pipe, and the channels
-- that it needs
abbrev pub channel_line : (name producer consumer : List ℕ) (shape : Shape) (capacity : ℕ) (pipe : Bool) (needs : List (List ℕ)) → List ℕ
channel_line name producer consumer shape capacity pipe needs =
    codes "channel " ++ name ++ codes " " ++ producer ++ codes " " ++ consumer ++ codes " " ++ type_text shape ++ codes " capacity " ++ decimal capacity ++ pipe_text pipe ++ codes " needs"
    ++ needs_text needs ++ codes "\n"

-- ---- the text, for a design, a request, what it lists, and the capacity of the channels that it doesn't name

-- the line of machine m
abbrev pub machine_text : Ordered → Request → Listed → ℕ → List ℕ
machine_text design request listed m = machine_line (path_at (machine_names design request listed) m) (host_of request.units request.share m)

-- the name of the channel at a place: the path of its signal
abbrev pub channel_name : FlatCircuit → List Wire → ℕ → List ℕ
channel_name circuit wires c = path_at circuit.paths (wire_at wires c).signal

-- the line of channel c, which needs these channels
abbrev pub channel_text : Ordered → Request → ℕ → Listed → List Wire → ℕ → List ℕ → List ℕ
channel_text design request default listed wires c needs =
    channel_line (channel_name design.circuit wires c)
    (path_at (machine_names design request listed) (wire_at wires c).producer)
    (path_at (machine_names design request listed) (wire_at wires c).consumer)
    (shape_at (signal_shapes design.circuit) (wire_at wires c).signal)
    (capacity_of request.capacity default (channel_name design.circuit wires c))
    (is_piped design.circuit request (wire_at wires c).signal)
    (map (channel_name design.circuit wires) needs)

-- The text has the machines' lines in their order, then the channels' lines. `needs` has the needs of each channel.
pub record IsCutText (design : Ordered) (request : Request) (default : ℕ) (listed : Listed) (wires : List Wire) (text : List ℕ) : Type 0 where
  pub needs : List (List ℕ)
  pub count : length needs ≡ length wires
  pub are : (c : ℕ) → c < length wires → AreChannelNeeds design.circuit listed wires c (slice_index_or needs c [])
  pub is : text ≡ flat_map (machine_text design request listed) (range_with_len 0 (machine_end (plan_bridges design.circuit design.tree request)))
      ++ flat_map (λ c. channel_text design request default listed wires c (slice_index_or needs c [])) (range_with_len 0 (length wires))

-- the text of the cut of a request, by what it lists and by the plan's channels
abbrev pub IsTextOfCut : Ordered → Request → ℕ → List ℕ → Type 0
IsTextOfCut design request default text =
    IsCutText design request default (listed_of design.tree request) (plan_wires design.circuit design.tree request) text
