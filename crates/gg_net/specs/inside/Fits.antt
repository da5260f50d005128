-- The layout and the marking of a network.
-- Source: MEMOCODE 2009 (the k-th token of each queue is the signal's value in cycle k, so that a network's state
-- follows from counts).
use Rattle.std.specs.Prelude.{◌≡◌, ℕ, ◌<◌, List, All, is_some, length, map, slice_index_or}
use Rattle.std.specs.List.{range_with_len}
use Rattle.gg_node.specs.Machine.{Port, needs_at}
use Rattle.gg_node.specs.Step.{fields_of}
use Rattle.gg_net.specs.Network.{Network, Frame, kind_at, wire_at}
use Rattle.gg_net.specs.Step.{latch_of, flag_of}
use Rattle.gg_net.specs.Refusal.{Turn}
use Rattle.gg_net.specs.markings.Marking.{Link, Layout, Marking, link_at, turns_at}

-- the places of these channels among the ins of their consumers
abbrev pub places_of : Frame → List ℕ → List ℕ
places_of frame channels = map (λ d. (wire_at frame.wires d).place) channels

-- these channels exist, and machine m takes them
abbrev pub AreTaken : Frame → ℕ → List ℕ → Type 0
AreTaken frame m channels = All (λ d. (d < length frame.wires) × ((wire_at frame.wires d).consumer ≡ m)) channels

-- The link is channel c. It needs the channels at exactly the ins that the channel's out needs, in their order.
pub record IsLinkOf (frame : Frame) (c : ℕ) (link : Link) : Type 0 where
  pub producer : link.producer ≡ (wire_at frame.wires c).producer
  pub consumer : link.consumer ≡ (wire_at frame.wires c).consumer
  pub capacity : link.capacity ≡ (wire_at frame.wires c).capacity
  pub piped : link.piped ≡ is_some (wire_at frame.wires c).first
  -- the places of the needed channels are the ins that the out needs
  pub needs : places_of frame link.needs ≡ needs_at (kind_at frame.kinds (wire_at frame.wires c).producer).needs (wire_at frame.wires c).out
  pub taken : AreTaken frame (wire_at frame.wires c).producer link.needs

-- The turn is this port of machine m. It has the port's number, and its fields are the channels at the ins that the
-- port uses, in their order.
pub record IsTurnOf (frame : Frame) (m : ℕ) (port : Port) (turn : Turn) : Type 0 where
  pub number : turn.number ≡ port.number
  pub fields : places_of frame turn.fields ≡ fields_of port.access
  pub taken : AreTaken frame m turn.fields

-- The turns are these ports of machine m, in their order.
pub record AreTurnsOf (frame : Frame) (m : ℕ) (ports : List Port) (turns : List Turn) : Type 0 where
  pub count : length turns ≡ length ports
  pub each : (i : ℕ) (port : Port) (turn : Turn) → i < length ports → IsTurnOf frame m (slice_index_or ports i port) (slice_index_or turns i turn)

-- A network with this frame has this layout.
pub record HasLayout (frame : Frame) (layout : Layout) : Type 0 where
  pub machines : length layout.turns ≡ length frame.kinds
  pub channels : length layout.links ≡ length frame.wires
  pub end : layout.end ≡ frame.end
  pub ports : layout.port_counts ≡ map (λ kind. kind.port_count) frame.kinds
  pub link : (c : ℕ) → c < length frame.wires → IsLinkOf frame c (link_at layout c)
  pub turns : (m : ℕ) → m < length frame.kinds → AreTurnsOf frame m (kind_at frame.kinds m).ports (turns_at layout m)

-- how far a network is
abbrev pub marking_of : Network → Marking
marking_of net =
    record {
      cycles = map (λ machine. machine.cycle) net.machines;
      served = map (λ machine. machine.served) net.machines;
      taken = map (λ c. is_some (latch_of net c)) (range_with_len 0 (length net.wires));
      given = map (λ c. flag_of net c) (range_with_len 0 (length net.wires));
    }
