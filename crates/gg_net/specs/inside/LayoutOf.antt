-- The layout of a network, made of its frame.
-- Source: this program's own.
use Rattle.std.specs.Prelude.{ℕ, is_some, length, map}
use Rattle.std.specs.List.{range_with_len}
use Rattle.gg_node.specs.Machine.{needs_at}
use Rattle.gg_net.specs.Network.{Frame, wire_at, kind_at}
use Rattle.gg_net.specs.Step.{channels_at, turn_of}
use Rattle.gg_net.specs.markings.Marking.{Link, Layout}

-- a channel of the layout
abbrev pub link_of : Frame → ℕ → Link
link_of frame c =
    record {
      producer = (wire_at frame.wires c).producer;
      consumer = (wire_at frame.wires c).consumer;
      capacity = (wire_at frame.wires c).capacity;
      piped = is_some (wire_at frame.wires c).first;
      needs = channels_at frame.wires (wire_at frame.wires c).producer (needs_at (kind_at frame.kinds (wire_at frame.wires c).producer).needs (wire_at frame.wires c).out);
    }

-- the layout of a network with this frame
abbrev pub layout_of : Frame → Layout
layout_of frame =
    record {
      links = map (link_of frame) (range_with_len 0 (length frame.wires));
      port_counts = map (λ kind. kind.port_count) frame.kinds;
      turns = map (λ m. map (turn_of frame.wires m) (kind_at frame.kinds m).ports) (range_with_len 0 (length frame.kinds));
      end = frame.end;
    }
