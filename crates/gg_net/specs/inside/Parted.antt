-- The counts of a channel, as the owner of the machine at one end knows them.
-- Source: MEMOCODE 2009 (a queue lies between two nodes; each knows what it has put or taken).
use Rattle.std.specs.Prelude.{ℕ}
use Rattle.gg_node.specs.Machine.{Machine, latch_at, flag_at}
use Rattle.gg_net.specs.Network.{wire_at, and_one, got_by, entered_by, Frame}

-- the number of tokens that a machine has taken from a channel
abbrev pub takes_by : Frame → Machine → ℕ → ℕ
takes_by frame x c = got_by x.cycle (latch_at x.latches (wire_at frame.wires c).place)

-- the number of tokens that have entered a channel from a machine
abbrev pub enters_by : Frame → Machine → ℕ → ℕ
enters_by frame x c = entered_by (wire_at frame.wires c).first (and_one x.cycle (flag_at x.flags (wire_at frame.wires c).out))
