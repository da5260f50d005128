-- A network as its program holds it: hosts with their machines, stations, channels and queues.
-- Source: MEMOCODE 2009 (a network before its first cycle: latches, flags and queues are empty, except queues that open
-- with a token); ICCAD 2019 for hosts.
use Rattle.std.specs.Prelude.{ℕ, List, map}
use Rattle.gg_node.specs.Machine.{Machine}
use Rattle.gg_net.specs.declared.shape.Wire.{Wire}
use Rattle.gg_net.specs.Network.{Network, opening_queue}

-- ---- before the first cycle

-- the network of these machines before its first cycle
abbrev pub opening_net : List Machine → List Wire → ℕ → Network
opening_net machines wires end = record { machines = machines; wires = wires; queues = map (λ wire. opening_queue wire.first) wires; end = end }
